-- Where events lead, further events lead on.
use Rattle.std.proofs.Common.{◌≡◌, ◌∙◌, refl, sym, ap, List, [], ◌∷◌, ◌++◌}
use Rattle.machine_types.specs.declared.event.Event.{Event}
use Rattle.machine_model.specs.Events.{after_events, happens}
use Rattle.machine_model.specs.Views.{State}
use Rattle.schedules.specs.Schedules.{Leads}

after_both : (s : State) (xs ys : List Event) → after_events s (xs ++ ys) ≡ after_events (after_events s xs) ys
after_both s [] ys = refl
after_both s (x ∷ xs) ys = after_both (happens s x) xs ys

pub leads_nowhere : (s t : State) → t ≡ s → Leads s t
leads_nowhere s t same = record { events = []; there = sym same }

pub leads_by : (s t : State) (e : Event) → t ≡ happens s e → Leads s t
leads_by s t e is = record { events = e ∷ []; there = sym is }

pub leads_on : (s t u : State) → Leads s t → Leads t u → Leads s u
leads_on s t u one two = record {
  events = one.events ++ two.events;
  there = after_both s one.events two.events ∙ (ap (λ (x : State). after_events x two.events) one.there ∙ two.there);
}
