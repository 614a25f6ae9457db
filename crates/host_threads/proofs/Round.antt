-- A round that began anywhere has come to each place once it has taken as many steps as there are places; and what a place asks for is due.
use Rattle.std.proofs.Common.{◌≡◌, ℕ, ◌+◌, ◌-◌, ◌%◌, ◌<◌, Option, None, Some, [], length, refl, slice_index_or, subst, sym, arith}
use Rattle.std.proofs.Math.Nat.{mod-lt}
use Rattle.host_threads.specs.Asked.{Asks, AsksVictim, IsFirst, IsIdle, IsPickOf, behind, place_at, remembered, round, told}
use Rattle.host_threads.specs.Due.{IsDue}
use Rattle.host_threads.specs.Route.{Route}
use Rattle.host_threads.specs.declared.rounds.Place.{Place}
use Rattle.host_threads.specs.declared.rounds.Place.TheVariants as stop
use Rattle.machine_types.specs.declared.event.Event.{Event}
use Rattle.machine_types.specs.declared.outcome.Outcome.{Outcome}
use Rattle.machine_model.specs.Views.{Node, State, node_at}
use Rattle.tilelink_channels.specs.Queues.{queue_of}
use Rattle.tl_types.specs.declared.message.Channel.{Channel}
use Rattle.tl_types.specs.declared.message.Channel.TheVariants.{A, B, C, D, E}

-- ---- a whole round

turned : (next k : ℕ) → next < 8 → k < 8 → (next + (k + 8 - next) % 8) % 8 ≡ k % 8
turned next k a b = omega arith

at_place : (r : Route) (n : Node) → r.place < 8 → ((k : ℕ) → k < 8 → Asks r n (place_at (r.place + k)) None) → (k : ℕ) → k < 8 → Asks r n (place_at k) None
at_place r n inside nothing k below =
    subst (λ (q : ℕ). Asks r n (slice_index_or round q stop.Step) None) (turned r.place k inside below) (nothing ((k + 8 - r.place) % 8) (mod-lt (k + 8 - r.place) (omega arith)))

pub idle : (r : Route) (n : Node) → r.place < 8 → ((k : ℕ) → k < 8 → Asks r n (place_at (r.place + k)) None) → IsIdle r n
idle r n inside nothing = record {
  ended = at_place r n inside nothing 1 (omega arith);
  stores = at_place r n inside nothing 2 (omega arith);
  messages = waiting;
  victims = at_place r n inside nothing 3 (omega arith);
}
  where
    waiting : (channel : Channel) → queue_of n.queues channel ≡ []
    waiting A = at_place r n inside nothing 4 (omega arith)
    waiting B = at_place r n inside nothing 7 (omega arith)
    waiting C = at_place r n inside nothing 5 (omega arith)
    waiting D = at_place r n inside nothing 0 (omega arith)
    waiting E = at_place r n inside nothing 6 (omega arith)

-- ---- what a place asks for

module _ (r : Route) (s : State) (event : Event) (inside : r.hart < length s.views.nodes) where
  due_victim : (full : Option ℕ) → AsksVictim r (node_at s r.hart).cache full (Some event) → IsDue r.config s r.hart event
  due_victim None asked = absurd (cc asked)
  due_victim (Some wanted) asked = subst (IsDue r.config s r.hart) (sym asked.2) record { own = refl; inside = inside; there = asked.1.lowest }

  pub due : (here : Place) → Asks r (node_at s r.hart) here (Some event) → IsDue r.config s r.hart event
  due stop.Step asked = subst (IsDue r.config s r.hart) (sym asked.1) record { own = refl; inside = inside; there = asked.0 }
  due stop.Drain asked = subst (IsDue r.config s r.hart) (sym asked.2) record { own = refl; inside = inside; there = (asked.1.drainable, asked.1.lowest) }
  due stop.Evict asked = due_victim r.full asked
  due (stop.Deliver channel) asked = subst (IsDue r.config s r.hart) (sym asked.1) record { own = refl; inside = inside; there = asked.0 }

-- ---- the turn behind it

pub went_on : (r : Route) (steps next : ℕ) (event : Event) (full : Option ℕ) → next ≡ (r.place + steps + 1) % 8 → full ≡ remembered (place_at (r.place + steps)) r.full
    → record r { place = next; picked = Some event; full = full } ≡ behind r steps event
went_on r steps next event full further kept = λ i. record r { place = further i; picked = Some event; full = kept i }

-- the first event that is asked for, once the turn was told
pub picks : (r heard after : Route) (s : State) (last : Option Outcome) (steps : ℕ) (event : Event) → heard ≡ told r s last → IsFirst heard (node_at s heard.hart) steps event → after ≡ behind heard steps event
    → IsPickOf r s last event after
picks r heard after s last steps event is first further = record {
  steps = steps;
  first = subst (λ (q : Route). IsFirst q (node_at s q.hart) steps event) is first;
  goes_on = subst (λ (q : Route). after ≡ behind q steps event) is further;
}
