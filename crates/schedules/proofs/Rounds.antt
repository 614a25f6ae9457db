-- How a hart is followed until it comes back to where it stood.
use Rattle.std.proofs.Common.{◌≡◌, ◌∙◌, refl, sym, ap, subst, ℕ, ◌<◌, All, List, Option, Some, None, Ok, Err, length, Result as Answer}
use Rattle.std.specs.Prelude.{IfOk, IfSome}
use Rattle.std.specs.declared.alloc.AllocError.{AllocError}
use Rattle.schedules.specs.declared.circling.Circle.{Circle}
use Rattle.coherent_machine.specs.Machine.{Replayed, replayed_from}
use Rattle.hart.specs.declared.state.Hart.{Hart}
use Rattle.machine_model.specs.Events.{after_events}
use Rattle.machine_model.specs.Views.{State, node_at}
use Rattle.machine_types.specs.declared.event.Event.{Event}
use Rattle.machine_model.specs.History.{entries_of}
use Rattle.schedules.specs.Schedules.{Leads}
use Rattle.schedules.specs.Circles.{GoesRound}
use Rattle.schedules.proofs.Leading.{leads_on, leads_nowhere}
use Rattle.schedules.proofs.Played.{leads_to}

-- from one state events lead to where the hart stood so, having retired so many instructions, and on to another state
pub record IsNoted (s : State) (hart : ℕ) (stood : Hart) (count : ℕ) (now : State) : Type 0 where
  pub there : State
  pub reached : Leads s there
  pub onward : Leads there now
  pub stands : (node_at there hart).hart ≡ stood
  pub retired : length (entries_of there.trace hart) ≡ count

pub noted_on : (s : State) (hart : ℕ) (stood : Hart) (count : ℕ) (now next : State) → IsNoted s hart stood count now → Leads now next → IsNoted s hart stood count next
noted_on s hart stood count now next was more = record {
  there = was.there;
  reached = was.reached;
  onward = leads_on was.there now next was.onward more;
  stands = was.stands;
  retired = was.retired;
}

pub noted_here : (s : State) (hart : ℕ) (stood : Hart) (count : ℕ) (now : State) → Leads s now → stood ≡ (node_at now hart).hart → count ≡ length (entries_of now.trace hart) → IsNoted s hart stood count now
noted_here s hart stood count now leads stands retired = record {
  there = now;
  reached = leads;
  onward = leads_nowhere now now refl;
  stands = sym stands;
  retired = sym retired;
}

pub leads_of : (s : State) (hart : ℕ) (stood : Hart) (count : ℕ) (now : State) → IsNoted s hart stood count now → Leads s now
leads_of s hart stood count now was = leads_on s was.there now was.reached was.onward

pub goes_round : (s : State) (hart : ℕ) (stood : Hart) (count : ℕ) (now : State) → IsNoted s hart stood count now
    → (node_at now hart).hart ≡ stood → count < length (entries_of now.trace hart) → GoesRound s hart stood.pc
goes_round s hart stood count now was back longer = record {
  there = was.there;
  again = now;
  reached = was.reached;
  round = was.onward;
  stands = ap (λ (h : Hart). h.pc) was.stands;
  back = back ∙ sym was.stands;
  longer = subst (λ n. n < length (entries_of now.trace hart)) (sym was.retired) longer;
}

-- what goes round from a state does so from where events lead there
pub goes_round_from : (s t : State) (hart pc : ℕ) → Leads s t → GoesRound t hart pc → GoesRound s hart pc
goes_round_from s t hart pc leads round = record {
  there = round.there;
  again = round.again;
  reached = leads_on s t round.there leads round.reached;
  round = round.round;
  stands = round.stands;
  back = round.back;
  longer = round.longer;
}

pub if_round_from : (s t : State) (found : Option Circle) → Leads s t → IfSome found (λ circle. GoesRound t circle.hart circle.pc) → IfSome found (λ circle. GoesRound s circle.hart circle.pc)
if_round_from s t (Some circle) leads round = goes_round_from s t circle.hart circle.pc leads round
if_round_from s t None leads round = tt

-- a replay that refuses nothing leads where its events do
pub each_from : {V : Type 0} (items : V → List Circle) (reset start machine : State) (events : List Event) (r : Answer V AllocError) → start ≡ reset → replayed_from 0 start events ≡ Replayed.Reached machine
    → IfOk r (λ found. All (λ circle. GoesRound machine circle.hart circle.pc) (items found)) → IfOk r (λ found. All (λ circle. GoesRound (after_events reset events) circle.hart circle.pc) (items found))
each_from items reset start machine events (Ok found) same replays each =
    subst (λ (s : State). All (λ circle. GoesRound s circle.hart circle.pc) (items found)) (sym (leads_to start machine 0 events replays) ∙ ap (λ (s : State). after_events s events) same) each
each_from items reset start machine events (Err error) same replays each = tt

-- what is known of an answer is known of the one that it is
pub of_some : {X : Type 0} (P : X → Type 0) (o : Option X) (x : X) → o ≡ Some x → IfSome o P → P x
of_some P o x is known = subst (λ found. IfSome found P) is known
