-- A replay goes on by one event.
use Rattle.std.proofs.Common.{◌≡◌, ℕ, ◌+◌, ◌-◌, ◌≤◌, List, Option, Some, Ok, drop, get_or, length, take, Result as Answer}
use Rattle.coherent_machine.proofs.Reached.{happened_on_ok}
use Rattle.coherent_machine.proofs.Refusals.{Applied, next_of, one_applied}
use Rattle.machine_types.specs.declared.event.Event.{Event}
use Rattle.machine_types.specs.declared.outcome.Outcome.{Outcome}
use Rattle.machine_model.specs.Events.{verdict}
use Rattle.machine_model.specs.Views.{State}
use Rattle.schedules.specs.declared.errors.Fault.{Fault}
use Rattle.schedules.specs.Schedules.{AnswersAs, MayAdd}
use Rattle.schedules.proofs.Played.{answered}

module _ (s here new : State) (events rest old kept : List Event) (index : ℕ) (d : Event) (some : 1 ≤ length rest) where
  pub goes_on : MayAdd old (get_or rest 0 d) kept → (o : Outcome) (r : Answer (Option Outcome) Fault) → r ≡ Ok (Some o) → AnswersAs (verdict here (get_or rest 0 d)) here r new
      → Applied s events index here rest → Applied s events (index + 1) new (take (length rest - 1) (drop 1 rest))
  goes_on may o r is answers applied =
      let answer = answered (verdict here (get_or rest 0 d)) here new r (Ok (Some o)) is answers in
      one_applied s events index here new (get_or rest 0 d) (take (length rest - 1) (drop 1 rest)) o (next_of s events index here rest d some applied) answer (happened_on_ok here new (get_or rest 0 d) (Ok o) answer)
