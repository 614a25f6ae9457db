use Rattle.std.proofs.Common.{All, IsTrue, List, subst, sym}
use Rattle.architecture_outcomes.specs.Outcomes.{IsWitnessed, TellsEachEnd}
use Rattle.architecture_outcomes.specs.declared.outcome.Outcome.{Outcome}
use Rattle.litmus_command.proofs.Machine.{all_shown, all_told}
use Rattle.litmus_command.proofs.search.search_machine.Goals as goal

pub returns : goal.returns
returns c =
    let each = λ (complete : IsTrue c.is_complete-has_machine.result). subst (λ (os : List Outcome). TellsEachEnd c.args.program.now.image c.args.program.now.config c.args.addresses.now os) (sym c.in_ok-of_machine.ensures)
    (all_told _ _ _ _ (c.in_ok-outcomes.ensures.complete (c.is_complete-has_machine.ensures.0 complete))) in
    record {
      shown = subst (All (IsWitnessed c.args.program.now.image c.args.program.now.config c.args.addresses.now)) (sym c.in_ok-of_machine.ensures) (all_shown _ _ _ _ c.in_ok-outcomes.ensures.real);
      each_end = each;
      whole = each;
    }
