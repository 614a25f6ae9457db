use Rattle.std.proofs.Common.{Global, List, Vec, map, subst, sym, ℕ}
use Rattle.command_files.specs.Ends.{hart_lines}
use Rattle.command_files.specs.declared.allowing.Judgement.{Judgement}
use Rattle.run_command.specs.Running.{judgement_line}
use Rattle.text_fields.proofs.Written.{begins_first, stops, writes_then}
use Rattle.text_fields.specs.Writing.{Writes}
use Rattle.run_command.proofs.running.tell_ends.Goals as goal

abbrev items : Vec ℕ Global → List ℕ
items output = output.items

pub returns-in_err-print_ends : goal.returns-in_err-print_ends
returns-in_err-print_ends g c = stops _ _ _ _ c.from_residual.ensures.0 (begins_first _ _ _ _ c.in_err-print_ends.ensures)

pub returns-in-NotAllowed : goal.returns-in-NotAllowed
returns-in-NotAllowed g c =
    writes_then _ _ _ (hart_lines 0 c.args.statuses.now (map items c.args.outputs.now)) (judgement_line c.args.judgement) c.put.result c.in_ok-print_ends.ensures
    (subst (λ (j : Judgement). Writes (g.E.Write.contents c.print_ends.new.err) (g.E.Write.contents c.put.new.out) (judgement_line j) c.put.result) (sym c.in-NotAllowed.is) c.put.ensures)
