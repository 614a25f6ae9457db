use Rattle.std.proofs.Common.{◌≤◌, List, ℕ, length, rules, subst, sym}
use Rattle.std.specs.List.{flat_map}
use Rattle.std.specs.Prelude.{codes}
use Rattle.hart_ends.specs.Ends.{number_text}
use Rattle.hart_ends.proofs.Parts.{some_output}
use Rattle.text_fields.proofs.Written.{begins_first, stops, writes_then}
use Rattle.text_fields.specs.Writing.{Begins, Writes}
use Rattle.hart_ends.proofs.ends.put_output.Goals as goal

pub returns-in_err-put : goal.returns-in_err-put
returns-in_err-put g c =
    let some : 1 ≤ length c.args.output.now = search rules in
    stops _ _ _ _ c.from_residual.ensures.0 (subst (Begins _ _) (sym (some_output c.args.output.now some)) (begins_first _ _ (codes " output") (flat_map number_text c.args.output.now) c.in_err-put.ensures))

pub returns : goal.returns
returns g c =
    let some : 1 ≤ length c.args.output.now = search rules in
    subst (λ (t : List ℕ). Writes (g.W.Write.contents c.args.out.now) (g.W.Write.contents c.put_numbers.new.out) t c.put_numbers.result) (sym (some_output c.args.output.now some)) (writes_then _ _ _ (codes " output") (flat_map number_text c.args.output.now) c.put_numbers.result c.in_ok-put.ensures c.put_numbers.ensures)
