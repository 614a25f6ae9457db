use Rattle.std.proofs.Common.{◌≡◌, ◌++◌, [], get_or, rules, subst}
use Rattle.std.specs.Prelude.{codes, decimal}
use Rattle.hart_ends.specs.Ends.{number_text}
use Rattle.text_fields.proofs.Written.{stops, begins_at}
use Rattle.text_fields.specs.Writing.{Begins}
use Rattle.hart_ends.proofs.ends.put_numbers.Goals as goal

pub returns-in_err-put_pieces : goal.returns-in_err-put_pieces
returns-in_err-put_pieces g c =
    let number = get_or c.args.numbers.now c.loop-number.number-index 0 in
    let same : codes " " ++ (decimal c.from.result ++ []) ≡ number_text number = search rules in
    stops _ _ _ _ c.from_residual.ensures.0
    (begins_at _ _ _ number_text c.args.numbers.now c.loop-number.number-index 0 c.loop-number-test.true c.loop-number.invariant (subst (Begins _ _) same c.in_err-put_pieces.ensures))
