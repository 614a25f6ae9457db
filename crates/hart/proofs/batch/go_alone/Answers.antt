use Rattle.std.proofs.lemmas.Grind.{common_steps}
use Rattle.std.proofs.Common.{Some, None, sym, arith}
use Rattle.std.proofs.lemmas.Bool.{cond-false}
use Rattle.hart.specs.Local.{can_go_alone, next_entry}
use Rattle.hart.proofs.Rows.{alone-outside}
use Rattle.hart.proofs.batch.go_alone.Goals as goal

pub returns-then-not-has_word-clause-entry : goal.returns-then-not-has_word-clause-entry
returns-then-not-has_word-clause-entry c = sym (cond-false (can_go_alone c.args.image.now c.args.hart.now) (Some (next_entry c.args.image.now c.args.hart.now)) None (alone-outside c.args.image.now c.args.hart.now c.has_word.result c.has_word.ensures c.if-not-has_word.true))

pub returns-then-not-is_alone-clause-entry : goal.returns-then-not-is_alone-clause-entry
returns-then-not-is_alone-clause-entry c = grind (arith, common_steps)

pub returns-then-not-is_alone-clause-hart : goal.returns-then-not-is_alone-clause-hart
returns-then-not-is_alone-clause-hart c = grind (arith, common_steps)

pub returns-clause-entry : goal.returns-clause-entry
returns-clause-entry c = grind (arith, common_steps)
