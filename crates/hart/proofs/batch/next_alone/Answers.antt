use Rattle.std.proofs.Common.{Some, None, sym, ◌∙◌}
use Rattle.std.proofs.lemmas.Bool.{cond-false}
use Rattle.hart.specs.Local.{can_go_alone, next_step}
use Rattle.hart.proofs.Rows.{gone, stays, taken_is}
use Rattle.hart.proofs.batch.next_alone.Goals as goal

pub returns-in_err-entry : goal.returns-in_err-entry
returns-in_err-entry c =
    c.from_residual.ensures ∙ sym (cond-false (can_go_alone c.args.image.now c.args.hart.now) (Some (next_step c.args.image.now c.args.hart.now)) None (stays c.args.image.now c.args.hart.now c.go_alone.result c.go_alone.ensures.entry c.in_err-entry.was))

pub returns : goal.returns
returns c =
    taken_is c.args.image.now c.args.hart.now c.go_alone.new.hart c.in_ok-entry.entry (gone c.args.image.now c.args.hart.now c.go_alone.new.hart c.go_alone.result c.in_ok-entry.entry c.go_alone.ensures.entry c.go_alone.ensures.hart c.in_ok-entry.was)
