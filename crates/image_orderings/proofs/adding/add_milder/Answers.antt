use Rattle.std.proofs.Common.{◌∙◌, ◌++◌, ◌∷◌, [], ap}
use Rattle.image_orderings.proofs.Walked.{added_if, none_if}
use Rattle.image_orderings.specs.Adding.{may_be_less}
use Rattle.image_orderings.specs.Forms.{without}
use Rattle.image_orderings.proofs.adding.add_milder.Goals as goal

pub returns-then-not-may_be_less : goal.returns-then-not-may_be_less
returns-then-not-may_be_less c =
    none_if (may_be_less c.args.part c.args.own c.args.word) c.may_be_less.result (without c.args.part c.args.word) c.args.words.now.items c.may_be_less.ensures c.if-not-may_be_less.true

pub returns : goal.returns
returns c =
    added_if (may_be_less c.args.part c.args.own c.args.word) c.may_be_less.result (without c.args.part c.args.word) c.args.words.now.items c.push.new.self.items c.may_be_less.ensures c.if-not-may_be_less.false
    (c.in_ok-push.ensures.items ∙ ap (λ w. c.args.words.now.items ++ w ∷ []) c.without.ensures)
