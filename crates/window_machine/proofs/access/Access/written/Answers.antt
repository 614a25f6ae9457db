use Rattle.std.proofs.Common.{inl, inr, ◌∙◌}
use Rattle.window_machine.proofs.Asking.{whole_sc, writes_amo, writes_sc, writes_store}
use Rattle.window_machine.proofs.access.Access.written.Goals as goal

pub returns-in-Store : goal.returns-in-Store
returns-in-Store c = λ image hart next. elim c.in-Store.is [
  | inl is ↦ c.in_place.ensures.cut ∙ writes_store image hart c.args.self.now c.args.read next is
  | inr is ↦ c.in_place.ensures.whole (whole_sc c.args.self.now is) ∙ writes_sc c.args.self.now c.args.read is
]

pub returns-in-Amo : goal.returns-in-Amo
returns-in-Amo c = λ image hart next. writes_amo image hart c.args.self.now c.args.read c.combine.result next c.in-Amo.is c.ranges.read.fits c.combine.type_inv c.combine.ensures
