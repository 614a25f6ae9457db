use Rattle.std.proofs.Common.{Some, ◌∷◌, subst, sym}
use Rattle.std.specs.Prelude.{if◌then◌else◌}
use Rattle.open_questions.specs.Open.{LeavesOpen}
use Rattle.open_questions.proofs.opening.found_with.Goals as goal

pub returns-then-is_open : goal.returns-then-is_open
returns-then-is_open c = λ numbers leaves. subst (λ is_open. LeavesOpen (if is_open then c.args.index ∷ numbers else numbers) (Some c.with_one_more.result)) (sym c.if-is_open.true) (c.with_one_more.ensures numbers leaves)
