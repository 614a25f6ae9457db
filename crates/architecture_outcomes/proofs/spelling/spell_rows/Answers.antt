use Rattle.std.proofs.Common.{◌≡◌, ℕ, ◌++◌, subst}
use Rattle.architecture_outcomes.specs.Text.{rows_text}
use Rattle.exploration_text.proofs.Joined.{joined}
use Rattle.architecture_outcomes.proofs.spelling.spell_rows.Goals as goal

pub returns : goal.returns
returns c =
    subst (λ (n : ℕ). c.extend_from_slice-2.new.self.items ≡ c.args.into.now.items ++ rows_text n) c.from.ensures
    (joined _ _ _ _ _ _ _ c.in_ok-extend_from_slice.ensures.items c.in_ok-spell_number.ensures c.in_ok-extend_from_slice-2.ensures.items)
