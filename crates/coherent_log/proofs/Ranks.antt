-- The rules in the order in which they are asked.
use Rattle.std.proofs.Common.{ℕ, zero, suc, ◌<◌, [], ◌∷◌, ◌≡◌, refl, arith}
use Rattle.std.proofs.Math.ListN.{get_or}
use Rattle.coherent_log.specs.Rules.{rank}
use Rattle.coherent_log.specs.declared.rule.CoherenceRule.{CoherenceRule}
use Rattle.coherent_log.specs.declared.rule.CoherenceRule.TheVariants.{PermissionHeld, ProbeObeyed, OneWriter, DataAsked, DataKept}

abbrev pub rule_at : ℕ → CoherenceRule
rule_at i = get_or (PermissionHeld ∷ ProbeObeyed ∷ OneWriter ∷ DataAsked ∷ DataKept ∷ []) i PermissionHeld

pub at_rank : (r : CoherenceRule) → rule_at (rank r) ≡ r
at_rank PermissionHeld = refl
at_rank ProbeObeyed = refl
at_rank OneWriter = refl
at_rank DataAsked = refl
at_rank DataKept = refl

pub rank_within : (r : CoherenceRule) → rank r < 5
rank_within PermissionHeld = omega arith
rank_within ProbeObeyed = omega arith
rank_within OneWriter = omega arith
rank_within DataAsked = omega arith
rank_within DataKept = omega arith

pub rank_at : (i : ℕ) → i < 5 → rank (rule_at i) ≡ i
rank_at zero h = refl
rank_at (suc zero) h = refl
rank_at (suc (suc zero)) h = refl
rank_at (suc (suc (suc zero))) h = refl
rank_at (suc (suc (suc (suc zero)))) h = refl
rank_at (suc (suc (suc (suc (suc n))))) h = absurd (omega arith)
