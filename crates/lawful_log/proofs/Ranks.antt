-- The rules in the order in which they are asked.
use Rattle.std.proofs.Common.{ℕ, zero, suc, ◌<◌, [], ◌∷◌, ◌≡◌, refl, arith}
use Rattle.std.proofs.Math.ListN.{get_or}
use Rattle.lawful_log.specs.Rules.{rank}
use Rattle.lawful_log.specs.declared.rule.LogRule.{LogRule}
use Rattle.lawful_log.specs.declared.rule.LogRule.TheVariants.{InOrder, Question, Permission, Data, AcquireOnce, ProbeOnce, GrantAlone, ReleaseAlone}

abbrev pub rule_at : ℕ → LogRule
rule_at i = get_or (InOrder ∷ Question ∷ Permission ∷ Data ∷ AcquireOnce ∷ ProbeOnce ∷ GrantAlone ∷ ReleaseAlone ∷ []) i InOrder

pub at_rank : (r : LogRule) → rule_at (rank r) ≡ r
at_rank InOrder = refl
at_rank Question = refl
at_rank Permission = refl
at_rank Data = refl
at_rank AcquireOnce = refl
at_rank ProbeOnce = refl
at_rank GrantAlone = refl
at_rank ReleaseAlone = refl

pub rank_within : (r : LogRule) → rank r < 8
rank_within InOrder = omega arith
rank_within Question = omega arith
rank_within Permission = omega arith
rank_within Data = omega arith
rank_within AcquireOnce = omega arith
rank_within ProbeOnce = omega arith
rank_within GrantAlone = omega arith
rank_within ReleaseAlone = omega arith

pub rank_at : (i : ℕ) → i < 8 → rank (rule_at i) ≡ i
rank_at zero h = refl
rank_at (suc zero) h = refl
rank_at (suc (suc zero)) h = refl
rank_at (suc (suc (suc zero))) h = refl
rank_at (suc (suc (suc (suc zero)))) h = refl
rank_at (suc (suc (suc (suc (suc zero))))) h = refl
rank_at (suc (suc (suc (suc (suc (suc zero)))))) h = refl
rank_at (suc (suc (suc (suc (suc (suc (suc zero))))))) h = refl
rank_at (suc (suc (suc (suc (suc (suc (suc (suc n)))))))) h = absurd (omega arith)
