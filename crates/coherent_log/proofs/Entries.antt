-- A coherent log entry by entry.
use Rattle.std.proofs.Common.{ℕ, List, Option, [], ◌∷◌, ◌++◌, ◌≡◌, refl, ap, sym, ◌∙◌, subst}
use Rattle.std.proofs.lemmas.List.{append_assoc}
use mathlib.Core.Logic.{◌⊎◌, inl, inr}
use Rattle.coherent_log.specs.Laws.{IsCoherentLog}
use Rattle.coherent_log.specs.Rules.{Keeps}
use Rattle.coherent_log.specs.declared.rule.CoherenceRule.{CoherenceRule}
use Rattle.elf_loader.specs.Image.{Initial}
use Rattle.trace_recorder.specs.declared.logged.Logged.{Logged}

none_there : {X : Type 0} → (before rest : List X) (x : X) → before ++ x ∷ rest ≡ [] → ⊥
none_there [] rest x e = cc e
none_there (y ∷ before) rest x e = cc e

-- what stands in a list that grew by one stood there before, or is the new one
is_last_or_before : {X : Type 0} → (before rest log : List X) (x new : X) → before ++ x ∷ rest ≡ log ++ new ∷ [] → ((before ≡ log) × (x ≡ new)) ⊎ ((more : List X) × (before ++ x ∷ more ≡ log))
is_last_or_before [] rest [] x new e = inl (refl, cc e)
is_last_or_before [] rest (y ∷ log) x new e = let same : x ≡ y = cc e in inr (log, ap (λ z. z ∷ log) same)
is_last_or_before (b ∷ before) rest [] x new e = let none : before ++ x ∷ rest ≡ [] = cc e in absurd (none_there before rest x none)
is_last_or_before (b ∷ before) rest (y ∷ log) x new e =
    let same : b ≡ y = cc e in
    let tail : before ++ x ∷ rest ≡ log ++ new ∷ [] = cc e in
    go same (is_last_or_before before rest log x new tail)
  where
    go : b ≡ y → ((before ≡ log) × (x ≡ new)) ⊎ ((more : List _) × (before ++ x ∷ more ≡ log)) → ((b ∷ before ≡ y ∷ log) × (x ≡ new)) ⊎ ((more : List _) × (b ∷ (before ++ x ∷ more) ≡ y ∷ log))
    go same (inl last) = inl ((λ i. same i ∷ last.0 i), last.1)
    go same (inr found) = inr (found.0, (λ i. same i ∷ found.1 i))

module _ (image : Option Initial) where
  pub none_coherent : IsCoherentLog image []
  none_coherent rule before rest e is = absurd (none_there before rest e is)

  -- a beginning of a coherent log is coherent
  pub beginning_coherent : (log rest : List Logged) → IsCoherentLog image (log ++ rest) → IsCoherentLog image log
  beginning_coherent log rest all rule before more e is = all rule before (more ++ rest) e (sym (append_assoc before (e ∷ more) rest) ∙ ap (λ (l : List Logged). l ++ rest) is)

  -- and so is it with an entry that keeps each rule
  pub coherent_with : (log : List Logged) (new : Logged) → IsCoherentLog image log → ((rule : CoherenceRule) → Keeps rule image log new) → IsCoherentLog image (log ++ new ∷ [])
  coherent_with log new all keeps rule before rest e is = go (is_last_or_before before rest log e new is)
    where
      go : ((before ≡ log) × (e ≡ new)) ⊎ ((more : List Logged) × (before ++ e ∷ more ≡ log)) → Keeps rule image before e
      go (inl last) = subst (λ (b : List Logged). Keeps rule image b e) (sym last.0) (subst (λ (x : Logged). Keeps rule image log x) (sym last.1) (keeps rule))
      go (inr found) = all rule before found.0 e found.1
