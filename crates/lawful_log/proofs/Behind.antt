-- A log that is lawful by a profile, entry by entry: its beginnings, one more entry, and the order in its queues.
use Rattle.std.proofs.Common.{ℕ, List, [], ◌∷◌, ◌++◌, ◌≡◌, refl, ap, sym, ◌∙◌, subst}
use Rattle.std.proofs.lemmas.List.{append-nil, append_assoc}
use mathlib.Core.Logic.{◌⊎◌, inl, inr}
use Rattle.machine_model.proofs.log.Counts.{no_last}
use Rattle.machine_model.specs.LawfulLog.{IsLogInOrder}
use Rattle.lawful_log.proofs.Entries.{none_in_order, order_with_sent, order_with_taken}
use Rattle.lawful_log.specs.Rules.{IsLawfulBy, KeepsGoing, Obeys}
use Rattle.lawful_log.specs.declared.profile.Profile.{Profile}
use Rattle.lawful_log.specs.declared.rule.LogRule.{LogRule}
use Rattle.lawful_log.specs.declared.rule.LogRule.TheVariants.{InOrder}
use Rattle.tl_types.specs.declared.message.Msg.{Msg}
use Rattle.trace_recorder.specs.declared.logged.Direction.{Direction}
use Rattle.trace_recorder.specs.declared.logged.Direction.TheVariants.{Sent, Taken}
use Rattle.trace_recorder.specs.declared.logged.Logged.{Logged}

-- what stands in a list that grew by one stood there before, or is the new one
is_last_or_before : {X : Type 0} → (before rest log : List X) (x new : X) → before ++ x ∷ rest ≡ log ++ new ∷ [] → ((before ≡ log) × (x ≡ new)) ⊎ ((more : List X) × (before ++ x ∷ more ≡ log))
is_last_or_before [] rest [] x new e = inl (refl, cc e)
is_last_or_before [] rest (y ∷ log) x new e = let same : x ≡ y = cc e in inr (log, ap (λ z. z ∷ log) same)
is_last_or_before (b ∷ before) rest [] x new e = let none : before ++ x ∷ rest ≡ [] = cc e in absurd (no_last before rest x none)
is_last_or_before (b ∷ before) rest (y ∷ log) x new e =
    let same : b ≡ y = cc e in
    let tail : before ++ x ∷ rest ≡ log ++ new ∷ [] = cc e in
    go same (is_last_or_before before rest log x new tail)
  where
    go : b ≡ y → ((before ≡ log) × (x ≡ new)) ⊎ ((more : List _) × (before ++ x ∷ more ≡ log)) → ((b ∷ before ≡ y ∷ log) × (x ≡ new)) ⊎ ((more : List _) × (b ∷ (before ++ x ∷ more) ≡ y ∷ log))
    go same (inl last) = inl ((λ i. same i ∷ last.0 i), last.1)
    go same (inr found) = inr (found.0, (λ i. same i ∷ found.1 i))

module _ (profile : Profile) where
  pub none_lawful : IsLawfulBy profile []
  none_lawful rule before rest e is = absurd (no_last before rest e is)

  pub beginning_lawful : (log rest : List Logged) → IsLawfulBy profile (log ++ rest) → IsLawfulBy profile log
  beginning_lawful log rest all rule before more e is = all rule before (more ++ rest) e (sym (append_assoc before (e ∷ more) rest) ∙ ap (λ (l : List Logged). l ++ rest) is)

  pub lawful_with : (log : List Logged) (new : Logged) → IsLawfulBy profile log → ((rule : LogRule) → Obeys profile rule log new) → IsLawfulBy profile (log ++ new ∷ [])
  lawful_with log new all keeps rule before rest e is = go (is_last_or_before before rest log e new is)
    where
      go : ((before ≡ log) × (e ≡ new)) ⊎ ((more : List Logged) × (before ++ e ∷ more ≡ log)) → Obeys profile rule before e
      go (inl last) = subst (λ (b : List Logged). Obeys profile rule b e) (sym last.0) (subst (λ (x : Logged). Obeys profile rule log x) (sym last.1) (keeps rule))
      go (inr found) = all rule before found.0 e found.1

  order_with : (d : Direction) (h : ℕ) (m : Msg) (log : List Logged) → KeepsGoing profile d InOrder h m log → IsLogInOrder log → IsLogInOrder (log ++ (record { direction = d; hart = h; message = m }) ∷ [])
  order_with Sent h m log keeps order = order_with_sent log h m order
  order_with Taken h m log keeps order = order_with_taken log h m order keeps

  order_behind : (done rest : List Logged) → IsLogInOrder done → IsLawfulBy profile (done ++ rest) → IsLogInOrder (done ++ rest)
  order_behind done [] so_far each = subst IsLogInOrder (sym (append-nil done)) so_far
  order_behind done (e ∷ rest) so_far each =
      let seam : (done ++ e ∷ []) ++ rest ≡ done ++ e ∷ rest = append_assoc done (e ∷ []) rest in
      subst IsLogInOrder seam (order_behind (done ++ e ∷ []) rest (order_with e.direction e.hart e.message done (each InOrder done rest e refl) so_far) (subst (IsLawfulBy profile) (sym seam) each))

  -- each queue is in order
  pub in_order : (log : List Logged) → IsLawfulBy profile log → IsLogInOrder log
  in_order log each = order_behind [] log none_in_order each
