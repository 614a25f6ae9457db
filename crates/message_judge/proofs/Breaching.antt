-- The breaches of a log, entry by entry, and the verdict that the first of them is.
use Rattle.std.proofs.Common.{ℕ, zero, suc, ◌+◌, ◌<◌, ◌≤◌, List, [], ◌∷◌, ◌++◌, ◌≡◌, ◌∙◌, Option, Some, None, ap, arith, get_or, length, refl, subst, sym, take}
use Rattle.std.specs.Prelude.{IfSome, slice_get}
use Rattle.std.proofs.lemmas.List.{append-nil, length-append, take_all, take-append-le, take_more}
use Rattle.std.proofs.lemmas.Option.{slice_get-get_or}
use Rattle.coherent_log.proofs.Entries.{coherent_with, none_coherent}
use Rattle.coherent_log.proofs.Passing as coherence
use Rattle.coherent_log.specs.Laws.{IsCoherentLog}
use Rattle.elf_loader.specs.Image.{Initial}
use Rattle.lawful_log.proofs.Behind.{lawful_with, none_lawful}
use Rattle.lawful_log.proofs.Passing as order
use Rattle.lawful_log.specs.Rules.{IsLawfulBy}
use Rattle.lawful_log.specs.declared.profile.Profile.{Profile}
use Rattle.message_judge.specs.Breaches.{AreBreachesOf, AreTold, BreaksAs, BreaksRule, numbered, verdict_of}
use Rattle.message_judge.specs.Laws.{AreLawfulMessages, IsFirstFault, IsMessageVerdict}
use Rattle.message_judge.specs.declared.breaches.Broken.{Broken}
use Rattle.message_judge.specs.declared.verdict.MessageBreach.{MessageBreach}
use Rattle.message_judge.specs.declared.verdict.MessageBreach.TheVariants.{Incoherent, Unanswered, Unlawful, Unwritten}
use Rattle.trace_recorder.specs.declared.logged.Logged.{Logged}

-- ---- what is listed of all

pub none_told : AreTold [] [] 0
none_told = record { first = refl; number = refl }

pub told_same : (all listed : List Broken) (count index : ℕ) → AreTold all listed count → AreTold (all ++ numbered index None) listed count
told_same all listed count index told = subst (λ (a : List Broken). AreTold a listed count) (sym (append-nil all)) told

pub told_more : (all old new : List Broken) (count : ℕ) (b : Broken) → count < 100 → new ≡ old ++ b ∷ [] → AreTold all old count → AreTold (all ++ b ∷ []) new (count + 1)
told_more all old new count b few is told = record {
  first = is ∙ ap (λ (l : List Broken). l ++ b ∷ []) (told.first ∙ take_all 100 all (let n = told.number in omega arith)) ∙ sym (take_all 100 (all ++ b ∷ []) (let n = told.number in let more : length (all ++ b ∷ []) ≡ length all + 1 = length-append all (b ∷ []) in omega (arith, n, more)));
  number = ap (λ n. n + 1) told.number ∙ sym (length-append all (b ∷ []));
}

pub told_past : (all listed : List Broken) (count : ℕ) (b : Broken) → 100 ≤ count → AreTold all listed count → AreTold (all ++ b ∷ []) listed (count + 1)
told_past all listed count b many told = record {
  first = told.first ∙ sym (take-append-le 100 all (b ∷ []) (let n = told.number in omega (arith, n)));
  number = ap (λ n. n + 1) told.number ∙ sym (length-append all (b ∷ []));
}

-- ---- one entry further

module _ (profile : Profile) (image : Option Initial) (log : List Logged) where
  abbrev Breaches : ℕ → List Broken → Type 0
  Breaches n all = AreBreachesOf profile image log n all

  pub one_further : (i : ℕ) (d : Logged) (all : List Broken) (found : Option MessageBreach) → i < length log → Breaches i all → BreaksAs profile image (take i log) (get_or log i d) found → Breaches (i + 1) (all ++ numbered i found)
  one_further i d all found within are breaks =
      let next : suc i ≡ i + 1 = omega arith in
      subst (λ n. Breaches n (all ++ numbered i found)) next
      (all, found, are, subst (λ (o : Option Logged). IfSome o (λ e. BreaksAs profile image (take i log) e found)) (sym (slice_get-get_or log i d within)) breaks, refl)

  -- ---- the first of them

  -- an entry stands there
  some_entry : (l : List Logged) (n : ℕ) → n < length l → Logged
  some_entry [] n within = absurd (omega arith)
  some_entry (e ∷ l) n within = e

  abbrev entry_at : (n : ℕ) → n < length log → Logged
  entry_at n within = get_or log n (some_entry log n within)

  at_entry : (n : ℕ) (within : n < length log) (P : Logged → Type 0) → IfSome (slice_get log n) P → P (entry_at n within)
  at_entry n within P there = subst (λ (o : Option Logged). IfSome o P) (slice_get-get_or log n (some_entry log n within) within) there

  abbrev AllLawful : ℕ → Type 0
  AllLawful n = IsLawfulBy profile (take n log) × IsCoherentLog image (take n log)

  lawful_next : (n : ℕ) (within : n < length log) → IsLawfulBy profile (take n log) → BreaksRule profile (take n log) (entry_at n within) None → IsLawfulBy profile (take (n + 1) log)
  lawful_next n within lawful none = subst (IsLawfulBy profile) (sym (take_more log n (some_entry log n within) within)) (lawful_with profile (take n log) (entry_at n within) lawful (order.keeps_all profile (take n log) (entry_at n within) None lawful refl none))

  none_there : (xs ys : List Broken) → xs ++ ys ≡ [] → (xs ≡ []) × (ys ≡ [])
  none_there [] ys is = (refl, is)
  none_there (x ∷ xs) ys is = cc is

  nothing_found : (n : ℕ) (found : Option MessageBreach) → numbered n found ≡ [] → found ≡ None
  nothing_found n None is = refl
  nothing_found n (Some b) is = cc is

  none_so_far : (n : ℕ) → n ≤ length log → Breaches n [] → AllLawful n
  none_so_far zero some is = (none_lawful profile, none_coherent image)
  none_so_far (suc n) some (before, found, are, breaks, is) =
      let within : n < length log = omega arith in
      let parts = none_there before (numbered n found) (sym is) in
      let so_far : AllLawful n = none_so_far n (omega arith) (subst (Breaches n) parts.0 are) in
      let none : BreaksAs profile image (take n log) (entry_at n within) None = subst (BreaksAs profile image (take n log) (entry_at n within)) (nothing_found n found parts.1) (at_entry n within (λ e. BreaksAs profile image (take n log) e found) breaks) in
      let next : n + 1 ≡ suc n = omega arith in (
        subst (λ k. IsLawfulBy profile (take k log)) next (lawful_next n within so_far.0 none.0),
        subst (λ k. IsCoherentLog image (take k log)) next (subst (IsCoherentLog image) (sym (take_more log n (some_entry log n within) within)) (coherent_with image (take n log) (entry_at n within) so_far.1 none.1)),
      )

  abbrev IsFault : MessageBreach → ℕ → Type 0
  IsFault breach index = IsFirstFault profile image log breach index × (AreLawfulMessages profile image log → ⊥)

  fault_at : (n : ℕ) (within : n < length log) (b : MessageBreach) → AllLawful n → BreaksAs profile image (take n log) (entry_at n within) (Some b) → IsFault b n
  fault_at n within (Unlawful rule) so_far breaks =
      let first = order.first_breach profile log n (some_entry log n within) within rule (Some rule) so_far.0 refl breaks in
      ((first, so_far.1), λ all. cc ((order.breach_decides profile log rule n first).1 all.0))
  fault_at n within (Incoherent breach) so_far breaks = (
    (coherence.first_breach image log n (some_entry log n within) within breach (Some breach) so_far.1 refl breaks.1, lawful_next n within so_far.0 breaks.0),
    λ all. cc ((coherence.breach_decides image log n (some_entry log n within) within breach (Some breach) refl breaks.1).1 all.1),
  )
  fault_at n within Unanswered so_far breaks = absurd breaks
  fault_at n within (Unwritten address) so_far breaks = absurd breaks

  first_of : (n : ℕ) (within : n < length log) (b : Broken) (rest before : List Broken) (found : Option MessageBreach) → ((x : Broken) (more : List Broken) → Breaches n (x ∷ more) → IsFault x.breach x.index)
      → Breaches n before → BreaksAs profile image (take n log) (entry_at n within) found → b ∷ rest ≡ before ++ numbered n found → IsFault b.breach b.index
  first_of n within b rest (x ∷ before) found earlier are breaks is = let same : x ≡ b = cc is in subst (λ (y : Broken). IsFault y.breach y.index) same (earlier x before are)
  first_of n within b rest [] None earlier are breaks is = cc is
  first_of n within b rest [] (Some f) earlier are breaks is = let same : record { breach = f; index = n } ≡ b = cc is in subst (λ (y : Broken). IsFault y.breach y.index) same (fault_at n within f (none_so_far n (omega arith) are) breaks)

  first_fault : (n : ℕ) → n ≤ length log → (b : Broken) (rest : List Broken) → Breaches n (b ∷ rest) → IsFault b.breach b.index
  first_fault zero some b rest is = cc is
  first_fault (suc n) some b rest (before, found, are, breaks, is) =
      let within : n < length log = omega arith in
      first_of n within b rest before found (first_fault n (omega arith)) are (at_entry n within (λ e. BreaksAs profile image (take n log) e found) breaks) is

  verdict_all : (all : List Broken) → Breaches (length log) all → IsMessageVerdict profile image log (verdict_of all)
  verdict_all [] are =
      let none : AllLawful (length log) = none_so_far (length log) (omega arith) are in
      let whole : take (length log) log ≡ log = take_all (length log) log (omega arith) in
      record { lawful = (λ same. (subst (IsLawfulBy profile) whole none.0, subst (IsCoherentLog image) whole none.1), λ all. refl); unlawful = tt }
  verdict_all (b ∷ rest) are =
      let fault : IsFault b.breach b.index = first_fault (length log) (omega arith) b rest are in
      record { lawful = (λ same. cc same, λ all. absurd (fault.1 all)); unlawful = fault.0 }

  first_listed : (all : List Broken) → verdict_of (take 100 all) ≡ verdict_of all
  first_listed [] = refl
  first_listed (b ∷ rest) = refl

  -- what is listed has the same first one
  pub verdict_listed : (all listed : List Broken) (count : ℕ) → Breaches (length log) all → AreTold all listed count → IsMessageVerdict profile image log (verdict_of listed)
  verdict_listed all listed count are told = subst (IsMessageVerdict profile image log) (sym (ap verdict_of told.first ∙ first_listed all)) (verdict_all all are)
