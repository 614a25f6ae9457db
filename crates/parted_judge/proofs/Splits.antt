-- Lists of entries and of their halves, and beginnings of lawful logs.
use Rattle.std.proofs.Common.{ℕ, ◌+◌, List, [], ◌∷◌, ◌++◌, ◌≡◌, ◌∙◌, Option, Some, None, ap, drop, map, refl, subst, sym, take}
use Rattle.std.specs.Prelude.{option_map, slice_get}
use Rattle.std.proofs.lemmas.List.{append_assoc, map-append, take-append-drop}
use Rattle.std.proofs.lemmas.Option.{slice_get-map}
use Rattle.coherent_log.specs.Laws.{IsCoherentLog}
use Rattle.coherent_log.specs.Rules as coherent
use Rattle.coherent_log.specs.declared.rule.CoherenceRule.{CoherenceRule}
use Rattle.lawful_log.specs.Rules.{IsLawfulBy, Obeys}
use Rattle.lawful_log.specs.declared.profile.Profile.{Profile}
use Rattle.lawful_log.specs.declared.rule.LogRule.{LogRule}
use Rattle.message_judge.specs.Laws.{AreLawfulMessages}
use Rattle.parted_judge.proofs.Parts.{next_is}
use Rattle.parted_judge.proofs.Whole.{keeps_first, keeps_second, keeps_whole, obeys_first, obeys_second, obeys_whole}
use Rattle.parted_judge.specs.Rules.{AreLawfulWide}
use Rattle.trace_recorder.specs.declared.logged.Logged.{Logged}
use Rattle.wide_logs.specs.Entries.{first_of, second_of}
use Rattle.wide_logs.specs.declared.entry.WideLogged.{WideLogged}

none_there : {X : Type 0} → (before rest : List X) (x : X) → before ++ x ∷ rest ≡ [] → ⊥
none_there [] rest x e = cc e
none_there (y ∷ before) rest x e = cc e

-- what stands in a list of halves is the half of an entry
module _ (f : WideLogged → Logged) where
  record Split (log : List WideLogged) (before : List Logged) (x : Logged) : Type 0 where
    front : List WideLogged
    back : List WideLogged
    entry : WideLogged
    parts : front ++ entry ∷ back ≡ log
    before_is : map f front ≡ before
    is : f entry ≡ x

  split_back : (log : List WideLogged) (before rest : List Logged) (x : Logged) → before ++ x ∷ rest ≡ map f log → Split log before x
  split_back [] before rest x is = absurd (none_there before rest x is)
  split_back (y ∷ log) [] rest x is = let same : x ≡ f y = cc is in record { front = []; back = log; entry = y; parts = refl; before_is = refl; is = sym same }
  split_back (y ∷ log) (b ∷ before) rest x is =
      let same : b ≡ f y = cc is in
      let tail : before ++ x ∷ rest ≡ map f log = cc is in
      let found = split_back log before rest x tail in
      record { front = y ∷ found.front; back = found.back; entry = found.entry; parts = ap (λ l. y ∷ l) found.parts; before_is = λ i. sym same i ∷ found.before_is i; is = found.is }

  split_on : (before rest log : List WideLogged) (e : WideLogged) → before ++ e ∷ rest ≡ log → map f before ++ f e ∷ map f rest ≡ map f log
  split_on before rest log e is = sym (map-append f before (e ∷ rest)) ∙ ap (map f) is

  -- the half at an index
  pub half_at : (log : List WideLogged) (i : ℕ) (x : Logged) → slice_get (map f log) i ≡ Some x → (e : WideLogged) × (slice_get log i ≡ Some e) × (f e ≡ x)
  half_at log i x stands = go (slice_get log i) refl (sym (slice_get-map f log i) ∙ stands)
    where
      go : (o : Option WideLogged) → slice_get log i ≡ o → option_map f o ≡ Some x → (e : WideLogged) × (slice_get log i ≡ Some e) × (f e ≡ x)
      go None at is = cc is
      go (Some e) at is = let same : f e ≡ x = cc is in (e, at, same)

-- ---- whole and by halves

module _ (profile : Profile) (log : List WideLogged) where
  pub lawful_first : AreLawfulWide profile log → AreLawfulMessages profile None (map first_of log)
  lawful_first all = (
    λ rule before rest x is. let s = split_back first_of log before rest x is in
        subst (λ (b : List Logged). Obeys profile rule b x) s.before_is (subst (Obeys profile rule (map first_of s.front)) s.is (obeys_first profile s.front s.entry rule (all.order rule s.front s.back s.entry s.parts))),
    λ rule before rest x is. let s = split_back first_of log before rest x is in
        subst (λ (b : List Logged). coherent.Keeps rule None b x) s.before_is (subst (coherent.Keeps rule None (map first_of s.front)) s.is (keeps_first s.front s.entry rule (all.copies rule s.front s.back s.entry s.parts))),
  )

  pub lawful_second : AreLawfulWide profile log → AreLawfulMessages profile None (map second_of log)
  lawful_second all = (
    λ rule before rest x is. let s = split_back second_of log before rest x is in
        subst (λ (b : List Logged). Obeys profile rule b x) s.before_is (subst (Obeys profile rule (map second_of s.front)) s.is (obeys_second profile s.front s.entry rule (all.order rule s.front s.back s.entry s.parts))),
    λ rule before rest x is. let s = split_back second_of log before rest x is in
        subst (λ (b : List Logged). coherent.Keeps rule None b x) s.before_is (subst (coherent.Keeps rule None (map second_of s.front)) s.is (keeps_second s.front s.entry rule (all.copies rule s.front s.back s.entry s.parts))),
  )

  pub lawful_whole : AreLawfulMessages profile None (map first_of log) → AreLawfulMessages profile None (map second_of log) → AreLawfulWide profile log
  lawful_whole one two = record {
    order = λ rule before rest e is. obeys_whole profile before e rule (one.0 rule (map first_of before) (map first_of rest) (first_of e) (split_on first_of before rest log e is))
        (two.0 rule (map second_of before) (map second_of rest) (second_of e) (split_on second_of before rest log e is));
    copies = λ rule before rest e is. keeps_whole before e rule (one.1 rule (map first_of before) (map first_of rest) (first_of e) (split_on first_of before rest log e is))
        (two.1 rule (map second_of before) (map second_of rest) (second_of e) (split_on second_of before rest log e is));
  }

-- ---- beginnings

module _ (log : List Logged) (n : ℕ) where
  up_to : (before more : List Logged) (e : Logged) → before ++ e ∷ more ≡ take n log → before ++ e ∷ (more ++ drop n log) ≡ log
  up_to before more e is = sym (append_assoc before (e ∷ more) (drop n log)) ∙ ap (λ (l : List Logged). l ++ drop n log) is ∙ take-append-drop n log

  pub ordered_up_to : (profile : Profile) → IsLawfulBy profile log → IsLawfulBy profile (take n log)
  ordered_up_to profile all rule before more e is = all rule before (more ++ drop n log) e (up_to before more e is)

  pub coherent_up_to : IsCoherentLog None log → IsCoherentLog None (take n log)
  coherent_up_to all rule before more e is = all rule before (more ++ drop n log) e (up_to before more e is)

-- what is lawful up to an entry is so at the entry
module _ (log : List Logged) (n : ℕ) (x : Logged) (stands : slice_get log n ≡ Some x) where
  pub ordered_at : (profile : Profile) → IsLawfulBy profile (take (n + 1) log) → (rule : LogRule) → Obeys profile rule (take n log) x
  ordered_at profile all rule = all rule (take n log) [] x (sym (next_is log n x stands))

  pub coherent_at : IsCoherentLog None (take (n + 1) log) → (rule : CoherenceRule) → coherent.Keeps rule None (take n log) x
  coherent_at all rule = all rule (take n log) [] x (sym (next_is log n x stands))
