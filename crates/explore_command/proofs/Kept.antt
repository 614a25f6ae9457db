-- Scripts that were written stay where further ones are written.
use Rattle.std.proofs.Common.{◌≡◌, ◌≢◌, ◌∙◌, ◌+◌, ◌^◌, ◌<◌, ◌≤◌, ℕ, List, [], ◌∷◌, ◌++◌, ◌-◌, IfSome, None, Option, Some, drop, get_or, take, ap, arith, codes, decimal, inl, inr, length, refl, slice_index, subst, sym}
use Rattle.std.specs.Borrow.{Bor}
use Rattle.std.proofs.lemmas.Fmt.{decimal_injective}
use Rattle.std.proofs.lemmas.List.{append_cancel_left, append_cancel_right, append_assoc, append-nil, drop_more, length-append, length-drop, take-append-drop}
use Rattle.command_files.specs.Contents.{Contents}
use Rattle.machine_types.specs.declared.config.Config.{Config}
use Rattle.explore_command.specs.Keeping.{AreFailuresKept, AreKept, AreKeptFrom, AreNumbered, FileName, IsFailureScript, IsInNamed, IsKeptAt, IsNumbered, IsOutcomeScript, IsScriptFile, IsScriptOf, SparesOthers, failure_path, outcome_path, stuck_path}
use Rattle.explorer.specs.declared.exploration.Exploration.{Exploration}
use Rattle.explorer.specs.declared.exploration.Stuck.{Stuck}
use Rattle.explorer.specs.declared.found.Found.{Found}
use Rattle.explorer.specs.declared.found.FoundFailure.{FoundFailure}
use Rattle.explorer.specs.declared.found.Realisation.{Realisation}
use Rattle.explorer.specs.declared.found.Realisation.TheVariants.{Events, Limit, NoMemory, Unrealised}
pub use Rattle.search_files.proofs.Files.{on_ok, spares_more, spares_wider}
use Rattle.search_files.proofs.Files.{script_stays, spares_then, unwritten}

-- ---- paths

pub one_outcome : (folder : FileName) (m n : ℕ) → m < 2 ^ 64 → n < 2 ^ 64 → outcome_path folder m ≡ outcome_path folder n → m ≡ n
one_outcome folder m n m_small n_small same =
    decimal_injective m n m_small n_small
    (append_cancel_right (decimal m) (decimal n) (codes ".script")
    (append_cancel_left (codes "/outcome-") _ _ (append_cancel_left folder _ _ same)))

pub one_failure : (folder : FileName) (m n : ℕ) → m < 2 ^ 64 → n < 2 ^ 64 → failure_path folder m ≡ failure_path folder n → m ≡ n
one_failure folder m n m_small n_small same =
    decimal_injective m n m_small n_small
    (append_cancel_right (decimal m) (decimal n) (codes ".script")
    (append_cancel_left (codes "/failure-") _ _ (append_cancel_left folder _ _ same)))

pub never_stuck : (folder : FileName) (n : ℕ) → stuck_path folder ≡ outcome_path folder n → ⊥
never_stuck folder n same =
    let behind : codes "/stuck.script" ≡ codes "/outcome-" ++ (decimal n ++ codes ".script") = append_cancel_left folder _ _ same in
    let bad : 115 ≡ 111 = ap (λ (xs : List ℕ). slice_index xs 1) behind in absurd (omega (arith, bad))

stuck_no_failure : (folder : FileName) (n : ℕ) → stuck_path folder ≡ failure_path folder n → ⊥
stuck_no_failure folder n same =
    let behind : codes "/stuck.script" ≡ codes "/failure-" ++ (decimal n ++ codes ".script") = append_cancel_left folder _ _ same in
    let bad : 115 ≡ 102 = ap (λ (xs : List ℕ). slice_index xs 1) behind in absurd (omega (arith, bad))

never_failure : (folder : FileName) (n m : ℕ) → outcome_path folder n ≡ failure_path folder m → ⊥
never_failure folder n m same =
    let behind : codes "/outcome-" ++ (decimal n ++ codes ".script") ≡ codes "/failure-" ++ (decimal m ++ codes ".script") = append_cancel_left folder _ _ same in
    let bad : 111 ≡ 102 = ap (λ (xs : List ℕ). slice_index xs 1) behind in absurd (omega (arith, bad))

-- ---- what another file's writing leaves

module _ (before after : Contents) (config : Config) (kib : ℕ) where
  kept_still : (name : FileName) (script : Realisation) → after name ≡ before name → IsKeptAt before config kib name script → IsKeptAt after config kib name script
  kept_still name (Events events) same kept = script_stays before after name _ same kept
  kept_still name NoMemory same kept = kept
  kept_still name Limit same kept = kept
  kept_still name Unrealised same kept = kept

  pub numbered_still : {X : Type 0} (path : ℕ → FileName) (script : X → Realisation) (number : ℕ) (found : List X) → ((n : ℕ) → number ≤ n → n < number + length found → after (path n) ≡ before (path n)) → AreNumbered before config kib path script number found
      → AreNumbered after config kib path script number found
  numbered_still path script number [] same kept = tt
  numbered_still path script number (x ∷ xs) same kept = (
    kept_still (path number) (script x) (same number (omega arith) (omega arith)) kept.0,
    numbered_still path script (number + 1) xs (λ n from below. same n (omega (arith, from)) (omega (arith, below))) kept.1,
  )

-- ---- from the last one to the first

module _ {X : Type 0} (path_of : ℕ → FileName) (script : X → Realisation) where
  -- those behind the ones that are left have their scripts
  pub record HasKept (held now : Contents) (config : Config) (kib : ℕ) (left all : List X) : Type 0 where
    pub done : List X
    pub whole : left ++ done ≡ all
    pub kept : AreNumbered now config kib path_of script (length left + 1) done
    pub spared : SparesOthers (IsNumbered path_of (length all)) held now

  pub none_kept : (held : Contents) (config : Config) (kib : ℕ) (all : List X) → HasKept held held config kib all all
  none_kept held config kib all = record {
    done = [];
    whole = append-nil all;
    kept = tt;
    spared = λ other. inl refl;
  }

  -- the last that is left is one of all
  pub one_of : (left front all done : List X) (path : FileName) (last : X) → left ≡ front ++ last ∷ [] → left ++ done ≡ all → path ≡ path_of (length left) → IsNumbered path_of (length all) path
  one_of left front all done path last left_is whole path_is =
      let count : length left ≡ length front + 1 = ap (λ (xs : List X). length xs) left_is ∙ length-append front (last ∷ []) in
      let total : length left + length done ≡ length all = sym (length-append left done) ∙ ap (λ (xs : List X). length xs) whole in
      (length front, omega (arith, count, total), path_is ∙ ap path_of count)

  pub one_more : ((m n : ℕ) → m < 2 ^ 64 → n < 2 ^ 64 → path_of m ≡ path_of n → m ≡ n) → (held before after : Contents) (config : Config) (kib : ℕ) (path : FileName) (left front all : List X) (last : X) → length all < 2 ^ 64 → left ≡ front ++ last ∷ [] → path ≡ path_of (length left)
      → ((other : FileName) → other ≢ path → after other ≡ before other) → IsKeptAt after config kib path (script last) → HasKept held before config kib left all → HasKept held after config kib front all
  one_more one_number held before after config kib path left front all last small left_is path_is others written has =
      let count : length left ≡ length front + 1 = ap (λ (xs : List X). length xs) left_is ∙ length-append front (last ∷ []) in
      let total : length left + length has.done ≡ length all = sym (length-append left has.done) ∙ ap (λ (xs : List X). length xs) has.whole in
      let differs : (n : ℕ) → length left + 1 ≤ n → n < length left + 1 + length has.done → path_of n ≢ path =
      λ n from below same.
      let bad : length left ≡ n = one_number (length left) n (omega (arith, total, small)) (omega (arith, total, small, below)) (sym path_is ∙ sym same) in absurd (omega (arith, bad, from)) in
      record {
        done = last ∷ has.done;
        whole = sym (append_assoc front (last ∷ []) has.done) ∙ (ap (λ (xs : List X). xs ++ has.done) (sym left_is) ∙ has.whole);
        kept = (
          subst (λ (p : FileName). IsKeptAt after config kib p (script last)) (path_is ∙ ap path_of count) written,
          subst (λ (n : ℕ). AreNumbered after config kib path_of script (n + 1) has.done) count
              (numbered_still before after config kib path_of script (length left + 1) has.done (λ n from below. others (path_of n) (differs n from below)) has.kept),
        );
        spared = spares_more before after path others (IsNumbered path_of (length all)) held (one_of left front all has.done path last left_is has.whole path_is) has.spared;
      }

  -- ---- the last of a list

  nothing : (xs : List X) → length xs ≡ 0 → xs ≡ []
  nothing [] none = refl
  nothing (x ∷ xs) none = absurd (omega (arith, none))

  pub last_is : (xs : List X) (x d : X) → 1 ≤ length xs → x ≡ get_or xs (length xs - 1) d → xs ≡ take (length xs - 1) xs ++ x ∷ []
  last_is xs x d some is =
      let i = length xs - 1 in
      let none : drop (i + 1) xs ≡ [] = nothing (drop (i + 1) xs) (omega (arith, length-drop (i + 1) xs, some)) in
      sym (take-append-drop i xs)
      ∙ ap (λ (rest : List X). take i xs ++ rest) (drop_more xs i d (omega (arith, some)) ∙ (ap (λ (rest : List X). get_or xs i d ∷ rest) none ∙ ap (λ (y : X). y ∷ []) (sym is)))

-- ---- all scripts

-- failures' scripts leave outcomes' as they are
pub outcomes_still : (before after : Contents) (config : Config) (kib : ℕ) (folder : FileName) (count : ℕ) (outcomes : List Found) → SparesOthers (IsFailureScript count folder) before after → AreKeptFrom before config kib folder 1 outcomes → AreKeptFrom after config kib folder 1 outcomes
outcomes_still before after config kib folder count outcomes spares kept =
    numbered_still before after config kib (outcome_path folder) (λ (f : Found). f.script) 1 outcomes
    (λ n from below. unwritten (IsFailureScript count folder) before after (outcome_path folder n) spares (λ is. never_failure folder n (is.0 + 1) is.2)) kept

pub all_kept : (before after : Contents) (config : Config) (kib : ℕ) (folder path : FileName) (e : Exploration) (outcomes : List Found) (failures : List FoundFailure) (stuck : Stuck) → ((other : FileName) → other ≢ path → after other ≡ before other)
    → path ≡ stuck_path folder → outcomes ≡ e.outcomes.items → failures ≡ e.failures.items → e.stuck ≡ Some stuck → AreKeptFrom before config kib folder 1 outcomes → AreFailuresKept before config kib folder 1 failures → IsKeptAt after config kib path stuck.script → AreKept after config kib folder e
all_kept before after config kib folder path e outcomes failures stuck others path_is outcomes_are failures_are stuck_is kept failed here = record {
  outcomes = subst (AreKeptFrom after config kib folder 1) outcomes_are
      (numbered_still before after config kib (outcome_path folder) (λ (f : Found). f.script) 1 outcomes (λ n from below. others (outcome_path folder n) (λ same. never_stuck folder n (sym path_is ∙ sym same))) kept);
  failures = subst (AreFailuresKept after config kib folder 1) failures_are
      (numbered_still before after config kib (failure_path folder) (λ (f : FoundFailure). f.script) 1 failures (λ n from below. others (failure_path folder n) (λ same. stuck_no_failure folder n (sym path_is ∙ sym same))) failed);
  stuck = subst (λ (o : Option Stuck). IfSome o (λ s. IsKeptAt after config kib (stuck_path folder) s.script)) (sym stuck_is) (subst (λ (p : FileName). IsKeptAt after config kib p stuck.script) path_is here);
}

-- where nothing is stuck
pub none_stuck_kept : (after : Contents) (config : Config) (kib : ℕ) (folder : FileName) (e : Exploration) (outcomes : List Found) (failures : List FoundFailure)
    → outcomes ≡ e.outcomes.items → failures ≡ e.failures.items → e.stuck ≡ None → AreKeptFrom after config kib folder 1 outcomes → AreFailuresKept after config kib folder 1 failures → AreKept after config kib folder e
none_stuck_kept after config kib folder e outcomes failures outcomes_are failures_are none kept failed = record {
  outcomes = subst (AreKeptFrom after config kib folder 1) outcomes_are kept;
  failures = subst (AreFailuresKept after config kib folder 1) failures_are failed;
  stuck = subst (λ (o : Option Stuck). IfSome o (λ s. IsKeptAt after config kib (stuck_path folder) s.script)) (sym none) tt;
}

-- ---- which files those are

pub outcome_spared : (outcomes : List Found) (e : Exploration) (folder : FileName) (held left : Contents) → outcomes ≡ e.outcomes.items → SparesOthers (IsOutcomeScript (length outcomes) folder) held left
    → SparesOthers (IsScriptOf (length e.outcomes.items) (length e.failures.items) e.stuck folder) held left
outcome_spared outcomes e folder held left same = spares_wider _ _ held left
    (λ name is. inl (subst (λ (xs : List Found). IsOutcomeScript (length xs) folder name) same is))

pub failures_spared : (outcomes : List Found) (failures : List FoundFailure) (e : Exploration) (folder : FileName) (held mid left : Contents) → outcomes ≡ e.outcomes.items → failures ≡ e.failures.items
    → SparesOthers (IsOutcomeScript (length outcomes) folder) held mid → SparesOthers (IsFailureScript (length failures) folder) mid left → SparesOthers (IsScriptOf (length e.outcomes.items) (length e.failures.items) e.stuck folder) held left
failures_spared outcomes failures e folder held mid left same also first second =
    spares_then _ held mid left (outcome_spared outcomes e folder held mid same first)
    (spares_wider _ _ mid left (λ name is. inr (inl (subst (λ (xs : List FoundFailure). IsFailureScript (length xs) folder name) also is))) second)

-- one of these scripts is one that may be written
pub script_file : (outcomes failures : ℕ) (stuck : Option Stuck) (folder : Option (Bor FileName)) (name : FileName) → IsInNamed folder (IsScriptOf outcomes failures stuck) name → IsScriptFile folder name
script_file outcomes failures stuck None name is = absurd is
script_file outcomes failures stuck (Some folder) name (inl (i, inside, path)) = inl (i + 1, path)
script_file outcomes failures stuck (Some folder) name (inr (inl (i, inside, path))) = inr (inl (i + 1, path))
script_file outcomes failures stuck (Some folder) name (inr (inr (some, path))) = inr (inr path)

pub outcome_file : (count : ℕ) (folder : Option (Bor FileName)) (name : FileName) → IsInNamed folder (IsOutcomeScript count) name → IsScriptFile folder name
outcome_file count None name is = absurd is
outcome_file count (Some folder) name (i, inside, path) = inl (i + 1, path)
