-- Files that were written stay where further ones are written.
use Rattle.std.proofs.Common.{◌≡◌, ◌≢◌, All, ◌∙◌, ◌+◌, ◌^◌, ◌<◌, ◌≤◌, ◌-◌, ℕ, List, [], ◌∷◌, ◌++◌, None, Option, Some, drop, get_or, take, ap, arith, codes, decimal, fold, inl, inr, length, refl, slice_index, subst, sym}
use Rattle.std.specs.Borrow.{Bor}
use Rattle.std.proofs.lemmas.Fmt.{decimal_injective}
use Rattle.std.proofs.lemmas.List.{append_cancel_left, append_cancel_right, append_assoc, append-nil, drop_more, length-append, length-drop, take-append-drop}
use Rattle.std.proofs.lemmas.List.Elements.{All-head, All-tail}
use Rattle.std.proofs.lemmas.List.Sums.{fold-append}
use Rattle.explore_command.specs.ModelKeeping.{AreKeptOf, AreWaysKept, IsFileIn, IsFileInNamed, IsFileOf, IsNumberedIn, IsWayFile, IsWayKeptAt, failing_way, failure_stem, file_path, outcome_stem, outcome_way, script_path, trace_path}
use Rattle.architecture_outcomes.specs.declared.architecture.Architecture.{Architecture}
use Rattle.architecture_outcomes.specs.declared.failing.Failing.{Failing}
use Rattle.architecture_outcomes.specs.declared.outcome.Outcome.{Outcome}
use Rattle.architecture_outcomes.specs.declared.outcome.Way.{Way}
use Rattle.architecture_outcomes.specs.declared.outcome.Way.TheVariants.{Machine, Model, ModelAlone}
use Rattle.command_files.specs.Contents.{Contents}
use Rattle.machine_types.specs.declared.config.Config.{Config}
use Rattle.search_files.proofs.Files.{script_stays, spares_more, spares_then, spares_wider, trace_stays, unwritten}
use Rattle.explore_command.specs.Keeping.{FileName, IsInNamed, SparesOthers}
use Rattle.explorer.specs.declared.found.Realisation.TheVariants.{Events, Limit, NoMemory, Unrealised}

-- ---- paths

-- the last byte
abbrev last_of : List ℕ → ℕ
last_of = fold (λ before here. here) 0

module _ (stem : FileName) where
  numbered : (folder : FileName) (m n : ℕ) (x y : FileName) → folder ++ (stem ++ (decimal m ++ x)) ≡ folder ++ (stem ++ (decimal n ++ y)) → decimal m ++ x ≡ decimal n ++ y
  numbered folder m n x y same = append_cancel_left stem _ _ (append_cancel_left folder _ _ same)

  no_both : (folder : FileName) (m n : ℕ) → script_path folder stem m ≡ trace_path folder stem n → ⊥
  no_both folder m n same =
      let keep = λ (before here : ℕ). here in
      let ends : 116 ≡ 101 =
      sym (fold-append keep 0 (decimal m) (codes ".script")) ∙ (ap last_of (numbered folder m n (codes ".script") (codes ".trace") same) ∙ fold-append keep 0 (decimal n) (codes ".trace")) in
      absurd (omega (arith, ends))

  one_number : (folder : FileName) (m n : ℕ) (x : FileName) → m < 2 ^ 64 → n < 2 ^ 64 → folder ++ (stem ++ (decimal m ++ x)) ≡ folder ++ (stem ++ (decimal n ++ x)) → m ≡ n
  one_number folder m n x m_small n_small same = decimal_injective m n m_small n_small (append_cancel_right (decimal m) (decimal n) x (numbered folder m n x x same))

  one_file : (folder : FileName) (m n : ℕ) (v w : Way) → m < 2 ^ 64 → n < 2 ^ 64 → file_path folder stem m v ≡ file_path folder stem n w → m ≡ n
  one_file folder m n (Machine v) (Machine w) m_small n_small same = one_number folder m n (codes ".script") m_small n_small same
  one_file folder m n (Machine v) (ModelAlone w) m_small n_small same = absurd (no_both folder m n same)
  one_file folder m n (Machine v) (Model w) m_small n_small same = absurd (no_both folder m n same)
  one_file folder m n (ModelAlone v) (Machine w) m_small n_small same = absurd (no_both folder n m (sym same))
  one_file folder m n (ModelAlone v) (ModelAlone w) m_small n_small same = one_number folder m n (codes ".trace") m_small n_small same
  one_file folder m n (ModelAlone v) (Model w) m_small n_small same = one_number folder m n (codes ".trace") m_small n_small same
  one_file folder m n (Model v) (Machine w) m_small n_small same = absurd (no_both folder n m (sym same))
  one_file folder m n (Model v) (ModelAlone w) m_small n_small same = one_number folder m n (codes ".trace") m_small n_small same
  one_file folder m n (Model v) (Model w) m_small n_small same = one_number folder m n (codes ".trace") m_small n_small same

  is_file : (folder path : FileName) (number : ℕ) (way : Way) → path ≡ file_path folder stem number way → IsNumberedIn stem folder path
  is_file folder path number (Machine w) is = inl (number, is)
  is_file folder path number (ModelAlone w) is = inr (number, is)
  is_file folder path number (Model w) is = inr (number, is)

-- no outcome has the file of a failure
apart : (folder x y : FileName) → folder ++ (outcome_stem ++ x) ≡ folder ++ (failure_stem ++ y) → ⊥
apart folder x y same =
    let behind : outcome_stem ++ x ≡ failure_stem ++ y = append_cancel_left folder _ _ same in
    let bad : 111 ≡ 102 = ap (λ (xs : List ℕ). slice_index xs 1) behind in absurd (omega (arith, bad))

files_apart : (folder : FileName) (m n : ℕ) (v w : Way) → file_path folder outcome_stem m v ≡ file_path folder failure_stem n w → ⊥
files_apart folder m n (Machine v) (Machine w) same = apart folder _ _ same
files_apart folder m n (Machine v) (ModelAlone w) same = apart folder _ _ same
files_apart folder m n (Machine v) (Model w) same = apart folder _ _ same
files_apart folder m n (ModelAlone v) (Machine w) same = apart folder _ _ same
files_apart folder m n (ModelAlone v) (ModelAlone w) same = apart folder _ _ same
files_apart folder m n (ModelAlone v) (Model w) same = apart folder _ _ same
files_apart folder m n (Model v) (Machine w) same = apart folder _ _ same
files_apart folder m n (Model v) (ModelAlone w) same = apart folder _ _ same
files_apart folder m n (Model v) (Model w) same = apart folder _ _ same

-- ---- what another file's writing leaves

kept_still : (before after : Contents) (config : Config) (kib : ℕ) (name : FileName) (way : Way) → after name ≡ before name → IsWayKeptAt before config kib name way → IsWayKeptAt after config kib name way
kept_still before after config kib name (Machine (Events events)) same kept = script_stays before after name _ same kept
kept_still before after config kib name (Machine NoMemory) same kept = kept
kept_still before after config kib name (Machine Limit) same kept = kept
kept_still before after config kib name (Machine Unrealised) same kept = kept
kept_still before after config kib name (ModelAlone trace) same kept = trace_stays before after name _ same kept
kept_still before after config kib name (Model trace) same kept = trace_stays before after name _ same kept

module _ {X : Type 0} (stem : FileName) (way_of : X → Way) where
  ways_still : (before after : Contents) (config : Config) (kib : ℕ) (folder : FileName) (number : ℕ) (xs : List X) → ((n : ℕ) (w : Way) → number ≤ n → n < number + length xs → after (file_path folder stem n w) ≡ before (file_path folder stem n w))
      → AreWaysKept stem way_of before config kib folder number xs → AreWaysKept stem way_of after config kib folder number xs
  ways_still before after config kib folder number [] same kept = tt
  ways_still before after config kib folder number (x ∷ xs) same kept = (
    kept_still before after config kib (file_path folder stem number (way_of x)) (way_of x) (same number (way_of x) (omega arith) (omega arith)) kept.0,
    ways_still before after config kib folder (number + 1) xs (λ n w from below. same n w (omega (arith, from)) (omega (arith, below))) kept.1,
  )

  -- the file that shows the last that is left is one of all
  way_at : (number : ℕ) (front done : List X) (last : X) (folder path : FileName) → path ≡ file_path folder stem (number + length front) (way_of last) → IsWayFile stem way_of number (front ++ last ∷ done) folder path
  way_at number [] done last folder path is =
      let here : number + 0 ≡ number = omega arith in inl (is ∙ ap (λ (n : ℕ). file_path folder stem n (way_of last)) here)
  way_at number (x ∷ xs) done last folder path is =
      let next : number + length (x ∷ xs) ≡ number + 1 + length xs = omega arith in inr (way_at (number + 1) xs done last folder path (is ∙ ap (λ (n : ℕ). file_path folder stem n (way_of last)) next))

  way_of_left : (left front done all : List X) (last : X) (folder path : FileName) → left ≡ front ++ last ∷ [] → left ++ done ≡ all → path ≡ file_path folder stem (length left) (way_of last) → IsWayFile stem way_of 1 all folder path
  way_of_left left front done all last folder path left_is whole path_is =
      let count : length left ≡ 1 + length front = omega (arith, ap (λ (xs : List X). length xs) left_is, length-append front (last ∷ [])) in
      let parts : all ≡ front ++ (last ∷ [] ++ done) = sym whole ∙ (ap (λ (xs : List X). xs ++ done) left_is ∙ append_assoc front (last ∷ []) done) in
      subst (λ (xs : List X). IsWayFile stem way_of 1 xs folder path) (sym parts) (way_at 1 front done last folder path (path_is ∙ ap (λ (n : ℕ). file_path folder stem n (way_of last)) count))

  -- its writing spares all others
  pub spares_one : (held before after : Contents) (folder path : FileName) (left front done all : List X) (last : X) → left ≡ front ++ last ∷ [] → left ++ done ≡ all → path ≡ file_path folder stem (length left) (way_of last)
      → ((other : FileName) → other ≢ path → after other ≡ before other) → SparesOthers (IsWayFile stem way_of 1 all folder) held before → SparesOthers (IsWayFile stem way_of 1 all folder) held after
  spares_one held before after folder path left front done all last left_is whole path_is others =
      spares_more before after path others (IsWayFile stem way_of 1 all folder) held (way_of_left left front done all last folder path left_is whole path_is)

  -- each is one that may be written
  way_in : (number : ℕ) (xs : List X) (folder name : FileName) → IsWayFile stem way_of number xs folder name → IsNumberedIn stem folder name
  way_in number [] folder name is = absurd is
  way_in number (x ∷ xs) folder name (inl is) = is_file stem folder name number (way_of x) is
  way_in number (x ∷ xs) folder name (inr later) = way_in (number + 1) xs folder name later

  -- ---- from the last to the first

  -- what shows those behind the ones that are left is written
  pub record HasKept (held now : Contents) (config : Config) (kib : ℕ) (folder : FileName) (left all : List X) : Type 0 where
    pub done : List X
    pub whole : left ++ done ≡ all
    pub kept : AreWaysKept stem way_of now config kib folder (length left + 1) done
    pub spared : SparesOthers (IsWayFile stem way_of 1 all folder) held now

  pub none_kept : (held : Contents) (config : Config) (kib : ℕ) (folder : FileName) (all : List X) → HasKept held held config kib folder all all
  none_kept held config kib folder all = record {
    done = [];
    whole = append-nil all;
    kept = tt;
    spared = λ other. inl refl;
  }

  pub one_more : (held before after : Contents) (config : Config) (kib : ℕ) (folder path : FileName) (left front all : List X) (last : X) → length all < 2 ^ 64 → left ≡ front ++ last ∷ [] → path ≡ file_path folder stem (length left) (way_of last)
      → ((other : FileName) → other ≢ path → after other ≡ before other) → IsWayKeptAt after config kib path (way_of last) → HasKept held before config kib folder left all → HasKept held after config kib folder front all
  one_more held before after config kib folder path left front all last small left_is path_is others written has =
      let count : length left ≡ length front + 1 = ap (λ (xs : List X). length xs) left_is ∙ length-append front (last ∷ []) in
      let total : length left + length has.done ≡ length all = sym (length-append left has.done) ∙ ap (λ (xs : List X). length xs) has.whole in
      let differs : (n : ℕ) (w : Way) → length left + 1 ≤ n → n < length left + 1 + length has.done → file_path folder stem n w ≢ path =
      λ n w from below same.
      let bad : length left ≡ n = one_file stem folder (length left) n (way_of last) w (omega (arith, total, small)) (omega (arith, total, small, below)) (sym path_is ∙ sym same) in absurd (omega (arith, bad, from)) in
      record {
        done = last ∷ has.done;
        whole = sym (append_assoc front (last ∷ []) has.done) ∙ (ap (λ (xs : List X). xs ++ has.done) (sym left_is) ∙ has.whole);
        kept = (
          subst (λ (p : FileName). IsWayKeptAt after config kib p (way_of last)) (path_is ∙ ap (λ n. file_path folder stem n (way_of last)) count) written,
          subst (λ (n : ℕ). AreWaysKept stem way_of after config kib folder (n + 1) has.done) count
              (ways_still before after config kib folder (length left + 1) has.done (λ n w from below. others (file_path folder stem n w) (differs n w from below)) has.kept),
        );
        spared = spares_one held before after folder path left front has.done all last left_is has.whole path_is others has.spared;
      }

  -- what is known of all is known of the last that is left
  pub last_of_left : (P : X → Type 0) (left front done all : List X) (last : X) → left ++ done ≡ all → left ≡ front ++ last ∷ [] → All P all → P last
  last_of_left P left front done all last whole left_is every =
      let parts : all ≡ front ++ (last ∷ [] ++ done) = sym whole ∙ (ap (λ (xs : List X). xs ++ done) left_is ∙ append_assoc front (last ∷ []) done) in
      let at : All P (front ++ (last ∷ done)) = subst (All P) parts every in
      go front at
    where
      go : (xs : List X) → All P (xs ++ last ∷ done) → P last
      go [] held = All-head P last done held
      go (x ∷ xs) held = go xs (All-tail P x (xs ++ last ∷ done) held)

  -- ---- the last of a list

  nothing : (xs : List X) → length xs ≡ 0 → xs ≡ []
  nothing [] none = refl
  nothing (x ∷ xs) none = absurd (omega (arith, none))

  pub last_is : (xs : List X) (x d : X) → 1 ≤ length xs → x ≡ get_or xs (length xs - 1) d → xs ≡ take (length xs - 1) xs ++ x ∷ []
  last_is xs x d some is =
      let i = length xs - 1 in
      let none : drop (i + 1) xs ≡ [] = nothing (drop (i + 1) xs) (omega (arith, length-drop (i + 1) xs, some)) in
      sym (take-append-drop i xs)
      ∙ ap (λ (rest : List X). take i xs ++ rest) (drop_more xs i d (omega (arith, some)) ∙ (ap (λ (rest : List X). get_or xs i d ∷ rest) none ∙ ap (λ (y : X). y ∷ []) (sym is)))

-- ---- all files

no_failure_file : (number : ℕ) (failures : List Failing) (folder : FileName) (n : ℕ) (w : Way) → IsWayFile failure_stem failing_way number failures folder (file_path folder outcome_stem n w) → ⊥
no_failure_file number [] folder n w is = is
no_failure_file number (f ∷ fs) folder n w (inl same) = files_apart folder n number w f.way same
no_failure_file number (f ∷ fs) folder n w (inr later) = no_failure_file (number + 1) fs folder n w later

-- files of failures leave those of outcomes as they are
pub all_kept : (before after : Contents) (config : Config) (kib : ℕ) (folder : FileName) (found : Architecture) (outcomes : List Outcome) (failures : List Failing) → outcomes ≡ found.outcomes.items → failures ≡ found.failures.items
    → SparesOthers (IsWayFile failure_stem failing_way 1 failures folder) before after → AreWaysKept outcome_stem outcome_way before config kib folder 1 outcomes → AreWaysKept failure_stem failing_way after config kib folder 1 failures
    → AreKeptOf found after config kib folder
all_kept before after config kib folder found outcomes failures outcomes_are failures_are spares kept failed = record {
  outcomes = subst (AreWaysKept outcome_stem outcome_way after config kib folder 1) outcomes_are
      (ways_still outcome_stem outcome_way before after config kib folder 1 outcomes
      (λ n w from below. unwritten (IsWayFile failure_stem failing_way 1 failures folder) before after (file_path folder outcome_stem n w) spares (λ is. no_failure_file 1 failures folder n w is)) kept);
  failures = subst (AreWaysKept failure_stem failing_way after config kib folder 1) failures_are failed;
}

pub outcomes_spared : (found : Architecture) (outcomes : List Outcome) (folder : FileName) (held left : Contents) → outcomes ≡ found.outcomes.items → SparesOthers (IsWayFile outcome_stem outcome_way 1 outcomes folder) held left → SparesOthers (IsFileOf found folder) held left
outcomes_spared found outcomes folder held left same = spares_wider _ _ held left (λ name is. inl (subst (λ (xs : List Outcome). IsWayFile outcome_stem outcome_way 1 xs folder name) same is))

pub all_spared : (found : Architecture) (outcomes : List Outcome) (failures : List Failing) (folder : FileName) (held mid left : Contents) → outcomes ≡ found.outcomes.items → failures ≡ found.failures.items
    → SparesOthers (IsWayFile outcome_stem outcome_way 1 outcomes folder) held mid → SparesOthers (IsWayFile failure_stem failing_way 1 failures folder) mid left → SparesOthers (IsFileOf found folder) held left
all_spared found outcomes failures folder held mid left same also first second =
    spares_then _ held mid left (outcomes_spared found outcomes folder held mid same first)
    (spares_wider _ _ mid left (λ name is. inr (subst (λ (xs : List Failing). IsWayFile failure_stem failing_way 1 xs folder name) also is)) second)

pub way_file : (found : Architecture) (folder : Option (Bor FileName)) (name : FileName) → IsInNamed folder (IsFileOf found) name → IsFileInNamed folder name
way_file found None name is = absurd is
way_file found (Some folder) name (inl is) = inl (way_in outcome_stem outcome_way 1 found.outcomes.items folder.now name is)
way_file found (Some folder) name (inr is) = inr (way_in failure_stem failing_way 1 found.failures.items folder.now name is)
