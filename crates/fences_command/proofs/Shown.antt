-- Runs that were written stay where those of further orderings are written.
use Rattle.std.proofs.Common.{◌≡◌, ◌≢◌, ◌∙◌, ◌⊎◌, ◌+◌, ◌-◌, ◌^◌, ◌<◌, ◌≤◌, ◌∷◌, ◌++◌, [], ℕ, IfSome, List, None, Option, Some, ap, arith, codes, decimal, drop, get_or, inl, inr, length, option_map, refl, subst, sym, take}
use Rattle.std.specs.Prelude.{unwrap_or}
use Rattle.std.proofs.lemmas.List.{append_assoc, append_cancel_left, append-nil, length-append, length-drop, take_all}
use Rattle.command_files.specs.Contents.{Contents}
use Rattle.command_files.specs.Faults.{Name}
use Rattle.command_settings.specs.declared.wanted.Fences.{Fences}
use Rattle.elf_loader.specs.Image.{Initial}
use Rattle.fence_audit.specs.Auditing.{shown_without}
use Rattle.explorer.specs.declared.found.Realisation.{Realisation}
use Rattle.explorer.specs.declared.found.Realisation.TheVariants.{Events, Limit, NoMemory, Unrealised}
use Rattle.architecture_outcomes.specs.declared.outcome.Way.{Way}
use Rattle.architecture_outcomes.specs.declared.outcome.Way.TheVariants.{Machine, Model, ModelAlone}
use Rattle.fence_audit.specs.declared.allowing.Allowance.{Allowance}
use Rattle.fence_audit.specs.declared.auditing.Audit.{Audit}
use Rattle.fences_command.specs.Keeping.{IsKept, IsProgramKept, IsWritten, enough_words, format_of}
use Rattle.fences_command.specs.Witnesses.{AreShown, AreShownFrom, IsFileOf, IsNeededFile, IsPassed, IsScriptAt, IsShownAt, IsShownWithout, Needed, image_path, needed_in, needed_path, needed_with, script_path, trace_path}
use Rattle.image_orderings.specs.Programs.{patches_without}
use Rattle.image_orderings.specs.declared.orderings.ImageOrdering.{ImageOrdering}
use Rattle.image_orderings.specs.declared.replacing.Patch.{Patch}
use Rattle.image_writing.specs.declared.places.Format.{Format}
use Rattle.machine_types.specs.declared.config.Config.{Config}
use Rattle.search_files.proofs.Files.{bytes_stay, script_stays, trace_stays}
use Rattle.search_files.specs.Folders.{FileName, SparesOthers}
use Rattle.text_fields.proofs.Laws.{number_reads}
use Rattle.text_fields.specs.Reading.{number_at}

-- ---- the orderings that are left

pub first_is : (xs : List ImageOrdering) (d : ImageOrdering) → 1 ≤ length xs → xs ≡ get_or xs 0 d ∷ take (length xs - 1) (drop 1 xs)
first_is [] d some = absurd (omega (arith, some))
first_is (x ∷ xs) d some = ap (λ (r : List ImageOrdering). x ∷ r) (sym (take_all (length (x ∷ xs) - 1) (drop 1 (x ∷ xs)) (omega (arith, length-drop 1 (x ∷ xs)))))

pub few_left : (most number next : ℕ) (rest tail : List ImageOrdering) (o : ImageOrdering) → rest ≡ o ∷ tail → next ≤ number + 1 → number + length rest ≤ most → next + length tail ≤ most
few_left most number next rest tail o first on few =
    let all = ap length first in omega (arith, all, on, few)

-- ---- paths

-- a path is of one number
one_number : (folder : FileName) (most m n : ℕ) (x y : List ℕ) → most < 2 ^ 64 → m ≤ most → n ≤ most → needed_path folder m x ≡ needed_path folder n y → m ≡ n
one_number folder most m n x y small m_in n_in same =
    let reads = number_reads 46 most (omega arith) small in
    let tails : decimal m ++ (codes "." ++ x) ≡ decimal n ++ (codes "." ++ y) = append_cancel_left (codes "/needed-") _ _ (append_cancel_left folder _ _ same) in
    let left : number_at 46 most (decimal m ++ (codes "." ++ x)) ≡ Some (m, x) = ap (number_at 46 most) (sym (append_assoc (decimal m) (codes ".") x)) ∙ reads.again m x m_in in
    let right : number_at 46 most (decimal n ++ (codes "." ++ y)) ≡ Some (n, y) = ap (number_at 46 most) (sym (append_assoc (decimal n) (codes ".") y)) ∙ reads.again n y n_in in
    ap (λ (o : Option (ℕ × List ℕ)). unwrap_or (option_map (λ p. p.0) o) m) (sym left ∙ (ap (number_at 46 most) tails ∙ right))

ends : (folder : FileName) (number : ℕ) (name : FileName) → IsFileOf folder number name → (ending : List ℕ) × (name ≡ needed_path folder number ending)
ends folder number name (inl is) = (codes "trace", is)
ends folder number name (inr (inl is)) = (codes "script", is)
ends folder number name (inr (inr is)) = (codes "image", is)

one_file : (folder : FileName) (most m n : ℕ) (name : FileName) → most < 2 ^ 64 → m ≤ most → n ≤ most → IsFileOf folder m name → IsFileOf folder n name → m ≡ n
one_file folder most m n name small m_in n_in left right =
    let a = ends folder m name left in
    let b = ends folder n name right in
    one_number folder most m n a.0 b.0 small m_in n_in (sym a.1 ∙ b.1)

pub image_is_no_script : (folder : FileName) (number : ℕ) → image_path folder number ≢ script_path folder number
image_is_no_script folder number same =
    let tails : codes "image" ≡ codes "script" = append_cancel_left (codes ".") _ _ (append_cancel_left (decimal number) _ _ (append_cancel_left (codes "/needed-") _ _ (append_cancel_left folder _ _ same))) in cc

-- ---- what another file's writing leaves

pub written_stays : (before after : Contents) (format : Format) (file : List ℕ) (image : Initial) (words : List Patch) (name : FileName) → after name ≡ before name → IsWritten before format file image words name → IsWritten after format file image words name
written_stays before after format file image words name same is = record { bytes = bytes_stay before after name _ same is.bytes; loads = is.loads }

-- the program stays where runs are written
pub program_stays : (held before after : Contents) (fences : Fences) (image : Initial) (file : List ℕ) (allowance : Allowance) (write : Option Name) → IfSome write (λ w. after w.now ≡ before w.now)
    → IsProgramKept held before fences image file allowance write → IsProgramKept held after fences image file allowance write
program_stays held before after fences image file allowance None same is = tt
program_stays held before after fences image file allowance (Some w) same is = go (enough_words allowance) is
  where
    go : (words : Option (List Patch)) → IsKept held before fences image file w.now words → IsKept held after fences image file w.now words
    go None still = same ∙ still
    go (Some words) written = written_stays before after (format_of fences.raw) file image words w.now same written

script_still : (before after : Contents) (config : Config) (kib : ℕ) (path : FileName) (script : Realisation) → after path ≡ before path → IsScriptAt before config kib path script → IsScriptAt after config kib path script
script_still before after config kib path (Events events) same is = script_stays before after path _ same is
script_still before after config kib path NoMemory same is = is
script_still before after config kib path Limit same is = is
script_still before after config kib path Unrealised same is = is

-- a file that isn't the one of a path is as it was
pub unwritten_stays : (write : Option Name) (before after : Contents) (path : FileName) → ((other : FileName) → other ≢ path → after other ≡ before other) → IfSome write (λ w. path ≢ w.now) → IfSome write (λ w. after w.now ≡ before w.now)
unwritten_stays None before after path others apart = tt
unwritten_stays (Some w) before after path others apart = others w.now (λ same. apart (sym same))

pub both_stay : (write : Option Name) (held mid left : Contents) → IfSome write (λ w. mid w.now ≡ held w.now) → IfSome write (λ w. left w.now ≡ mid w.now) → IfSome write (λ w. left w.now ≡ held w.now)
both_stay None held mid left first second = tt
both_stay (Some w) held mid left first second = second ∙ first

pub none_stay : (write : Option Name) (held left : Contents) → left ≡ held → IfSome write (λ w. left w.now ≡ held w.now)
none_stay None held left same = tt
none_stay (Some w) held left same = ap (λ (h : Contents). h w.now) same

-- ---- one ordering after the other

module _ (fences : Fences) (config : Config) (kib : ℕ) (image : Initial) (file : List ℕ) (audit : Audit) (folder : FileName) where
  way_still : (before after : Contents) (words : List Patch) (number : ℕ) (way : Way) → ((name : FileName) → IsFileOf folder number name → after name ≡ before name) → IsShownAt before fences config kib image file words folder number way
      → IsShownAt after fences config kib image file words folder number way
  way_still before after words number (Machine script) same is = (
    script_still before after config kib (script_path folder number) script (same (script_path folder number) (inr (inl refl))) is.0,
    written_stays before after _ file image words (image_path folder number) (same (image_path folder number) (inr (inr refl))) is.1,
  )
  way_still before after words number (ModelAlone trace) same is = trace_stays before after (trace_path folder number) _ (same (trace_path folder number) (inl refl)) is
  way_still before after words number (Model trace) same is = trace_stays before after (trace_path folder number) _ (same (trace_path folder number) (inl refl)) is

  still : (before after : Contents) (number : ℕ) (needed : List Needed) → ((n : ℕ) (name : FileName) → number ≤ n → n < number + length needed → IsFileOf folder n name → after name ≡ before name)
      → AreShownFrom before fences config kib image file audit folder number needed → AreShownFrom after fences config kib image file audit folder number needed
  still before after number [] same shown = tt
  still before after number ((o, way) ∷ rest) same shown = (
    way_still before after (patches_without o audit.own.items) number way (λ name is. same number name (omega arith) (omega arith) is) shown.0,
    still before after (number + 1) rest (λ n name from below. same n name (omega (arith, from)) (omega (arith, below))) shown.1,
  )

  push : (now : Contents) (number : ℕ) (done : List Needed) (n : Needed) → AreShownFrom now fences config kib image file audit folder number done → IsShownWithout now fences config kib image file audit folder (number + length done) n
      → AreShownFrom now fences config kib image file audit folder number (done ++ n ∷ [])
  push now number [] n shown is =
      let here : number + 0 ≡ number = omega arith in (subst (λ i. IsShownWithout now fences config kib image file audit folder i n) here is, tt)
  push now number (x ∷ done) n shown is =
      let next : number + length (x ∷ done) ≡ number + 1 + length done = omega arith in
      (shown.0, push now (number + 1) done n shown.1 (subst (λ i. IsShownWithout now fences config kib image file audit folder i n) next is))

  -- as many as the number are shown, of those before the orderings that are left
  pub record HasShown (now : Contents) (number : ℕ) (rest : List ImageOrdering) : Type 0 where
    pub done : List Needed
    pub whole : done ++ needed_in audit rest ≡ needed_in audit audit.met.items
    pub count : length done ≡ number
    pub shown : AreShownFrom now fences config kib image file audit folder 1 done

  pub none_shown : (now : Contents) (rest : List ImageOrdering) → rest ≡ audit.met.items → HasShown now 0 rest
  none_shown now rest is = record { done = []; whole = ap (needed_in audit) is; count = refl; shown = tt }

  pub one_passed : (now : Contents) (number : ℕ) (rest tail : List ImageOrdering) (o : ImageOrdering) → rest ≡ o ∷ tail → shown_without audit o ≡ None → HasShown now number rest → HasShown now number tail
  one_passed now number rest tail o first none has =
      let on : needed_in audit rest ≡ needed_in audit tail = ap (needed_in audit) first ∙ ap (λ r. needed_with o r (needed_in audit tail)) none in
      record { done = has.done; whole = ap (λ (xs : List Needed). has.done ++ xs) (sym on) ∙ has.whole; count = has.count; shown = has.shown }

  pub one_shown : (before after : Contents) (most number next : ℕ) (rest tail : List ImageOrdering) (o : ImageOrdering) (way : Way) → most < 2 ^ 64 → next ≤ most → next ≡ number + 1 → rest ≡ o ∷ tail → shown_without audit o ≡ Some way
      → SparesOthers (IsFileOf folder next) before after → IsShownWithout after fences config kib image file audit folder next (o, way) → HasShown before number rest → HasShown after next tail
  one_shown before after most number next rest tail o way small next_in next_is first some spares is has =
      let on : needed_in audit rest ≡ (o, way) ∷ needed_in audit tail = ap (needed_in audit) first ∙ ap (λ r. needed_with o r (needed_in audit tail)) some in
      let count = has.count in
      let place : 1 + length has.done ≡ next = omega (arith, count, next_is) in
      record {
        done = has.done ++ (o, way) ∷ [];
        whole = append_assoc has.done ((o, way) ∷ []) (needed_in audit tail) ∙ (ap (λ (xs : List Needed). has.done ++ xs) (sym on) ∙ has.whole);
        count = length-append has.done ((o, way) ∷ []) ∙ omega (arith, count, next_is);
        shown = push after 1 has.done (o, way) (still before after 1 has.done apart has.shown) (subst (λ i. IsShownWithout after fences config kib image file audit folder i (o, way)) (sym place) is);
      }
    where
      apart : (n : ℕ) (name : FileName) → 1 ≤ n → n < 1 + length has.done → IsFileOf folder n name → after name ≡ before name
      apart n name from below at = elim (spares name) [
        | inl same ↦ same
        | inr here ↦
            let count = has.count in
            let bad : n ≡ next = one_file folder most n next name small (omega (arith, below, count, next_is, next_in)) next_in at here in absurd (omega (arith, bad, below, count, next_is))
      ]

  -- one ordering was looked at
  pub one_step : (before after : Contents) (most number next : ℕ) (rest tail : List ImageOrdering) (o : ImageOrdering) → most < 2 ^ 64 → number + 1 ≤ most → rest ≡ o ∷ tail
      → IsPassed before after fences config kib image file audit folder number next o (shown_without audit o) → SparesOthers (IsFileOf folder (number + 1)) before after → HasShown before number rest → HasShown after next tail
  one_step before after most number next rest tail o small room first is spares has = go (shown_without audit o) refl is
    where
      go : (r : Option Way) → shown_without audit o ≡ r → IsPassed before after fences config kib image file audit folder number next o r → HasShown after next tail
      go None none (same, left) = subst (λ h. HasShown h next tail) (sym left) (subst (λ n. HasShown before n tail) (sym same) (one_passed before number rest tail o first none has))
      go (Some way) some (on, shown) = one_shown before after most number next rest tail o way small (omega (arith, on, room)) on first some (subst (λ n. SparesOthers (IsFileOf folder n) before after) (sym on) spares) shown has

  pub few_more : (before after : Contents) (number next : ℕ) (o : ImageOrdering) (r : Option Way) → IsPassed before after fences config kib image file audit folder number next o r → next ≤ number + 1
  few_more before after number next o None is = let same = is.0 in omega (arith, same)
  few_more before after number next o (Some way) is = let on = is.0 in omega (arith, on)

  -- none is left
  pub all_shown : (now : Contents) (number : ℕ) (rest : List ImageOrdering) → rest ≡ [] → HasShown now number rest → AreShown now fences config kib image file audit folder
  all_shown now number rest none has =
      let all : has.done ≡ needed_in audit audit.met.items = sym (append-nil has.done) ∙ (ap (λ (xs : List ImageOrdering). has.done ++ needed_in audit xs) (sym none) ∙ has.whole) in
      subst (AreShownFrom now fences config kib image file audit folder 1) all has.shown
