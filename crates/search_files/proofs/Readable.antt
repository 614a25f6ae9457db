-- The trace of a run from reset is within the limits of a trace's text.
use Rattle.std.proofs.Common.{◌≡◌, ◌∙◌, ◌+◌, ◌*◌, ◌/◌, ◌^◌, ◌<◌, ◌≤◌, ℕ, suc, zero, true, List, [], ◌∷◌, Option, Some, None, All, ap, arith, length, refl, slice_index_or, subst, sym}
use Rattle.std.specs.Prelude.{slice_index}
use Rattle.std.specs.List.{AllByRecursion, list_all}
use Rattle.std.proofs.lemmas.Bool.{and_parts, false≢true}
use Rattle.std.proofs.lemmas.List.Elements.{recursion_from_All}
use Rattle.machine_types.specs.declared.limits.TheConstants.{MAX_ENTRIES}
use Rattle.elf_loader.specs.Image.{Initial, IsImage}
use Rattle.elf_loader.specs.Size.{IsMemoryKib, IsMemorySize}
use Rattle.hart.specs.declared.retired.Retired.{Retired}
use Rattle.hart.specs.declared.status.Status.{Status}
use Rattle.hart.specs.declared.status.Status.TheVariants.{Running, Stopped, Exited}
use Rattle.hart.specs.Run.{is_run}
use Rattle.machine_types.proofs.Within.{config_limits}
use Rattle.machine_types.specs.declared.config.Config.{Config}
use Rattle.machine_model.specs.Ranges.{HasCode, HasWords, NamesPlace}
use Rattle.machine_model.proofs.ranges.Runs.{named_in_range, runs_in_range}
use Rattle.memory_model.specs.Traces.{are_runs_from, is_among, names_in}
use Rattle.trace_recorder.specs.History.{History}
use Rattle.trace_recorder.specs.declared.operation.OpId.{OpId}
use Rattle.trace_text.specs.TraceHeads.{IsTraceHead}
use Rattle.trace_text.specs.TraceLimits.{IsHart, IsLoaded, IsLogged, IsOperation, IsRetired, IsStatus, IsTrace}
use Rattle.trace_text.specs.Traces.{head_of}

all_more : {X : Type 0} (P Q : X → Type 0) → ((x : X) → P x → Q x) → (xs : List X) → AllByRecursion P xs → AllByRecursion Q xs
all_more P Q more [] all = tt
all_more P Q more (x ∷ xs) all = (more x all.0, all_more P Q more xs all.1)

-- ---- entries, statuses and names

loaded_fits : (o : Option ℕ) → ((n : ℕ) → o ≡ Some n → n < 2 ^ 32) → IsLoaded o
loaded_fits None few = tt
loaded_fits (Some n) few = few n refl

retired_fits : (r : Retired) → HasWords r → IsRetired r
retired_fits r w = record { pc = w.pc; word = w.word; loaded = loaded_fits r.loaded w.loaded }

harts_fit : (lists : List (List Retired)) → AllByRecursion (AllByRecursion HasWords) lists → AllByRecursion (λ list. length list ≤ MAX_ENTRIES) lists → AllByRecursion IsHart lists
harts_fit [] all few = tt
harts_fit (list ∷ lists) all few = ((all_more HasWords IsRetired retired_fits list all.0, few.0), harts_fit lists all.1 few.1)

status_fits : (status : Status) → HasCode status → IsStatus status
status_fits Running has = tt
status_fits (Stopped code) has = has.stopped code refl
status_fits (Exited code) has = has.exited code refl

as_many : (image : Initial) (harts id : ℕ) (lists : List (List Retired)) (statuses : List Status) → are_runs_from image harts id lists statuses ≡ true → length lists ≡ length statuses
as_many image harts id [] [] e = refl
as_many image harts id [] (status ∷ statuses) e = absurd (false≢true e)
as_many image harts id (list ∷ lists) [] e = absurd (false≢true e)
as_many image harts id (list ∷ lists) (status ∷ statuses) e =
    let rest = as_many image harts (id + 1) lists statuses (and_parts (is_run image id harts list status) (are_runs_from image harts (id + 1) lists statuses) e).1 in
    ap suc rest

few_at : (lists : List (List Retired)) → AllByRecursion (λ list. length list ≤ MAX_ENTRIES) lists → (h : ℕ) → length (slice_index_or lists h []) ≤ MAX_ENTRIES
few_at [] all h = omega arith
few_at (list ∷ lists) all zero = all.0
few_at (list ∷ lists) all (suc h) = few_at lists all.1 h

-- ---- memory and the head

bytes_small : (bytes : List ℕ) → ((k : ℕ) → slice_index bytes k < 256) → AllByRecursion (λ b. b < 256) bytes
bytes_small [] fit = tt
bytes_small (b ∷ bytes) fit = (fit 0, bytes_small bytes (λ k. fit (suc k)))

whole_kib : (size : ℕ) → IsMemorySize size → size / 1024 * 1024 ≡ size
whole_kib size is = let pages = is.whole_pages in omega (arith, pages)

memory_kib : (size : ℕ) → IsMemorySize size → IsMemoryKib (size / 1024)
memory_kib size is =
    let pages = is.whole_pages in
    let low = is.at_least in
    let high = is.at_most in
    record { whole_pages = omega (arith, pages); at_least = omega (arith, low); at_most = omega (arith, high) }

-- of harts that are as many as a machine has, from an image that can be, without messages
module _ (config : Config) (t : History) (here : IsImage t.image) (harts : length t.entries ≡ config.harts)
    (runs : are_runs_from t.image (length t.entries) 0 t.entries t.statuses ≡ true) (only : list_all (is_among (names_in t)) t.performed ≡ true)
    (places : All (λ (list : List Retired). length list ≤ MAX_ENTRIES) t.entries) (no_log : t.log ≡ []) where
  lists : length t.entries ≡ length t.statuses
  lists = as_many t.image (length t.entries) 0 t.entries t.statuses runs

  short : AllByRecursion (λ list. length list ≤ MAX_ENTRIES) t.entries
  short = recursion_from_All (λ (list : List Retired). length list ≤ MAX_ENTRIES) t.entries places

  ranges : AllByRecursion (AllByRecursion HasWords) t.entries × AllByRecursion HasCode t.statuses
  ranges = runs_in_range t.image (length t.entries) 0 t.entries t.statuses here runs

  placed : (name : OpId) → NamesPlace t name → IsOperation (length t.statuses) name
  placed name at = let few = few_at t.entries short name.hart in let below = at.1 in (subst (λ n. name.hart < n) lists at.0, omega (arith, few, below))

  head_fits : IsTraceHead (head_of t)
  head_fits =
      let limits = config_limits config in
      let count : length t.statuses ≡ config.harts = sym lists ∙ harts in
      let some = limits.some_harts in
      let few = limits.few_harts in
      let size = whole_kib (length t.image.bytes) here.legal_size in
      let high = here.entry_inside.1 in
      record {
        some_hart = omega (arith, some, count);
        few_harts = omega (arith, few, count);
        memory = memory_kib (length t.image.bytes) here.legal_size;
        aligned = here.aligned_entry;
        from = here.entry_inside.0;
        inside = omega (arith, high, size);
      }

  pub has_text : IsTrace t
  has_text = record {
    head = head_fits;
    memory = record { len = sym (whole_kib (length t.image.bytes) here.legal_size); small = bytes_small t.image.bytes here.bytes_fit };
    lists = lists;
    entries = harts_fit t.entries ranges.0 short;
    performed = all_more (NamesPlace t) (IsOperation (length t.statuses)) placed t.performed (named_in_range t t.performed only);
    log = subst (AllByRecursion (IsLogged (head_of t))) (sym no_log) tt;
    statuses = all_more HasCode IsStatus status_fits t.statuses ranges.1;
  }
