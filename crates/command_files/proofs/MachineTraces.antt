-- What a machine's trace records is within the limits of its text.
use Rattle.std.proofs.Common.{ℕ, suc, ◌*◌, ◌/◌, ◌%◌, ◌^◌, ◌<◌, ◌≤◌, List, [], ◌∷◌, ◌≡◌, Option, Some, None, refl, sym, ◌∙◌, subst, length, slice_index_or}
use Rattle.std.specs.Prelude.{slice_index}
use Rattle.std.specs.List.{AllByRecursion}
use Rattle.machine_types.proofs.Within.{config_limits}
use Rattle.machine_types.specs.declared.limits.TheConstants.{MAX_ENTRIES}
use native.Mathlib.Omega.{arith}
use Rattle.elf_loader.specs.Size.{IsMemoryKib, IsMemorySize}
use Rattle.hart.specs.declared.retired.Retired.{Retired}
use Rattle.hart.specs.declared.status.Status.{Status}
use Rattle.hart.specs.declared.status.Status.TheVariants.{Running, Stopped, Exited}
use Rattle.machine_model.specs.Events.{after_events}
use Rattle.machine_model.specs.Ranges.{CarriesWhole, HasCode, HasWords, IsInRange, IsOfMachine, NamesPlace, IsWhole}
use Rattle.machine_model.specs.Ready.{IsSound}
use Rattle.machine_model.specs.Views.{State, line_size, opening}
use Rattle.machine_model.proofs.coherence.LinePlaces.{IsPiece, piece}
use Rattle.machine_model.proofs.ranges.Log.{in_range_always}
use Rattle.machine_model.proofs.ready.Always.{sound_always}
use Rattle.tl_types.specs.Line.{length_of}
use Rattle.tl_types.specs.declared.line.LineData.{LineData}
use Rattle.tl_types.specs.declared.line.LineData.TheVariants as lines
use Rattle.tl_types.specs.declared.line.LineSize.{LineSize}
use Rattle.tl_types.specs.declared.line.LineSize.TheVariants as sizes
use Rattle.tl_types.specs.declared.message.Body.{Body}
use Rattle.tl_types.specs.declared.message.Body.TheVariants.{AcquireBlock, ProbeBlock, ProbeAck, ProbeAckData, Release, ReleaseData, Grant, GrantData, ReleaseAck, GrantAck}
use Rattle.trace_recorder.specs.History.{History}
use Rattle.trace_recorder.specs.declared.logged.Logged.{Logged}
use Rattle.trace_recorder.specs.declared.operation.OpId.{OpId}
use Rattle.command_files.specs.MachineTraces.{EveryTraceHasAText}
use Rattle.trace_text.specs.TraceHeads.{IsTraceHead}
use Rattle.trace_text.specs.TraceLimits.{IsBody, IsData, IsHart, IsLoaded, IsLogged, IsOperation, IsRetired, IsStatus}
use Rattle.trace_text.specs.Traces.{head_of}

all_map : {X : Type 0} (P Q : X → Type 0) → ((x : X) → P x → Q x) → (xs : List X) → AllByRecursion P xs → AllByRecursion Q xs
all_map P Q f [] all = tt
all_map P Q f (x ∷ xs) all = (f x all.0, all_map P Q f xs all.1)

-- ---- entries and statuses

loaded_fits : (o : Option ℕ) → ((n : ℕ) → o ≡ Some n → n < 2 ^ 32) → IsLoaded o
loaded_fits None few = tt
loaded_fits (Some n) few = few n refl

retired_fits : (r : Retired) → HasWords r → IsRetired r
retired_fits r w = record { pc = w.pc; word = w.word; loaded = loaded_fits r.loaded w.loaded }

harts_fit : (lists : List (List Retired)) → AllByRecursion (AllByRecursion HasWords) lists → ((h : ℕ) → length (slice_index_or lists h []) ≤ MAX_ENTRIES) → AllByRecursion IsHart lists
harts_fit [] all few = tt
harts_fit (list ∷ lists) all few = ((all_map HasWords IsRetired retired_fits list all.0, few 0), harts_fit lists all.1 (λ h. few (suc h)))

status_fits : (status : Status) → HasCode status → IsStatus status
status_fits Running has = tt
status_fits (Stopped code) has = has.stopped code refl
status_fits (Exited code) has = has.exited code refl

-- ---- messages

data_fits : (size : LineSize) (d : LineData) → IsWhole size d → IsData size d
data_fits sizes.Bytes16 (lines.Bytes16 d) whole = record { len = whole.count; small = whole.bytes }
data_fits sizes.Bytes64 (lines.Bytes64 d) whole = record { len = whole.count; small = whole.bytes }
data_fits sizes.Bytes16 (lines.Bytes64 d) whole = cc whole.sized
data_fits sizes.Bytes64 (lines.Bytes16 d) whole = cc whole.sized

body_fits : (size : LineSize) (body : Body) → CarriesWhole size body → IsBody size body
body_fits size (ProbeAckData change d) whole = data_fits size d whole
body_fits size (ReleaseData change d) whole = data_fits size d whole
body_fits size (GrantData cap d) whole = data_fits size d whole
body_fits size (AcquireBlock grow) whole = tt
body_fits size (ProbeBlock cap) whole = tt
body_fits size (ProbeAck change) whole = tt
body_fits size (Release change) whole = tt
body_fits size (Grant cap) whole = tt
body_fits size ReleaseAck whole = tt
body_fits size GrantAck whole = tt

some_length : (size : LineSize) → 1 ≤ length_of size
some_length sizes.Bytes16 = omega arith
some_length sizes.Bytes64 = omega arith

logged_fits : (s : State) (t : History) → t.line ≡ line_size s → length t.statuses ≡ s.views.config.harts → length t.image.bytes / 1024 * 1024 ≡ length s.trace.image.bytes → (l : Logged) → IsOfMachine s l → IsLogged (head_of t) l
logged_fits s t line harts kib l is =
    let p : IsPiece s.trace.image l.message.line (length_of (line_size s)) = piece s.trace.image l.message.line (length_of (line_size s)) is.line in
    record {
      hart = subst (λ n. l.hart < n) (sym harts) is.hart;
      whole = subst (λ size. l.message.line % length_of size ≡ 0) (sym line) p.aligned;
      from = p.low;
      inside = let high = p.high in let some = some_length (line_size s) in omega (arith, high, some, kib);
      body = subst (λ size. IsBody size l.message.body) (sym line) (body_fits (line_size s) l.message.body is.body);
    }

-- ---- memory and harts

bytes_small : (bytes : List ℕ) → ((k : ℕ) → slice_index bytes k < 256) → AllByRecursion (λ b. b < 256) bytes
bytes_small [] fit = tt
bytes_small (b ∷ bytes) fit = (fit 0, bytes_small bytes (λ k. fit (suc k)))

whole_kib : (size : ℕ) → IsMemorySize size → size / 1024 * 1024 ≡ size
whole_kib size is = let pages = is.whole_pages in omega (arith, pages)

memory_kib : (size : ℕ) → IsMemorySize size → IsMemoryKib (size / 1024)
memory_kib size is =
    let pages = is.whole_pages in
    let low = is.at_least in
    let high = is.at_most in
    record { whole_pages = omega (arith, pages); at_least = omega (arith, low); at_most = omega (arith, high) }

head_fits : (s : State) → IsSound s → IsTraceHead (head_of s.trace)
head_fits s k =
    let limits = config_limits s.views.config in
    let some = limits.some_harts in
    let few = limits.few_harts in
    let count = k.statuses in
    let size = whole_kib (length s.trace.image.bytes) k.image.legal_size in
    let high = k.image.entry_inside.1 in
    record {
      some_hart = omega (arith, some, count);
      few_harts = omega (arith, few, count);
      memory = memory_kib (length s.trace.image.bytes) k.image.legal_size;
      aligned = k.image.aligned_entry;
      from = k.image.entry_inside.0;
      inside = omega (arith, high, size);
    }

-- ---- the trace

pub every_trace_has_a_text : EveryTraceHasAText
every_trace_has_a_text image config events is = record {
  head = head_fits s sound;
  memory = record { len = sym (whole_kib (length t.image.bytes) sound.image.legal_size); small = bytes_small t.image.bytes sound.image.bytes_fit };
  lists = lists;
  entries = harts_fit t.entries ranges.entries sound.places;
  performed = all_map (NamesPlace t) (IsOperation (length t.statuses)) placed t.performed ranges.performed;
  log = all_map (IsOfMachine s) (IsLogged (head_of t)) (logged_fits s t sound.line sound.statuses (whole_kib (length t.image.bytes) sound.image.legal_size)) t.log ranges.log;
  statuses = all_map HasCode IsStatus status_fits t.statuses ranges.statuses;
}
  where
    s : State
    s = after_events (opening image config) events

    t : History
    t = s.trace

    sound : IsSound s
    sound = sound_always image config events is

    ranges : IsInRange s
    ranges = in_range_always image config events is

    lists : length t.entries ≡ length t.statuses
    lists = sound.entries ∙ sym sound.statuses

    placed : (name : OpId) → NamesPlace t name → IsOperation (length t.statuses) name
    placed name at = let few = sound.places name.hart in let below = at.1 in (subst (λ n. name.hart < n) lists at.0, omega (arith, few, below))
