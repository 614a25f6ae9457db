-- What holds of a machine's state holds at reset, and it means that each line has one writer or many readers.
use Rattle.std.proofs.Common.{ℕ, ◌/◌, ◌%◌, Bool, true, false, List, [], ◌≡◌, ◌<◌, ◌≤◌, None, refl, ap, sym, ◌∙◌, subst, length, replicate}
use Rattle.std.specs.Prelude.{◌≢◌, map, slice_index_or}
use Rattle.std.specs.List.{range_with_len}
use Rattle.std.specs.Ordering.{nat_cmp}
use Rattle.std.specs.FinMap.{get-empty}
use Rattle.std.specs.FinSet.{contains-empty}
use Rattle.std.proofs.lemmas.Bool.{cases_lt}
use Rattle.std.proofs.lemmas.List.{get_or-replicate, get_or_past, length-map, length-replicate}
use Rattle.std.proofs.lemmas.List.FromFn.{get_or-map-range_with_len, length-map-range_with_len}
use mathlib.Core.Logic.{◌⊎◌, inl, inr}
use native.Mathlib.Omega.{arith}
use Rattle.backing_memory.specs.Memory as memory
use Rattle.backing_memory.specs.Memory.{lines_of, pieces_of}
use Rattle.client_cache.specs.Cache.{copy_at}
use Rattle.client_cache.specs.Held.{perm_of}
use Rattle.directory.specs.Directory.{line_at, quiet}
use Rattle.directory.specs.Lines.{known_at, unknown}
use Rattle.directory.specs.declared.answer.Known.{Known}
use Rattle.directory.specs.declared.answer.Transaction.{Transaction}
use Rattle.elf_loader.specs.Image.{Initial}
use Rattle.machine_model.specs.Coherent.{perm_at}
use Rattle.machine_model.specs.Views.{Node, State, line_size, node_at, opening, opening_node, place_of}
use Rattle.machine_types.specs.declared.config.Config.{Config}
use Rattle.machine_model.proofs.coherence.LineKept.{IsKept}
use Rattle.machine_model.proofs.coherence.LineStands.{Alone, Holds, Side, Stands, noted_none, noted_writer, quiet_side}
use Rattle.machine_model.proofs.coherence.WorldFits.{IsFit, kit_at, kit_of}
use Rattle.machine_model.proofs.coherence.WorldKept.{Kit, IsWell, is_line, side}
use Rattle.machine_model.proofs.coherence.WorldSteps.{Fits}
use Rattle.tl_types.specs.Line.{length_of}
use Rattle.tl_types.specs.declared.line.LineData.{LineData}
use Rattle.tl_types.specs.declared.line.LineSize.{LineSize}
use Rattle.tl_types.specs.declared.line.LineSize.TheVariants.{Bytes16, Bytes64}
use Rattle.tl_types.specs.declared.permission.Perm.TheVariants.{Nothing, Trunk}

pub same_everywhere : {A : Type 0} (n : ℕ) (x : A) (j : ℕ) → slice_index_or (replicate n x) j x ≡ x
same_everywhere n x j = go (cases_lt j n)
  where
    go : (j < n) ⊎ (n ≤ j) → slice_index_or (replicate n x) j x ≡ x
    go (inl lt) = get_or-replicate n j x x lt
    go (inr past) = get_or_past (replicate n x) j x (rw (length-replicate n x) past)

lines_in : (size : LineSize) (bytes : List ℕ) → length (lines_of size bytes) ≡ length bytes / length_of size
lines_in Bytes16 bytes = length-map (pieces_of 16 bytes) _ ∙ length-map-range_with_len _ 0 (length bytes / 16)
lines_in Bytes64 bytes = length-map (pieces_of 64 bytes) _ ∙ length-map-range_with_len _ 0 (length bytes / 64)

module _ (image : Initial) (config : Config) where
  abbrev s : State
  s = opening image config

  -- what coherence asks of a node, and its reservation, at reset
  record IsFresh (m : Node) : Type 0 where
    kit : kit_of m ≡ kit_of (opening_node image config 0)
    none : m.reserved ≡ None

  fresh : (j : ℕ) → IsFresh (node_at s j)
  fresh j = go (cases_lt j config.harts)
    where
      go : (j < config.harts) ⊎ (config.harts ≤ j) → IsFresh (node_at s j)
      go (inl lt) = subst IsFresh (sym (get_or-map-range_with_len (opening_node image config) 0 config.harts j j _ lt (omega arith))) (record { kit = refl; none = refl })
      go (inr past) = subst IsFresh (sym (get_or_past (map (opening_node image config) (range_with_len 0 config.harts)) j _ (rw (length-map-range_with_len (opening_node image config) 0 config.harts) past))) (record { kit = refl; none = refl })

  empty_at : (l : ℕ) → side (kit_of (opening_node image config 0)) unknown l ≡ quiet_side
  empty_at l = λ k. record {
    copy = get-empty nat_cmp l k;
    acquiring = contains-empty nat_cmp l k;
    releasing = contains-empty nat_cmp l k;
    a = [];
    b = [];
    c = [];
    d = [];
    e = [];
    noted = Nothing;
    awaited = false;
  }

  quiet_at : (h l : ℕ) (z : Known) → z ≡ unknown → side (kit_at s h) z l ≡ quiet_side
  quiet_at h l z e = ap (λ z. side (kit_at s h) z l) e ∙ ap (λ (x : Kit). side x unknown l) ((fresh h).kit) ∙ empty_at l

  entry_quiet : (l : ℕ) → line_at s.views.notes (place_of (line_size s) l) ≡ quiet config.harts
  entry_quiet l = same_everywhere _ (quiet config.harts) (place_of (line_size s) l)

  known_quiet : (l h : ℕ) → known_at (line_at s.views.notes (place_of (line_size s) l)) h ≡ unknown
  known_quiet l h = ap (λ y. known_at y h) (entry_quiet l) ∙ same_everywhere config.harts unknown h

  -- the lines' last writes at reset
  abbrev pub opening_last : ℕ → LineData
  opening_last l = memory.line_data s.views.memory (place_of (line_size s) l)

  opening_well : IsWell image (line_size s) (length s.views.nodes) (kit_at s) s.views.notes s.views.memory opening_last
  opening_well = record {
    kept = λ l on. subst (λ (t : Transaction). IsKept (λ h. side (kit_at s h) (known_at (line_at s.views.notes (place_of (line_size s) l)) h) l) (memory.line_data s.views.memory (place_of (line_size s) l)) t (memory.line_data s.views.memory (place_of (line_size s) l)))
        (sym (ap (λ y. y.transaction) (entry_quiet l))) (record {
          stands = λ h. subst (Stands _ Alone) (sym (quiet_at h l _ (known_quiet l h))) (Holds Alone None tt tt);
          apart = λ a b ne e. ap (λ (x : Side). x.noted) (quiet_at b l _ (known_quiet l b));
          home = λ none. refl;
        });
    outside = λ l off h. quiet_at h l unknown refl;
    notes_room = length-replicate _ (quiet config.harts);
    memory_room = lines_in config.line image.bytes;
    known = λ l on. ap (λ y. length y.known) (entry_quiet l) ∙ length-replicate config.harts unknown ∙ sym (length-map-range_with_len (opening_node image config) 0 config.harts);
    requester = λ l r g on e. cc (e, ap (λ y. y.transaction) (entry_quiet l));
  }

  pub opening_is_fit : length image.bytes % 4096 ≡ 0 → IsFit s opening_last
  opening_is_fit pages = record {
    pages = pages;
    well = opening_well;
    sized = λ h. ap (λ (x : Kit). x.cache.shape.size) ((fresh h).kit);
    reserved = λ h word e. cc (e, (fresh h).none);
  }

  pub opening_fits : length image.bytes % 4096 ≡ 0 → Fits s
  opening_fits pages = (opening_last, opening_is_fit pages)

-- at most one writer of each line, in a state that fits
pub one_writer : (s : State) → Fits s → (a b line : ℕ) → a ≢ b → perm_at s a line ≡ Trunk → perm_at s b line ≡ Nothing
one_writer s fit a b l ne e = go (is_line s.trace.image (line_size s) (length s.views.nodes) l) refl
  where
    go : (t : Bool) → is_line s.trace.image (line_size s) (length s.views.nodes) l ≡ t → perm_of (copy_at (node_at s b).cache l) ≡ Nothing
    go true on = let k = fit.1.well.kept l on in noted_none (k.stands b) (k.apart a b ne (noted_writer (k.stands a) e))
    go false off = ap (λ (x : Side). perm_of x.copy) (fit.1.well.outside l off b)
