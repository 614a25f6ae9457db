-- What a hart does alone, and its writes, keep what holds of a machine's state.
use Rattle.std.proofs.Common.{ℕ, Bool, true, false, List, [], ◌∷◌, ◌++◌, ◌≡◌, ◌<◌, Option, Some, None, refl, ap, sym, ◌∙◌, subst, length}
use Rattle.std.specs.Prelude.{◌==◌, if◌then◌else◌}
use Rattle.std.specs.FinSet as set
use Rattle.std.proofs.lemmas.Bool.{eq-eqb}
use Rattle.std.proofs.lemmas.List.{length-set}
use Rattle.client_cache.proofs.AtLines.{put_own, put_other}
use Rattle.client_cache.specs.AtLine.{KeepsOthers}
use Rattle.client_cache.specs.Cache.{copy_at, word_written, word_written_in, written}
use Rattle.client_cache.specs.Held.{bytes_in, perm_of}
use Rattle.client_cache.specs.Word.{with_word}
use Rattle.client_cache.specs.declared.held.Held.{Held}
use Rattle.client_cache.specs.declared.held.Held.TheVariants as held
use Rattle.hart.specs.Local.{private_row}
use Rattle.hart.specs.Run.{after_instr, reached}
use Rattle.hart.specs.declared.retired.Retired.{Retired}
use Rattle.hart.specs.declared.state.Hart.{Hart}
use Rattle.hart.specs.declared.status.Status.{Status}
use Rattle.hart.specs.declared.status.Status.TheVariants.{Running, Stopped, Exited}
use Rattle.machine_model.specs.Changing.{does, drained, performs, performs_own, next_place, put_behind, retired, stopped, went_alone, with_buffer, with_entries, with_halt, with_reservation, writes_word}
use Rattle.machine_model.specs.Deliveries.{is_trunk}
use Rattle.machine_model.specs.Views.{Node, State, Views, line_size, node_at, with_node, with_trace}
use Rattle.machine_model.specs.Words.{bytes_of_word}
use Rattle.machine_model.specs.declared.act.Act.{Act}
use Rattle.machine_model.specs.declared.act.Act.TheVariants as act
use Rattle.machine_model.specs.declared.act.Deed.{Deed}
use Rattle.machine_model.specs.declared.act.Deed.TheVariants as deed
use Rattle.machine_model.proofs.coherence.LineKept.{not_eq}
use Rattle.machine_model.proofs.coherence.LineStands.{IsLast, newest}
use Rattle.machine_model.proofs.coherence.LineViews.{written_here, written_elsewhere}
use Rattle.machine_model.proofs.coherence.WorldFits.{IsFit, HoldsReserved, fits, fits_alone, framed_node, framed_trace, kit_at, kit_changed, kit_of, same_reserved}
use Rattle.machine_model.proofs.coherence.WorldKept.{is_line, writes}
use Rattle.machine_types.specs.declared.model.MemoryModel.{MemoryModel}
use Rattle.rv32_decode.specs.declared.instruction.Instr.{Instr}
use Rattle.store_buffer.specs.ByteMask.{marks_of_access}
use Rattle.store_buffer.specs.Entry.{entry_of}
use Rattle.store_buffer.specs.Groups.{Groups, after_seal, after_take, oldest}
use Rattle.store_buffer.specs.declared.entry.Entry.{Entry}
use Rattle.tl_types.specs.Line.{line_of}
use Rattle.tl_types.specs.declared.line.LineData.{LineData}
use Rattle.tl_types.specs.declared.line.LineSize.{LineSize}
use Rattle.trace_recorder.specs.History.{History, with_entry, with_performed}

-- the hart may write the word
abbrev pub MayWrite : State → ℕ → ℕ → Type 0
MayWrite s h word = is_trunk (perm_of (copy_at (node_at s h).cache (line_of (line_size s) word))) ≡ true

-- the lines' last writes, behind a write of a word's marked bytes
abbrev pub wrote_word : LineSize → (ℕ → LineData) → ℕ → List Bool → List ℕ → ℕ → LineData
wrote_word size last word marks bytes q = if q == line_of size word then with_word (last q) word marks bytes else last q

-- behind an instruction's deed
abbrev pub last_by : LineSize → Deed → (ℕ → LineData) → ℕ → LineData
last_by size (deed.Sc word value) last = wrote_word size last word (marks_of_access 0 4) (bytes_of_word value)
last_by size (deed.Amo word value) last = wrote_word size last word (marks_of_access 0 4) (bytes_of_word value)
last_by size _ last = last

-- behind an act
abbrev pub last_after : State → ℕ → Act → (ℕ → LineData) → ℕ → LineData
last_after s h (act.Retire entry i d) last = last_by (line_size s) d last
last_after s h (act.Drain word) last = let e = entry_of word (oldest (node_at s h).buffer) in wrote_word (line_size s) last word e.mask e.bytes
last_after s h _ last = last

-- some lines' last writes fit the state
abbrev pub Fits : State → Type 0
Fits s = (last : ℕ → LineData) × IsFit s last

halt_image : (h : ℕ) (status : Status) (t : History) → (with_halt h status t).image ≡ t.image
halt_image h Running t = refl
halt_image h (Stopped code) t = refl
halt_image h (Exited code) t = refl

entries_image : (h : ℕ) (row : List Retired) (t : History) → (with_entries h row t).image ≡ t.image
entries_image h [] t = refl
entries_image h (entry ∷ row) t = entries_image h row (with_entry h entry t)

-- where a hart may write a line, the line lies in memory
pub trunk_line : (s : State) (last : ℕ → LineData) (h l : ℕ) → IsFit s last → (perm_of (copy_at (node_at s h).cache l) ≡ perm_of None → ⊥) → is_line s.trace.image (line_size s) (length s.views.nodes) l ≡ true
trunk_line s last h l i some = go (is_line s.trace.image (line_size s) (length s.views.nodes) l) refl
  where
    go : (t : Bool) → is_line s.trace.image (line_size s) (length s.views.nodes) l ≡ t → t ≡ true
    go true e = refl
    go false e = absurd (some (ap (λ x. perm_of x.copy) (i.well.outside l e h)))

module _ (s : State) (last : ℕ → LineData) (i : IsFit s last) (h : ℕ) (in_h : h < length s.views.nodes) where
  abbrev n : Node
  n = node_at s h

  -- another hart state, output, buffer and trace
  pub alone : (m : Node) → m.cache ≡ n.cache → m.queues ≡ n.queues → HoldsReserved (line_size s) m → IsFit (with_node h m s) last
  alone m cache queues reserved = fits_alone s (with_node h m s) h m last i (framed_node s h m in_h) refl refl cache queues reserved

  hart_moves : (hart : Hart) (r : History) → r.image ≡ s.trace.image → IsFit (with_trace r (with_node h (record n { hart = hart }) s)) last
  hart_moves hart r e = fits_alone s (with_trace r (with_node h (record n { hart = hart }) s)) h (record n { hart = hart }) last i (framed_trace s (with_node h (record n { hart = hart }) s) h _ r e (framed_node s h _ in_h)) refl refl refl refl (λ word q. i.reserved h word q)

  pub stopped_fits : (code : ℕ) → IsFit (stopped h code s) last
  stopped_fits code = hart_moves (record n.hart { status = Stopped code }) (with_halt h (Stopped code) s.trace) refl

  pub retired_fits : (entry : Retired) (i : Instr) → IsFit (retired h entry i s) last
  retired_fits entry instr = hart_moves (after_instr n.hart entry (Some instr)) (with_halt h (after_instr n.hart entry (Some instr)).status (with_entry h entry s.trace)) (halt_image h (after_instr n.hart entry (Some instr)).status (with_entry h entry s.trace))

  pub went_alone_fits : (count : ℕ) → IsFit (went_alone h count s) last
  went_alone_fits count = hart_moves (reached n.hart (private_row s.trace.image n.hart count)) (with_entries h (private_row s.trace.image n.hart count) s.trace) (entries_image h (private_row s.trace.image n.hart count) s.trace)

  pub buffer_fits : (b : Groups) → IsFit (with_buffer h b s) last
  buffer_fits b = alone (record n { buffer = b }) refl refl (λ word q. i.reserved h word q)

  pub reserved_fits : (word : ℕ) → MayWrite s h word → IsFit (with_reservation h (Some word) s) last
  reserved_fits word may = alone (record n { reserved = Some word }) refl refl (λ other q. let e : word ≡ other = cc q in rw (← e) may)

  pub failed_fits : IsFit (with_reservation h None s) last
  failed_fits = alone (record n { reserved = None }) refl refl (λ other q. cc q)

  pub output_fits : (numbers : List ℕ) → IsFit (with_node h (record n { output = numbers }) s) last
  output_fits numbers = alone (record n { output = numbers }) refl refl (λ word q. i.reserved h word q)

  -- a write of a word
  pub writes_fits : (word : ℕ) (marks : List Bool) (bytes : List ℕ) → MayWrite s h word → IsFit (writes_word h word marks bytes s) (wrote_word (line_size s) last word marks bytes)
  writes_fits word marks bytes may = subst (λ size. IsFit (with_node h (record n { cache = word_written n.cache (line_of size word) word marks bytes }) s) next) (sym (i.sized h)) (go (copy_at n.cache l) refl)
    where
      l : ℕ
      l = line_of (line_size s) word

      next : ℕ → LineData
      next = wrote_word (line_size s) last word marks bytes

      go : (o : Option Held) → copy_at n.cache l ≡ o → IsFit (with_node h (record n { cache = word_written_in n.cache l word marks bytes o }) s) next
      go None e = cc (may, ap (λ o. is_trunk (perm_of o)) e)
      go (Some x) e =
          fits s t h m last next i (framed_node s h m in_h)
          (writes s.trace.image (line_size s) (length s.views.nodes) (kit_at s) (kit_at t) s.views.notes s.views.memory last l on i.well h next later (kit_of m) (kit_changed s t h m (framed_node s h m in_h))
          (λ q ne z. written_elsewhere n.cache n.queues z l q later ne) (λ z. written_here n.cache n.queues z l later)
          (λ q ne. ap (λ b. if b then with_word (last q) word marks bytes else last q) (not_eq q l ne))
          (ap (λ b. if b then with_word (last l) word marks bytes else last l) (eq-eqb l l refl) ∙ ap (λ line. with_word line word marks bytes) (sym is_last))
          may)
          refl
          (same_reserved (line_size s) n (written n.cache l later) l written_other (i.reserved h) (λ _. ap (λ o. is_trunk (perm_of o)) (put_own n.cache.copies l (Some (held.Trunk true later)))))
        where
          later : LineData
          later = with_word (bytes_in x) word marks bytes

          m : Node
          m = record n { cache = written n.cache l later }

          t : State
          t = with_node h m s

          on : is_line s.trace.image (line_size s) (length s.views.nodes) l ≡ true
          on = trunk_line s last h l i (λ none. cc (may, ap is_trunk none))

          is_last : bytes_in x ≡ last l
          is_last = subst (IsLast (last l)) e (newest ((i.well.kept l on).stands h))

          written_other : KeepsOthers l n.cache (written n.cache l later)
          written_other q ne = λ k. record { copy = put_other n.cache.copies l (Some (held.Trunk true later)) q ne k; acquiring = set.contains n.cache.acquiring q; releasing = set.contains n.cache.releasing q }

-- operations that are performed
pub performs_fits : (s : State) (last : ℕ → LineData) (h : ℕ) (places : List ℕ) → IsFit s last → IsFit (performs h places s) last
performs_fits s last h [] i = i
performs_fits s last h (place ∷ places) i = performs_fits (with_trace (with_performed (record { hart = h; place = place }) s.trace) s) last h places (record { pages = i.pages; well = i.well; sized = i.sized; reserved = i.reserved })

performs_nodes : (s : State) (h : ℕ) (places : List ℕ) → (performs h places s).views ≡ s.views
performs_nodes s h [] = refl
performs_nodes s h (place ∷ places) = performs_nodes (with_trace (with_performed (record { hart = h; place = place }) s.trace) s) h places

performs_may : (s : State) (h k : ℕ) (places : List ℕ) (word : ℕ) → MayWrite s k word → MayWrite (performs h places s) k word
performs_may s h k [] word may = may
performs_may s h k (place ∷ places) word may = performs_may (with_trace (with_performed (record { hart = h; place = place }) s.trace) s) h k places word may

performs_count : (s : State) (h : ℕ) (places : List ℕ) → length (performs h places s).views.nodes ≡ length s.views.nodes
performs_count s h places = ap (λ v. length v.nodes) (performs_nodes s h places)

-- an instruction's deed, where what it writes and reserves may be written
abbrev pub IsAllowed : State → ℕ → Deed → Type 0
IsAllowed s h (deed.Lr word) = MayWrite s h word
IsAllowed s h (deed.Sc word value) = MayWrite s h word
IsAllowed s h (deed.Amo word value) = MayWrite s h word
IsAllowed s h _ = Unit {0}

module _ (s : State) (last : ℕ → LineData) (i : IsFit s last) (h : ℕ) (in_h : h < length s.views.nodes) where
  pub does_fits : (model : MemoryModel) (d : Deed) → IsAllowed s h d → IsFit (does model h d s) (last_by (line_size s) d last) × (length (does model h d s).views.nodes ≡ length s.views.nodes)
  does_fits model deed.Private may = (i, refl)
  does_fits model (deed.Output number) may = (output_fits s last i h in_h ((node_at s h).output ++ number ∷ []), length-set s.views.nodes h _)
  does_fits model deed.Load may = (performs_fits s last h (next_place s h ∷ []) i, refl)
  does_fits model (deed.Store store) may = (buffer_fits s last i h in_h (put_behind model store (node_at s h).buffer), length-set s.views.nodes h _)
  does_fits model deed.Seal may = (buffer_fits s last i h in_h (after_seal (node_at s h).buffer), length-set s.views.nodes h _)
  does_fits model (deed.Lr word) may = (reserved_fits (performs_own h s) last (performs_fits s last h (next_place s h ∷ []) i) h in_h word may, length-set s.views.nodes h _)
  does_fits model deed.Fail may = (failed_fits s last i h in_h, length-set s.views.nodes h _)
  does_fits model (deed.Sc word value) may =
      let later : ℕ → LineData = wrote_word (line_size s) last word (marks_of_access 0 4) (bytes_of_word value) in
      let w : IsFit (writes_word h word (marks_of_access 0 4) (bytes_of_word value) (performs_own h s)) later = writes_fits (performs_own h s) last (performs_fits s last h (next_place s h ∷ []) i) h in_h word (marks_of_access 0 4) (bytes_of_word value) may in
      let count : length (writes_word h word (marks_of_access 0 4) (bytes_of_word value) (performs_own h s)).views.nodes ≡ length s.views.nodes = length-set s.views.nodes h _ in
      (failed_fits (writes_word h word (marks_of_access 0 4) (bytes_of_word value) (performs_own h s)) later w h (rw count in_h), length-set _ h _ ∙ count)
  does_fits model (deed.Amo word value) may = (writes_fits (performs_own h s) last (performs_fits s last h (next_place s h ∷ []) i) h in_h word (marks_of_access 0 4) (bytes_of_word value) may, length-set s.views.nodes h _)

  pub retires_fits : (model : MemoryModel) (entry : Retired) (instr : Instr) (d : Deed) → IsAllowed s h d → IsFit (retired h entry instr (does model h d s)) (last_by (line_size s) d last)
  retires_fits model entry instr d may =
      let w : IsFit (does model h d s) (last_by (line_size s) d last) × (length (does model h d s).views.nodes ≡ length s.views.nodes) = does_fits model d may in
      retired_fits (does model h d s) (last_by (line_size s) d last) w.0 h (rw w.1 in_h) entry instr

  -- the word's entry leaves the buffer
  pub drains_fits : (word : ℕ) → MayWrite s h word → IsFit (drained h word s) (last_after s h (act.Drain word) last)
  drains_fits word may =
      let e : Entry = entry_of word (oldest (node_at s h).buffer) in
      let performed : State = performs h e.ops s in
      let in_p : h < length performed.views.nodes = rw (performs_count s h e.ops) in_h in
      let later : ℕ → LineData = wrote_word (line_size performed) last word e.mask e.bytes in
      let w : IsFit (writes_word h word e.mask e.bytes performed) later = writes_fits performed last (performs_fits s last h e.ops i) h in_p word e.mask e.bytes (performs_may s h h e.ops word may) in
      subst (λ (v : Views). IsFit (drained h word s) (wrote_word v.config.line last word e.mask e.bytes)) (performs_nodes s h e.ops)
      (buffer_fits (writes_word h word e.mask e.bytes performed) later w h (rw (length-set performed.views.nodes h _) in_p) (after_take word (node_at s h).buffer))
