-- What an act makes of the permissions that caches have.
use Rattle.std.proofs.Common.{ℕ, Bool, true, false, List, [], ◌∷◌, ◌≡◌, ◌<◌, Option, Some, None, refl, ap, sym, ◌∙◌, subst, length}
use Rattle.std.specs.Prelude.{◌==◌, ◌&&◌, if◌then◌else◌, slice_index_or}
use Rattle.std.proofs.lemmas.Bool.Decides.{eqb_tells}
use Rattle.std.proofs.lemmas.List.{get_or-set_same, get_or-set_other}
use mathlib.Core.Logic.{◌⊎◌, inl, inr}
use Rattle.client_cache.proofs.AtLines.{put_own, put_other}
use Rattle.client_cache.specs.AtLine.{AtLine, KeepsOthers}
use Rattle.client_cache.specs.Cache.{Cache, copy_at, word_written_in, written}
use Rattle.client_cache.specs.Held.{bytes_in, clean_copy, perm_of, shrunk_at}
use Rattle.client_cache.specs.Word.{with_word}
use Rattle.client_cache.specs.declared.held.Held.{Held}
use Rattle.client_cache.specs.declared.held.Held.TheVariants as held
use Rattle.hart.specs.Local.{private_row}
use Rattle.hart.specs.Run.{after_instr}
use Rattle.hart.specs.declared.retired.Retired.{Retired}
use Rattle.hart.specs.declared.status.Status.{Status}
use Rattle.hart.specs.declared.status.Status.TheVariants.{Running, Stopped, Exited}
use Rattle.machine_model.proofs.Nodes.{same-set}
use Rattle.machine_model.proofs.coherence.LineKept.{split}
use Rattle.machine_model.proofs.coherence.LineStands.{dirty_of, is_writer}
use Rattle.machine_model.proofs.coherence.WorldFits.{IsFit}
use Rattle.machine_model.proofs.coherence.WorldSteps.{IsAllowed, MayWrite}
use Rattle.machine_model.specs.Changing.{does, drained, next_place, performs, performs_own, retired, stopped, went_alone, with_entries, with_halt, writes_word}
use Rattle.machine_model.specs.Coherent.{perm_at}
use Rattle.machine_model.specs.Deliveries.{taken}
use Rattle.machine_model.specs.Views.{Node, State, no_node, node_at, opening_node, sent, with_node, with_trace}
use Rattle.machine_model.specs.Words.{bytes_of_word}
use Rattle.machine_model.specs.declared.act.Deed.{Deed}
use Rattle.machine_model.specs.declared.act.Deed.TheVariants as deed
use Rattle.machine_types.specs.declared.model.MemoryModel.{MemoryModel}
use Rattle.rv32_decode.specs.declared.instruction.Instr.{Instr}
use Rattle.store_buffer.specs.ByteMask.{marks_of_access}
use Rattle.store_buffer.specs.Entry.{entry_of}
use Rattle.store_buffer.specs.Groups.{oldest}
use Rattle.store_buffer.specs.declared.entry.Entry.{Entry}
use Rattle.tl_types.specs.Line.{line_of}
use Rattle.tl_types.specs.Permission.{left_by, named_by}
use Rattle.tl_types.specs.Shrink.{shrunk_by}
use Rattle.tl_types.specs.declared.line.LineData.{LineData}
use Rattle.tl_types.specs.declared.message.Msg.{Msg}
use Rattle.tl_types.specs.declared.permission.Cap.{Cap}
use Rattle.tl_types.specs.declared.permission.Cap.TheVariants.{ToT, ToB, ToN}
use Rattle.tl_types.specs.declared.permission.Perm.{Perm}
use Rattle.tl_types.specs.declared.permission.Perm.TheVariants.{Trunk}
use Rattle.trace_recorder.specs.History.{History, with_entry, with_performed}

-- ---- copies

pub shrunk_perm : (cap : Cap) (copy : Option Held) → perm_of (shrunk_at cap copy) ≡ left_by (shrunk_by (perm_of copy) cap).1
shrunk_perm cap None = refl
shrunk_perm ToT (Some (held.Branch bytes)) = refl
shrunk_perm ToB (Some (held.Branch bytes)) = refl
shrunk_perm ToN (Some (held.Branch bytes)) = refl
shrunk_perm ToT (Some (held.Trunk dirty bytes)) = refl
shrunk_perm ToB (Some (held.Trunk dirty bytes)) = refl
shrunk_perm ToN (Some (held.Trunk dirty bytes)) = refl

-- data comes from a writer
pub dirty_trunk : (copy : Option Held) (bytes : LineData) → dirty_of copy ≡ Some bytes → perm_of copy ≡ Trunk
dirty_trunk None bytes is = cc is
dirty_trunk (Some (held.Branch x)) bytes is = cc is
dirty_trunk (Some (held.Trunk dirty x)) bytes is = refl

pub granted_perm : (cap : Cap) (bytes : LineData) → perm_of (clean_copy (named_by cap) bytes) ≡ named_by cap
granted_perm ToT bytes = refl
granted_perm ToB bytes = refl
granted_perm ToN bytes = refl

-- ---- one node changes

module _ (s : State) (h : ℕ) (in_h : h < length s.views.nodes) where
  -- its cache does at one line
  pub turned_perm : (m : Node) (line : ℕ) (p : Perm) → KeepsOthers line (node_at s h).cache m.cache → perm_of (copy_at m.cache line) ≡ p → (k l : ℕ) → perm_at (with_node h m s) k l ≡ (if h == k && line == l then p else perm_at s k l)
  turned_perm m line p keeps own k l = go (eqb_tells h k) (eqb_tells line l)
    where
      t : State
      t = with_node h m s

      here : (q : ℕ) → perm_at t h q ≡ perm_of (copy_at m.cache q)
      here q = ap (λ (x : Node). perm_of (copy_at x.cache q)) (get_or-set_same s.views.nodes h m (no_node s) in_h)

      go : (((h == k) ≡ true) × (h ≡ k)) ⊎ (((h == k) ≡ false) × (h ≡ k → ⊥)) → (((line == l) ≡ true) × (line ≡ l)) ⊎ (((line == l) ≡ false) × (line ≡ l → ⊥)) → perm_at t k l ≡ (if h == k && line == l then p else perm_at s k l)
      go (inl e) (inl f) = rw (e.0, f.0) (subst (λ j. perm_at t j l ≡ p) e.1 (subst (λ q. perm_at t h q ≡ p) f.1 (here line ∙ own)))
      go (inl e) (inr f) = rw (e.0, f.0) (subst (λ j. perm_at t j l ≡ perm_at s j l) e.1 (here l ∙ ap (λ (x : AtLine). perm_of x.copy) (keeps l (λ q. f.1 (sym q)))))
      go (inr e) f = rw e.0 (ap (λ (x : Node). perm_of (copy_at x.cache l)) (get_or-set_other s.views.nodes h k m (no_node s) (λ q. e.1 (sym q))))

pub node_perm : (s : State) (h : ℕ) (n : Node) → ((l : ℕ) → perm_of (copy_at n.cache l) ≡ perm_at s h l) → (k l : ℕ) → perm_at (with_node h n s) k l ≡ perm_at s k l
node_perm s h n same k l = same-set (λ (x : Node). perm_of (copy_at x.cache l)) s.views.nodes h k n (no_node s) (no_node s) (same l)

pub sent_perm : (h : ℕ) (m : Msg) (s : State) (k l : ℕ) → perm_at (sent h m s) k l ≡ perm_at s k l
sent_perm h m s k l = node_perm s h _ (λ l. refl) k l

pub taken_perm : (h : ℕ) (m : Msg) (s : State) (k l : ℕ) → perm_at (taken h m s) k l ≡ perm_at s k l
taken_perm h m s k l = node_perm s h _ (λ l. refl) k l

-- ---- acts that send nothing, and leave permissions, notes and memory

pub record IsAlike (s t : State) : Type 0 where
  pub image : t.trace.image ≡ s.trace.image
  pub log : t.trace.log ≡ s.trace.log
  pub config : t.views.config ≡ s.views.config
  pub notes : t.views.notes ≡ s.views.notes
  pub memory : t.views.memory ≡ s.views.memory
  pub perms : (k l : ℕ) → perm_at t k l ≡ perm_at s k l

and_then : (a b c : State) → IsAlike a b → IsAlike b c → IsAlike a c
and_then a b c f g = record {
  image = g.image ∙ f.image;
  log = g.log ∙ f.log;
  config = g.config ∙ f.config;
  notes = g.notes ∙ f.notes;
  memory = g.memory ∙ f.memory;
  perms = λ k l. g.perms k l ∙ f.perms k l;
}

alike_node : (h : ℕ) (n : Node) (s : State) → ((l : ℕ) → perm_of (copy_at n.cache l) ≡ perm_at s h l) → IsAlike s (with_node h n s)
alike_node h n s same = record { image = refl; log = refl; config = refl; notes = refl; memory = refl; perms = node_perm s h n same }

alike_trace : (s : State) (r : History) → r.image ≡ s.trace.image → r.log ≡ s.trace.log → IsAlike s (with_trace r s)
alike_trace s r image log = record {
  image = image;
  log = log;
  config = refl;
  notes = refl;
  memory = refl;
  perms = λ k l. ap (λ im. perm_of (copy_at (slice_index_or s.views.nodes k (opening_node im s.views.config 0)).cache l)) image;
}

-- what a hart's trace becomes
halted : (h : ℕ) (status : Status) (t : History) → ((with_halt h status t).image ≡ t.image) × ((with_halt h status t).log ≡ t.log)
halted h Running t = (refl, refl)
halted h (Stopped code) t = (refl, refl)
halted h (Exited code) t = (refl, refl)

entered : (h : ℕ) (row : List Retired) (t : History) → ((with_entries h row t).image ≡ t.image) × ((with_entries h row t).log ≡ t.log)
entered h [] t = (refl, refl)
entered h (entry ∷ row) t = entered h row (with_entry h entry t)

pub stopped_alike : (h code : ℕ) (s : State) → IsAlike s (stopped h code s)
stopped_alike h code s = and_then s _ _ (alike_node h _ s (λ l. refl)) (alike_trace _ _ refl refl)

pub alone_alike : (h count : ℕ) (s : State) → IsAlike s (went_alone h count s)
alone_alike h count s =
    let row = private_row s.trace.image (node_at s h).hart count in
    and_then s _ _ (alike_node h _ s (λ l. refl)) (alike_trace _ _ (entered h row s.trace).0 (entered h row s.trace).1)

retired_alike : (h : ℕ) (entry : Retired) (i : Instr) (s : State) → IsAlike s (retired h entry i s)
retired_alike h entry i s =
    let status = (after_instr (node_at s h).hart entry (Some i)).status in
    and_then s _ _ (alike_node h _ s (λ l. refl)) (alike_trace _ _ (halted h status (with_entry h entry s.trace)).0 (halted h status (with_entry h entry s.trace)).1)

performed_alike : (h : ℕ) (places : List ℕ) (s : State) → IsAlike s (performs h places s)
performed_alike h [] s = record { image = refl; log = refl; config = refl; notes = refl; memory = refl; perms = λ k l. refl }
performed_alike h (place ∷ places) s = and_then s _ _ (alike_trace s (with_performed (record { hart = h; place = place }) s.trace) refl refl) (performed_alike h places _)

-- a write of a copy that is Trunk
written_perm : (c : Cache) (line word : ℕ) (marks : List Bool) (bytes : List ℕ) (o : Option Held) → copy_at c line ≡ o → perm_of (copy_at c line) ≡ Trunk → (l : ℕ) → perm_of (copy_at (word_written_in c line word marks bytes o) l) ≡ perm_of (copy_at c l)
written_perm c line word marks bytes None is trunk l = refl
written_perm c line word marks bytes (Some x) is trunk l =
    split (λ q. perm_of (copy_at (written c line (with_word (bytes_in x) word marks bytes)) q) ≡ perm_of (copy_at c q)) line
    (ap perm_of (put_own c.copies line (Some (held.Trunk true (with_word (bytes_in x) word marks bytes)))) ∙ sym trunk)
    (λ q ne. ap perm_of (put_other c.copies line (Some (held.Trunk true (with_word (bytes_in x) word marks bytes))) q ne)) l

writes_alike : (h word : ℕ) (marks : List Bool) (bytes : List ℕ) (s : State) → perm_at s h (line_of (node_at s h).cache.shape.size word) ≡ Trunk → IsAlike s (writes_word h word marks bytes s)
writes_alike h word marks bytes s trunk =
    let c = (node_at s h).cache in
    let line = line_of c.shape.size word in
    alike_node h _ s (written_perm c line word marks bytes (copy_at c line) refl trunk)

-- the hart may write the word's line
abbrev IsTrunkAt : State → (h word : ℕ) → Type 0
IsTrunkAt s h word = perm_at s h (line_of (node_at s h).cache.shape.size word) ≡ Trunk

performed_trunk : (h : ℕ) (places : List ℕ) (word : ℕ) (s : State) → IsTrunkAt s h word → IsTrunkAt (performs h places s) h word
performed_trunk h [] word s trunk = trunk
performed_trunk h (place ∷ places) word s trunk = performed_trunk h places word (with_trace (with_performed (record { hart = h; place = place }) s.trace) s) trunk

trunk_at : (s : State) (last : ℕ → LineData) → IsFit s last → (h word : ℕ) → MayWrite s h word → IsTrunkAt s h word
trunk_at s last i h word may = subst (λ size. perm_at s h (line_of size word) ≡ Trunk) (sym (i.sized h)) (is_writer _ may)

module _ (s : State) (last : ℕ → LineData) (i : IsFit s last) (h : ℕ) where
  does_alike : (model : MemoryModel) (d : Deed) → IsAllowed s h d → IsAlike s (does model h d s)
  does_alike model deed.Private may = performed_alike h [] s
  does_alike model (deed.Output number) may = alike_node h _ s (λ l. refl)
  does_alike model deed.Load may = performed_alike h (next_place s h ∷ []) s
  does_alike model (deed.Store store) may = alike_node h _ s (λ l. refl)
  does_alike model deed.Seal may = alike_node h _ s (λ l. refl)
  does_alike model (deed.Lr word) may = and_then s _ _ (performed_alike h (next_place s h ∷ []) s) (alike_node h _ (performs_own h s) (λ l. refl))
  does_alike model deed.Fail may = alike_node h _ s (λ l. refl)
  does_alike model (deed.Sc word value) may =
      let done = performs_own h s in
      let wrote = writes_word h word (marks_of_access 0 4) (bytes_of_word value) done in
      and_then s _ _ (and_then s done wrote (performed_alike h (next_place s h ∷ []) s) (writes_alike h word (marks_of_access 0 4) (bytes_of_word value) done (trunk_at s last i h word may))) (alike_node h _ wrote (λ l. refl))
  does_alike model (deed.Amo word value) may =
      let done = performs_own h s in
      and_then s done _ (performed_alike h (next_place s h ∷ []) s) (writes_alike h word (marks_of_access 0 4) (bytes_of_word value) done (trunk_at s last i h word may))

  pub retires_alike : (model : MemoryModel) (entry : Retired) (j : Instr) (d : Deed) → IsAllowed s h d → IsAlike s (retired h entry j (does model h d s))
  retires_alike model entry j d may = and_then s _ _ (does_alike model d may) (retired_alike h entry j (does model h d s))

  pub drains_alike : (word : ℕ) → MayWrite s h word → IsAlike s (drained h word s)
  drains_alike word may =
      let e : Entry = entry_of word (oldest (node_at s h).buffer) in
      let done = performs h e.ops s in
      let wrote = writes_word h word e.mask e.bytes done in
      and_then s _ _ (and_then s done wrote (performed_alike h e.ops s) (writes_alike h word e.mask e.bytes done (performed_trunk h e.ops word s (trunk_at s last i h word may)))) (alike_node h _ wrote (λ l. refl))
