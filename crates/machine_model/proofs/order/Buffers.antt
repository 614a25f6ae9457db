-- What messages, misses and stops leave: lists, performed order and store buffers.
use Rattle.std.proofs.Common.{◌≡◌, ◌≢◌, ℕ, ◌<◌, List, [], ◌∷◌, ◌++◌, refl, sym, ap, ◌∙◌, append-nil, append_assoc, map, length}
use Rattle.machine_model.specs.declared.act.Deed.{Deed}
use Rattle.machine_model.specs.declared.act.Deed.TheVariants as deed
use Rattle.machine_model.specs.Changing.{acted, does, performs, performs_own, next_place, missed, given_up, writes_word, with_buffer, stopped, put_behind}
use Rattle.machine_model.specs.Deliveries.{delivered, taken}
use Rattle.machine_model.specs.Views.{no_node, Node, State, node_at, with_node, with_trace, sent}
use Rattle.machine_model.specs.Words.{bytes_of_word}
use Rattle.machine_model.proofs.Nodes.{node_same, node_other, same-set}
use Rattle.machine_model.proofs.order.Steps.{buffer_by, names_by}
use Rattle.machine_types.specs.declared.model.MemoryModel.{MemoryModel}
use Rattle.store_buffer.specs.ByteMask.{marks_of_access}
use Rattle.store_buffer.specs.Groups.{Groups, after_seal}
use Rattle.tl_types.specs.declared.message.Msg.{Msg}
use Rattle.tl_types.specs.declared.permission.Grow.{Grow}
use Rattle.trace_recorder.specs.History.{with_performed}
use Rattle.trace_recorder.specs.declared.operation.OpId.{OpId}
use Rattle.machine_model.proofs.Parts.{KeptByMessages, delivered_by, given_up_by, missed_by}
use Rattle.machine_model.specs.declared.act.Act.{Act}
use Rattle.machine_model.specs.declared.act.Act.TheVariants as act

-- the buffers are as they were, and so are the lists and the performed order
pub record KeepsBuffers (old new : State) : Type 0 where
  pub image : new.trace.image ≡ old.trace.image
  pub config : new.views.config ≡ old.views.config
  pub entries : new.trace.entries ≡ old.trace.entries
  pub performed : new.trace.performed ≡ old.trace.performed
  pub buffers : (h : ℕ) → (node_at new h).buffer ≡ (node_at old h).buffer

pub buffers_not : (s : State) → KeepsBuffers s s
buffers_not s = record { image = refl; config = refl; entries = refl; performed = refl; buffers = λ h. refl }

pub buffers_then : (a b c : State) → KeepsBuffers a b → KeepsBuffers b c → KeepsBuffers a c
buffers_then a b c f g = record {
  image = g.image ∙ f.image;
  config = g.config ∙ f.config;
  entries = g.entries ∙ f.entries;
  performed = g.performed ∙ f.performed;
  buffers = λ h. g.buffers h ∙ f.buffers h;
}

pub node_keeps : (h : ℕ) (n : Node) (s : State) → n.buffer ≡ (node_at s h).buffer → KeepsBuffers s (with_node h n s)
node_keeps h n s e = record { image = refl; config = refl; entries = refl; performed = refl; buffers = λ k. same-set (λ (x : Node). x.buffer) s.views.nodes h k n (no_node s) (no_node s) e }

sent_keeps : (h : ℕ) (m : Msg) (s : State) → KeepsBuffers s (sent h m s)
sent_keeps h m s = let k = node_keeps h _ s refl in record { image = refl; config = refl; entries = refl; performed = refl; buffers = k.buffers }

taken_keeps : (h : ℕ) (m : Msg) (s : State) → KeepsBuffers s (taken h m s)
taken_keeps h m s = let k = node_keeps h _ s refl in record { image = refl; config = refl; entries = refl; performed = refl; buffers = k.buffers }

pub still : (s t : State) → t.trace ≡ s.trace → t.views.config ≡ s.views.config → t.views.nodes ≡ s.views.nodes → KeepsBuffers s t
still s t e c n = record {
  image = rw e refl;
  config = c;
  entries = rw e refl;
  performed = rw e refl;
  buffers = λ h. rw (n, c, e) refl;
}

by_messages : (s : State) → KeptByMessages (KeepsBuffers s)
by_messages s = record {
  sends = λ h m t k. buffers_then s t _ k (sent_keeps h m t);
  takes = λ h m t k. buffers_then s t _ k (taken_keeps h m t);
  caches = λ h n t e k. buffers_then s t _ k (node_keeps h n t e.buffer);
  stores = λ memory notes t k. buffers_then s t _ k (still t _ refl refl refl);
}

pub delivered_keeps : (h : ℕ) (m : Msg) (s : State) → KeepsBuffers s (delivered h m s)
delivered_keeps h m s = delivered_by (KeepsBuffers s) (by_messages s) h m s (buffers_not s)

pub missed_keeps : (h line : ℕ) (grow : Grow) (s : State) → KeepsBuffers s (missed h line grow s)
missed_keeps h line grow s = missed_by (KeepsBuffers s) (by_messages s) h line grow s (buffers_not s)

pub given_up_keeps : (h line : ℕ) (s : State) → KeepsBuffers s (given_up h line s)
given_up_keeps h line s = given_up_by (KeepsBuffers s) (by_messages s) h line s (buffers_not s)

pub stopped_keeps : (h code : ℕ) (s : State) → KeepsBuffers s (stopped h code s)
stopped_keeps h code s = let k = node_keeps h _ s refl in record { image = refl; config = refl; entries = refl; performed = refl; buffers = k.buffers }

-- an act by which nothing retires and nothing is performed
abbrev pub IsQuiet : Act → Type 0
IsQuiet (act.Retire entry i d) = ⊥
IsQuiet (act.Drain word) = ⊥
IsQuiet (act.Local count) = ⊥
IsQuiet _ = Unit {0}

pub quiet_keeps : (h : ℕ) (a : Act) (s : State) → IsQuiet a → KeepsBuffers s (acted h a s)
quiet_keeps h (act.Stop code) s is = stopped_keeps h code s
quiet_keeps h (act.Miss line grow) s is = missed_keeps h line grow s
quiet_keeps h (act.Evict line) s is = given_up_keeps h line s
quiet_keeps h (act.Deliver m) s is = delivered_keeps h m s
quiet_keeps h _ s is = absurd is

-- ---- what is performed, and what becomes of the buffers

pub record Moves (h : ℕ) (buffer : Groups) (names : List OpId) (old new : State) : Type 0 where
  pub image : new.trace.image ≡ old.trace.image
  pub config : new.views.config ≡ old.views.config
  pub entries : new.trace.entries ≡ old.trace.entries
  pub performed : new.trace.performed ≡ old.trace.performed ++ names
  pub here : (node_at new h).buffer ≡ buffer
  pub there : (k : ℕ) → k ≢ h → (node_at new k).buffer ≡ (node_at old k).buffer

pub moves_still : (h : ℕ) (old new : State) → KeepsBuffers old new → Moves h (node_at old h).buffer [] old new
moves_still h old new k = record { image = k.image; config = k.config; entries = k.entries; performed = k.performed ∙ sym (append-nil old.trace.performed); here = k.buffers h; there = λ j d. k.buffers j }

pub moves_on : (h : ℕ) (buffer : Groups) (names : List OpId) (a b c : State) → Moves h buffer names a b → KeepsBuffers b c → Moves h buffer names a c
moves_on h buffer names a b c m k = record { image = k.image ∙ m.image; config = k.config ∙ m.config; entries = k.entries ∙ m.entries; performed = k.performed ∙ m.performed; here = k.buffers h ∙ m.here; there = λ j d. k.buffers j ∙ m.there j d }

abbrev pub names_at : ℕ → List ℕ → List OpId
names_at h places = map (λ (place : ℕ). record { hart = h; place = place }) places

pub performs_moves : (h : ℕ) (places : List ℕ) (s : State) → Moves h (node_at s h).buffer (names_at h places) s (performs h places s)
performs_moves h [] s = moves_still h s s (buffers_not s)
performs_moves h (place ∷ places) s =
    let next = with_trace (with_performed (record { hart = h; place = place }) s.trace) s in
    let m = performs_moves h places next in
    record { image = m.image; config = m.config; entries = m.entries; performed = m.performed ∙ append_assoc s.trace.performed (record { hart = h; place = place } ∷ []) (names_at h places); here = m.here; there = m.there }

buffered_moves : (h : ℕ) (b : Groups) (s : State) → h < length s.views.nodes → Moves h b [] s (with_buffer h b s)
buffered_moves h b s l = record { image = refl; config = refl; entries = refl; performed = sym (append-nil s.trace.performed); here = ap (λ (n : Node). n.buffer) (node_same h _ s l); there = λ k d. ap (λ (n : Node). n.buffer) (node_other h k _ s d) }

pub buffer_after : (h : ℕ) (buffer b : Groups) (names : List OpId) (old new : State) → Moves h buffer names old new → h < length new.views.nodes → Moves h b names old (with_buffer h b new)
buffer_after h buffer b names old new m l =
    let f = buffered_moves h b new l in
    record { image = m.image; config = m.config; entries = m.entries; performed = m.performed; here = f.here; there = λ k d. f.there k d ∙ m.there k d }

pub does_moves : (model : MemoryModel) (h : ℕ) (d : Deed) (s : State) → h < length s.views.nodes → Moves h (buffer_by model d (node_at s h).buffer) (names_by h (next_place s h) d) s (does model h d s)
does_moves model h deed.Private s l = moves_still h s s (buffers_not s)
does_moves model h (deed.Output number) s l = moves_still h s _ (node_keeps h _ s refl)
does_moves model h deed.Load s l = performs_moves h (next_place s h ∷ []) s
does_moves model h (deed.Store store) s l = buffered_moves h (put_behind model store (node_at s h).buffer) s l
does_moves model h deed.Seal s l = buffered_moves h (after_seal (node_at s h).buffer) s l
does_moves model h (deed.Lr word) s l = moves_on h _ _ s (performs_own h s) _ (performs_moves h (next_place s h ∷ []) s) (node_keeps h _ (performs_own h s) refl)
does_moves model h deed.Fail s l = moves_still h s _ (node_keeps h _ s refl)
does_moves model h (deed.Sc word value) s l =
    let stored = writes_word h word (marks_of_access 0 4) (bytes_of_word value) (performs_own h s) in
    moves_on h _ _ s stored _ (moves_on h _ _ s (performs_own h s) stored (performs_moves h (next_place s h ∷ []) s) (node_keeps h _ (performs_own h s) refl)) (node_keeps h _ stored refl)
does_moves model h (deed.Amo word value) s l = moves_on h _ _ s (performs_own h s) _ (performs_moves h (next_place s h ∷ []) s) (node_keeps h _ (performs_own h s) refl)
