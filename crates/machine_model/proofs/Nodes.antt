-- Where each hart's node stands after a change of one, and what a change leaves of the harts.
use Rattle.std.proofs.Common.{◌≡◌, ◌≢◌, ℕ, zero, suc, ◌<◌, List, [], ◌∷◌, refl, ap, ◌∙◌, length, slice_index_or, slice_set}
use Rattle.std.proofs.lemmas.List.{length-set, get_or-set_same, get_or-set_other}
use Rattle.machine_model.specs.declared.act.Deed.{Deed}
use Rattle.machine_model.specs.Changing.{does, missed, drained, given_up}
use Rattle.machine_model.specs.Deliveries.{delivered, taken}
use Rattle.machine_model.specs.Views.{no_node, Node, State, node_at, with_node, sent}
use Rattle.machine_types.specs.declared.model.MemoryModel.{MemoryModel}
use Rattle.tl_types.specs.declared.message.Msg.{Msg}
use Rattle.tl_types.specs.declared.permission.Grow.{Grow}
use Rattle.machine_model.proofs.Parts.{KeptByDeeds, KeptByMessages, delivered_by, does_by, drained_by, given_up_by, missed_by}

pub node_same : (h : ℕ) (n : Node) (s : State) → h < length s.views.nodes → node_at (with_node h n s) h ≡ n
node_same h n s l = get_or-set_same s.views.nodes h n _ l

pub node_other : (h k : ℕ) (n : Node) (s : State) → k ≢ h → node_at (with_node h n s) k ≡ node_at s k
node_other h k n s d = get_or-set_other s.views.nodes h k n _ d

-- one node was replaced by one that is so related to it
pub related-set : (R : Node → Node → Type 0) → ((n : Node) → R n n) → (nodes : List Node) (h k : ℕ) (n d e : Node) → R n (slice_index_or nodes h e) → R (slice_index_or (slice_set nodes h n) k d) (slice_index_or nodes k d)
related-set R same [] h k n d e r = same d
related-set R same (x ∷ xs) zero zero n d e r = r
related-set R same (x ∷ xs) zero (suc k) n d e r = same (slice_index_or xs k d)
related-set R same (x ∷ xs) (suc h) zero n d e r = same x
related-set R same (x ∷ xs) (suc h) (suc k) n d e r = related-set R same xs h k n d e r

-- by one that is the same to a test
pub same-set : {X : Type 0} (f : Node → X) (nodes : List Node) (h k : ℕ) (n d e : Node) → f n ≡ f (slice_index_or nodes h e) → f (slice_index_or (slice_set nodes h n) k d) ≡ f (slice_index_or nodes k d)
same-set f nodes h k n d e q = related-set (λ x y. f x ≡ f y) (λ x. refl) nodes h k n d e q

-- ---- changes that leave the harts

-- the harts, their lists and their statuses are as they were
pub record KeepsHarts (old new : State) : Type 0 where
  pub image : new.trace.image ≡ old.trace.image
  pub config : new.views.config ≡ old.views.config
  pub entries : new.trace.entries ≡ old.trace.entries
  pub statuses : new.trace.statuses ≡ old.trace.statuses
  pub count : length new.views.nodes ≡ length old.views.nodes
  pub harts : (h : ℕ) → (node_at new h).hart ≡ (node_at old h).hart

pub harts_not : (s : State) → KeepsHarts s s
harts_not s = record { image = refl; config = refl; entries = refl; statuses = refl; count = refl; harts = λ h. refl }

pub harts_then : (a b c : State) → KeepsHarts a b → KeepsHarts b c → KeepsHarts a c
harts_then a b c f g = record {
  image = g.image ∙ f.image;
  config = g.config ∙ f.config;
  entries = g.entries ∙ f.entries;
  statuses = g.statuses ∙ f.statuses;
  count = g.count ∙ f.count;
  harts = λ h. g.harts h ∙ f.harts h;
}

pub node_keeps : (h : ℕ) (n : Node) (s : State) → n.hart ≡ (node_at s h).hart → KeepsHarts s (with_node h n s)
node_keeps h n s e = record { image = refl; config = refl; entries = refl; statuses = refl; count = length-set s.views.nodes h n; harts = λ k. same-set (λ (x : Node). x.hart) s.views.nodes h k n (no_node s) (no_node s) e }

sent_keeps : (h : ℕ) (m : Msg) (s : State) → KeepsHarts s (sent h m s)
sent_keeps h m s = let k = node_keeps h _ s refl in record { image = refl; config = refl; entries = refl; statuses = refl; count = k.count; harts = k.harts }

taken_keeps : (h : ℕ) (m : Msg) (s : State) → KeepsHarts s (taken h m s)
taken_keeps h m s = let k = node_keeps h _ s refl in record { image = refl; config = refl; entries = refl; statuses = refl; count = k.count; harts = k.harts }

still : (s t : State) → t.trace ≡ s.trace → t.views.config ≡ s.views.config → t.views.nodes ≡ s.views.nodes → KeepsHarts s t
still s t e c n = record {
  image = rw e refl;
  config = c;
  entries = rw e refl;
  statuses = rw e refl;
  count = ap length n;
  harts = λ h. rw (n, c, e) refl;
}

-- ---- acts that leave the harts

by_messages : (s : State) → KeptByMessages (KeepsHarts s)
by_messages s = record {
  sends = λ h m t k. harts_then s t _ k (sent_keeps h m t);
  takes = λ h m t k. harts_then s t _ k (taken_keeps h m t);
  caches = λ h n t e k. harts_then s t _ k (node_keeps h n t e.hart);
  stores = λ memory notes t k. harts_then s t _ k (still t _ refl refl refl);
}

by_deeds : (s : State) → KeptByDeeds (KeepsHarts s)
by_deeds s = record {
  performs = λ h place t k. harts_then s t _ k (record { image = refl; config = refl; entries = refl; statuses = refl; count = refl; harts = λ j. refl });
  puts_out = λ h numbers t k. harts_then s t _ k (node_keeps h _ t refl);
  buffers = λ h b t k. harts_then s t _ k (node_keeps h _ t refl);
  reserves = λ h o t k. harts_then s t _ k (node_keeps h _ t refl);
  writes = λ h word marks bytes t k. harts_then s t _ k (node_keeps h _ t refl);
}

pub delivered_keeps : (h : ℕ) (m : Msg) (s : State) → KeepsHarts s (delivered h m s)
delivered_keeps h m s = delivered_by (KeepsHarts s) (by_messages s) h m s (harts_not s)

pub missed_keeps : (h line : ℕ) (grow : Grow) (s : State) → KeepsHarts s (missed h line grow s)
missed_keeps h line grow s = missed_by (KeepsHarts s) (by_messages s) h line grow s (harts_not s)

pub given_up_keeps : (h line : ℕ) (s : State) → KeepsHarts s (given_up h line s)
given_up_keeps h line s = given_up_by (KeepsHarts s) (by_messages s) h line s (harts_not s)

pub drained_keeps : (h word : ℕ) (s : State) → KeepsHarts s (drained h word s)
drained_keeps h word s = drained_by (KeepsHarts s) (by_deeds s) h word s (harts_not s)

pub does_keeps : (model : MemoryModel) (h : ℕ) (d : Deed) (s : State) → KeepsHarts s (does model h d s)
does_keeps model h d s = does_by (KeepsHarts s) (by_deeds s) model h d s (harts_not s)
