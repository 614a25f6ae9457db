-- What holds of a machine's state at every moment, and that each delivery, miss, eviction and write keeps it.
use Rattle.std.proofs.Common.{ℕ, ◌+◌, ◌-◌, ◌%◌, Bool, true, false, List, ◌≡◌, ◌<◌, ◌≤◌, Option, Some, None, refl, ap, sym, ◌∙◌, subst, length}
use Rattle.std.specs.Prelude.{◌≢◌, ◌==◌, if◌then◌else◌, slice_index_or}
use Rattle.std.proofs.lemmas.List.{get_or-set_same, get_or-set_other, length-set}
use Rattle.std.proofs.lemmas.Bool.Decides.{eqb_tells}
use Rattle.std.proofs.lemmas.Bool.{le-leb, lt-ltb}
use mathlib.Core.Logic.{◌⊎◌, inl, inr}
use native.Mathlib.Omega.{arith}
use Rattle.client_cache.specs.AtLine.{AtLine, KeepsOthers}
use Rattle.client_cache.specs.Cache.{Cache, copy_at}
use Rattle.client_cache.specs.Held.{perm_of}
use Rattle.machine_model.specs.Deliveries.{is_trunk, kept_reservation, taken}
use Rattle.machine_model.specs.Views.{Node, State, line_size, node_at, no_node, opening_node, sent, with_node, with_trace}
use Rattle.machine_model.proofs.coherence.WorldKept.{Kit, KitChanged, IsWell}
use Rattle.machine_types.specs.declared.config.Config.{Config}
use Rattle.reservations.specs.Reservation.{lies_in, without_line}
use Rattle.tilelink_channels.specs.Queues.{popped, pushed}
use Rattle.tl_types.specs.Line.{line_of}
use Rattle.tl_types.specs.Message.{channel_of}
use Rattle.tl_types.specs.declared.line.LineData.{LineData}
use Rattle.tl_types.specs.declared.line.LineSize.{LineSize}
use Rattle.tl_types.specs.declared.line.LineSize.TheVariants.{Bytes16, Bytes64}
use Rattle.tl_types.specs.declared.message.Msg.{Msg}
use Rattle.directory.specs.Directory.{Notes}
use Rattle.trace_recorder.specs.History.{History}

abbrev pub kit_of : Node → Kit
kit_of n = record { cache = n.cache; queues = n.queues }

abbrev pub kit_at : State → ℕ → Kit
kit_at s h = kit_of (node_at s h)

-- a reserved word's line is Trunk
abbrev pub HoldsReserved : LineSize → Node → Type 0
HoldsReserved size n = (word : ℕ) → n.reserved ≡ Some word → is_trunk (perm_of (copy_at n.cache (line_of size word))) ≡ true

abbrev pub WellAt : State → (ℕ → LineData) → Type 0
WellAt s last = IsWell s.trace.image (line_size s) (length s.views.nodes) (kit_at s) s.views.notes s.views.memory last

pub record IsFit (s : State) (last : ℕ → LineData) : Type 0 where
  pub pages : length s.trace.image.bytes % 4096 ≡ 0
  pub well : WellAt s last
  pub sized : (h : ℕ) → (node_at s h).cache.shape.size ≡ line_size s
  pub reserved : (h : ℕ) → HoldsReserved (line_size s) (node_at s h)

-- one hart's node becomes this; the manager's side isn't spoken of
pub record Framed (s t : State) (h : ℕ) (n : Node) : Type 0 where
  pub here : node_at t h ≡ n
  pub there : (j : ℕ) → j ≢ h → node_at t j ≡ node_at s j
  pub count : length t.views.nodes ≡ length s.views.nodes
  pub image : t.trace.image ≡ s.trace.image
  pub config : t.views.config ≡ s.views.config

pub framed_node : (s : State) (h : ℕ) (n : Node) → h < length s.views.nodes → Framed s (with_node h n s) h n
framed_node s h n in_h = record {
  here = get_or-set_same s.views.nodes h n (no_node s) in_h;
  there = λ j ne. get_or-set_other s.views.nodes h j n (no_node s) ne;
  count = length-set s.views.nodes h n;
  image = refl;
  config = refl;
}

pub framed_again : (s t : State) (h : ℕ) (n m : Node) → h < length s.views.nodes → Framed s t h n → Framed s (with_node h m t) h m
framed_again s t h n m in_h f = record {
  here = get_or-set_same t.views.nodes h m (no_node t) (rw f.count in_h);
  there = λ j ne. get_or-set_other t.views.nodes h j m (no_node t) ne ∙ f.there j ne;
  count = length-set t.views.nodes h m ∙ f.count;
  image = f.image;
  config = f.config;
}

pub framed_taken : (s : State) (h : ℕ) (m : Msg) → h < length s.views.nodes → Framed s (taken h m s) h (record (node_at s h) { queues = popped (node_at s h).queues (channel_of m) })
framed_taken s h m in_h =
    let f : Framed s (with_node h (record (node_at s h) { queues = popped (node_at s h).queues (channel_of m) }) s) h (record (node_at s h) { queues = popped (node_at s h).queues (channel_of m) }) = framed_node s h _ in_h in
    record { here = f.here; there = f.there; count = f.count; image = refl; config = refl }

pub framed_sent : (s t : State) (h : ℕ) (n : Node) (m : Msg) → h < length s.views.nodes → Framed s t h n → Framed s (sent h m t) h (record n { queues = pushed n.queues m })
framed_sent s t h n m in_h f =
    let g : Framed s (with_node h (record (node_at t h) { queues = pushed (node_at t h).queues m }) t) h (record (node_at t h) { queues = pushed (node_at t h).queues m }) = framed_again s t h n _ in_h f in
    record { here = g.here ∙ ap (λ (x : Node). record x { queues = pushed x.queues m }) f.here; there = g.there; count = g.count; image = f.image; config = f.config }

pub kit_changed : (s t : State) (h : ℕ) (n : Node) → Framed s t h n → KitChanged (kit_at s) (kit_at t) h (kit_of n)
kit_changed s t h n f = record { here = ap kit_of f.here; there = λ j ne. ap kit_of (f.there j ne) }

pub at_each : (P : ℕ → Node → Type 0) (s t : State) (h : ℕ) (n : Node) → Framed s t h n → P h n → ((j : ℕ) → P j (node_at s j)) → (j : ℕ) → P j (node_at t j)
at_each P s t h n f here others j = go (eqb_tells j h)
  where
    go : (((j == h) ≡ true) × (j ≡ h)) ⊎ (((j == h) ≡ false) × (j ≡ h → ⊥)) → P j (node_at t j)
    go (inl e) = subst (λ k. P k (node_at t k)) (sym e.1) (subst (P h) (sym f.here) here)
    go (inr e) = subst (P j) (sym (f.there j e.1)) (others j)

-- the parts of an act: what all lines are now, and what the hart's own node keeps
pub fits : (s t : State) (h : ℕ) (n : Node) (last next : ℕ → LineData) → IsFit s last → Framed s t h n →
    IsWell s.trace.image (line_size s) (length s.views.nodes) (kit_at t) t.views.notes t.views.memory next →
    n.cache.shape.size ≡ (node_at s h).cache.shape.size → HoldsReserved (line_size s) n → IsFit t next
fits s t h n last next i f w sized reserved = record {
  pages = rw f.image i.pages;
  well = subst (λ im. IsWell im (line_size t) (length t.views.nodes) (kit_at t) t.views.notes t.views.memory next) (sym f.image)
      (subst (λ (c : Config). IsWell s.trace.image c.line (length t.views.nodes) (kit_at t) t.views.notes t.views.memory next) (sym f.config)
      (subst (λ count. IsWell s.trace.image (line_size s) count (kit_at t) t.views.notes t.views.memory next) (sym f.count) w));
  sized = λ j. at_each (λ j m. m.cache.shape.size ≡ line_size s) s t h n f (sized ∙ i.sized h) i.sized j ∙ ap (λ (c : Config). c.line) (sym f.config);
  reserved = λ j. subst (λ (c : Config). HoldsReserved c.line (node_at t j)) (sym f.config) (at_each (λ j m. HoldsReserved (line_size s) m) s t h n f reserved i.reserved j);
}

-- ---- reservations

-- a word lies in its own line
in_own_line : (size : LineSize) (word : ℕ) → lies_in (line_of size word) size word ≡ true
in_own_line Bytes16 word = let a : word - word % 16 ≤ word = omega arith in let b : word < word - word % 16 + 16 = omega arith in rw (le-leb _ _ a, lt-ltb _ _ b) refl
in_own_line Bytes64 word = let a : word - word % 64 ≤ word = omega arith in let b : word < word - word % 64 + 64 = omega arith in rw (le-leb _ _ a, lt-ltb _ _ b) refl

-- what is left of a reservation is one that was there, of another line
without_says : (line : ℕ) (size : LineSize) (reserved : Option ℕ) (word : ℕ) → without_line line size reserved ≡ Some word → (reserved ≡ Some word) × (lies_in line size word ≡ false)
without_says line size None word e = cc e
without_says line size (Some other) word e = go (lies_in line size other) refl e
  where
    go : (t : Bool) → lies_in line size other ≡ t → (if t then None else Some other) ≡ Some word → (Some other ≡ Some word) × (lies_in line size word ≡ false)
    go true f e = cc e
    go false f e = (e, cc (f, e))

module _ (size : LineSize) (n : Node) (c : Cache) (line : ℕ) (keeps : KeepsOthers line n.cache c) (holds : HoldsReserved size n) where
  other_line : (word : ℕ) → n.reserved ≡ Some word → line_of size word ≢ line → is_trunk (perm_of (copy_at c (line_of size word))) ≡ true
  other_line word e ne = ap (λ (x : AtLine). is_trunk (perm_of x.copy)) (keeps (line_of size word) ne) ∙ holds word e

  -- after the line's copy has shrunk or gone
  pub less_reserved : c.shape.size ≡ size → (word : ℕ) → kept_reservation c line n.reserved ≡ Some word → is_trunk (perm_of (copy_at c (line_of size word))) ≡ true
  less_reserved sized word = go (is_trunk (perm_of (copy_at c line))) refl
    where
      go : (t : Bool) → is_trunk (perm_of (copy_at c line)) ≡ t → (if t then n.reserved else without_line line c.shape.size n.reserved) ≡ Some word → is_trunk (perm_of (copy_at c (line_of size word))) ≡ true
      go true f e = same (eqb_tells (line_of size word) line)
        where
          same : (((line_of size word == line) ≡ true) × (line_of size word ≡ line)) ⊎ (((line_of size word == line) ≡ false) × (line_of size word ≡ line → ⊥)) → is_trunk (perm_of (copy_at c (line_of size word))) ≡ true
          same (inl q) = rw q.1 f
          same (inr q) = other_line word e q.1
      go false f e =
          let says : (n.reserved ≡ Some word) × (lies_in line c.shape.size word ≡ false) = without_says line c.shape.size n.reserved word e in
          other_line word says.0 (λ q. cc (in_own_line size word, says.1, ap (λ l. lies_in l size word) q, ap (λ z. lies_in line z word) sized))

  -- while the line's copy is Trunk, or was none to write
  pub same_reserved : (is_trunk (perm_of (copy_at n.cache line)) ≡ true → is_trunk (perm_of (copy_at c line)) ≡ true) → (word : ℕ) → n.reserved ≡ Some word → is_trunk (perm_of (copy_at c (line_of size word))) ≡ true
  same_reserved still word e = go (eqb_tells (line_of size word) line)
    where
      go : (((line_of size word == line) ≡ true) × (line_of size word ≡ line)) ⊎ (((line_of size word == line) ≡ false) × (line_of size word ≡ line → ⊥)) → is_trunk (perm_of (copy_at c (line_of size word))) ≡ true
      go (inl q) = rw q.1 (still (rw (← q.1) (holds word e)))
      go (inr q) = other_line word e q.1

-- only the hart's other parts change
pub fits_alone : (s t : State) (h : ℕ) (n : Node) (last : ℕ → LineData) → IsFit s last → Framed s t h n → t.views.notes ≡ s.views.notes → t.views.memory ≡ s.views.memory → n.cache ≡ (node_at s h).cache → n.queues ≡ (node_at s h).queues → HoldsReserved (line_size s) n → IsFit t last
fits_alone s t h n last i f notes memory cache queues reserved = fits s t h n last last i f
    (subst (λ (f : ℕ → Kit). IsWell s.trace.image (line_size s) (length s.views.nodes) f t.views.notes t.views.memory last) (λ k j. kits j k)
    (subst (λ (ns : Notes). IsWell s.trace.image (line_size s) (length s.views.nodes) (kit_at s) ns t.views.memory last) (sym notes)
    (subst (λ (ms : List LineData). IsWell s.trace.image (line_size s) (length s.views.nodes) (kit_at s) s.views.notes ms last) (sym memory) i.well)))
    (ap (λ c. c.shape.size) cache) reserved
  where
    kit : kit_of n ≡ kit_at s h
    kit = λ k. record { cache = cache k; queues = queues k }

    kits : (j : ℕ) → kit_at s j ≡ kit_at t j
    kits = at_each (λ j m. kit_at s j ≡ kit_of m) s t h n f (sym kit) (λ j. refl)

-- the trace may grow, as its image stays
pub framed_trace : (s t : State) (h : ℕ) (n : Node) (r : History) → r.image ≡ t.trace.image → Framed s t h n → Framed s (with_trace r t) h n
framed_trace s t h n r e f = record {
  here = same h ∙ f.here;
  there = λ j ne. same j ∙ f.there j ne;
  count = f.count;
  image = e ∙ f.image;
  config = f.config;
}
  where
    same : (j : ℕ) → node_at (with_trace r t) j ≡ node_at t j
    same j = ap (λ im. slice_index_or t.views.nodes j (opening_node im t.views.config 0)) e
