-- A drain, done to its node first.
use Rattle.std.proofs.Common.{◌≡◌, ℕ, ◌<◌, List, [], ◌∷◌, Bool, length, refl, sym, ap, ◌∙◌}
use Rattle.client_cache.specs.Cache.{word_written}
use Rattle.machine_model.specs.Changing.{drained, performs, with_buffer, writes_word}
use Rattle.machine_model.specs.Views.{Node, State, node_at, with_node, with_trace}
use Rattle.machine_parts.specs.Drains.{emptied}
use Rattle.machine_parts.proofs.Nodes.{node_same, node_twice}
use Rattle.store_buffer.specs.Entry.{entry_of}
use Rattle.store_buffer.specs.Groups.{Groups, after_take, oldest}
use Rattle.tl_types.specs.Line.{line_of}
use Rattle.trace_recorder.specs.History.{with_performed}

pub performs_node : (h g : ℕ) (places : List ℕ) (n : Node) (s : State) → performs h places (with_node g n s) ≡ with_node g n (performs h places s)
performs_node h g [] n s = refl
performs_node h g (place ∷ places) n s = performs_node h g places n (with_trace (with_performed (record { hart = h; place = place }) s.trace) s)

pub performs_at : (h g : ℕ) (places : List ℕ) (s : State) → node_at (performs h places s) g ≡ node_at s g
performs_at h g [] s = refl
performs_at h g (place ∷ places) s = performs_at h g places (with_trace (with_performed (record { hart = h; place = place }) s.trace) s)

pub performs_nodes : (h : ℕ) (places : List ℕ) (s : State) → (performs h places s).views.nodes ≡ s.views.nodes
performs_nodes h [] s = refl
performs_nodes h (place ∷ places) s = performs_nodes h places (with_trace (with_performed (record { hart = h; place = place }) s.trace) s)

-- a write to the copy and then a change of the buffer change the node once
pub written_then : (h word : ℕ) (marks : List Bool) (bytes : List ℕ) (b : Groups) (s : State) → h < length s.views.nodes → with_buffer h b (writes_word h word marks bytes s) ≡ with_node h (record (node_at s h) { cache = word_written (node_at s h).cache (line_of (node_at s h).cache.shape.size word) word marks bytes; buffer = b }) s
written_then h word marks bytes b s l =
    let n = node_at s h in
    let m = record n { cache = word_written n.cache (line_of n.cache.shape.size word) word marks bytes } in
    ap (λ (k : Node). with_node h (record k { buffer = b }) (with_node h m s)) (node_same h m s l) ∙ node_twice h m (record m { buffer = b }) s

pub drained_is : (h word : ℕ) (s : State) → h < length s.views.nodes → performs h (entry_of word (oldest (node_at s h).buffer)).ops (with_node h (emptied word (node_at s h)) s) ≡ drained h word s
drained_is h word s l =
    let n = node_at s h in
    let e = entry_of word (oldest n.buffer) in
    let p = performs h e.ops s in
    let inside : h < length p.views.nodes = rw (performs_nodes h e.ops s) l in
    performs_node h h e.ops (emptied word n) s
    ∙ (ap (λ (k : Node). with_node h (record k { buffer = after_take word n.buffer; cache = word_written k.cache (line_of k.cache.shape.size word) word e.mask e.bytes }) p) (sym (performs_at h h e.ops s))
    ∙ (sym (written_then h word e.mask e.bytes (after_take word n.buffer) p inside)))
