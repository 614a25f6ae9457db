-- Where a node stands after a change of one.
use Rattle.std.proofs.Common.{◌≡◌, ℕ, ◌<◌, List, [], length, Option, None, ap, refl, slice_index_or, subst, sym, ◌∙◌, ◌/◌, map}
use Rattle.std.specs.List.{range_with_len}
use Rattle.machine_model.specs.Memory.{lines_of}
use Rattle.std.proofs.lemmas.List.{get_or-set_same, get_or_default, length-set, set-set}
use Rattle.client_cache.specs.Cache.{Cache, opening, probed}
use Rattle.client_cache.specs.declared.answers.Probed.{Probed}
use Rattle.directory.specs.Directory as directory
use Rattle.directory.specs.Directory.{Notes}
use Rattle.elf_loader.specs.Image.{Initial}
use Rattle.trace_recorder.specs.History as history
use Rattle.trace_recorder.specs.History.{History, with_logged}
use Rattle.trace_recorder.specs.declared.logged.Logged.{Logged}
use Rattle.hart.specs.Run.{reset_at}
use Rattle.hart.specs.declared.state.Hart.{Hart}
use Rattle.machine_model.specs.Deliveries.{with_less}
use Rattle.machine_model.specs.Views.{Node, State, no_node, node_at, opening as opening_of, opening_node, with_node, with_trace}
use Rattle.machine_parts.specs.Lists.{KeepsLists}
use Rattle.machine_parts.specs.Standing.{Standing}
use Rattle.tl_types.specs.Line.{length_of}
use Rattle.machine_types.specs.declared.config.Config.{Config}
use Rattle.tl_types.specs.declared.line.LineData.{LineData}
use Rattle.tl_types.specs.declared.permission.Cap.{Cap}
use Rattle.store_buffer.specs.Groups.{Groups, no_groups}
use Rattle.tilelink_channels.specs.Queues.{Waiting, none_waiting}

pub node_same : (h : ℕ) (n : Node) (s : State) → h < length s.views.nodes → node_at (with_node h n s) h ≡ n
node_same h n s l = get_or-set_same s.views.nodes h n _ l

pub count_same : (h : ℕ) (n : Node) (s : State) → length (with_node h n s).views.nodes ≡ length s.views.nodes
count_same h n s = length-set s.views.nodes h n

pub node_twice : (h : ℕ) (n m : Node) (s : State) → with_node h m (with_node h n s) ≡ with_node h m s
node_twice h n m s = ap (λ (nodes : List Node). record s { views = record s.views { nodes = nodes } }) (set-set s.views.nodes h n m)

-- a copy that shrank, and the reservation that lasts with what is left
pub less_is : (old n : Node) (answer : Probed) (cache : Cache) (line : ℕ) (cap : Cap) → old ≡ n → (answer, cache) ≡ probed old.cache line cap → with_less cache line old ≡ with_less (probed n.cache line cap).1 line n
less_is old n answer cache line cap same is =
    ap (λ (p : Probed × Cache). with_less p.1 line old) is ∙ ap (λ (k : Node). with_less (probed k.cache line cap).1 line k) same

-- ---- a change of the node that a standing has at a hart, where both are told by other names

pub changed : {A : Type 0} (h : ℕ) (p q : Standing) (here d : Node) (put : A → Node → Node) (f : Node → A) (new : A) → p ≡ q → h < length q.state.views.nodes → here ≡ slice_index_or p.state.views.nodes h d → new ≡ f here
    → with_node h (put new here) p.state ≡ with_node h (put (f (node_at q.state h)) (node_at q.state h)) q.state
changed h p q here d put f new same in_h is e =
    let there = subst (λ (r : Standing). h < length r.state.views.nodes) (sym same) in_h in
    ap (λ a. with_node h (put a here) p.state) e
    ∙ (ap (λ (n : Node). with_node h (put (f n) n) p.state) (is ∙ get_or_default p.state.views.nodes h d (no_node p.state) there) ∙ ap (λ (r : Standing). with_node h (put (f (node_at r.state h)) (node_at r.state h)) r.state) same)

-- a message is logged at a state by another name
pub logged_at : (entry : Logged) (log : History) (s t : State) → log ≡ with_logged entry s.trace → s ≡ t → with_trace log s ≡ with_trace (with_logged entry t.trace) t
logged_at entry log s t e same = ap (λ (l : History). with_trace l s) e ∙ ap (λ (u : State). with_trace (with_logged entry u.trace) u) same

pub lists_kept : (h : ℕ) (n : Node) (p q : Standing) → p ≡ q → KeepsLists q (record p { state = with_node h n p.state })
lists_kept h n p q same = subst (λ (r : Standing). KeepsLists r (record p { state = with_node h n p.state })) same (record { nodes = count_same h n p.state; entries = refl; statuses = refl; room = refl })

pub kept_on : (r s t : Standing) → KeepsLists r s → KeepsLists s t → KeepsLists r t
kept_on r s t k l = record { nodes = l.nodes ∙ k.nodes; entries = l.entries ∙ k.entries; statuses = l.statuses ∙ k.statuses; room = l.room ∙ k.room }

-- ---- at reset

pub opened : (image : Initial) (config : Config) (id entry : ℕ) (hart : Hart) (output : List ℕ) (reserved : Option ℕ) (buffer : Groups) (cache : Cache) (queues : Waiting)
    → entry ≡ image.entry → hart ≡ reset_at entry id config.harts → output ≡ [] → reserved ≡ None → buffer ≡ no_groups → cache ≡ opening config.sets config.ways config.line → queues ≡ none_waiting
    → record { hart = hart; output = output; reserved = reserved; buffer = buffer; cache = cache; queues = queues } ≡ opening_node image config id
opened image config id entry hart output reserved buffer cache queues e h o r b c q = rw (h, e, o, r, b, c, q) refl

pub opened_state : (image : Initial) (config : Config) (nodes : List Node) (memory : List LineData) (notes : Notes) (trace : History)
    → nodes ≡ map (opening_node image config) (range_with_len 0 config.harts) → memory ≡ lines_of config.line image.bytes
    → notes ≡ directory.opening config.harts (length image.bytes / length_of config.line) → trace ≡ history.opening image config.line config.harts
    → record { views = record { config = config; nodes = nodes; memory = memory; notes = notes; changes = 0 }; trace = trace } ≡ opening_of image config
opened_state image config nodes memory notes trace n m d t = rw (n, m, d, t) refl
