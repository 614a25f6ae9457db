-- Room for what is sent, by the queues of the state that it leads to.
use Rattle.std.proofs.Common.{◌≡◌, ℕ, ◌+◌, ◌<◌, ◌≤◌, List, [], ◌∷◌, ◌++◌, refl, sym, subst, length}
use Rattle.std.proofs.lemmas.List.{get_or-set_same, length-append, length-set}
use native.Mathlib.Omega.{arith}
use Rattle.machine_model.specs.Laws.{QueuesFit}
use Rattle.machine_model.specs.Views.{Node, State, node_at, sent, with_node}
use Rattle.tilelink_channels.specs.Queues.{Waiting, pushed, queue_of, room_of, with_queue}
use Rattle.tl_types.specs.Message.{channel_of}
use Rattle.tl_types.specs.declared.message.Channel.{Channel}
use Rattle.tl_types.specs.declared.message.Channel.TheVariants.{A, B, C, D, E}
use Rattle.tl_types.specs.declared.message.Msg.{Msg}

queue-with_queue : (w : Waiting) (channel : Channel) (ms : List Msg) → queue_of (with_queue w channel ms) channel ≡ ms
queue-with_queue w A ms = refl
queue-with_queue w B ms = refl
queue-with_queue w C ms = refl
queue-with_queue w D ms = refl
queue-with_queue w E ms = refl

-- a message that has gone into its queue had room there
pub had_room_in : (h : ℕ) (m : Msg) (s : State) → h < length s.views.nodes → length (queue_of (node_at (sent h m s) h).queues (channel_of m)) ≤ room_of (channel_of m) → length (queue_of (node_at s h).queues (channel_of m)) < room_of (channel_of m)
had_room_in h m s in_h le =
    let at : node_at (sent h m s) h ≡ record (node_at s h) { queues = pushed (node_at s h).queues m } = get_or-set_same s.views.nodes h _ _ in_h in
    let few : length (queue_of (pushed (node_at s h).queues m) (channel_of m)) ≤ room_of (channel_of m) = subst (λ (n : Node). length (queue_of n.queues (channel_of m)) ≤ room_of (channel_of m)) at le in
    let more : length (queue_of (pushed (node_at s h).queues m) (channel_of m)) ≡ length (queue_of (node_at s h).queues (channel_of m)) + 1 = rw (queue-with_queue (node_at s h).queues (channel_of m) (queue_of (node_at s h).queues (channel_of m) ++ m ∷ [])) (length-append (queue_of (node_at s h).queues (channel_of m)) (m ∷ [])) in
    omega (arith, few, more)

-- where all queues fit
pub had_room : (h : ℕ) (m : Msg) (s : State) → h < length s.views.nodes → QueuesFit (sent h m s) → length (queue_of (node_at s h).queues (channel_of m)) < room_of (channel_of m)
had_room h m s in_h fit = had_room_in h m s in_h (fit h (channel_of m))

-- the same of a state by another name
had_room_as : (h : ℕ) (m : Msg) (s t : State) → t ≡ s → h < length s.views.nodes → QueuesFit (sent h m s) → length (queue_of (node_at t h).queues (channel_of m)) < room_of (channel_of m)
had_room_as h m s t e in_h fit = subst (λ (u : State). length (queue_of (node_at u h).queues (channel_of m)) < room_of (channel_of m)) (sym e) (had_room h m s in_h fit)

-- the same after a change of the hart's node
pub had_room_after : (h : ℕ) (m : Msg) (n : Node) (s t : State) → t ≡ with_node h n s → h < length s.views.nodes → QueuesFit (sent h m (with_node h n s)) → length (queue_of (node_at t h).queues (channel_of m)) < room_of (channel_of m)
had_room_after h m n s t e in_h fit = let same : length (with_node h n s).views.nodes ≡ length s.views.nodes = length-set s.views.nodes h n in had_room_as h m (with_node h n s) t e (omega (arith, same, in_h)) fit
