-- A delivery that is planned is of the message in front of its queue.
use Rattle.std.proofs.Common.{List, [], ◌∷◌, ◌≡◌, Some, refl, subst}
use Rattle.machine_model.specs.Events.{hart_of}
use Rattle.machine_model.specs.Views.{Node, State, node_at}
use Rattle.machine_model.specs.declared.act.Act.TheVariants as act
use Rattle.machine_types.specs.declared.event.Event.{Event}
use Rattle.machine_model.proofs.log.Queues.{IsInOrder, front_channel}
use Rattle.tilelink_channels.specs.Queues.{front_of, queue_of}
use Rattle.tl_types.specs.Message.{channel_of}
use Rattle.tl_types.specs.declared.message.Msg.{Msg}
use Rattle.machine_model.proofs.Events.{IsMove}

-- the message is in front of its own channel's queue
abbrev pub IsFront : Node → Msg → Type 0
IsFront n m = (rest : List Msg) × (queue_of n.queues (channel_of m) ≡ m ∷ rest)

-- a message that is delivered is
pub front_of_move : (s : State) → IsInOrder s → (e : Event) (m : Msg) → IsMove s e (act.Deliver m) → IsFront (node_at s (hart_of e)) m
front_of_move s i e m k = go (queue_of (node_at s (hart_of e)).queues k.rests.0) refl k.rests.2.front
  where
    go : (q : List Msg) → queue_of (node_at s (hart_of e)).queues k.rests.0 ≡ q → front_of q ≡ Some m → IsFront (node_at s (hart_of e)) m
    go [] is f = cc f
    go (x ∷ rest) is f =
        let same : x ≡ m = cc f in
        let here = subst (λ y. queue_of (node_at s (hart_of e)).queues k.rests.0 ≡ y ∷ rest) same is in
        (rest, subst (λ c. queue_of (node_at s (hart_of e)).queues c ≡ m ∷ rest) (front_channel s i k.rests.0 (hart_of e) m rest k.in_h here) here)
