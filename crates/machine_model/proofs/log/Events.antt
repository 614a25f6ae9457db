-- Every act keeps the order of the queues, and so every list of events does.
use Rattle.std.proofs.Common.{ℕ, ◌<◌, [], ◌≡◌, refl, ap, sym, ◌∙◌, subst, length, slice_index_or}
use native.Mathlib.Omega.{arith}
use Rattle.std.proofs.lemmas.List.FromFn.{get_or-map-range_with_len, length-map-range_with_len}
use Rattle.elf_loader.specs.Image.{Initial}
use Rattle.machine_model.specs.Deliveries.{taken}
use Rattle.machine_model.specs.Events.{counted, happens, hart_of}
use Rattle.machine_model.specs.Laws.{Always}
use Rattle.machine_model.proofs.log.Parts.{LogInOrderAlways}
use Rattle.machine_model.specs.Views.{Node, State, opening, opening_node}
use Rattle.machine_model.specs.declared.act.Act.{Act}
use Rattle.machine_model.specs.declared.act.Act.TheVariants as act
use Rattle.machine_types.specs.declared.config.Config.{Config}
use Rattle.machine_types.specs.declared.event.Event.{Event}
use Rattle.machine_model.proofs.log.Acts.{Delivers, acted_keeps, handled_keeps, same_nodes}
use Rattle.machine_model.proofs.Events.{Anything, IsMove, after_act, events_keep, happens_keeps}
use Rattle.machine_model.proofs.log.Lists.{no_first}
use Rattle.machine_model.proofs.log.Fronts.{front_of_move}
use Rattle.machine_model.proofs.log.Queues.{IsInOrder, IsQueueOrder, quiet_order, sent_order, taken_order}
use Rattle.tilelink_channels.specs.Queues.{queue_of}
use Rattle.tl_types.specs.declared.message.Channel.{Channel}
use Rattle.tl_types.specs.declared.message.Channel.TheVariants.{A, B, C, D, E}

delivers : (s : State) (e : Event) (a : Act) → IsInOrder s → IsMove s e a → Delivers IsInOrder s (hart_of e) a
delivers s e (act.Deliver m) i k =
    let h = hart_of e in
    let front = front_of_move s i e m k in
    handled_keeps IsInOrder quiet_order (λ h m s is i. sent_order h m s i) (λ h m s. IsInOrder s) (λ h m s t. quiet_order s t) (λ h m s i. i)
    (λ h line cap change bytes s i. sent_order h _ s i) (λ h line body s is i. sent_order h _ s i) (λ h line body s is i. sent_order h _ s i)
    h m.line m.body (taken h m s) (taken_order h m s i front.0 k.in_h front.1)
delivers s e _ i k = tt

counted_order : (s : State) → IsInOrder s → IsInOrder (counted s)
counted_order s i = quiet_order s (counted s) (same_nodes s (counted s) refl refl).quiet i

acts : (s : State) (e : Event) (a : Act) → IsMove s e a → Anything s → IsInOrder s → IsInOrder (after_act s e a)
acts s e a k g i = counted_order _ (acted_keeps IsInOrder quiet_order (λ h m s is i. sent_order h m s i) (hart_of e) a s (delivers s e a i k) i)

pub happens_order : (s : State) (e : Event) → IsInOrder s → IsInOrder (happens s e)
happens_order s e i = happens_keeps Anything IsInOrder (λ s e g. tt) acts s e tt i

-- nothing waits at reset
pub opening_order : (image : Initial) (config : Config) → IsInOrder (opening image config)
opening_order image config = record {
  waiting = λ c k d l. empty c k d l;
  moments = λ before rest e. subst IsQueueOrder (sym (no_first before rest e)) (λ c h. ([], refl));
}
  where
    nothing : (image : Initial) (config : Config) (k : ℕ) (c : Channel) → queue_of (opening_node image config k).queues c ≡ []
    nothing image config k A = refl
    nothing image config k B = refl
    nothing image config k C = refl
    nothing image config k D = refl
    nothing image config k E = refl

    empty : (c : Channel) (k : ℕ) (d : Node) → k < length (opening image config).views.nodes → queue_of (slice_index_or (opening image config).views.nodes k d).queues c ≡ []
    empty c k d l =
        let within : k < config.harts = subst (λ n. k < n) (length-map-range_with_len (opening_node image config) 0 config.harts) l in
        ap (λ (n : Node). queue_of n.queues c) (get_or-map-range_with_len (opening_node image config) 0 config.harts k k d within (omega arith)) ∙ nothing image config k c

pub in_order_always : Always (λ image config s. IsInOrder s)
in_order_always image config events is = events_keep Anything IsInOrder (λ s e g. tt) acts events (opening image config) tt (opening_order image config)

pub log_in_order_always : LogInOrderAlways
log_in_order_always image config events is c h before rest e = (in_order_always image config events is).moments before rest e c h
