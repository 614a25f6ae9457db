-- No queue holds more messages than its room, whatever events come.
use Rattle.std.proofs.Common.{ℕ, List, [], ◌∷◌, ◌<◌, ◌≤◌, sym, subst, length}
use Rattle.std.specs.Ordering.{nat_cmp}
use Rattle.std.specs.FinSet.{FinSet}
use Rattle.std.proofs.lemmas.Bool.{cases_lt}
use Rattle.std.proofs.lemmas.List.{get_or_past}
use mathlib.Core.Logic.{◌⊎◌, inl, inr}
use native.Mathlib.Omega.{arith}
use Rattle.machine_model.specs.Events.{after_events}
use Rattle.machine_model.specs.Laws.{Always, QueuesFit}
use Rattle.machine_model.specs.Views.{Node, State, no_node, node_at, opening}
use Rattle.machine_model.proofs.room.Events.{after_events_small, opening_small}
use Rattle.machine_model.proofs.room.Lines.{LineHasFew, asked_but, few_others, line_few}
use Rattle.machine_model.proofs.room.Pigeons.{no_more, sizes}
use Rattle.machine_model.proofs.room.Sizes.{IsSmallNode, IsSmallState, node_small}
use Rattle.machine_model.proofs.coherence.WorldEvents.{after_events_fit}
use Rattle.machine_model.proofs.coherence.WorldOpening.{opening_fits}
use Rattle.machine_model.proofs.coherence.WorldSteps.{Fits}
use Rattle.tilelink_channels.specs.Queues.{none_waiting, queue_of, room_of}
use Rattle.tl_types.specs.declared.message.Channel.{Channel}
use Rattle.tl_types.specs.declared.message.Channel.TheVariants.{A, B, C, D, E}

none_fit : (channel : Channel) → length (queue_of none_waiting channel) ≤ room_of channel
none_fit A = omega arith
none_fit B = omega arith
none_fit C = omega arith
none_fit D = omega arith
none_fit E = omega arith

module _ (s : State) (fit : Fits s) (k : IsSmallState s) (h : ℕ) where
  abbrev n : Node
  n = node_at s h

  abbrev others : List (FinSet nat_cmp)
  others = asked_but s.views.nodes h

  small : IsSmallNode n
  small = node_small s k h

  line : (q : ℕ) → LineHasFew s fit.0 fit.1 h q
  line = line_few s fit.0 fit.1 h

  -- an Acquire on A is outstanding
  a_fits : length n.queues.a ≤ room_of A
  a_fits = let le : length n.queues.a ≤ sizes (n.cache.acquiring ∷ []) = no_more n.queues.a (n.cache.acquiring ∷ []) (λ q. omega (arith, (line q).line_a)) in omega (arith, le, small.few_acquires)

  -- what the other harts have outstanding
  others_ask : h < length s.views.nodes → sizes others ≤ room_of B
  others_ask in_h = omega (arith, few_others s.views.nodes h k.each in_h, k.few)

  -- a Probe on B is for one of them
  b_fits : h < length s.views.nodes → length n.queues.b ≤ room_of B
  b_fits in_h = let le : length n.queues.b ≤ sizes others = no_more n.queues.b others (λ q. (line q).line_b) in omega (arith, le, others_ask in_h)

  -- what is on C answers such a Probe, or is a Release that is unanswered
  c_fits : h < length s.views.nodes → length n.queues.c ≤ room_of C
  c_fits in_h = let le : length n.queues.c ≤ sizes (n.cache.releasing ∷ others) = no_more n.queues.c (n.cache.releasing ∷ others) (λ q. (line q).line_c) in omega (arith, le, others_ask in_h, small.few_releases)

  -- what is on D answers an Acquire or a Release
  d_fits : length n.queues.d ≤ room_of D
  d_fits = let le : length n.queues.d ≤ sizes (n.cache.acquiring ∷ n.cache.releasing ∷ []) = no_more n.queues.d (n.cache.acquiring ∷ n.cache.releasing ∷ []) (λ q. omega (arith, (line q).line_d)) in omega (arith, le, small.few_acquires, small.few_releases)

  queue_fits : (channel : Channel) → h < length s.views.nodes → length (queue_of n.queues channel) ≤ room_of channel
  queue_fits A in_h = a_fits
  queue_fits B in_h = b_fits in_h
  queue_fits C in_h = c_fits in_h
  queue_fits D in_h = d_fits
  queue_fits E in_h = small.few_acks

queues_fit : (s : State) → Fits s → IsSmallState s → QueuesFit s
queues_fit s fit k h channel = go (cases_lt h (length s.views.nodes))
  where
    go : (h < length s.views.nodes) ⊎ (length s.views.nodes ≤ h) → length (queue_of (node_at s h).queues channel) ≤ room_of channel
    go (inl in_h) = queue_fits s fit k h channel in_h
    go (inr past) = subst (λ (n : Node). length (queue_of n.queues channel) ≤ room_of channel) (sym (get_or_past s.views.nodes h (no_node s) past)) (none_fit channel)

pub queues_fit_always : Always (λ image config s. QueuesFit s)
queues_fit_always image config events is = queues_fit (after_events (opening image config) events)
    (after_events_fit events (opening image config) (opening_fits image config is.legal_size.whole_pages))
    (after_events_small events (opening image config) (opening_small image config))
