-- No event delivers a Grant without room for its GrantAck, so every list of events keeps few requests outstanding.
use Rattle.std.proofs.Common.{ℕ, List, [], ◌∷◌}
use Rattle.std.specs.Prelude.{map}
use Rattle.std.specs.List.{range_with_len}
use Rattle.std.proofs.lemmas.List.FromFn.{length-map-range_with_len}
use Rattle.elf_loader.specs.Image.{Initial}
use Rattle.machine_types.proofs.Within.{config_limits}
use Rattle.machine_model.specs.Events.{after_events, happens, hart_of}
use Rattle.machine_model.specs.Views.{State, opening, opening_node}
use Rattle.machine_model.specs.declared.act.Act.TheVariants as act
use Rattle.machine_types.specs.declared.config.Config.{Config}
use Rattle.machine_types.specs.declared.event.Event.{Event}
use Rattle.machine_model.specs.declared.act.Act.{Act}
use Rattle.machine_model.proofs.Events.{by_event}
use Rattle.machine_model.proofs.Plans.{Rests}
use Rattle.machine_model.proofs.room.Sizes.{AllSmall, IsSmallState, LeavesRoom, acted_small, node_opens_small}

-- ---- events

-- a Grant is delivered only where its GrantAck has room
leaves_room : (s : State) (e : Event) (a : Act) → Rests s e a → LeavesRoom s (hart_of e) a
leaves_room s e (act.Deliver m) x = x.2.room
leaves_room s e _ x = tt

happens_small : (s : State) (e : Event) → IsSmallState s → IsSmallState (happens s e)
happens_small s e k = by_event IsSmallState s e k (λ a m. acted_small s (hart_of e) a m.in_h (leaves_room s e a m.rests) k)

pub after_events_small : (events : List Event) (s : State) → IsSmallState s → IsSmallState (after_events s events)
after_events_small [] s k = k
after_events_small (e ∷ events) s k = after_events_small events (happens s e) (happens_small s e k)

-- ---- from reset

pub opening_small : (image : Initial) (config : Config) → IsSmallState (opening image config)
opening_small image config = record {
  few = rw (length-map-range_with_len (opening_node image config) 0 config.harts) (config_limits config).few_harts;
  each = fresh (range_with_len 0 config.harts);
}
  where
    fresh : (ids : List ℕ) → AllSmall (map (opening_node image config) ids)
    fresh [] = tt
    fresh (id ∷ ids) = (node_opens_small image config id, fresh ids)
