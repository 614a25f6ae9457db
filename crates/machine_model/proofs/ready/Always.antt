-- How large everything is, and what each act finds, whatever events come.
use Rattle.std.proofs.Common.{List, [], ◌∷◌, ◌++◌, ◌≡◌, refl, ap, sym, ◌∙◌, subst}
use Rattle.elf_loader.specs.Image.{Initial, IsImage}
use Rattle.machine_model.specs.Changing.{acted}
use Rattle.machine_model.specs.Events.{after_events, counted, happens, hart_of}
use Rattle.machine_model.specs.Laws.{KeepsImageAndConfig, QueuesFit}
use Rattle.machine_model.specs.Ready.{ReadyAlways, SoundAlways}
use Rattle.machine_model.specs.Views.{State, opening}
use Rattle.machine_types.specs.declared.config.Config.{Config}
use Rattle.machine_types.specs.declared.event.Event.{Event}
use Rattle.machine_model.proofs.Growth.{happens_follows}
use Rattle.machine_model.proofs.ready.Kept.{IsSized, act_ready, events_sized, opening_sized}
use Rattle.machine_model.proofs.ready.Messages.{queued_line}
use Rattle.machine_model.proofs.room.Queues.{queues_fit_always}
use Rattle.machine_model.proofs.Events.{IsMove, move_by, move_is}

stays : (events : List Event) (s : State) → KeepsImageAndConfig s (after_events s events)
stays [] s = record { image = refl; line = refl; config = refl }
stays (e ∷ events) s =
    let first = (happens_follows s e).stays in
    let rest = stays events (happens s e) in
    record { image = rest.image ∙ first.image; line = rest.line ∙ first.line; config = rest.config ∙ first.config }

-- one more event
pub after_one_more : (events : List Event) (s : State) (e : Event) → after_events s (events ++ e ∷ []) ≡ happens (after_events s events) e
after_one_more [] s e = refl
after_one_more (first ∷ events) s e = after_one_more events (happens s first) e

module _ (image : Initial) (config : Config) (events : List Event) (is : IsImage image) where
  abbrev s : State
  s = after_events (opening image config) events

  sized : IsSized s
  sized = events_sized events (opening image config) (opening_sized image config is.legal_size.whole_pages)

pub sound_always : SoundAlways
sound_always image config events is = record {
  image = subst IsImage (sym kept.image) is;
  nodes = k.stand.nodes;
  entries = k.stand.entries;
  statuses = k.stand.statuses;
  line = kept.line ∙ ap (λ (c : Config). c.line) (sym kept.config);
  noted_harts = k.harts;
  noted_lines = k.fit.well.notes_room;
  lines = k.fit.well.memory_room;
  sizes = k.cells;
  shapes = k.shapes;
  queued = queued_line (s image config events is) k.last k.fit;
  changes = k.changes;
  places = k.places;
}
  where
    k : IsSized (s image config events is)
    k = sized image config events is

    kept : KeepsImageAndConfig (opening image config) (s image config events is)
    kept = stays events (opening image config)

pub ready_always : ReadyAlways
ready_always image config events is e a good planned free = record {
  act = act_ready (s image config events is) k e a m;
  room = subst QueuesFit leads (queues_fit_always image config (events ++ e ∷ []) is);
}
  where
    k : IsSized (s image config events is)
    k = sized image config events is

    m : IsMove (s image config events is) e a
    m = move_by (s image config events is) e a good planned free

    leads : after_events (opening image config) (events ++ e ∷ []) ≡ counted (acted (hart_of e) a (s image config events is))
    leads = after_one_more events (opening image config) e ∙ move_is (s image config events is) e a m
