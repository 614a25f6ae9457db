use Rattle.std.proofs.Common.{◌++◌}
use Rattle.text_fields.proofs.Pages.{page_stops}
use Rattle.event_stream.specs.Holding.{held_lines}
use Rattle.event_stream.specs.Noted.{noted_lines}
use Rattle.event_stream.specs.States.{changed_lines, state_lines}
use Rattle.event_stream.proofs.Paging.{blank_written, paged_then, paged_writes_all, spells_fails, spells_then, stops_writing}
use Rattle.event_stream.proofs.StateSizes.{few_nodes, memory_fits, noted_lines_fit}
use Rattle.event_stream.proofs.state.write_state.Goals as goal

pub put_held-requires : goal.put_held-requires
put_held-requires g c = few_nodes c.sound_always.ensures c.args.machine.now c.requires

pub put_noted-requires : goal.put_noted-requires
put_noted-requires g c = noted_lines_fit c.sound_always.ensures c.args.machine.now c.requires

pub put_changed-requires : goal.put_changed-requires
put_changed-requires g c = memory_fits c.sound_always.ensures c.args.machine.now c.requires

pub returns-in_err-put_held : goal.returns-in_err-put_held
returns-in_err-put_held g c =
    let s = c.args.machine.now in
    let failed = c.from_residual.ensures.0 in
    blank_written _ _ c.new-page.result (state_lines s) _ c.new-page.ensures
    (stops_writing _ _ c.new-page.result c.put_held.new.page (state_lines s) _ failed
    (spells_fails _ _ c.new-page.result c.put_held.new.page (held_lines s) (noted_lines s ++ changed_lines s) _ failed c.in_err-put_held.ensures))

pub returns-in_err-put_noted : goal.returns-in_err-put_noted
returns-in_err-put_noted g c =
    let failed = c.from_residual-in_err-put_noted.ensures.0 in
    blank_written _ _ _ _ _ c.new-page.ensures
    (stops_writing _ _ _ c.put_noted.new.page _ _ failed
    (spells_then _ _ _ _ _ _ _ _ _ c.in_ok-put_held.ensures (spells_fails _ _ _ _ _ _ _ failed c.in_err-put_noted.ensures)))

pub returns-in_err-put_changed : goal.returns-in_err-put_changed
returns-in_err-put_changed g c =
    let failed = c.from_residual-in_err-put_changed.ensures.0 in
    blank_written _ _ _ _ _ c.new-page.ensures
    (stops_writing _ _ _ c.put_changed.new.page _ _ failed
    (spells_then _ _ _ _ _ _ _ _ _ c.in_ok-put_held.ensures
    (spells_then _ _ _ _ _ _ _ _ _ c.in_ok-put_noted.ensures (page_stops _ _ _ _ _ _ failed c.in_err-put_changed.ensures))))

pub returns : goal.returns
returns g c =
    blank_written _ _ _ _ _ c.new-page.ensures
    (paged_writes_all _ _ _ _ _ _ _ (paged_then _ _ _ _ _ _ _ _ c.in_ok-put_held.ensures (paged_then _ _ _ _ _ _ _ _ c.in_ok-put_noted.ensures c.in_ok-put_changed.ensures)) c.hand_on.ensures.sent)
