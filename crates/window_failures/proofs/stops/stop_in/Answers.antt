use Rattle.std.proofs.Common.{◌∙◌, ap}
use Rattle.elf_loader.specs.Image.{Initial}
use Rattle.trace_recorder.specs.History.{entries_of}
use Rattle.window_failures.proofs.Reading.{stop_read}
use Rattle.window_failures.proofs.stops.stop_in.Goals as goal

pub returns : goal.returns
returns c =
    let t = c.args.trace.now.history in
    stop_read t c.args.hart c.status_in.result c.at_reset-start.result c.behind-last.result c.entries.result.now c.entry.result c.harts.result c.stop_of.result c.requires c.status_in.ensures
    (c.entry.ensures.exact ∙ ap (λ (i : Initial). i.entry) c.image.ensures) c.harts.ensures.entries c.at_reset-start.ensures (c.entries.ensures.list ∙ ap (entries_of t) c.from.ensures) c.behind-last.ensures c.stop_of.ensures
