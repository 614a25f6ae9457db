use Rattle.std.proofs.Common.{ap, ◌∙◌}
use Rattle.machine_model.specs.Views.{State, place_of}
use Rattle.tl_types.specs.declared.line.LineSize.{LineSize}
use Rattle.event_stream.proofs.FrontLines.{noted_place}
use Rattle.event_stream.proofs.stalls.transaction_of.Goals as goal

pub place_of-requires : goal.place_of-requires
place_of-requires c = c.requires.from

pub transaction-requires : goal.transaction-requires
transaction-requires c =
    noted_place c.args.machine.now c.args.line _ _ c.requires
    (c.place_of.ensures ∙ ap (λ (w : LineSize). place_of w c.args.line) c.size_of.ensures)
    (c.directory.ensures ∙ ap (λ (s : State). s.views.notes) c.views.ensures)
