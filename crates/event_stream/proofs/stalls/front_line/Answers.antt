use Rattle.std.proofs.Common.{ap, arith, length, sym, ◌∙◌}
use Rattle.machine_model.specs.Views.{State}
use Rattle.event_stream.proofs.FrontLines.{is_noted, nothing_in_front}
use Rattle.event_stream.proofs.stalls.front_line.Goals as goal

pub returns-in-Some-clause-noted : goal.returns-in-Some-clause-noted
returns-in-Some-clause-noted c = is_noted c.sound_always.ensures c.args.machine.now c.requires c.args.hart c.args.channel c.in-Some.message
    (sym (rw (c.queues.ensures, c.views-then-hart-harts.ensures) at c.in-Some.ensures))

pub returns-else-hart-harts-clause-value : goal.returns-else-hart-harts-clause-value
returns-else-hart-harts-clause-value c =
    sym (nothing_in_front c.args.machine.now c.args.hart c.args.channel (omega (arith, c.if-hart-harts.false, c.harts.ensures ∙ ap (λ (s : State). length s.views.nodes) c.views.ensures)))
