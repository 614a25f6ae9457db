use Rattle.std.proofs.Common.{List, Option, ap, ◌∙◌}
use Rattle.tl_types.specs.declared.line.LineData.{LineData}
use Rattle.written_lines.proofs.Listed.{hart_behind}
use Rattle.written_lines.specs.Granted.{granted_at}
use Rattle.written_lines.proofs.granted.reach.Goals as goal

pub loop-harts-preserved : goal.loop-harts-preserved
loop-harts-preserved c = λ h. ap (λ (harts : List (Option LineData)). granted_at harts h) c.in_ok-push.ensures.items ∙ hart_behind c.loop-harts.harts.items h ∙ c.loop-harts.invariant h
