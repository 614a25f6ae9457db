use Rattle.std.proofs.Common.{List, ap, ◌∙◌}
use Rattle.lawful_log.proofs.Harts.{known_behind}
use Rattle.lawful_log.specs.Followed.{known_at}
use Rattle.lawful_log.specs.declared.lines.HartLog.{HartLog}
use Rattle.lawful_log.proofs.lines.reach.Goals as goal

pub loop-alloc-preserved : goal.loop-alloc-preserved
loop-alloc-preserved c = λ h. ap (λ (harts : List HartLog). known_at harts h) c.in_ok-push.ensures.items ∙ known_behind c.loop-alloc.harts.items c.new.result c.new.ensures h ∙ c.loop-alloc.invariant h
