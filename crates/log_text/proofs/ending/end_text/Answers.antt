use Rattle.std.proofs.Common.{ap, ◌∙◌, List, ℕ, ◌++◌}
use Rattle.log_text.proofs.Running.{none_runs, one_more_runs}
use Rattle.log_text.proofs.ending.end_text.Goals as goal

pub loop-hart-init : goal.loop-hart-init
loop-hart-init c = none_runs c.args.bytes.now.items

pub loop-hart-preserved : goal.loop-hart-preserved
loop-hart-preserved c = one_more_runs c.loop-hart.hart _ c.loop-hart.bytes.items _ c.loop-hart.invariant (c.in_ok-extend_from_slice.ensures.items ∙ ap (λ (line : List ℕ). c.loop-hart.bytes.items ++ line) c.running_line.ensures)
