use Rattle.std.proofs.Common.{◌∙◌, ap, Err}
use Rattle.litmus_parts.specs.declared.stop.Stop.{Stop}
use Rattle.litmus_parts.proofs.Loops.{heads_end, heads_open, heads_stop, heads_more, heads_full}
use Rattle.litmus_parts.proofs.rows.head_at.Goals as goal

pub returns-in-Err-clause-value : goal.returns-in-Err-clause-value
returns-in-Err-clause-value c = heads_stop 8 c.loop-hart.hart c.loop-hart.rest.now c.in-Err.stop _ c.loop-hart-test.true c.in-Err.ensures c.loop-hart.invariant

pub returns-in-None-Some-clause-value : goal.returns-in-None-Some-clause-value
returns-in-None-Some-clause-value c = heads_end 8 c.loop-hart.hart c.loop-hart.rest.now c.in-Ok.later.now c.in-None-Some.rest.now _ c.loop-hart-test.true c.in-Ok.ensures c.in-None-Some.ensures c.in-None-Some.ensures' c.loop-hart.invariant

pub returns-in-None-None-clause-value : goal.returns-in-None-None-clause-value
returns-in-None-None-clause-value c = ap (λ (s : Stop). Err s) c.at.ensures ∙ heads_open 8 c.loop-hart.hart c.loop-hart.rest.now c.in-Ok.later.now _ c.loop-hart-test.true c.in-Ok.ensures c.in-None-None.ensures c.in-None-None.ensures' c.loop-hart.invariant

pub loop-hart-preserved : goal.loop-hart-preserved
loop-hart-preserved c = heads_more 8 c.loop-hart.hart c.loop-hart.rest.now c.in-Ok.later.now c.in-Some-default.next.now _ c.loop-hart-test.true c.in-Ok.ensures c.in-Some-default.ensures c.loop-hart.invariant

pub returns-clause-value : goal.returns-clause-value
returns-clause-value c = ap (λ (s : Stop). Err s) c.at-2.ensures ∙ heads_full 8 c.loop-hart.hart c.loop-hart.rest.now _ c.loop-hart-test.false c.loop-hart.invariant
