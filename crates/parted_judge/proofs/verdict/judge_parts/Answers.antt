use Rattle.parted_judge.proofs.Parts.{at_end, going_on}
use Rattle.parted_judge.proofs.verdict.judge_parts.Goals as goal

pub returns-then-ended : goal.returns-then-ended
returns-then-ended c = at_end c.args.profile c.args.first.now c.args.second.now c.in_ok-one.one c.in_ok-two.two c.earlier-told.result c.in_ok-one.ensures c.in_ok-two.ensures c.earlier-told.ensures c.args.ended c.told_at_end.result c.if-ended.true c.told_at_end.ensures

pub returns : goal.returns
returns c = going_on c.args.profile c.args.first.now c.args.second.now c.in_ok-one.one c.in_ok-two.two c.earlier-told.result c.in_ok-one.ensures c.in_ok-two.ensures c.earlier-told.ensures c.args.ended c.if-ended.false
