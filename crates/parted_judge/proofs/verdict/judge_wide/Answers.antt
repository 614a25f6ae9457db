use Rattle.parted_judge.proofs.Ended.{read_judged}
use Rattle.parted_judge.proofs.verdict.judge_wide.Goals as goal

pub returns : goal.returns
returns c = read_judged c.args.ended c.args.profile c.args.log.now c.deref.result.now c.deref-2.result.now c.judge_parts.result c.deref.ensures.value c.deref-2.ensures.value c.judge_parts.ensures
