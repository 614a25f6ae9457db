use Rattle.std.specs.Option.{option_copied}
use Rattle.message_judge.proofs.judging.judge_ended.Goals as goal

pub returns-in_ok-left_open-in-Lawful : goal.returns-in_ok-left_open-in-Lawful
returns-in_ok-left_open-in-Lawful c = c.at_end.ensures c.args.profile (option_copied c.args.image) c.args.log.now (c.in_ok-judge_messages.ensures.lawful.0 c.in-Lawful.is) c.in_ok-left_open-in-Lawful.ensures
