use Rattle.std.specs.Option.{option_copied}
use Rattle.message_judge.proofs.judging.judge_messages.Goals as goal

pub returns : goal.returns
returns c = c.earlier.ensures c.args.profile (option_copied c.args.image) c.args.log.now
    (record { lawful = c.in_ok-lawful.ensures.lawful; unlawful = c.in_ok-lawful.ensures.unlawful })
    (record { coherent = c.in_ok-coherent.ensures.coherent; incoherent = c.in_ok-coherent.ensures.incoherent })
