use Rattle.lawful_log.proofs.Nested.{lawful_by}
use Rattle.message_judge.proofs.judging.lawful_by_both.Goals as goal

pub returns : goal.returns
returns c = λ profile image log lawful coherent. (lawful_by profile log lawful, coherent)
