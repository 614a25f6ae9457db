use Rattle.message_judge.proofs.Going.{stays}
use Rattle.message_judge.proofs.judging.first_fault_stays.Goals as goal

pub returns : goal.returns
returns c = λ profile image log more breach index verdict. stays profile image log more breach index verdict
