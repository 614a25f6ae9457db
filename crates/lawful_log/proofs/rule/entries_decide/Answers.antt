use Rattle.lawful_log.proofs.Entries.{entries_decide_lem}
use Rattle.lawful_log.proofs.rule.entries_decide.Goals as goal

pub returns : goal.returns
returns c = entries_decide_lem
