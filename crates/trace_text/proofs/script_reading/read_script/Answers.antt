use Rattle.std.proofs.Common.{Ok, rules}
use Rattle.trace_text.proofs.Scripts.{is_found, is_only}
use Rattle.trace_text.proofs.script_reading.read_script.Goals as goal

pub returns-in-Ok-clause-found : goal.returns-in-Ok-clause-found
returns-in-Ok-clause-found c = is_found c.args.bytes.now (Ok c.in-Ok.script) (search rules)

pub returns-in-Ok-clause-only : goal.returns-in-Ok-clause-only
returns-in-Ok-clause-only c = is_only c.args.bytes.now _ (search rules)

pub returns-in-Err-clause-only : goal.returns-in-Err-clause-only
returns-in-Err-clause-only c = is_only c.args.bytes.now _ (search rules)
