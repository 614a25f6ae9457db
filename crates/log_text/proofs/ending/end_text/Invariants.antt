use Rattle.std.proofs.Common.{◌≡◌, ◌++◌}
use Rattle.std.specs.Prelude.{replicate}
use Rattle.hart.specs.declared.status.Status.TheVariants.{Running}
use Rattle.text_fields.specs.Fields.{numbered}
use Rattle.trace_text.specs.Traces.{status}
use Rattle.log_text.proofs.ending.end_text.Given as goal

abbrev pub invariant-loop-hart : goal.invariant-loop-hart
invariant-loop-hart l = l.bytes.items ≡ l.fn.bytes.items ++ numbered status 0 (replicate l.hart Running)
