use Rattle.std.proofs.Common.{arith, inl, inr, refl}
use Rattle.check_command.proofs.Unread.{goes_on, no_trace_told, whole}
use Rattle.check_command.proofs.reading.whole_trace.Goals as goal

pub returns-in-Err-clause-told : goal.returns-in-Err-clause-told
returns-in-Err-clause-told g c =
    no_trace_told c.args.bytes.now c.args.file c.in-Err.error c.text.result c.text.ensures.told c.text.ensures.memory (λ other. record { none = λ trace more is_trace same. c.in-Err.ensures.only trace more is_trace same other; refused = c.in-Err.ensures.refused other })

pub returns-then-length-bytes-clause-told : goal.returns-then-length-bytes-clause-told
returns-then-length-bytes-clause-told g c = inr (inl (refl, goes_on c.args.bytes.now c.in-Ok.read.0.history c.in-Ok.read.1 c.in-Ok.ensures.found (omega arith)))

pub returns-clause-read : goal.returns-clause-read
returns-clause-read g c = whole c.args.bytes.now c.in-Ok.read.0.history c.in-Ok.read.1 c.in-Ok.ensures.found (omega arith)
