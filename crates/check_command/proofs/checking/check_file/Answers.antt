use Rattle.std.proofs.Common.{refl}
use Rattle.check_command.proofs.Unread.{check_told, trace_is_not_write}
use Rattle.command_files.proofs.Left.{handed_up, left}
use Rattle.check_command.proofs.Told.{of_refusal, of_trace, text_is_not_write, trace_held}
use Rattle.check_command.proofs.checking.check_file.Goals as goal

pub returns-in_err-bytes-clause-unfinished : goal.returns-in_err-bytes-clause-unfinished
returns-in_err-bytes-clause-unfinished g c =
    handed_up _ c.from_residual.result _ c.from_residual.ensures.1 (left _ _ _ _ (text_is_not_write (g.F.Files.held c.args.files.now) _ _ c.in_err-bytes.ensures.fault) refl)

pub returns-in_err-bytes-clause-told : goal.returns-in_err-bytes-clause-told
returns-in_err-bytes-clause-told g c = handed_up _ c.from_residual.result _ c.from_residual.ensures.1 (of_trace (g.F.Files.held c.args.files.now) c.args.file _ c.in_err-bytes.ensures.fault)

pub returns-in_err-trace-clause-unfinished : goal.returns-in_err-trace-clause-unfinished
returns-in_err-trace-clause-unfinished g c =
    handed_up _ c.from_residual-in_err-trace.result _ c.from_residual-in_err-trace.ensures.1 (left _ _ _ _ (trace_is_not_write _ _ _ c.in_err-trace.ensures.told) refl)

pub returns-in_err-trace-clause-told : goal.returns-in_err-trace-clause-told
returns-in_err-trace-clause-told g c =
    handed_up _ c.from_residual-in_err-trace.result _ c.from_residual-in_err-trace.ensures.1
    (check_told (g.F.Files.held c.args.files.now) c.args.file c.in_ok-bytes.bytes.items c.in_ok-bytes.ensures.bytes c.as_slice.result.now _ c.as_slice.ensures.value c.in_err-trace.ensures.told)

pub returns-in-Err-clause-told : goal.returns-in-Err-clause-told
returns-in-Err-clause-told g c = of_refusal _ c.args.file c.in_ok-trace.trace.history c.in-Err.error c.check.result
    (trace_held (g.F.Files.held c.args.files.now) c.args.file.now c.in_ok-bytes.bytes.items c.as_slice.result.now c.in_ok-trace.trace.history c.in_ok-bytes.ensures.bytes c.as_slice.ensures.value c.in_ok-trace.ensures.read)
    c.in-Err.ensures.refused c.check.ensures.told c.check.ensures.memory

pub returns-in-Ok-print-clause-judged : goal.returns-in-Ok-print-clause-judged
returns-in-Ok-print-clause-judged g c = record {
  trace = c.in_ok-trace.trace.history;
  file = trace_held (g.F.Files.held c.args.files.now) c.args.file.now c.in_ok-bytes.bytes.items c.as_slice.result.now c.in_ok-trace.trace.history c.in_ok-bytes.ensures.bytes c.as_slice.ensures.value c.in_ok-trace.ensures.read;
  judged = c.in-Ok.ensures.judged;
  printed = c.in-Ok-print.ensures;
}
