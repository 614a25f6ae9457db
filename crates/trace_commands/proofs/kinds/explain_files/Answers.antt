use Rattle.std.proofs.Common.{inl, refl}
use Rattle.command_files.proofs.Left.{handed_up}
use Rattle.trace_commands.proofs.Told.{text_left}
use Rattle.trace_commands.proofs.kinds.explain_files.Goals as goal

pub returns-in_err-bytes-clause-unfinished : goal.returns-in_err-bytes-clause-unfinished
returns-in_err-bytes-clause-unfinished g c = handed_up _ c.from_residual.result _ c.from_residual.ensures.1 (text_left (g.F.Files.held c.args.files.now) _ _ _ _ _ c.in_err-bytes.ensures.fault refl)

pub returns-in_err-bytes-clause-told : goal.returns-in_err-bytes-clause-told
returns-in_err-bytes-clause-told g c = handed_up _ c.from_residual.result _ c.from_residual.ensures.1 (inl c.in_err-bytes.ensures.fault)
