use Rattle.std.proofs.Common.{ℕ, List, refl, subst, sym}
use Rattle.std.specs.Io.KnownBytes.{Appends}
use Rattle.text_fields.specs.Writing.{Begins}
use Rattle.order_text.specs.Text.{text}
use Rattle.order_text.specs.declared.line.Line.{Line}
use Rattle.command_files.proofs.Left.{handed_up, left, spoiled}
use Rattle.command_files.specs.Contents.{HoldsBytes}
use Rattle.check_command.proofs.Told.{trace_held}
use Rattle.check_command.proofs.Unread.{trace_is_not_write}
use Rattle.trace_commands.proofs.Told.{cut_off, lines_are_not_write, names_are_not_write, of_lines, of_names_as_before, of_text, told_whole}
use Rattle.trace_commands.proofs.explaining.explain_trace.Goals as goal

pub returns-in_err-trace-clause-unfinished : goal.returns-in_err-trace-clause-unfinished
returns-in_err-trace-clause-unfinished g c =
    handed_up _ c.from_residual.result _ c.from_residual.ensures.1 (left _ _ _ _ (trace_is_not_write _ _ _ c.in_err-trace.ensures.told) refl)

pub returns-in_err-trace-clause-told : goal.returns-in_err-trace-clause-told
returns-in_err-trace-clause-told g c =
    handed_up _ c.from_residual.result _ c.from_residual.ensures.1
    (of_text (g.F.Files.held c.args.files.now) c.args.wanted c.as_slice.result.now _
    (subst (λ (bytes : List ℕ). HoldsBytes (g.F.Files.held c.args.files.now) c.args.wanted.script.now bytes) (sym c.as_slice.ensures.value) c.requires) c.in_err-trace.ensures.told)

pub returns-in_err-names-clause-unfinished : goal.returns-in_err-names-clause-unfinished
returns-in_err-names-clause-unfinished g c =
    handed_up _ c.from_residual-in_err-names.result _ c.from_residual-in_err-names.ensures.1 (left _ _ _ _ (names_are_not_write (g.F.Files.held c.whole_trace.new.files) _ _ _ c.in_err-names.ensures.told) refl)

pub returns-in_err-names-clause-told : goal.returns-in_err-names-clause-told
returns-in_err-names-clause-told g c =
    handed_up _ c.from_residual-in_err-names.result _ c.from_residual-in_err-names.ensures.1
    (of_names_as_before (g.F.Files.held c.whole_trace.new.files) (g.F.Files.held c.args.files.now) c.args.wanted c.in_ok-trace.trace.history _ c.in_ok-trace.ensures.spared
    (trace_held (g.F.Files.held c.args.files.now) c.args.wanted.script.now c.args.bytes.items c.as_slice.result.now c.in_ok-trace.trace.history c.requires c.as_slice.ensures.value c.in_ok-trace.ensures.read) c.in_err-names.ensures.told)

pub returns-in_err-lines-clause-unfinished : goal.returns-in_err-lines-clause-unfinished
returns-in_err-lines-clause-unfinished g c =
    handed_up _ c.from_residual-in_err-lines.result _ c.from_residual-in_err-lines.ensures.1 (left _ _ _ _ (lines_are_not_write c.args.wanted.script c.in_ok-trace.trace.history _ c.in_err-lines.ensures.told) refl)

pub returns-in_err-lines-clause-told : goal.returns-in_err-lines-clause-told
returns-in_err-lines-clause-told g c =
    handed_up _ c.from_residual-in_err-lines.result _ c.from_residual-in_err-lines.ensures.1
    (of_lines (g.F.Files.held c.args.files.now) c.args.wanted c.in_ok-trace.trace.history _
    (trace_held (g.F.Files.held c.args.files.now) c.args.wanted.script.now c.args.bytes.items c.as_slice.result.now c.in_ok-trace.trace.history c.requires c.as_slice.ensures.value c.in_ok-trace.ensures.read) c.in_err-lines.ensures.told)

pub returns-in-Ok-clause-explained : goal.returns-in-Ok-clause-explained
returns-in-Ok-clause-explained g c =
    told_whole (g.F.Files.held c.whole_trace.new.files) (g.F.Files.held c.args.files.now) c.args.wanted c.in_ok-trace.trace.history c.in_ok-names.names c.in_ok-trace.ensures.spared
    (trace_held (g.F.Files.held c.args.files.now) c.args.wanted.script.now c.args.bytes.items c.as_slice.result.now c.in_ok-trace.trace.history c.requires c.as_slice.ensures.value c.in_ok-trace.ensures.read)
    c.in_ok-names.ensures.names c.in_ok-lines.lines.items c.in_ok-lines.ensures.lines _ _
    (subst (λ (ls : List Line). Appends (g.O.Write.contents c.args.out.now) (g.O.Write.contents c.print.new.out) (text c.in_ok-names.names ls)) c.deref.ensures.value c.in-Ok.ensures)

pub returns-clause-unfinished : goal.returns-clause-unfinished
returns-clause-unfinished g c = spoiled _ _ _ _ c.writing.ensures.told
    (cut_off (g.F.Files.held c.whole_trace.new.files) (g.F.Files.held c.args.files.now) c.args.wanted c.in_ok-trace.trace.history c.in_ok-names.names c.in_ok-trace.ensures.spared
    (trace_held (g.F.Files.held c.args.files.now) c.args.wanted.script.now c.args.bytes.items c.as_slice.result.now c.in_ok-trace.trace.history c.requires c.as_slice.ensures.value c.in_ok-trace.ensures.read)
    c.in_ok-names.ensures.names c.in_ok-lines.lines.items c.in_ok-lines.ensures.lines _ _
    (subst (λ (ls : List Line). Begins (g.O.Write.contents c.args.out.now) (g.O.Write.contents c.print.new.out) (text c.in_ok-names.names ls)) c.deref.ensures.value c.in-Err.ensures))
