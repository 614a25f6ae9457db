use Rattle.std.proofs.Common.{◌≡◌, ◌∙◌, refl, sym, ap}
use Rattle.std.specs.Prelude.{is_some}
use Rattle.rv32_exec.specs.Meaning.{access_of}
use Rattle.window_machine.proofs.Asking.{is_next, no_access, no_step_stopped}
use Rattle.window_machine.proofs.access.Access.before.Goals as goal

pub returns-in-Ok-clause-next : goal.returns-in-Ok-clause-next
returns-in-Ok-clause-next c =
    let found = c.in-Ok.ensures in
    is_next c.args.image.now c.args.hart.now c.in-Ok.next.instr c.in-Ok.next.entry c.in-Ok.next.plan c.of.result
    (record { runs = sym c.if-not-is_running.ensures; goes_on = found.goes_on; fetched = found.instr; entry_is = found.entry; plan_is = found.plan })
    c.of.ensures.next c.of.ensures.does

pub returns-in-Ok-clause-none : goal.returns-in-Ok-clause-none
returns-in-Ok-clause-none c = λ none entry step.
    let found = c.in-Ok.ensures in
    no_access c.args.image.now c.args.hart.now c.in-Ok.next.instr entry found.instr (sym (c.of.ensures.is_one (access_of c.in-Ok.next.instr c.args.hart.now.regs) found.plan) ∙ ap is_some none) step

pub returns-in-Err-clause-none : goal.returns-in-Err-clause-none
returns-in-Err-clause-none c = λ none entry step. absurd (no_step_stopped c.args.image.now c.args.hart.now entry c.in-Err.field-0 c.in-Err.ensures.stops step)
