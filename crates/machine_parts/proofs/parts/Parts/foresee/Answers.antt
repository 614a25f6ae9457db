use Rattle.std.proofs.Common.{◌∙◌, ap, sym, Ok}
use Rattle.machine_model.specs.Changing.{outcome_of_act}
use Rattle.machine_parts.specs.Applying.{answer_to}
use Rattle.machine_parts.proofs.Decided.{keeps, moves, refused}
use Rattle.machine_parts.proofs.parts.Parts.foresee.Goals as goal

pub returns-in-Ok-Changes : goal.returns-in-Ok-Changes
returns-in-Ok-Changes c =
    let s = c.args.self.now.state in
    ap Ok (c.outcome_of.ensures ∙ ap (λ h. outcome_of_act s h c.in-Ok-Changes.act) c.hart_of.ensures)
    ∙ sym (ap answer_to (moves s c.args.event.now c.in-Ok-Changes.act (sym c.in-Ok-Changes.ensures ∙ ap Ok c.in-Ok-Changes.field-0-is)))

pub returns-in-Err : goal.returns-in-Err
returns-in-Err c = sym (refused c.args.self.now.state c.args.event.now c.in-Err.error (sym c.in-Err.ensures))

pub returns-in-Ok-Stays : goal.returns-in-Ok-Stays
returns-in-Ok-Stays c = sym (ap answer_to (keeps c.args.self.now.state c.args.event.now _ (sym c.in-Ok-Stays.ensures ∙ ap Ok c.in-Ok-Stays.field-0-is)))
