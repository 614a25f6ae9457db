use Rattle.std.proofs.Common.{ℕ, List, Option, Some, sym, ap, ◌∙◌}
use Rattle.text_fields.specs.Reading.{◌>>=◌}
use Rattle.trace_text.specs.TraceReading.{name_at}
use Rattle.trace_text.specs.declared.message_reading.Name.TheVariants as names
use Rattle.trace_text.proofs.NameLaws.{probe_led, release_led, grant_led, not_led}
use Rattle.trace_text.proofs.message_reading.name_at.Goals as goal

pub returns-in-Some : goal.returns-in-Some
unfolding name_at
returns-in-Some c = c.probe_name_at.ensures ∙ sym (probe_led c.args.bytes.now c.in-Some.rest.now c.in-Some.ensures)

pub returns-in-Some-after : goal.returns-in-Some-after
unfolding name_at
returns-in-Some-after c = c.release_name_at.ensures ∙ sym (release_led c.args.bytes.now c.in-Some-after.rest.now c.in-Some-after.ensures)

pub returns-in-Some-after-2 : goal.returns-in-Some-after-2
unfolding name_at
returns-in-Some-after-2 c = c.grant_name_at.ensures ∙ sym (grant_led c.args.bytes.now c.in-Some-after-2.rest.now c.in-Some-after-2.ensures)

pub returns-in_err-rest : goal.returns-in_err-rest
unfolding name_at
returns-in_err-rest c =
    rw c.from_residual.ensures
    (sym (not_led c.args.bytes.now c.in_default.ensures c.in_default-after.ensures c.in_default-after-2.ensures ∙ ap (λ (o : Option (List ℕ)). o >>= λ (rest : List ℕ). Some (names.AcquireBlock, rest)) (sym c.in_err-rest.ensures)))
