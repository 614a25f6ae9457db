use Rattle.std.proofs.Common.{ℕ, ◌<◌, ap, length, subst, sym, ◌∙◌, Option}
use Rattle.machine_model.specs.Memory.{line_data}
use Rattle.directory.specs.Directory.{Notes, probe_acked}
use Rattle.directory.specs.declared.answer.Grant.{Grant}
use Rattle.machine_model.specs.Deliveries.{on_probe_ack}
use Rattle.machine_model.specs.Laws.{QueuesFit}
use Rattle.machine_parts.specs.Parts.{standing_of}
use Rattle.machine_parts.specs.Standing.{Standing}
use Rattle.machine_model.specs.Views.{line_size, place_of}
use Rattle.machine_parts.specs.Handled.{HasLine, HasSize, written_back}
use Rattle.machine_parts.proofs.Answered.{count_back, fit_granted, probe_acked_is}
use Rattle.tl_types.specs.Line.{size_of}
use Rattle.tl_types.specs.declared.line.LineSize.{LineSize}
use Rattle.machine_parts.proofs.perform.manager.on_probe_ack.Goals as goal

abbrev pair : Notes → Option Grant → Option Grant × Notes
pair notes answer = (answer, notes)

pub send_grant-requires-clause-queues : goal.send_grant-requires-clause-queues
send_grant-requires-clause-queues c =
    let s = (standing_of c.parts.inside).state in
    fit_granted c.args.hart c.args.line c.args.change c.args.bytes s c.in-Some.grant c.on_probe_ack.new.self c.write_back.new.memory
    (ap (pair c.on_probe_ack.new.self) (sym c.in-Some.is) ∙ c.on_probe_ack.ensures.meaning ∙ ap (λ (place : ℕ). probe_acked s.views.notes place c.args.hart c.args.change) c.place_of-place.ensures)
    (c.write_back.ensures ∙ ap (λ (place : ℕ). written_back place c.args.bytes s.views.memory) c.place_of-place.ensures)
    (subst (λ (p : Standing). QueuesFit (on_probe_ack c.args.hart c.args.line c.args.change c.args.bytes p.state)) (sym c.parts.view_is) c.requires.queues)

pub write_back-requires-clause-place : goal.write_back-requires-clause-place
write_back-requires-clause-place c =
    let there = subst (λ (p : Standing). HasLine c.args.line p.state) (sym c.parts.view_is) c.requires.line in
    subst (λ (place : ℕ). place < length c.parts.inside.memory) (sym c.place_of-place.ensures) there.kept

pub write_back-requires-clause-bytes : goal.write_back-requires-clause-bytes
write_back-requires-clause-bytes c =
    let there = subst (λ (p : Standing). HasLine c.args.line p.state) (sym c.parts.view_is) c.requires.line in
    let size = ap (λ (place : ℕ). size_of (line_data c.parts.inside.memory place)) c.place_of-place.ensures ∙ there.size in
    subst (λ (z : LineSize). HasSize z c.args.bytes) (sym size) (subst (λ (p : Standing). HasSize (line_size p.state) c.args.bytes) (sym c.parts.view_is) c.requires.bytes)

pub on_probe_ack-requires-clause-line : goal.on_probe_ack-requires-clause-line
on_probe_ack-requires-clause-line c =
    let there = subst (λ (p : Standing). HasLine c.args.line p.state) (sym c.parts.view_is) c.requires.line in
    subst (λ (place : ℕ). place < length c.parts.inside.directory.lines) (sym c.place_of-place.ensures) there.noted

pub send_grant-requires-clause-kept : goal.send_grant-requires-clause-kept
send_grant-requires-clause-kept c =
    let s = (standing_of c.parts.inside).state in
    let there = subst (λ (p : Standing). HasLine c.args.line p.state) (sym c.parts.view_is) c.requires.line in
    subst (λ (n : ℕ). place_of (line_size s) c.args.line < n) (sym (ap length c.write_back.ensures ∙ count_back c.place_of-place.result c.args.bytes s.views.memory)) there.kept

pub returns-in-Some : goal.returns-in-Some
returns-in-Some c =
    let s = (standing_of c.parts.inside).state in
    c.send_grant.ensures
    ∙ (probe_acked_is c.args.hart c.args.line c.args.change c.args.bytes s _ c.on_probe_ack.new.self c.write_back.new.memory
    (ap (pair c.on_probe_ack.new.self) (sym c.in-Some.is) ∙ c.on_probe_ack.ensures.meaning ∙ ap (λ (place : ℕ). probe_acked s.views.notes place c.args.hart c.args.change) c.place_of-place.ensures)
    (c.write_back.ensures ∙ ap (λ (place : ℕ). written_back place c.args.bytes s.views.memory) c.place_of-place.ensures)
    ∙ ap (λ (p : Standing). on_probe_ack c.args.hart c.args.line c.args.change c.args.bytes p.state) c.parts.view_is)

pub returns-in_default : goal.returns-in_default
returns-in_default c =
    let s = (standing_of c.parts.inside).state in
    probe_acked_is c.args.hart c.args.line c.args.change c.args.bytes s _ c.on_probe_ack.new.self c.write_back.new.memory
    (ap (pair c.on_probe_ack.new.self) (sym c.in_default.is) ∙ c.on_probe_ack.ensures.meaning ∙ ap (λ (place : ℕ). probe_acked s.views.notes place c.args.hart c.args.change) c.place_of-place.ensures)
    (c.write_back.ensures ∙ ap (λ (place : ℕ). written_back place c.args.bytes s.views.memory) c.place_of-place.ensures)
    ∙ ap (λ (p : Standing). on_probe_ack c.args.hart c.args.line c.args.change c.args.bytes p.state) c.parts.view_is
