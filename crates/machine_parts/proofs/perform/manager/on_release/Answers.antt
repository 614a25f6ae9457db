use Rattle.std.proofs.Common.{ℕ, ◌<◌, ◌∙◌, ap, length, subst, sym}
use Rattle.machine_model.specs.Memory.{line_data}
use Rattle.directory.specs.Directory.{released}
use Rattle.machine_model.specs.Deliveries.{on_release}
use Rattle.machine_model.specs.Laws.{QueuesFit}
use Rattle.machine_model.specs.Views.{line_size}
use Rattle.machine_parts.specs.Handled.{HasLine, HasSize, written_back}
use Rattle.machine_parts.specs.Parts.{standing_of}
use Rattle.machine_parts.specs.Standing.{Standing}
use Rattle.machine_parts.proofs.Answered.{had_room_released, released_is}
use Rattle.tl_types.specs.Line.{size_of}
use Rattle.tl_types.specs.declared.line.LineSize.{LineSize}
use Rattle.machine_parts.proofs.perform.manager.on_release.Goals as goal

pub send-requires-clause-queue : goal.send-requires-clause-queue
send-requires-clause-queue c = had_room_released c.args.hart c.args.line c.args.bytes (standing_of c.parts.inside).state (subst (λ (p : Standing). c.args.hart < length p.state.views.nodes) (sym c.parts.view_is) c.requires.hart) (subst (λ (p : Standing). QueuesFit (on_release c.args.hart c.args.line c.args.bytes p.state)) (sym c.parts.view_is) c.requires.queues)

pub write_back-requires-clause-place : goal.write_back-requires-clause-place
write_back-requires-clause-place c =
    let there = subst (λ (p : Standing). HasLine c.args.line p.state) (sym c.parts.view_is) c.requires.line in
    subst (λ (place : ℕ). place < length c.parts.inside.memory) (sym c.place_of-place.ensures) there.kept

pub write_back-requires-clause-bytes : goal.write_back-requires-clause-bytes
write_back-requires-clause-bytes c =
    let there = subst (λ (p : Standing). HasLine c.args.line p.state) (sym c.parts.view_is) c.requires.line in
    let size = ap (λ (place : ℕ). size_of (line_data c.parts.inside.memory place)) c.place_of-place.ensures ∙ there.size in
    subst (λ (z : LineSize). HasSize z c.args.bytes) (sym size) (subst (λ (p : Standing). HasSize (line_size p.state) c.args.bytes) (sym c.parts.view_is) c.requires.bytes)

pub on_release-requires-clause-line : goal.on_release-requires-clause-line
on_release-requires-clause-line c =
    let there = subst (λ (p : Standing). HasLine c.args.line p.state) (sym c.parts.view_is) c.requires.line in
    subst (λ (place : ℕ). place < length c.parts.inside.directory.lines) (sym c.place_of-place.ensures) there.noted

pub returns : goal.returns
returns c =
    let s = (standing_of c.parts.inside).state in
    c.send.ensures.state
    ∙ (released_is c.args.hart c.args.line c.args.bytes s c.on_release.new.self c.write_back.new.memory
    (c.on_release.ensures ∙ ap (λ (place : ℕ). released s.views.notes place c.args.hart) c.place_of-place.ensures)
    (c.write_back.ensures ∙ ap (λ (place : ℕ). written_back place c.args.bytes s.views.memory) c.place_of-place.ensures)
    ∙ ap (λ (p : Standing). on_release c.args.hart c.args.line c.args.bytes p.state) c.parts.view_is)
