use Rattle.std.proofs.Common.{ℕ, ◌<◌, ◌∙◌, List, ap, arith, length, slice_index, slice_index_or, subst, sym, []}
use Rattle.machine_types.specs.declared.limits.TheConstants.{MAX_ENTRIES}
use Rattle.hart.specs.declared.retired.Retired.{Retired}
use Rattle.machine_model.specs.Changing.{retired}
use Rattle.machine_parts.proofs.perform.step.retire.Goals as goal

pub move_on-requires-clause-hart : goal.move_on-requires-clause-hart
move_on-requires-clause-hart c = subst (λ (n : ℕ). c.args.hart < n) (sym c.in_ok-carry_out.ensures.kept.nodes) c.requires.hart

pub move_on-requires-clause-entries : goal.move_on-requires-clause-entries
move_on-requires-clause-entries c =
    subst (λ (n : ℕ). c.args.hart < n) (sym (ap length c.in_ok-carry_out.ensures.kept.entries ∙ c.requires.sound.entries ∙ sym c.requires.sound.nodes)) c.requires.hart

pub move_on-requires-clause-statuses : goal.move_on-requires-clause-statuses
move_on-requires-clause-statuses c =
    subst (λ (n : ℕ). c.args.hart < n) (sym (ap length c.in_ok-carry_out.ensures.kept.statuses ∙ c.requires.sound.statuses ∙ sym c.requires.sound.nodes)) c.requires.hart

pub move_on-requires-clause-few : goal.move_on-requires-clause-few
move_on-requires-clause-few c = subst (λ (lists : List (List Retired)). length (slice_index_or lists c.args.hart []) < MAX_ENTRIES) (sym c.in_ok-carry_out.ensures.kept.entries) c.requires.few

pub move_on-requires-clause-room : goal.move_on-requires-clause-room
move_on-requires-clause-room c =
    let some : 0 < slice_index c.args.parts.now.room.entries c.args.hart = omega (arith, c.requires.room.entries) in
    subst (λ (rooms : List ℕ). 0 < slice_index rooms c.args.hart) (sym c.in_ok-carry_out.ensures.kept.room) some

pub returns-clause-ok : goal.returns-clause-ok
returns-clause-ok c = c.move_on.ensures ∙ ap (retired c.args.hart c.args.entry.now c.args.instr.now) c.in_ok-carry_out.ensures.ok
