use Rattle.std.proofs.lemmas.Grind.{common_steps}
use Rattle.std.proofs.Common.{subst, List, arith}
use Rattle.client_cache.specs.declared.slot.Slot.{Slot}
use Rattle.client_cache.specs.Row.{IsFreeAt}
use Rattle.client_cache.proofs.Rooms.{room_found, room_free}
use Rattle.client_cache.proofs.array.Array.room_for.Goals as goal

pub returns-in-Some-clause-room : goal.returns-in-Some-clause-room
returns-in-Some-clause-room g c = room_found c.args.self.now.shape c.args.self.now.slots.items c.args.line _ c.in-Some.place c.args.self.now.some_sets c.args.self.now.room c.requires c.in-Some.ensures.found

pub returns-clause-room : goal.returns-clause-room
returns-clause-room g c =
    room_free c.args.self.now.shape c.args.self.now.slots.items c.args.line c.in_ok-way.way c.args.self.now.some_sets c.args.self.now.room c.in_default.ensures.missing
    (subst (λ (row : List Slot). IsFreeAt row c.in_ok-way.way) c.row.ensures c.in_ok-way.ensures.found)

pub returns-in_err-way-clause-looks : goal.returns-in_err-way-clause-looks
returns-in_err-way-clause-looks g c = grind (arith, common_steps)

pub returns-clause-looks : goal.returns-clause-looks
returns-clause-looks g c = grind (arith, common_steps)
