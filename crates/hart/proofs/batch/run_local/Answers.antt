use Rattle.std.proofs.Common.{◌≡◌, [], ap, ◌∙◌}
use Rattle.std.proofs.lemmas.Bool.{cond-false}
use Rattle.hart.specs.declared.state.Hart.{Hart}
use Rattle.hart.specs.Local.{can_go_alone, next_entry, private_row}
use Rattle.hart.specs.Run.{after}
use Rattle.hart.proofs.Rows.{gone, no_row, none_without_room, row_done, row_goes, row_leads, row_with, stays, the_row}
use Rattle.hart.proofs.batch.run_local.Goals as goal
use Rattle.hart.proofs.batch.run_local.Goals.{else-loop-room-test, then-loop-room-test+in_default}

pub loop-room-preserved : goal.loop-room-preserved
loop-room-preserved c =
    let t = gone c.args.image.now c.loop-room.last c.go_alone.new.hart c.go_alone.result c.in-Some.entry c.go_alone.ensures.entry c.go_alone.ensures.hart c.in-Some.is in
    record {
      row = row_goes c.args.image.now c.args.hart.now c.loop-room.last c.go_alone.new.hart c.in-Some.entry c.loop-room.entries.items c.push.new.self.items c.args.max c.loop-room.room c.loop-room.invariant.row c.loop-room-test.true t c.in_ok-push.ensures.items;
      leads = row_leads c.args.image.now c.args.hart.now c.loop-room.last c.go_alone.new.hart c.in-Some.entry c.loop-room.entries.items c.push.new.self.items c.loop-room.invariant.leads t c.in_ok-push.ensures.items;
    }

pub invariant_of-result : goal.invariant_of-result
invariant_of-result c =
    let ended : (c.loop-room-test.last ≡ c.loop-room.last) × (private_row c.args.image.now c.loop-room.last c.loop-room.room ≡ []) =
    elim c.loop-room-test.branch [
      | else-loop-room-test w ↦ (w.last-is, none_without_room c.args.image.now c.loop-room.last c.loop-room.room w.loop-room-test.false)
      | then-loop-room-test+in_default w ↦
          let halts = stays c.args.image.now c.loop-room.last w.go_alone.result w.go_alone.ensures.entry w.in_default.is in
          (w.last-is ∙ (w.go_alone.ensures.hart ∙ cond-false (can_go_alone c.args.image.now c.loop-room.last) (after c.loop-room.last (next_entry c.args.image.now c.loop-room.last)) c.loop-room.last halts), no_row c.args.image.now c.loop-room.last c.loop-room.room w.loop-room-test.true halts)
    ] in
    the_row c.args.image.now c.args.hart.now c.loop-room-test.last c.loop-room.entries.items c.args.max c.requires.few (ap (λ (h : Hart). row_with c.args.hart.now h c.loop-room.entries.items) ended.0 ∙ row_done c.args.image.now c.args.hart.now c.loop-room.last c.loop-room.entries.items c.args.max c.loop-room.room c.loop-room.invariant.row c.loop-room.invariant.leads ended.1)

pub returns : goal.returns
returns c =
    let ended : (c.loop-room-test.last ≡ c.loop-room.last) × (private_row c.args.image.now c.loop-room.last c.loop-room.room ≡ []) =
    elim c.loop-room-test.branch [
      | else-loop-room-test w ↦ (w.last-is, none_without_room c.args.image.now c.loop-room.last c.loop-room.room w.loop-room-test.false)
      | then-loop-room-test+in_default w ↦
          let halts = stays c.args.image.now c.loop-room.last w.go_alone.result w.go_alone.ensures.entry w.in_default.is in
          (w.last-is ∙ (w.go_alone.ensures.hart ∙ cond-false (can_go_alone c.args.image.now c.loop-room.last) (after c.loop-room.last (next_entry c.args.image.now c.loop-room.last)) c.loop-room.last halts), no_row c.args.image.now c.loop-room.last c.loop-room.room w.loop-room-test.true halts)
    ] in
    ap (λ (h : Hart). row_with c.args.hart.now h c.loop-room.entries.items) ended.0 ∙ row_done c.args.image.now c.args.hart.now c.loop-room.last c.loop-room.entries.items c.args.max c.loop-room.room c.loop-room.invariant.row c.loop-room.invariant.leads ended.1
