use Rattle.std.proofs.Common.{List, ap, sym, ◌∙◌}
use Rattle.std.proofs.lemmas.List.{length-set}
use Rattle.hart.specs.Run.{reached}
use Rattle.hart.specs.declared.retired.Retired.{Retired}
use Rattle.machine_model.specs.Changing.{with_entries}
use Rattle.trace_recorder.specs.History.{Recorded}
use Rattle.machine_parts.proofs.RowsAlone.{ends, goes, place_left, room_left, row_goes, row_leads}
use Rattle.machine_parts.proofs.perform.local.retire_row.Goals as goal

pub loop-left-preserved : goal.loop-left-preserved
loop-left-preserved c =
    let h = c.args.hart in
    let t = c.loop-left.trace in
    let i = c.args.trace.now.history.image in
    let g = goes i c.image.result.now c.loop-left.last c.loop-left.left c.next_alone.result c.in-Some.entry c.in-Some.next (c.image.ensures ∙ c.loop-left.invariant.image) c.loop-left-test.true c.next_alone.ensures c.in-Some.is in
    let e = ap (λ (r : Recorded). r.history) c.retire.ensures in
    record {
      row = row_goes h i c.loop-left.last c.loop-left.left c.in-Some.entry c.in-Some.next t.history c.retire.new.self.history _ g e c.loop-left.invariant.row;
      leads = row_leads i c.loop-left.last c.loop-left.left c.in-Some.entry c.in-Some.next _ g c.loop-left.invariant.leads;
      image = ap (λ (r : Recorded). r.history.image) c.retire.ensures ∙ c.loop-left.invariant.image;
      few = rw c.retire.ensures (place_left h c.loop-left.left t.history c.in-Some.entry c.loop-left.invariant.hart c.loop-left-test.true c.loop-left.invariant.few);
      hart = rw (c.retire.ensures, length-set) c.loop-left.invariant.hart;
      room = rw c.retire.ensures (room_left h c.loop-left.left t.room.entries c.loop-left-test.true c.loop-left.invariant.room);
    }

pub returns-in_default-clause-last : goal.returns-in_default-clause-last
returns-in_default-clause-last c =
    let i = c.args.trace.now.history.image in
    let none = ends i c.image.result.now c.loop-left.last c.loop-left.left c.next_alone.result (c.image.ensures ∙ c.loop-left.invariant.image) c.loop-left-test.true c.next_alone.ensures c.in_default.is in
    sym (ap (reached c.loop-left.last) none) ∙ c.loop-left.invariant.leads

pub returns-in_default-clause-row : goal.returns-in_default-clause-row
returns-in_default-clause-row c =
    let i = c.args.trace.now.history.image in
    let none = ends i c.image.result.now c.loop-left.last c.loop-left.left c.next_alone.result (c.image.ensures ∙ c.loop-left.invariant.image) c.loop-left-test.true c.next_alone.ensures c.in_default.is in
    sym (ap (λ (row : List Retired). with_entries c.args.hart row c.loop-left.trace.history) none) ∙ c.loop-left.invariant.row
