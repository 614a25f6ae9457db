use Rattle.std.proofs.Common.{◌<◌, arith, length}
use Rattle.litmus_answers.proofs.Logs.{test_next}
use Rattle.litmus_answers.proofs.reading.entries_of.Goals as goal

pub loop-rest-preserved-in_ok-push : goal.loop-rest-preserved-in_ok-push
loop-rest-preserved-in_ok-push c =
    let some : 0 < length c.loop-rest.rest.now = grind arith in
    test_next c.loop-rest.entries.items c.push.new.self.items c.in_ok-entry_of.field-0 c.in-Some.name.now c.loop-rest.rest.now c.split_behind.result.0.now c.split_behind.result.1.now _ some c.split_behind.ensures.front c.split_behind.ensures.behind
    c.in-Some.ensures c.in_ok-entry_of.ensures c.in_ok-push.ensures.items c.loop-rest.invariant
