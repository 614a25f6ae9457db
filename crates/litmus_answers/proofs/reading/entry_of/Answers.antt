use Rattle.std.proofs.Common.{◌≡◌, ◌∙◌, ◌<◌, arith, length, sym}
use Rattle.litmus_answers.proofs.Logs.{body_cut, body_ends}
use Rattle.litmus_answers.proofs.reading.entry_of.Goals as goal
use Rattle.litmus_answers.proofs.reading.entry_of.Goals.{else-loop-rest-test, then-loop-rest-test+then-begins_test}

pub returns : goal.returns
returns c = elim c.loop-rest-test.branch [
  | else-loop-rest-test w ↦ (
      let none : length c.loop-rest.rest.now ≡ 0 = grind (arith, w.loop-rest-test, c.is_empty.ensures) in
      body_ends c.loop-rest.entry c.loop-rest.states c.args.name.now c.loop-rest.rest.now c.args.text.now none c.loop-rest.invariant.name c.loop-rest.invariant.told
      )
  | then-loop-rest-test+then-begins_test w ↦ (
      let some : 0 < length c.loop-rest.rest.now = grind (arith, w.loop-rest-test, c.is_empty.ensures) in
      body_cut c.loop-rest.entry c.loop-rest.states c.args.name.now c.loop-rest.rest.now c.args.text.now w.split_behind.result.0.now w.split_behind.result.1.now some w.split_behind.ensures.front w.split_behind.ensures.behind (sym w.begins_test.ensures ∙ w.if-begins_test.true) c.loop-rest.invariant.name c.loop-rest.invariant.told
      )
]
