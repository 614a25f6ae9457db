use Rattle.std.proofs.Common.{◌≡◌, ⊎_elim, arith, length}
use Rattle.architecture_outcomes.specs.Failings.{failures_in}
use Rattle.window_search.proofs.StopsOnce.{left_or_told, none_left, none_popped, taken_off}
use Rattle.architecture_outcomes.proofs.failing.add_each_beyond.Goals as goal

pub loop-run-preserved : goal.loop-run-preserved
loop-run-preserved c =
    let left = c.loop-run.left.items in
    let new = c.pop.new.self.items in
    let i = c.loop-run.invariant in
    let more = c.add_beyond.ensures.grown in
    let before = i.grown in
    record {
      shown = λ image config addresses all each were.
          let parts = taken_off image config left new c.pop.result c.in-Some.run' c.pop.ensures.items c.in-Some.is (i.left image config all) in
          c.add_beyond.ensures.shown image config addresses parts.1 (λ complete events x stopped. i.kept x (each complete events x stopped)) (i.shown image config addresses all each were);
      left = λ image config all. (taken_off image config left new c.pop.result c.in-Some.run' c.pop.ensures.items c.in-Some.is (i.left image config all)).0;
      kept = λ x has. c.add_beyond.ensures.kept x (i.kept x has);
      once = λ once. c.add_beyond.ensures.once (i.once once);
      decided = λ complete were. c.add_beyond.ensures.decided complete (i.decided complete were);
      machine = λ x has. c.add_beyond.ensures.machine x (i.machine x has);
      grown = omega (arith, more, before);
      added = λ x has.
          left_or_told left new (failures_in c.loop-run.failings.items) (failures_in c.add_beyond.new.failings.items) c.pop.result c.in-Some.run' c.pop.ensures.items c.in-Some.is c.add_beyond.ensures.kept c.in_ok-add_beyond.ensures.added x (i.added x has);
    }

pub returns-in_err-add_beyond-clause-shown : goal.returns-in_err-add_beyond-clause-shown
returns-in_err-add_beyond-clause-shown c = λ image config addresses all each were.
    let i = c.loop-run.invariant in
    let parts = taken_off image config c.loop-run.left.items c.pop.new.self.items c.pop.result c.in-Some.run' c.pop.ensures.items c.in-Some.is (i.left image config all) in
    c.add_beyond.ensures.shown image config addresses parts.1 (λ complete events x stopped. i.kept x (each complete events x stopped)) (i.shown image config addresses all each were)

pub returns-clause-added : goal.returns-clause-added
returns-clause-added c = λ x has.
    let empty = none_popped c.loop-run.left c.pop.new.self c.pop.result c.in_default.is c.pop.ensures.cases in
    let none : length c.loop-run.left.items ≡ 0 = omega (arith, empty, c.loop-run.left.ok.0) in
    ⊎_elim (λ left. absurd (none_left c.loop-run.left.items x none left)) (λ told. told) (c.loop-run.invariant.added x has)
