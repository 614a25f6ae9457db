use Rattle.std.proofs.Common.{◌≡◌, ◌∙◌, ◌++◌, ℕ, ap, arith}
use Rattle.std.specs.List.{flat_map, range_with_len}
use Rattle.run_waves.specs.Touched.{copy_of}
use Rattle.run_waves.proofs.Adding.{next_added}
use Rattle.run_waves.proofs.touched.add_copies.Goals as goal

pub loop-hart-preserved : goal.loop-hart-preserved
loop-hart-preserved c = next_added (copy_of c.args.line) _ _ _ c.loop-hart.hart c.in_ok-add.ensures c.loop-hart.invariant

pub returns : goal.returns
returns c =
    let all : c.loop-hart.hart ≡ c.args.harts = omega (arith, c.loop-hart-test.false, c.loop-hart.auto.hart-end) in
    c.loop-hart.invariant ∙ ap (λ (n : ℕ). c.args.list.now.items ++ flat_map (copy_of c.args.line) (range_with_len 0 n)) all
