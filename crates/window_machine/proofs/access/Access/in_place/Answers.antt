use Rattle.std.proofs.Common.{◌≡◌, ℕ, ◌*◌, ◌%◌, ◌^◌, sym, ap, ◌∙◌, arith}
use Rattle.std.specs.Prelude.{bit_and}
use Rattle.window_machine.specs.Lanes.{lane_count, number_in}
use Rattle.window_machine.proofs.Numbers.{in_place, of_kind, shift_is}
use Rattle.window_machine.proofs.access.Access.in_place.Goals as goal

pub returns : goal.returns
returns c =
    let a = c.args.self.now in
    let are = of_kind a.kind a.lanes a.bytes in
    let cut : number_in a.lanes (bit_and (c.args.number * 2 ^ (a.shift % 32) % 2 ^ 32) a.lanes) ≡ c.args.number % 2 ^ (8 * lane_count a.lanes) =
    ap (λ (s : ℕ). number_in a.lanes (bit_and (c.args.number * 2 ^ s % 2 ^ 32) a.lanes)) (shift_is a.lanes a.shift are a.shifted) ∙ in_place a.lanes c.args.number are in
    record {
      cut = cut;
      whole = λ is. cut ∙ (ap (λ (l : ℕ). c.args.number % 2 ^ (8 * lane_count l)) is ∙ (let h : c.args.number % 4294967296 ≡ c.args.number = omega (arith, c.ranges.number.fits) in h));
    }
