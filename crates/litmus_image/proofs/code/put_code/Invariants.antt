use Rattle.std.proofs.Common.{◌≡◌, ◌*◌, ◌≤◌, drop}
use Rattle.litmus_image.specs.Code.{then_code, code_from}
use Rattle.litmus_image.proofs.code.put_code.Given as goal

abbrev pub invariant-loop-index : goal.invariant-loop-index
invariant-loop-index l = (l.here ≤ 2 * l.index) × (then_code l.out.items (code_from l.lines l.index l.here (drop l.index l.lines)) ≡ then_code l.fn.out.items (code_from l.lines 0 0 l.lines))
