use Rattle.std.proofs.Common.{◌≡◌, ◌+◌, ◌-◌, ◌*◌, length, drop}
use Rattle.litmus_image.specs.Image.{in_front, laid}
use Rattle.litmus_image.proofs.image.put_parts.Given as goal

abbrev pub invariant-loop-hart : goal.invariant-loop-hart
invariant-loop-hart l = in_front l.entry.items l.code.items (laid l.hart (2 * (length l.parts - 1) + length l.code.items) (drop l.hart l.parts)) ≡ in_front l.fn.entry.items l.fn.code.items (laid 0 (2 * (length l.parts - 1) + length l.fn.code.items) l.parts)
