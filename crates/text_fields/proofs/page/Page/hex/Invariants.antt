use Rattle.std.proofs.Common.{◌≡◌, ◌+◌, ◌*◌, ◌++◌, length, take}
use Rattle.text_fields.specs.Fields.{hex}
use Rattle.text_fields.proofs.page.Page.hex.Given as goal

abbrev pub invariant-loop-byte : goal.invariant-loop-byte
invariant-loop-byte l = (l.self ≡ l.initial.self ++ hex (take l.byte-index l.bytes)) × (length l.self ≡ length l.initial.self + 2 * l.byte-index)
