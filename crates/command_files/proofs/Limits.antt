-- A script's memory is within its limits, and one whose memory is has a text.
use Rattle.std.proofs.Common.{◌≡◌, ◌&&◌, Bool, true, refl}
use Rattle.std.proofs.lemmas.Bool.{and_parts}
use Rattle.elf_loader.proofs.Sizes.{kib_passes, memory_kib}
use Rattle.elf_loader.specs.Size.{IsMemoryKib}
use Rattle.trace_text.specs.Scripts.{IsScript, head_of, is_head}
use Rattle.trace_text.specs.declared.script.Script.{Script}

pub memory_within : (s : Script) → IsScript s → IsMemoryKib s.kib
memory_within s is = memory_kib s.kib (and_parts _ _ is.head).1

both : (a b : Bool) → a ≡ true → b ≡ true → (a && b) ≡ true
both a b e f = rw (e, f) refl

pub script_within : (s : Script) → IsMemoryKib s.kib → is_head (head_of s) ≡ true
script_within s sized = both _ _ s.within (kib_passes s.kib sized)
