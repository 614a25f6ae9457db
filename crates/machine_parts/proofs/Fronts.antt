-- Messages in front of their queues.
use Rattle.std.specs.Prelude.{◌≡◌, ◌<◌, ◌≤◌, ◌/◌, ℕ, List, [], ◌∷◌, Some, Contains, length, IsTrue}
use Rattle.std.proofs.Common.{arith, sym, subst}
use Rattle.elf_loader.specs.Image.{Initial}
use Rattle.elf_loader.specs.Size.{base}
use Rattle.machine_model.specs.Events.{is_piece}
use Rattle.machine_model.specs.Views.{place_of}
use Rattle.machine_model.proofs.coherence.LinePlaces.{piece, place_inside}
use Rattle.tilelink_channels.specs.Queues.{front_of}
use Rattle.tl_types.specs.Line.{length_of}
use Rattle.tl_types.specs.declared.line.LineSize.{LineSize}
use Rattle.tl_types.specs.declared.message.Msg.{Msg}

pub front_waits : (ms : List Msg) (m : Msg) → front_of ms ≡ Some m → Contains ms m
front_waits [] m e = cc
front_waits (x ∷ ms) m e = (0, omega arith, cc)

pub from_base : (image : Initial) (line bytes : ℕ) → IsTrue (is_piece image line bytes) → base ≤ line
from_base image line bytes e = (piece image line bytes e).low

pub noted_line : (image : Initial) (size : LineSize) (line lines : ℕ) → IsTrue (is_piece image line (length_of size)) → lines ≡ length image.bytes / length_of size → place_of size line < lines
noted_line image size line lines e is = subst (λ n. place_of size line < n) (sym is) (place_inside image size line e)
