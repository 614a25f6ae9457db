-- How words are spelled, with the space that parts them from the next or the last word.
use Rattle.std.specs.Prelude.{ℕ, Bool, true, false, List, [], ◌∷◌, ◌++◌, Option, Some, None, codes}
use Rattle.text_fields.specs.Fields.{hex, word}
use Rattle.tl_types.specs.Line.{bytes_of}
use Rattle.tl_types.specs.declared.line.LineData.{LineData}
use Rattle.tl_types.specs.declared.message.Body.{Body}
use Rattle.tl_types.specs.declared.message.Body.TheVariants.{AcquireBlock, ProbeBlock, ProbeAck, ProbeAckData, Release, ReleaseData, Grant, GrantData, ReleaseAck, GrantAck}
use Rattle.tl_types.specs.declared.message.Channel.{Channel}
use Rattle.tl_types.specs.declared.message.Channel.TheVariants.{A, B, C, D, E}
use Rattle.tl_types.specs.declared.message.Msg.{Msg}
use Rattle.tl_types.specs.declared.permission.Cap.{Cap}
use Rattle.tl_types.specs.declared.permission.Cap.TheVariants.{ToT, ToB, ToN}
use Rattle.tl_types.specs.declared.permission.Change.{Change}
use Rattle.tl_types.specs.declared.permission.Change.TheVariants.{TtoB, TtoN, BtoN, TtoT, BtoB, NtoN}
use Rattle.tl_types.specs.declared.permission.Grow.{Grow}
use Rattle.tl_types.specs.declared.permission.Grow.TheVariants.{NtoB, NtoT, BtoT}
use Rattle.trace_recorder.specs.declared.logged.Direction.{Direction}
use Rattle.trace_recorder.specs.declared.logged.Direction.TheVariants.{Sent, Taken}

-- a channel's letter (TileLink 1.8.1, "Channels")
abbrev pub channel : Channel → List ℕ
channel A = codes "A "
channel B = codes "B "
channel C = codes "C "
channel D = codes "D "
channel E = codes "E "

-- whether a message was sent or taken
abbrev pub direction : Direction → List ℕ
direction Sent = codes "s "
direction Taken = codes "t "

-- the names of TL-C's messages (TileLink 1.8.1, "TL-C messages")
abbrev pub name : Body → List ℕ
name (AcquireBlock grow) = codes "AcquireBlock "
name (ProbeBlock cap) = codes "ProbeBlock "
name (ProbeAck change) = codes "ProbeAck "
name (ProbeAckData change bytes) = codes "ProbeAckData "
name (Release change) = codes "Release "
name (ReleaseData change bytes) = codes "ReleaseData "
name (Grant cap) = codes "Grant "
name (GrantData cap bytes) = codes "GrantData "
name ReleaseAck = codes "ReleaseAck "
name GrantAck = codes "GrantAck "

-- how permissions change (TileLink 1.8.1, "Permissions transitions")
abbrev pub grow : Grow → List ℕ
grow NtoB = codes " NtoB"
grow NtoT = codes " NtoT"
grow BtoT = codes " BtoT"

abbrev pub cap : Cap → List ℕ
cap ToT = codes " toT"
cap ToB = codes " toB"
cap ToN = codes " toN"

abbrev pub change : Change → List ℕ
change TtoB = codes " TtoB"
change TtoN = codes " TtoN"
change BtoN = codes " BtoN"
change TtoT = codes " TtoT"
change BtoB = codes " BtoB"
change NtoN = codes " NtoN"

-- a line's bytes, two digits each, the byte at the lowest address first
abbrev pub payload : LineData → List ℕ
payload bytes = 32 ∷ hex (bytes_of bytes)

-- what a message says of its line: the permissions that it names, and the bytes that it carries
abbrev pub carried : Body → List ℕ
carried (AcquireBlock g) = grow g
carried (ProbeBlock c) = cap c
carried (ProbeAck c) = change c
carried (ProbeAckData c bytes) = change c ++ payload bytes
carried (Release c) = change c
carried (ReleaseData c bytes) = change c ++ payload bytes
carried (Grant c) = cap c
carried (GrantData c bytes) = cap c ++ payload bytes
carried ReleaseAck = []
carried GrantAck = []

abbrev pub message : Msg → List ℕ
message m = name m.body ++ (word m.line ++ carried m.body)

-- what a load, an LR or an AMO read
abbrev pub loaded : Option ℕ → List ℕ
loaded None = codes "-"
loaded (Some n) = word n

-- whether an SC wrote
abbrev pub answer : Option Bool → List ℕ
answer None = codes "-"
answer (Some true) = codes "ok"
answer (Some false) = codes "fail"
