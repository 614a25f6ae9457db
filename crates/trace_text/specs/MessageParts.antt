-- What a message carries, in two parts.
use Rattle.std.specs.Prelude.{ℕ, List, [], ◌++◌, Option, Some, None}
use Rattle.text_fields.specs.Fields.{word}
use Rattle.tl_types.specs.declared.line.LineData.{LineData}
use Rattle.tl_types.specs.declared.message.Body.{Body}
use Rattle.tl_types.specs.declared.message.Body.TheVariants.{AcquireBlock, ProbeBlock, ProbeAck, ProbeAckData, Release, ReleaseData, Grant, GrantData, ReleaseAck, GrantAck}
use Rattle.tl_types.specs.declared.message.Msg.{Msg}
use Rattle.trace_text.specs.Words.{name, grow, cap, change, payload}

-- the permissions that it names
abbrev pub permissions : Body → List ℕ
permissions (AcquireBlock g) = grow g
permissions (ProbeBlock c) = cap c
permissions (ProbeAck c) = change c
permissions (ProbeAckData c bytes) = change c
permissions (Release c) = change c
permissions (ReleaseData c bytes) = change c
permissions (Grant c) = cap c
permissions (GrantData c bytes) = cap c
permissions ReleaseAck = []
permissions GrantAck = []

-- a message without the bytes that it carries
abbrev pub heading : Msg → List ℕ
heading m = name m.body ++ (word m.line ++ permissions m.body)

-- the bytes that it carries
abbrev pub data_of : Body → Option LineData
data_of (AcquireBlock g) = None
data_of (ProbeBlock c) = None
data_of (ProbeAck c) = None
data_of (ProbeAckData c bytes) = Some bytes
data_of (Release c) = None
data_of (ReleaseData c bytes) = Some bytes
data_of (Grant c) = None
data_of (GrantData c bytes) = Some bytes
data_of ReleaseAck = None
data_of GrantAck = None

abbrev pub payload_of : Option LineData → List ℕ
payload_of None = []
payload_of (Some bytes) = payload bytes
