-- Which channel a message goes on (TileLink 1.8.1, "Channels of TL-C").
use Rattle.tl_types.specs.declared.message.Body.{Body}
use Rattle.tl_types.specs.declared.message.Body.TheVariants.{AcquireBlock, ProbeBlock, ProbeAck, ProbeAckData, Release, ReleaseData, Grant, GrantData, ReleaseAck, GrantAck}
use Rattle.tl_types.specs.declared.message.Channel.{Channel}
use Rattle.tl_types.specs.declared.message.Channel.TheVariants.{A, B, C, D, E}
use Rattle.tl_types.specs.declared.message.Msg.{Msg}

abbrev pub channel_of_body : Body → Channel
channel_of_body (AcquireBlock grow) = A
channel_of_body (ProbeBlock cap) = B
channel_of_body (ProbeAck change) = C
channel_of_body (ProbeAckData change bytes) = C
channel_of_body (Release change) = C
channel_of_body (ReleaseData change bytes) = C
channel_of_body (Grant cap) = D
channel_of_body (GrantData cap bytes) = D
channel_of_body ReleaseAck = D
channel_of_body GrantAck = E

abbrev pub channel_of : Msg → Channel
channel_of m = channel_of_body m.body
