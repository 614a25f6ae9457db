-- Which entries of a log tell that a message was sent that is looked for.
use Rattle.std.specs.Prelude.{ℕ, ◌==◌, ◌&&◌, Bool, true, false, Option, Some, None, option_map}
use Rattle.std.specs.List.{list_any}
use Rattle.machine_model.specs.Views.{State}
use Rattle.message_pattern.specs.declared.pattern.MessageName.{MessageName}
use Rattle.message_pattern.specs.declared.pattern.MessageName.TheVariants as names
use Rattle.message_pattern.specs.declared.pattern.MessagePattern.{MessagePattern}
use Rattle.message_search.specs.declared.sought.Sought.{Sought}
use Rattle.tl_types.specs.Line.{line_of}
use Rattle.tl_types.specs.declared.line.LineSize.{LineSize}
use Rattle.tl_types.specs.declared.message.Body.{Body}
use Rattle.tl_types.specs.declared.message.Body.TheVariants.{AcquireBlock, ProbeBlock, ProbeAck, ProbeAckData, Release, ReleaseData, Grant, GrantData, ReleaseAck, GrantAck}
use Rattle.trace_recorder.specs.declared.logged.Direction.{Direction}
use Rattle.trace_recorder.specs.declared.logged.Direction.TheVariants.{Sent, Taken}
use Rattle.trace_recorder.specs.declared.logged.Logged.{Logged}

-- the messages that a pattern means: those of the line around its address
abbrev pub sought_of : MessagePattern → LineSize → Sought
sought_of pattern size = record { name = pattern.name; hart = pattern.hart; line = option_map (line_of size) pattern.address }

-- what a trace calls it
abbrev pub name_of : Body → MessageName
name_of (AcquireBlock grow) = names.AcquireBlock
name_of (ProbeBlock cap) = names.ProbeBlock
name_of (ProbeAck change) = names.ProbeAck
name_of (ProbeAckData change bytes) = names.ProbeAckData
name_of (Release change) = names.Release
name_of (ReleaseData change bytes) = names.ReleaseData
name_of (Grant cap) = names.Grant
name_of (GrantData cap bytes) = names.GrantData
name_of ReleaseAck = names.ReleaseAck
name_of GrantAck = names.GrantAck

-- a number for each name, by which two are told apart
abbrev pub number_of : MessageName → ℕ
number_of names.AcquireBlock = 0
number_of names.ProbeBlock = 1
number_of names.ProbeAck = 2
number_of names.ProbeAckData = 3
number_of names.Release = 4
number_of names.ReleaseData = 5
number_of names.Grant = 6
number_of names.GrantData = 7
number_of names.ReleaseAck = 8
number_of names.GrantAck = 9

-- any name, where none is given
abbrev pub has_name : Option MessageName → Body → Bool
has_name None body = true
has_name (Some name) body = number_of name == number_of (name_of body)

abbrev pub is_open_or : Option ℕ → ℕ → Bool
is_open_or None number = true
is_open_or (Some wanted) number = wanted == number

abbrev pub is_sent_so : Direction → Sought → Logged → Bool
is_sent_so Sent s entry = has_name s.name entry.message.body && (is_open_or s.hart entry.hart && is_open_or s.line entry.message.line)
is_sent_so Taken s entry = false

-- such a message was sent
abbrev pub is_sought : Sought → Logged → Bool
is_sought s entry = is_sent_so entry.direction s entry

-- such a message was sent on the way to a state
abbrev pub was_sent : Sought → State → Bool
was_sent s state = list_any (is_sought s) state.trace.log
