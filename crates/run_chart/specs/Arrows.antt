-- The messages of a chart: each from the line on which it was sent to the line on which it was taken.
use Rattle.std.specs.Prelude.{ℕ, ◌+◌, ◌-◌, ◌*◌, ◌==◌, ◌&&◌, not, Bool, true, false, List, [], ◌∷◌, ◌++◌, Option, Some, None, take, if◌then◌else◌}
use Rattle.run_chart.specs.Shapes as shape
use Rattle.run_chart.specs.declared.plan.Plan.{Plan}
use Rattle.run_chart.specs.declared.shapes.Message.{Message}
use Rattle.tl_types.specs.Message.{channel_of}
use Rattle.tl_types.specs.declared.message.Channel.{Channel}
use Rattle.tl_types.specs.declared.message.Channel.TheVariants.{A, B, C, D, E}
use Rattle.trace_recorder.specs.declared.logged.Direction.{Direction}
use Rattle.trace_recorder.specs.declared.logged.Direction.TheVariants.{Sent, Taken}
use Rattle.run_chart.specs.Texts.{heading}
use Rattle.run_chart.specs.declared.naming.Manner.TheVariants.{Short, Whole}
use Rattle.elf_symbols.specs.Named.{Named}
use Rattle.tl_types.specs.declared.line.LineSize.{LineSize}
use Rattle.run_chart.specs.declared.rows.Posted.{Posted}

abbrev pub channel_number : Channel → ℕ
channel_number A = 0
channel_number B = 1
channel_number C = 2
channel_number D = 3
channel_number E = 4

-- the queue of a hart and a channel
abbrev pub queue : Posted → ℕ
queue p = 5 * p.entry.hart + channel_number (channel_of p.entry.message)

abbrev pub goes_in : Direction → Bool
goes_in Sent = true
goes_in Taken = false

abbrev pub is_sent : Posted → Bool
is_sent p = goes_in p.entry.direction

-- how many messages were sent into a queue
abbrev pub sent_into : ℕ → List Posted → ℕ
sent_into q [] = 0
sent_into q (p ∷ ps) = (if is_sent p && queue p == q then 1 else 0) + sent_into q ps

-- where a message was taken out of a queue behind so many others
abbrev pub taken_at : ℕ → ℕ → List Posted → Option ℕ
taken_at q turn [] = None
taken_at q turn (p ∷ ps) =
    if not (is_sent p) && queue p == q then (if turn == 0 then Some p.line else taken_at q (turn - 1) ps)
    else taken_at q turn ps

-- where the message was taken that was sent at this place, behind as many others as were sent into its queue before
abbrev pub taken_on : List Posted → ℕ → Posted → Option ℕ
taken_on ps place p = taken_at (queue p) (sent_into (queue p) (take place ps)) ps

abbrev pub message : List Posted → ℕ → Posted → Message
message ps place p = record { channel = channel_of p.entry.message; hart = p.entry.hart; sent = p.line; taken = taken_on ps place p }

-- an arrow for a message that was sent, with its name, what it is about, and its permissions
unfoldable pub arrow : Plan → List Named → LineSize → List Posted → ℕ → Posted → List ℕ
arrow plan names size ps place p =
    if is_sent p then shape.arrow plan (message ps place p) (heading Short names size p.entry.message) (heading Whole names size p.entry.message) else []

-- the arrows of those that stand from this place on
abbrev pub arrows : Plan → List Named → LineSize → List Posted → ℕ → List Posted → List ℕ
arrows plan names size ps place [] = []
arrows plan names size ps place (p ∷ rest) = arrow plan names size ps place p ++ arrows plan names size ps (place + 1) rest
