-- What is told of an entry that breaks a rule.
use Rattle.std.specs.Prelude.{ℕ, ◌≡◌, ◌≤◌, ◌==◌, ◌&&◌, ◌↔◌, Bool, IsTrue, List, Option, Some, None, length, not, slice_get, take}
use Rattle.lawful_log.specs.Awaited.{FindsAwaited}
use Rattle.lawful_log.specs.Rules.{Obeys}
use Rattle.lawful_log.specs.declared.profile.Profile.{Profile}
use Rattle.lawful_log.specs.declared.profile.Profile.TheVariants.{TileLink}
use Rattle.lawful_log.specs.declared.rule.LogRule.{LogRule}
use Rattle.log_text.specs.declared.objection.Objection.{Objection}
use Rattle.machine_model.specs.LawfulLog.{is_on, is_sent, no_release_open, sent_on, taken_on}
use Rattle.tl_types.specs.Message.{channel_of}
use Rattle.tl_types.specs.declared.message.Channel.{Channel}
use Rattle.tl_types.specs.declared.message.Msg.{Msg}
use Rattle.trace_recorder.specs.declared.logged.Logged.{Logged}

-- what is in front of a queue: of what went into it, the first that hasn't come out
abbrev pub front_of_queue : Channel → ℕ → List Logged → Option Msg
front_of_queue c h log = slice_get (sent_on c h log) (length (taken_on c h log))

-- it came out of that queue
abbrev pub is_taken_from : Channel → ℕ → Logged → Bool
is_taken_from c h e = not (is_sent e.direction) && e.hart == h && is_on c (channel_of e.message)

-- of an entry that breaks the rule as the profile asks it: TileLink's rules let it go
abbrev pub IsOwnTo : Profile → LogRule → Logged → (own : Bool) → Type 0
IsOwnTo profile rule e own = (log : List Logged) → ¬ Obeys profile rule log e → IsTrue own ↔ Obeys TileLink rule log e

-- the rule and whose it is, the entry at that index, and before it: which answer its line waited for, what was in front of its queue, and
-- whether its hart waited for a ReleaseAck of the line; nothing beyond the log
pub record IsObjection (by : Profile) (broken : LogRule) (index harts : ℕ) (log : List Logged) (o : Objection) : Type 0 where
  pub profile : o.profile ≡ by
  pub rule : o.rule ≡ broken
  pub entry : slice_get log index ≡ Some o.entry
  pub own : IsOwnTo by broken o.entry o.own
  pub awaited : FindsAwaited harts o.entry.message.line (take index log) o.awaited
  pub front : o.front ≡ front_of_queue (channel_of o.entry.message) o.entry.hart (take index log)
  pub releases : o.awaits_release_ack ≡ not (no_release_open o.entry.hart o.entry.message.line (take index log))

abbrev pub ObjectsTo : Profile → LogRule → ℕ → ℕ → List Logged → Option Objection → Type 0
ObjectsTo profile rule index harts log None = length log ≤ index
ObjectsTo profile rule index harts log (Some o) = IsObjection profile rule index harts log o
