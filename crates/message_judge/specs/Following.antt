-- A log that is judged message by message.
use Rattle.std.specs.Prelude.{◌≡◌, List, length}
use Rattle.coherent_log.specs.Followed as coherence
use Rattle.lawful_log.specs.Followed as order
use Rattle.message_judge.specs.declared.following.Judge.{Judge}
use Rattle.trace_recorder.specs.declared.logged.Logged.{Logged}

-- what is kept is what the rules ask of this log
pub record Judges (j : Judge) (log : List Logged) : Type 0 where
  pub order : order.Follows j.order log
  pub copies : coherence.Follows j.copies log
  pub count : j.count ≡ length log

-- of some log
abbrev pub HasJudged : Judge → Type 0
HasJudged j = (log : List Logged) × Judges j log
