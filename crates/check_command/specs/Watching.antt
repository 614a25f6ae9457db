-- What was judged of a log that comes piece by piece.
use Rattle.check_command.specs.declared.watch.Watch.{Watch}
use Rattle.log_text.specs.Following.{HasJudged}

-- messages of some logs, with the bytes of first halves and of second ones
pub record HaveJudged (w : Watch) : Type 0 where
  pub first : HasJudged w.judge
  pub second : HasJudged w.halves
