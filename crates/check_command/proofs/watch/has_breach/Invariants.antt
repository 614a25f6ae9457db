use Rattle.log_text.specs.Following.{HasJudged}
use Rattle.check_command.proofs.watch.has_breach.Given as goal

-- the messages so far were judged
abbrev pub invariant-loop-entry : goal.invariant-loop-entry
invariant-loop-entry l = HasJudged l.judge
