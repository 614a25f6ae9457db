-- The names of the rules of messages.
use Rattle.std.specs.Prelude.{ℕ, List, codes}
use Rattle.coherent_log.specs.Laws.{rule_of}
use Rattle.coherent_log.specs.Rules as coherent
use Rattle.lawful_log.specs.Rules as lawful
use Rattle.message_judge.specs.declared.verdict.MessageBreach.{MessageBreach}
use Rattle.message_judge.specs.declared.verdict.MessageBreach.TheVariants.{Incoherent, Unanswered, Unlawful, Unwritten}

abbrev pub rule_name : MessageBreach → List ℕ
rule_name (Unlawful rule) = lawful.rule_name rule
rule_name (Incoherent breach) = coherent.rule_name (rule_of breach)
rule_name Unanswered = codes "ended"
rule_name (Unwritten address) = codes "data-written"
