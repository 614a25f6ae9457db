use Rattle.std.proofs.Common.{false, subst, sym, true}
use Rattle.std.specs.Option.{option_copied}
use Rattle.std.specs.Prelude.{IfOk}
use Rattle.check_command.proofs.Logs.{verdict_on}
use Rattle.check_command.specs.Logs.{memory_told}
use Rattle.log_text.specs.Laws.{IsVerdict}
use Rattle.check_command.proofs.messages.by_messages.Goals as goal

pub returns-then-ended : goal.returns-then-ended
returns-then-ended c = subst (λ ended. IfOk c.judge_ended.result (IsVerdict ended c.args.profile (memory_told c.args.trace.now.history.image) c.args.trace.now.history.log)) (sym c.if-ended.true)
    (verdict_on true c.args.profile c.args.trace.now.history (option_copied c.memory_at_start-memory.result) c.log.result.now c.judge_ended.result c.memory_at_start-memory.ensures c.log.ensures c.judge_ended.ensures)

pub returns-else-ended : goal.returns-else-ended
returns-else-ended c = subst (λ ended. IfOk c.judge_messages.result (IsVerdict ended c.args.profile (memory_told c.args.trace.now.history.image) c.args.trace.now.history.log)) (sym c.if-ended.false)
    (verdict_on false c.args.profile c.args.trace.now.history (option_copied c.memory_at_start-memory.result) c.log-else-ended.result.now c.judge_messages.result c.memory_at_start-memory.ensures c.log-else-ended.ensures c.judge_messages.ensures)
