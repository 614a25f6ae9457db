use Rattle.std.proofs.Common.{subst, sym}
use Rattle.lawful_log.proofs.Nested.{own_rule}
use Rattle.lawful_log.specs.Laws.{IsOwnRule}
use Rattle.lawful_log.proofs.rule.LogRule.is_own.Goals as goal

pub returns : goal.returns
returns c = subst (IsOwnRule c.args.self c.args.entry.now) (sym c.asks_more.ensures) (own_rule c.args.self c.args.entry.now)
