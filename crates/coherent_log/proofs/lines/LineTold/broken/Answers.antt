use Rattle.std.proofs.Common.{ℕ, ◌<◌, arith, subst}
use Rattle.std.specs.Option.{option_copied}
use borrow.Author.Count.{below_more}
use Rattle.coherent_log.proofs.Breaking.{Goes, breaks, goes_on}
use Rattle.coherent_log.proofs.Ranks.{at_rank, rank_within, rule_at}
use Rattle.coherent_log.specs.Followed.{client_at}
use Rattle.coherent_log.specs.Rules.{rank}
use Rattle.coherent_log.proofs.lines.LineTold.broken.Goals as goal

pub loop-rule-init : goal.loop-rule-init
loop-rule-init c = λ k h. absurd (omega arith)

pub loop-rule-preserved : goal.loop-rule-preserved
loop-rule-preserved c = below_more (λ (k : ℕ). Goes (option_copied c.args.image) c.args.entry.now.hart c.args.entry.now.message.line c.args.entry.now.message.body (client_at c.args.self.now.clients.now) c.args.self.now.brought (rule_at k)) c.loop-rule.rule-index c.loop-rule.invariant
    (goes_on (option_copied c.args.image) c.args.entry.now.hart c.args.entry.now.message.line c.args.entry.now.message.body (client_at c.args.self.now.clients.now) c.args.self.now.brought (rule_at c.loop-rule.rule-index) c.broken_by.result c.in-None.is c.broken_by.ensures)

pub returns-in-Some : goal.returns-in-Some
returns-in-Some c = breaks (option_copied c.args.image) c.args.entry.now.hart c.args.entry.now.message.line c.args.entry.now.message.body (client_at c.args.self.now.clients.now) c.args.self.now.brought c.loop-rule.rule-index c.broken_by.result c.in-Some.breach
    c.loop-rule-test.true c.in-Some.is c.broken_by.ensures c.loop-rule.invariant

pub returns : goal.returns
returns c = λ r. subst (Goes (option_copied c.args.image) c.args.entry.now.hart c.args.entry.now.message.line c.args.entry.now.message.body (client_at c.args.self.now.clients.now) c.args.self.now.brought) (at_rank r) (c.loop-rule.invariant (rank r) (let within = rank_within r in omega arith))
