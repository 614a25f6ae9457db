use Rattle.std.proofs.Common.{ℕ, ◌<◌, ◌≡◌, ◌∙◌, arith, subst, sym, true}
use borrow.Author.Count.{below_more}
use Rattle.lawful_log.proofs.Ranks.{at_rank, rank_at, rank_within, rule_at}
use Rattle.lawful_log.specs.Facts.{may_go_by, told}
use Rattle.lawful_log.specs.Rules.{rank}
use Rattle.lawful_log.specs.declared.rule.LogRule.{LogRule}
use Rattle.lawful_log.proofs.facts.Facts.broken.Goals as goal

pub loop-rule-init : goal.loop-rule-init
loop-rule-init c = λ k h. absurd (omega arith)

pub loop-rule-preserved : goal.loop-rule-preserved
loop-rule-preserved c = below_more (λ (k : ℕ). may_go_by c.args.profile (rule_at k) c.args.body.now (told c.args.self.now) ≡ true) c.loop-rule.rule-index c.loop-rule.invariant (sym c.may_go_by.ensures ∙ c.if-not-may_go_by.false)

pub returns-then-not-may_go_by : goal.returns-then-not-may_go_by
returns-then-not-may_go_by c = (
  sym c.may_go_by.ensures ∙ c.if-not-may_go_by.true,
  λ r h. subst (λ (x : LogRule). may_go_by c.args.profile x c.args.body.now (told c.args.self.now) ≡ true) (at_rank r) (c.loop-rule.invariant (rank r) (subst (λ (n : ℕ). rank r < n) (rank_at c.loop-rule.rule-index c.loop-rule-test.true) h)),
)

pub returns : goal.returns
returns c = λ r. subst (λ (x : LogRule). may_go_by c.args.profile x c.args.body.now (told c.args.self.now) ≡ true) (at_rank r) (c.loop-rule.invariant (rank r) (let within = rank_within r in omega arith))
