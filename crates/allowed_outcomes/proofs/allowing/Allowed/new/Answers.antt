use Rattle.std.proofs.Common.{◌∙◌}
use Rattle.allowed_outcomes.proofs.Lines.{begun, ended, one_more}
use Rattle.allowed_outcomes.proofs.allowing.Allowed.new.Goals as goal

pub loop-line-init : goal.loop-line-init
loop-line-init c = λ line. begun _ _ _ c.args.text.now line c.new-lines.ensures.empty c.new-patterns.ensures.items c.lines-rest.ensures.value

pub loop-line-preserved : goal.loop-line-preserved
loop-line-preserved c = λ line.
    one_more c.loop-line.lines.keys c.insert.new.self.keys c.loop-line.patterns.items c.add_pattern.new.patterns.items c.loop-line.rest c.next.new.self _ _ line
    c.in_ok-insert.ensures.keys (c.in_ok-add_pattern.ensures line) c.outcome_in-outcome.ensures c.in-Some.ensures.steps
    ∙ c.loop-line.invariant line

pub returns : goal.returns
returns c = λ line. ended c.loop-line.lines.keys c.loop-line.patterns.items _ c.args.text.now line c.in_default.ensures.steps.0 (c.loop-line.invariant line)
