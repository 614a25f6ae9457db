use Rattle.std.proofs.Common.{rules, ◌≡◌}
use Rattle.witnesses.specs.Witnesses.{HasLists, history_of}
use Rattle.witnesses.proofs.Judged.{is_legal_trace}
use Rattle.witnesses.proofs.judging.judge_trace.Goals as goal

pub returns-then-branch-clause-legal : goal.returns-then-branch-clause-legal
returns-then-branch-clause-legal c =
    let has : HasLists c.args.config.now.harts c.args.run = search rules in
    let is : c.from_parts-trace.result.history ≡ history_of c.args.image.now c.args.config.now c.args.run = search rules in
    is_legal_trace c.args.image.now c.args.config.now c.args.run _ has (search rules) (search rules) is
