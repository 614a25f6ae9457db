use Rattle.std.proofs.Common.{◌≡◌, ◌∙◌, ◌==◌, ap, length, not, rules, vec_len}
use Rattle.explore_command.proofs.exploration.ExploredFindings.has_failures.Goals as goal

pub returns : goal.returns
returns c =
    let counted : vec_len c.args.self.now.exploration.failures ≡ length c.args.self.now.exploration.failures.items = search rules in
    ap not (c.is_empty.ensures ∙ ap (λ n. n == 0) counted)
