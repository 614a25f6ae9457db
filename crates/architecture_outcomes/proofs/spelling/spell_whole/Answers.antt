use Rattle.std.proofs.Common.{◌++◌, ◌≡◌, length, rules, subst}
use Rattle.architecture_outcomes.specs.Text.{whole_line}
use Rattle.exploration_text.proofs.Joined.{joined}
use Rattle.architecture_outcomes.proofs.spelling.spell_whole.Goals as goal

pub returns : goal.returns
returns c =
    let found = c.args.found.now in
    let count : c.len.result ≡ length found.outcomes.items = search rules in
    let stops : c.len-2.result ≡ length found.failures.items = search rules in
    subst (λ m. c.extend_from_slice-2.new.self.items ≡ c.args.into.now.items ++ whole_line (length found.outcomes.items) m found.states) stops
    (subst (λ n. c.extend_from_slice-2.new.self.items ≡ c.args.into.now.items ++ whole_line n c.len-2.result found.states) count
    (joined _ _ _ _ _ _ _ c.in_ok-extend_from_slice.ensures.items c.in_ok-spell_counts.ensures c.in_ok-extend_from_slice-2.ensures.items))
