use Rattle.std.proofs.Common.{◌≡◌, ◌∙◌, ◌+◌, ◌++◌, ap, codes, length, rules}
use Rattle.exploration_text.proofs.Joined.{joined_more}
use Rattle.fence_audit.specs.Text.{counted, outcomes_text}
use Rattle.fence_audit.proofs.lacking.spell_counts.Goals as goal

pub returns : goal.returns
returns c =
    let m = c.args.missing.now in
    let places : c.len.result ≡ length m.own.items = search rules in
    let searches : c.len-2.result ≡ length m.searches.items = search rules in
    let outcomes : c.len-3.result ≡ length m.known.outcomes.items = search rules in
    joined_more _ _ _ _ _ _ _ _ _ c.in_ok-spell_searched.ensures
    (c.in_ok-spell_counted.ensures ∙ ap (λ n. c.spell_searched.new.into.items ++ counted n (codes " places, ")) places)
    (c.in_ok-spell_counted-2.ensures ∙ ap (λ n. c.spell_counted.new.into.items ++ counted (n + 1) (codes " programs, ")) searches)
    (c.in_ok-spell_outcomes.ensures ∙ ap (λ n. c.spell_counted-2.new.into.items ++ outcomes_text n) outcomes)
