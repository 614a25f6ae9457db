use Rattle.std.proofs.Common.{◌++◌, ◌∙◌, ◌≡◌, ap₂, codes, length, rules}
use Rattle.architecture_outcomes.specs.Text.{count_text, ending_before, machine_text, reach_text}
use Rattle.architecture_outcomes.proofs.Pieces.{five}
use Rattle.architecture_outcomes.proofs.spelling.spell_partial.Goals as goal

pub returns : goal.returns
returns c =
    let found = c.args.found.now in
    let count : c.len.result ≡ length found.outcomes.items = search rules in
    let stops : c.len-2.result ≡ length found.failures.items = search rules in
    five _ _ _ _ _ _ _ _ _ _ _ c.in_ok-spell_ending.ensures c.in_ok-spell_counts.ensures c.in_ok-spell_reach.ensures c.in_ok-spell_machine.ensures
    c.in_ok-extend_from_slice.ensures.items
    ∙ ap₂ (λ n m. c.args.into.now.items ++ (ending_before found.reach ++ (count_text n m found.states ++ (reach_text found.reach found.window ++ (machine_text found.machine found.machine_states ++ codes "\n"))))) count stops
