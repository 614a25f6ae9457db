use Rattle.std.proofs.Common.{rules}
use Rattle.std.proofs.lemmas.List.Sorted.{IsNonDecreasingBy-from_sort_by_key, answers_always}
use Rattle.elf_symbols.specs.Named.{Named}
use Rattle.elf_symbols.proofs.Sorting.{by_address-from_sort}
use Rattle.elf_symbols.proofs.symbols.Symbols.sorted.Goals as goal

pub invariant_of-result : goal.invariant_of-result
invariant_of-result c = IsNonDecreasingBy-from_sort_by_key (λ (s : Named). s.address) _ c.in_ok-sort_by_key.ensures.sorted (λ a r q k. search rules)

pub returns : goal.returns
returns c =
    by_address-from_sort _ _
    (IsNonDecreasingBy-from_sort_by_key (λ (s : Named). s.address) _ c.in_ok-sort_by_key.ensures.sorted (λ a r q k. search rules))
    (c.sort_by_key.ensures.stable (λ (s : Named). s.address) (answers_always _ _ _ (λ f a r g h. search rules)))
