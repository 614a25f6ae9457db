use Rattle.std.proofs.Common.{◌≡◌, ◌-◌, ◌<◌, leb, leb-true, arith, rules, ap, sym, ◌∙◌, true, false, Some, length}
use Rattle.std.specs.List.Sorted.{IsPartitionPoint}
use Rattle.std.proofs.lemmas.List.Sorted.{IsPartitionPoint-from_clause, IsPartitionedBy-leb}
use Rattle.elf_symbols.specs.Named.{Named}
use Rattle.elf_symbols.proofs.Sorting.{last_below-none, last_below-at}
use Rattle.elf_symbols.proofs.symbols.last_below.Goals as goal

pub returns-then-count-eq0 : goal.returns-then-count-eq0
returns-then-count-eq0 c =
    let a = c.args.address in
    let parted : IsPartitionPoint (λ (s : Named). leb s.address a ≡ true) (λ (s : Named). leb s.address a ≡ false) c.args.list.now c.partition_point-count.result =
    IsPartitionPoint-from_clause (λ (s : Named). leb s.address a) _ _ c.partition_point-count.ensures.partitioned
    (IsPartitionedBy-leb (λ (s : Named). s.address) _ a c.requires) (λ b r q k. search rules) in
    record { last = sym (last_below-none c.args.list.now a (λ j d lt. parted.1 j d (omega arith) lt)); below = tt }

pub returns-else-count-eq0 : goal.returns-else-count-eq0
returns-else-count-eq0 c =
    let a = c.args.address in
    let k = c.partition_point-count.result - 1 in
    let d = c.index-list-count.result in
    let parted : IsPartitionPoint (λ (s : Named). leb s.address a ≡ true) (λ (s : Named). leb s.address a ≡ false) c.args.list.now c.partition_point-count.result =
    IsPartitionPoint-from_clause (λ (s : Named). leb s.address a) _ _ c.partition_point-count.ensures.partitioned
    (IsPartitionedBy-leb (λ (s : Named). s.address) _ a c.requires) (λ b r q k. search rules) in
    let inside : k < length c.args.list.now = omega (arith, c.partition_point-count.ensures.bound) in
    let low = parted.0 k d (omega arith) (omega arith) in
    record {
      last = ap Some c.index-list-count.is ∙ sym (last_below-at c.args.list.now a k d inside low (λ j e above lt. parted.1 j e (omega arith) lt));
      below = rw c.index-list-count.is (leb-true _ _ low);
    }
