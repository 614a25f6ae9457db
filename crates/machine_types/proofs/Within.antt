-- What the limits of a configuration say of its numbers.
use Rattle.std.proofs.Common.{◌≡◌, ℕ, ◌<◌, ◌≤◌, true, arith}
use Rattle.std.proofs.lemmas.Bool.{and_parts, eqb-true, leb-true}
use Rattle.std.proofs.lemmas.Nat.{ones_le_self}
use Rattle.std.specs.Prelude.{count_ones}
use Rattle.std.specs.Int.{is_power_of_two}
use Rattle.machine_types.specs.declared.limits.TheConstants.{MAX_HARTS, MAX_SETS, MAX_WAYS}
use Rattle.machine_types.specs.Config.{is_set_count, is_within_limits}
use Rattle.machine_types.specs.declared.config.Config.{Config}

pub record IsWithin (h s w : ℕ) : Type 0 where
  pub some_harts : 1 ≤ h
  pub few_harts : h ≤ MAX_HARTS
  pub some_sets : 0 < s
  pub few_sets : s ≤ MAX_SETS
  pub sets : is_set_count s ≡ true
  pub some_ways : 0 < w
  pub few_ways : w ≤ MAX_WAYS

positive : (n : ℕ) → is_power_of_two n ≡ true → 0 < n
positive n e = let one : count_ones n ≡ 1 = eqb-true (count_ones n) 1 e in omega (arith, one, ones_le_self n)

pub limits_of : (harts sets ways : ℕ) → is_within_limits harts sets ways ≡ true → IsWithin harts sets ways
limits_of harts sets ways e =
    let most_ways = and_parts _ _ e in
    let least_ways = and_parts _ _ most_ways.0 in
    let set_count = and_parts _ _ least_ways.0 in
    let hart_count = and_parts _ _ set_count.0 in
    let count = and_parts (is_power_of_two sets) _ set_count.1 in
    record {
      some_harts = leb-true 1 harts hart_count.0;
      few_harts = leb-true harts MAX_HARTS hart_count.1;
      some_sets = positive sets count.0;
      few_sets = leb-true sets MAX_SETS count.1;
      sets = set_count.1;
      some_ways = leb-true 1 ways least_ways.1;
      few_ways = leb-true ways MAX_WAYS most_ways.1;
    }

pub config_limits : (c : Config) → IsWithin c.harts c.sets c.ways
config_limits c = limits_of c.harts c.sets c.ways c.within
