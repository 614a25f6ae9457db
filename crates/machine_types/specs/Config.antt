-- Which configurations a machine can be made of.
use Rattle.std.specs.Prelude.{ℕ, Bool, ◌&&◌, nat_le}
use Rattle.std.specs.Int.{is_power_of_two}
use Rattle.machine_types.specs.declared.limits.TheConstants.{MAX_HARTS, MAX_SETS, MAX_WAYS}

-- a power of two of sets, as many as a cache may have
abbrev pub is_set_count : ℕ → Bool
is_set_count n = is_power_of_two n && nat_le n MAX_SETS

-- some harts, and caches of so many sets of some lines
abbrev pub is_within_limits : (harts sets ways : ℕ) → Bool
is_within_limits harts sets ways = nat_le 1 harts && nat_le harts MAX_HARTS && is_set_count sets && nat_le 1 ways && nat_le ways MAX_WAYS
