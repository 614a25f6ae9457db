-- How a list of entries, and how many of them each sealed group has, stand for groups.
use Rattle.std.specs.Prelude.{ℕ, ◌-◌, ◌<◌, ◌≤◌, ◌==◌, nat_lt, Bool, List, [], ◌∷◌, Option, None, length, sum, take, drop, position, is_some, unwrap_or, if◌then◌else◌}
use Rattle.std.specs.List.{AllByRecursion as Each}
use Rattle.std.specs.Option.{option_or}
use Rattle.machine_types.specs.declared.limits.TheConstants.{BUFFER_ENTRIES}
use Rattle.store_buffer.specs.ByteMask.{each_place}
use Rattle.store_buffer.specs.Entry.{marked_byte}
use Rattle.store_buffer.specs.Groups.{Groups, HaveDistinctWords}
use Rattle.store_buffer.specs.declared.entry.Entry.{Entry}

abbrev pub sealed_in : List ℕ → List Entry → List (List Entry)
sealed_in [] entries = []
sealed_in (n ∷ ns) entries = take n entries ∷ sealed_in ns (drop n entries)

abbrev pub groups_in : List ℕ → List Entry → Groups
groups_in sizes entries = record { sealed = sealed_in sizes entries; current = drop (sum sizes) entries }

pub record AreGroupsLaidOut (sizes : List ℕ) (entries : List Entry) : Type 0 where
  pub some : Each (λ n. 0 < n) sizes
  pub within : sum sizes ≤ length entries
  pub few : length entries ≤ BUFFER_ENTRIES
  pub distinct : Each HaveDistinctWords (sealed_in sizes entries)
  pub current_distinct : HaveDistinctWords (drop (sum sizes) entries)

-- where the first entry of a word stands
abbrev pub place_of : ℕ → List Entry → Option ℕ
place_of word entries = position (λ e. e.word == word) entries

-- the newest entry's byte, whatever its group
abbrev pub byte_in : ℕ → ℕ → Entry → Option ℕ
byte_in word k e = if e.word == word then marked_byte k e else None

abbrev pub newest_byte : ℕ → ℕ → List Entry → Option ℕ
newest_byte word k [] = None
newest_byte word k (e ∷ es) = option_or (newest_byte word k es) (byte_in word k e)

abbrev pub overlaid : ℕ → List Entry → List Bool × List ℕ
overlaid word entries =
    (each_place (λ k. is_some (newest_byte word k entries)), each_place (λ k. unwrap_or (newest_byte word k entries) 0))

-- the oldest sealed group, where there is one, has an entry less
abbrev pub one_less : List ℕ → List ℕ
one_less [] = []
one_less (n ∷ ns) = if nat_lt 1 n then (n - 1) ∷ ns else ns
