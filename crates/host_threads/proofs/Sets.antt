-- The lines that lie in one set of a cache.
use Rattle.std.proofs.Common.{◌≡◌, ◌∙◌, ◌⊎◌, inl, inr, refl, sym, ap, subst, ℕ, zero, suc, ◌+◌, ◌*◌, ◌/◌, ◌%◌, ◌<◌, ◌≤◌, Bool, true, false, not, ◌&&◌, ◌||◌, arith}
use Rattle.std.proofs.lemmas.Bool.{and_parts, eqb-true, false≢true}
use Rattle.std.proofs.lemmas.Nat.{div-add-mod', mod-mul-add, mul-add-lt, mul-le}
use Rattle.std.proofs.Math.Dec.{eqb}
use Rattle.std.proofs.Math.Nat.{eq-or-lt_of_le, lt_of_not-le, mod-lt, mul-div_cancel, mul-mod_left}
use Rattle.machine_types.specs.declared.limits.TheConstants.{MAX_SETS}
use lib.Count.{ones}
use Rattle.client_cache.specs.Cache.{Cache}
use Rattle.client_cache.specs.Shape.{set_of}
use Rattle.elf_loader.specs.Size.{base}
use Rattle.host_threads.specs.Due.{HasNoVictim, IsLine, IsLowestSpare, IsSpare}
use Rattle.machine_types.specs.declared.config.Config.{Config}
use Rattle.machine_types.specs.Config.{is_set_count}
use Rattle.machine_types.proofs.Within.{config_limits}
use Rattle.machine_model.specs.Views.{shape_of_config}
use Rattle.tl_types.specs.Line.{length_of}
use Rattle.tl_types.specs.declared.line.LineSize.{LineSize}
use Rattle.tl_types.specs.declared.line.LineSize.TheVariants.{Bytes16, Bytes64}

-- ---- the numbers of a configuration

-- memory begins with a whole number of times so many lines of this size
abbrev is_whole : LineSize → ℕ → Bool
is_whole size n = eqb (base / length_of size / n * n * length_of size) base

-- so it is with each number of sets below
abbrev are_whole : LineSize → ℕ → Bool
are_whole size zero = true
are_whole size (suc n) = (not (is_set_count n) || is_whole size n) && are_whole size n

all_whole : (size : LineSize) → are_whole size (suc MAX_SETS) ≡ true
unfolding ones
all_whole Bytes16 = refl
all_whole Bytes64 = refl

passes : (a b : Bool) → (not a || b) ≡ true → a ≡ true → b ≡ true
passes true b e c = e
passes false b e c = absurd (false≢true c)

whole_below : (size : LineSize) (n m : ℕ) → are_whole size n ≡ true → m < n → is_set_count m ≡ true → is_whole size m ≡ true
whole_below size zero m e below count = absurd (omega arith)
whole_below size (suc n) m e below count =
    let both = and_parts (not (is_set_count n) || is_whole size n) (are_whole size n) e in
    elim (eq-or-lt_of_le (let le : m ≤ n = omega arith in le)) [
      | inl same ↦ subst (λ k. is_whole size k ≡ true) (sym same) (passes (is_set_count n) (is_whole size n) both.0 (subst (λ k. is_set_count k ≡ true) same count))
      | inr less ↦ whole_below size n m both.1 less count
    ]

-- lines have the configuration's length, and memory begins with one of set 0
pub record Sized (config : Config) : Type 0 where
  pub some_bytes : 0 < length_of config.line
  pub few_bytes : length_of config.line ≤ 64
  pub some_sets : 0 < config.sets
  pub few_sets : config.sets ≤ MAX_SETS
  pub whole : base / length_of config.line / config.sets * config.sets * length_of config.line ≡ base

some_length : (size : LineSize) → 0 < length_of size
some_length Bytes16 = omega arith
some_length Bytes64 = omega arith

short_length : (size : LineSize) → length_of size ≤ 64
short_length Bytes16 = omega arith
short_length Bytes64 = omega arith

pub sized : (config : Config) → Sized config
sized config =
    let limits = config_limits config in
    record {
      some_bytes = some_length config.line;
      few_bytes = short_length config.line;
      some_sets = limits.some_sets;
      few_sets = limits.few_sets;
      whole = eqb-true _ base (whole_below config.line (suc MAX_SETS) config.sets (all_whole config.line) (let few = limits.few_sets in omega arith) limits.sets);
    }

-- ---- the lines of a set

-- the i-th address of a line in the set
abbrev pub nth : Config → (set i : ℕ) → ℕ
nth config set i = (i * config.sets + set) * length_of config.line

pub set_of-nth : (config : Config) (set i : ℕ) → Sized config → set < config.sets → set_of (shape_of_config config) (nth config set i) ≡ set
set_of-nth config set i s below =
    ap (λ q. q % config.sets) (mul-div_cancel (i * config.sets + set) s.some_bytes) ∙ mod-mul-add i config.sets set below

pub set_below : (config : Config) (address : ℕ) → Sized config → set_of (shape_of_config config) address < config.sets
set_below config address s = mod-lt (address / length_of config.line) s.some_sets

-- each line of the set is one of them
pub nth_of : (config : Config) (line : ℕ) → Sized config → line % length_of config.line ≡ 0 → nth config (set_of (shape_of_config config) line) (line / length_of config.line / config.sets) ≡ line
nth_of config line s whole =
    ap (λ q. q * length_of config.line) (div-add-mod' (line / length_of config.line) config.sets)
    ∙ (let e = div-add-mod' line (length_of config.line) in omega (arith, e, whole))

pub nth-add : (config : Config) (set i : ℕ) → nth config set i + config.sets * length_of config.line ≡ nth config set (i + 1)
nth-add config set i = omega arith

-- the first one in memory
pub nth_first : (config : Config) (set : ℕ) → Sized config → base + set * length_of config.line ≡ nth config set (base / length_of config.line / config.sets)
nth_first config set s = let e = s.whole in omega (arith, e)

-- they rise
pub nth_rises : (config : Config) (set i j : ℕ) → nth config set i < nth config set j → i < j
nth_rises config set i j below =
    lt_of_not-le (λ le.
    let rows : j * config.sets ≤ i * config.sets = mul-le j config.sets i config.sets le (omega arith) in
    let bytes : nth config set j ≤ nth config set i = mul-le (j * config.sets + set) (length_of config.line) (i * config.sets + set) (length_of config.line) (omega arith) (omega arith) in
    absurd (omega arith))

-- those before the first one in memory are outside
before_memory : (config : Config) (set i : ℕ) → Sized config → set < config.sets → i < base / length_of config.line / config.sets → nth config set i < base
before_memory config set i s below before =
    let first = base / length_of config.line / config.sets in
    let row : i * config.sets + set < config.sets * first = mul-add-lt i config.sets set first before below in
    let bytes : (i * config.sets + set + 1) * length_of config.line ≤ config.sets * first * length_of config.line = mul-le (i * config.sets + set + 1) (length_of config.line) (config.sets * first) (length_of config.line) (omega arith) (omega arith) in
    let whole = s.whole in
    let some = s.some_bytes in
    omega (arith, bytes, whole, some)

-- ---- a walk over the lines of a set in memory

-- it stands at one of them, and found none of the earlier ones spare
pub record Walks (config : Config) (c : Cache) (set line : ℕ) : Type 0 where
  pub inside : base ≤ line
  pub place : ℕ
  pub stands : line ≡ nth config set place
  pub passed : (i : ℕ) → i < place → base ≤ nth config set i → IsSpare c (nth config set i) → ⊥

pub walk_begins : (config : Config) (c : Cache) (address : ℕ) → Sized config → Walks config c (set_of (shape_of_config config) address) (base + address / length_of config.line % config.sets * length_of config.line)
walk_begins config c address s = begins (set_of (shape_of_config config) address) (set_below config address s)
  where
    begins : (set : ℕ) → set < config.sets → Walks config c set (base + set * length_of config.line)
    begins set below = record {
      inside = omega arith;
      place = base / length_of config.line / config.sets;
      stands = nth_first config set s;
      passed = λ i before inside spare. absurd (let outside = before_memory config set i s below before in omega arith);
    }

pub walk_goes_on : (config : Config) (c : Cache) (set line : ℕ) → Walks config c set line → (IsSpare c line → ⊥) → Walks config c set (line + config.sets * length_of config.line)
walk_goes_on config c set line w none = record {
  inside = omega (arith, w.inside);
  place = w.place + 1;
  stands = ap (λ n. n + config.sets * length_of config.line) w.stands ∙ nth-add config set w.place;
  passed = λ i before inside spare. elim (lt_or_eq i w.place before) [
    | inl earlier ↦ w.passed i earlier inside spare
    | inr here ↦ none (subst (λ n. IsSpare c n) (ap (λ n. nth config set n) here ∙ sym w.stands) spare)
  ];
}
  where
    lt_or_eq : (a b : ℕ) → a < b + 1 → (a < b) ⊎ (a ≡ b)
    lt_or_eq a b lt = elim (eq-or-lt_of_le (let le : a ≤ b = omega arith in le)) [ inl e ↦ inr e | inr l ↦ inl l ]

pub set_of_walk : (config : Config) (c : Cache) (set line : ℕ) → Sized config → set < config.sets → Walks config c set line → set_of (shape_of_config config) line ≡ set
set_of_walk config c set line s below w = ap (λ n. set_of (shape_of_config config) n) w.stands ∙ set_of-nth config set w.place s below

not_below : (a b : ℕ) → (a < b → ⊥) → b ≤ a
not_below a b not = let lt : b < suc a = lt_of_not-le not in omega arith

-- it passed each spare line of the set that lies below
no_spare_below : (config : Config) (c : Cache) (set line : ℕ) → Sized config → Walks config c set line → (other : ℕ) → IsLine config other → set_of (shape_of_config config) other ≡ set → other < line → IsSpare c other → ⊥
no_spare_below config c set line s w other is same lower free =
    let i = other / length_of config.line / config.sets in
    let stands : nth config set i ≡ other = ap (λ k. nth config k i) (sym same) ∙ nth_of config other s is.1 in
    let less : nth config set i < nth config set w.place = subst (λ n. n < nth config set w.place) (sym stands) (subst (λ n. other < n) w.stands lower) in
    w.passed i (nth_rises config set i w.place less) (subst (λ n. base ≤ n) (sym stands) is.0) (subst (λ n. IsSpare c n) (sym stands) free)

-- where it finds a spare line, that is the lowest
pub walk_finds : (config : Config) (c : Cache) (set line : ℕ) → Sized config → set < config.sets → Walks config c set line → IsSpare c line → IsLowestSpare config c line
walk_finds config c set line s below w spare = record {
  begins = (w.inside, ap (λ n. n % length_of config.line) w.stands ∙ mul-mod_left (w.place * config.sets + set) (length_of config.line));
  spare = spare;
  lowest = λ other is same free. not_below other line (λ lower. no_spare_below config c set line s w other is (same ∙ set_of_walk config c set line s below w) lower free);
}

-- where it comes to the end of memory, the set has none
pub walk_ends : (config : Config) (size : ℕ) (c : Cache) (address line : ℕ) → Sized config → Walks config c (set_of (shape_of_config config) address) line → base + size ≤ line → HasNoVictim config size c address
walk_ends config size c address line s w ends other is inside same free =
    no_spare_below config c (set_of (shape_of_config config) address) line s w other is same (omega (arith, ends, inside)) free
