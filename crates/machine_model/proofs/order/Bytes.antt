-- The bytes that a load finds: the last waiting store's, else those of what was performed.
use Rattle.std.proofs.Common.{◌≡◌, ℕ, zero, suc, ◌+◌, ◌-◌, ◌*◌, ◌/◌, ◌%◌, ◌^◌, ◌<◌, ◌≤◌, List, [], ◌∷◌, Bool, true, false, Option, Some, None, refl, cond, sym, ap, ◌∙◌, subst, not, ◌&&◌, ◌||◌, arith}
use Rattle.std.specs.Prelude.{nat_eq, nat_le, nat_lt, is_some, unwrap_or, slice_index}
use Rattle.std.specs.List.{AllByRecursion as Each, filter, last_or}
use Rattle.std.proofs.lemmas.Bool.{false≢true, true≢false, and_parts, and_from, eqb-true, eqb-false, leb-true, ltb-true, le-leb, lt-ltb, false_from_ne_true}
use Rattle.std.specs.Option.{option_or}
use Rattle.machine_model.specs.Words.{word_of, number_of_bytes, read_from, bytes_of_word}
use Rattle.machine_model.proofs.order.Kept.{IsWaiting}
use Rattle.machine_model.proofs.order.Rules.{touches_word}
use Rattle.machine_model.proofs.order.Steps.{store_of_operation, stores_of}
use Rattle.memory_model.specs.declared.operation.Operation.{Operation}
use Rattle.memory_model.specs.Operations.{byte_of_number, writes, touches, stores_to, written_at}
use Rattle.memory_model.specs.Order.{byte_from}
use Rattle.store_buffer.specs.ByteMask.{each_place, is_marked, marks_of_access, covers}
use Rattle.store_buffer.specs.Stores.{last_byte, stored_byte}

-- ---- numbers

-- a number's byte is one of its four digits
digit_at : (b0 b1 b2 b3 k : ℕ) → b0 < 256 → b1 < 256 → b2 < 256 → b3 < 256 → k < 4 → number_of_bytes (b0 ∷ b1 ∷ b2 ∷ b3 ∷ []) / 256 ^ k % 256 ≡ slice_index (b0 ∷ b1 ∷ b2 ∷ b3 ∷ []) k
digit_at b0 b1 b2 b3 zero l0 l1 l2 l3 l = omega (arith, l0, l1, l2, l3)
digit_at b0 b1 b2 b3 (suc zero) l0 l1 l2 l3 l = omega (arith, l0, l1, l2, l3)
digit_at b0 b1 b2 b3 (suc (suc zero)) l0 l1 l2 l3 l = omega (arith, l0, l1, l2, l3)
digit_at b0 b1 b2 b3 (suc (suc (suc zero))) l0 l1 l2 l3 l = omega (arith, l0, l1, l2, l3)
digit_at b0 b1 b2 b3 (suc (suc (suc (suc k)))) l0 l1 l2 l3 l = absurd (omega (arith, l))

-- so many low bytes of a number keep their digits
low_bytes : (m size j : ℕ) → j < size → size ≤ 4 → m % 256 ^ size / 256 ^ j % 256 ≡ m / 256 ^ j % 256
low_bytes m zero j l e = absurd (omega (arith, l))
low_bytes m (suc zero) zero l e = omega arith
low_bytes m (suc zero) (suc j) l e = absurd (omega (arith, l))
low_bytes m (suc (suc zero)) zero l e = omega arith
low_bytes m (suc (suc zero)) (suc zero) l e = omega arith
low_bytes m (suc (suc zero)) (suc (suc j)) l e = absurd (omega (arith, l))
low_bytes m (suc (suc (suc zero))) zero l e = omega arith
low_bytes m (suc (suc (suc zero))) (suc zero) l e = omega arith
low_bytes m (suc (suc (suc zero))) (suc (suc zero)) l e = omega arith
low_bytes m (suc (suc (suc zero))) (suc (suc (suc j))) l e = absurd (omega (arith, l))
low_bytes m (suc (suc (suc (suc zero)))) zero l e = omega arith
low_bytes m (suc (suc (suc (suc zero)))) (suc zero) l e = omega arith
low_bytes m (suc (suc (suc (suc zero)))) (suc (suc zero)) l e = omega arith
low_bytes m (suc (suc (suc (suc zero)))) (suc (suc (suc zero))) l e = omega arith
low_bytes m (suc (suc (suc (suc zero)))) (suc (suc (suc (suc j)))) l e = absurd (omega (arith, l))
low_bytes m (suc (suc (suc (suc (suc size))))) j l e = absurd (omega (arith, e))

-- from one place on, and then another
shifted_on : (n off j : ℕ) → off + j < 4 → n / 256 ^ off / 256 ^ j % 256 ≡ n / 256 ^ (off + j) % 256
shifted_on n zero zero l = omega arith
shifted_on n zero (suc zero) l = omega arith
shifted_on n zero (suc (suc zero)) l = omega arith
shifted_on n zero (suc (suc (suc zero))) l = omega arith
shifted_on n zero (suc (suc (suc (suc j)))) l = absurd (omega (arith, l))
shifted_on n (suc zero) zero l = omega arith
shifted_on n (suc zero) (suc zero) l = omega arith
shifted_on n (suc zero) (suc (suc zero)) l = omega arith
shifted_on n (suc zero) (suc (suc (suc j))) l = absurd (omega (arith, l))
shifted_on n (suc (suc zero)) zero l = omega arith
shifted_on n (suc (suc zero)) (suc zero) l = omega arith
shifted_on n (suc (suc zero)) (suc (suc j)) l = absurd (omega (arith, l))
shifted_on n (suc (suc (suc zero))) zero l = omega arith
shifted_on n (suc (suc (suc zero))) (suc j) l = absurd (omega (arith, l))
shifted_on n (suc (suc (suc (suc off)))) j l = absurd (omega (arith, l))

-- a number that lies from a place on has its bytes from there
placed_byte : (w off j : ℕ) → off + j < 4 → w * 256 ^ off / 256 ^ (off + j) % 256 ≡ w / 256 ^ j % 256
placed_byte w zero zero l = omega arith
placed_byte w zero (suc zero) l = omega arith
placed_byte w zero (suc (suc zero)) l = omega arith
placed_byte w zero (suc (suc (suc zero))) l = omega arith
placed_byte w zero (suc (suc (suc (suc j)))) l = absurd (omega (arith, l))
placed_byte w (suc zero) zero l = omega arith
placed_byte w (suc zero) (suc zero) l = omega arith
placed_byte w (suc zero) (suc (suc zero)) l = omega arith
placed_byte w (suc zero) (suc (suc (suc j))) l = absurd (omega (arith, l))
placed_byte w (suc (suc zero)) zero l = omega arith
placed_byte w (suc (suc zero)) (suc zero) l = omega arith
placed_byte w (suc (suc zero)) (suc (suc j)) l = absurd (omega (arith, l))
placed_byte w (suc (suc (suc zero))) zero l = omega arith
placed_byte w (suc (suc (suc zero))) (suc j) l = absurd (omega (arith, l))
placed_byte w (suc (suc (suc (suc off)))) j l = absurd (omega (arith, l))

pub place_at : (f : ℕ → ℕ) (k : ℕ) → k < 4 → slice_index (each_place f) k ≡ f k
place_at f zero l = refl
place_at f (suc zero) l = refl
place_at f (suc (suc zero)) l = refl
place_at f (suc (suc (suc zero))) l = refl
place_at f (suc (suc (suc (suc k)))) l = absurd (omega (arith, l))

pub mark_at : (f : ℕ → Bool) (k : ℕ) → k < 4 → is_marked (each_place f) k ≡ f k
mark_at f zero l = refl
mark_at f (suc zero) l = refl
mark_at f (suc (suc zero)) l = refl
mark_at f (suc (suc (suc zero))) l = refl
mark_at f (suc (suc (suc (suc k)))) l = absurd (omega (arith, l))

-- the byte at x of what an access read from a word
pub read_byte : (f : ℕ → ℕ) → ((k : ℕ) → k < 4 → f k < 256) → (address bytes x : ℕ) → address % 4 + bytes ≤ 4 → address ≤ x → x < address + bytes → byte_of_number address (read_from (each_place f) address bytes) x ≡ f (x - word_of address)
read_byte f small address bytes x fit l m =
    let k : address % 4 + (x - address) < 4 = omega (arith, fit, l, m) in
    low_bytes (number_of_bytes (each_place f) / 256 ^ (address % 4)) bytes (x - address) (omega (arith, l, m)) (omega (arith, fit))
    ∙ (shifted_on (number_of_bytes (each_place f)) (address % 4) (x - address) k
    ∙ (digit_at (f 0) (f 1) (f 2) (f 3) (address % 4 + (x - address)) (small 0 (omega arith)) (small 1 (omega arith)) (small 2 (omega arith)) (small 3 (omega arith)) k
    ∙ (place_at f (address % 4 + (x - address)) k ∙ ap f (omega (arith, l)))))

-- ---- the last waiting store to a byte

le_same : (a b c d : ℕ) → (a ≤ b → c ≤ d) → (c ≤ d → a ≤ b) → nat_le a b ≡ nat_le c d
le_same a b c d f g = go (nat_le a b) refl (nat_le c d) refl
  where
    go : (p : Bool) → nat_le a b ≡ p → (q : Bool) → nat_le c d ≡ q → nat_le a b ≡ nat_le c d
    go true e true h = e ∙ sym h
    go false e false h = e ∙ sym h
    go true e false h = absurd (true≢false (sym (le-leb c d (f (leb-true a b e))) ∙ h))
    go false e true h = absurd (true≢false (sym (le-leb a b (g (leb-true c d h))) ∙ e))

lt_same : (a b c d : ℕ) → (a < b → c < d) → (c < d → a < b) → nat_lt a b ≡ nat_lt c d
lt_same a b c d f g = go (nat_lt a b) refl (nat_lt c d) refl
  where
    go : (p : Bool) → nat_lt a b ≡ p → (q : Bool) → nat_lt c d ≡ q → nat_lt a b ≡ nat_lt c d
    go true e true h = e ∙ sym h
    go false e false h = e ∙ sym h
    go true e false h = absurd (true≢false (sym (lt-ltb c d (f (ltb-true a b e))) ∙ h))
    go false e true h = absurd (true≢false (sym (lt-ltb a b (g (ltb-true c d h))) ∙ e))

-- a store to the word marks the bytes that it touches
marks_touched : (a : Operation) (word k : ℕ) → word_of a.address ≡ word → k < 4 → is_marked (marks_of_access (a.address % 4) a.size) k ≡ touches (word + k) a
marks_touched a word k e l =
    mark_at (λ j. nat_le (a.address % 4) j && nat_lt j (a.address % 4 + a.size)) k l
    ∙ (ap (λ b. b && nat_lt k (a.address % 4 + a.size)) (le_same (a.address % 4) k a.address (word + k) (λ m. omega (arith, e, m)) (λ m. omega (arith, e, m)))
    ∙ ap (λ b. nat_le a.address (word + k) && b) (lt_same k (a.address % 4 + a.size) (word + k) (a.address + a.size) (λ m. omega (arith, e, m)) (λ m. omega (arith, e, m))))

stored_value : (a : Operation) (word k : ℕ) → word_of a.address ≡ word → k < 4 → touches (word + k) a ≡ true → slice_index (bytes_of_word (a.written * 256 ^ (a.address % 4))) k ≡ written_at a (word + k)
stored_value a word k e l t =
    let m = leb-true a.address (word + k) (and_parts (nat_le a.address (word + k)) (nat_lt (word + k) (a.address + a.size)) t).0 in
    let j : a.address % 4 + ((word + k) - a.address) ≡ k = omega (arith, e, m) in
    place_at (λ i. a.written * 256 ^ (a.address % 4) / 256 ^ i % 256) k l
    ∙ (ap (λ i. a.written * 256 ^ (a.address % 4) / 256 ^ i % 256) (sym j) ∙ placed_byte a.written (a.address % 4) ((word + k) - a.address) (omega (arith, j, l)))

-- what a store that may be there wrote at x
abbrev pub byte_of : ℕ → Option Operation → Option ℕ
byte_of x None = None
byte_of x (Some s) = Some (written_at s x)

stored_is : (h : ℕ) (a : Operation) (word k : ℕ) → IsWaiting h a → word % 4 ≡ 0 → k < 4 → stored_byte word k (store_of_operation a) ≡ cond (stores_to (word + k) a) (Some (written_at a (word + k))) None
stored_is h a word k own aligned l = go (nat_eq (word_of a.address) word) refl
  where
    writes_it : stores_to (word + k) a ≡ touches (word + k) a
    writes_it = ap (λ j. writes j && touches (word + k) a) own.plain

    at : (b : Bool) → touches (word + k) a ≡ b → word_of a.address ≡ word → cond b (Some (slice_index (bytes_of_word (a.written * 256 ^ (a.address % 4))) k)) None ≡ cond b (Some (written_at a (word + k))) None
    at true t e = ap Some (stored_value a word k e l t)
    at false t e = refl

    go : (b : Bool) → nat_eq (word_of a.address) word ≡ b → cond (nat_eq (word_of a.address) word && is_marked (marks_of_access (a.address % 4) a.size) k) (Some (slice_index (bytes_of_word (a.written * 256 ^ (a.address % 4))) k)) None ≡ cond (stores_to (word + k) a) (Some (written_at a (word + k))) None
    go true e =
        let s = eqb-true (word_of a.address) word e in
        ap (λ b. cond (b && is_marked (marks_of_access (a.address % 4) a.size) k) (Some (slice_index (bytes_of_word (a.written * 256 ^ (a.address % 4))) k)) None) e
        ∙ (ap (λ b. cond b (Some (slice_index (bytes_of_word (a.written * 256 ^ (a.address % 4))) k)) None) (marks_touched a word k s l)
        ∙ (at (touches (word + k) a) refl s ∙ ap (λ b. cond b (Some (written_at a (word + k))) None) (sym writes_it)))
    go false e =
        ap (λ b. cond (b && is_marked (marks_of_access (a.address % 4) a.size) k) (Some (slice_index (bytes_of_word (a.written * 256 ^ (a.address % 4))) k)) None) e
        ∙ ap (λ b. cond b (Some (written_at a (word + k))) None) (sym (writes_it ∙ false_from_ne_true (touches (word + k) a) (λ t. let w = touches_word (word + k) a own.in_word t in eqb-false (word_of a.address) word e (omega (arith, w, aligned, l)))))

some_else : (x c : ℕ) (b : Operation) (xs : List Operation) → byte_of x (last_or (Some b) xs) ≡ option_or (byte_of x (last_or (Some b) xs)) (Some c)
some_else x c b [] = refl
some_else x c b (d ∷ xs) = some_else x c d xs

last_more : (x : ℕ) (a : Operation) (xs : List Operation) → byte_of x (last_or (Some a) xs) ≡ option_or (byte_of x (last_or None xs)) (Some (written_at a x))
last_more x a [] = refl
last_more x a (b ∷ xs) = some_else x (written_at a x) b xs

pub last_is : (h : ℕ) (word k : ℕ) (g : List Operation) → Each (IsWaiting h) g → word % 4 ≡ 0 → k < 4 → last_byte word k (stores_of g) ≡ byte_of (word + k) (last_or None (filter (stores_to (word + k)) g))
last_is h word k [] own aligned l = refl
last_is h word k (a ∷ g) own aligned l =
    ap (λ o. option_or o (stored_byte word k (store_of_operation a))) (last_is h word k g own.1 aligned l)
    ∙ (ap (option_or (byte_of (word + k) (last_or None (filter (stores_to (word + k)) g)))) (stored_is h a word k own.0 aligned l) ∙ at (stores_to (word + k) a))
  where
    none_else : (o : Option ℕ) → option_or o None ≡ o
    none_else None = refl
    none_else (Some y) = refl

    at : (b : Bool) → option_or (byte_of (word + k) (last_or None (filter (stores_to (word + k)) g))) (cond b (Some (written_at a (word + k))) None) ≡ byte_of (word + k) (last_or None (cond b (a ∷ filter (stores_to (word + k)) g) (filter (stores_to (word + k)) g)))
    at true = sym (last_more (word + k) a (filter (stores_to (word + k)) g))
    at false = none_else _

-- ---- a load's bytes

-- a byte of the buffer that is there
pub from_buffer : (memory : ℕ → ℕ) (x : ℕ) (o : Option ℕ) (last : Option Operation) → o ≡ byte_of x last → is_some o ≡ true → unwrap_or o 0 ≡ byte_from memory x last
from_buffer memory x o None e s = absurd (false≢true (sym (ap is_some e) ∙ s))
from_buffer memory x o (Some a) e s = ap (λ v. unwrap_or v 0) e

-- a byte of the buffer, or else of the copy
pub from_both : (memory : ℕ → ℕ) (x copied : ℕ) (o : Option ℕ) (last : Option Operation) → o ≡ byte_of x last → copied ≡ memory x → cond (is_some o) (unwrap_or o 0) copied ≡ byte_from memory x last
from_both memory x copied o None e c = ap (λ v. cond (is_some v) (unwrap_or v 0) copied) e ∙ c
from_both memory x copied o (Some a) e c = ap (λ v. cond (is_some v) (unwrap_or v 0) copied) e

pub buffer_small : (x : ℕ) (o : Option ℕ) (last : Option Operation) → o ≡ byte_of x last → unwrap_or o 0 < 256
buffer_small x o None e = subst (λ v. unwrap_or v 0 < 256) (sym e) (omega arith)
buffer_small x o (Some a) e = subst (λ v. unwrap_or v 0 < 256) (sym e) (omega arith)

pub both_small : (memory : ℕ → ℕ) → ((x : ℕ) → memory x < 256) → (x : ℕ) (last : Option Operation) → byte_from memory x last < 256
both_small memory small x None = small x
both_small memory small x (Some a) = omega arith

pub covered_at : (mask : List Bool) (off size k : ℕ) → covers mask (marks_of_access off size) ≡ true → off ≤ k → k < off + size → k < 4 → is_marked mask k ≡ true
covered_at mask off size k c l m n = at k n (and_from _ _ (le-leb off k l) (lt-ltb k (off + size) m))
  where
    implied : (a b : Bool) → (not a || b) ≡ true → a ≡ true → b ≡ true
    implied true b e f = e
    implied false b e f = absurd (false≢true f)

    three : (((not (is_marked (marks_of_access off size) 0) || is_marked mask 0) && (not (is_marked (marks_of_access off size) 1) || is_marked mask 1) && (not (is_marked (marks_of_access off size) 2) || is_marked mask 2)) ≡ true) × ((not (is_marked (marks_of_access off size) 3) || is_marked mask 3) ≡ true)
    three = and_parts _ _ c

    two : (((not (is_marked (marks_of_access off size) 0) || is_marked mask 0) && (not (is_marked (marks_of_access off size) 1) || is_marked mask 1)) ≡ true) × ((not (is_marked (marks_of_access off size) 2) || is_marked mask 2) ≡ true)
    two = and_parts _ _ three.0

    one : ((not (is_marked (marks_of_access off size) 0) || is_marked mask 0) ≡ true) × ((not (is_marked (marks_of_access off size) 1) || is_marked mask 1) ≡ true)
    one = and_parts _ _ two.0

    at : (k : ℕ) → k < 4 → (nat_le off k && nat_lt k (off + size)) ≡ true → is_marked mask k ≡ true
    at zero n e = implied (is_marked (marks_of_access off size) 0) (is_marked mask 0) one.0 e
    at (suc zero) n e = implied (is_marked (marks_of_access off size) 1) (is_marked mask 1) one.1 e
    at (suc (suc zero)) n e = implied (is_marked (marks_of_access off size) 2) (is_marked mask 2) two.1 e
    at (suc (suc (suc zero))) n e = implied (is_marked (marks_of_access off size) 3) (is_marked mask 3) three.1 e
    at (suc (suc (suc (suc k)))) n e = absurd (omega (arith, n))
