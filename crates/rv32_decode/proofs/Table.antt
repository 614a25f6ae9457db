-- The rows that a word can be in once its opcode and funct3 are known.
use Rattle.std.proofs.Common.{◌≡◌, ℕ, ◌/◌, ◌%◌, List, [], ◌∷◌, Bool, true, false, ◌&&◌, ◌||◌, Option, Some, None, refl, sym, ap, ◌∙◌, arith, bit_and}
use Rattle.std.specs.Prelude.{◌==◌}
use Rattle.std.specs.Option.{option_map}
use Rattle.std.specs.List.{find, filter, list_all}
use Rattle.std.proofs.lemmas.Nat.{and_shr, and_mod, and_mask}
use Rattle.std.proofs.lemmas.Bool.{false≢true, eqb-true, eq-eqb, and_parts, and_from}
use Rattle.rv32_decode.specs.Rows.{Row, rows, is_in, row_of, decoded, instr_of}

-- a row's mask takes the whole opcode, and funct3 whole or not at all
abbrev is_regular : Row → Bool
is_regular r = (r.mask % 128 == 127) && ((r.mask / 4096 % 8 == 0) || (r.mask / 4096 % 8 == 7))

-- whether words of this opcode and funct3 can be in the row
abbrev pub can_be : ℕ → ℕ → Row → Bool
can_be op f r = (r.match % 128 == op) && ((r.mask / 4096 % 8 == 0) || (r.match / 4096 % 8 == f))

opcode-is_in : (w : ℕ) (r : Row) → r.mask % 128 ≡ 127 → bit_and w r.mask ≡ r.match → r.match % 128 ≡ w % 128
opcode-is_in w r m e =
    let a : bit_and w r.mask % 128 ≡ bit_and (w % 128) (r.mask % 128) = and_mod w r.mask 7 in
    let b : bit_and (w % 128) 127 ≡ w % 128 % 128 = and_mask (w % 128) 7 in
    let c : bit_and (w % 128) (r.mask % 128) ≡ bit_and (w % 128) 127 = ap (bit_and (w % 128)) m in
    let d : r.match % 128 ≡ bit_and w r.mask % 128 = ap (λ n. n % 128) (sym e) in
    omega arith

funct3-is_in : (w : ℕ) (r : Row) → r.mask / 4096 % 8 ≡ 7 → bit_and w r.mask ≡ r.match → r.match / 4096 % 8 ≡ w / 4096 % 8
funct3-is_in w r m e =
    let a : bit_and w r.mask / 4096 ≡ bit_and (w / 4096) (r.mask / 4096) = and_shr w r.mask 12 in
    let a' : bit_and (w / 4096) (r.mask / 4096) % 8 ≡ bit_and (w / 4096 % 8) (r.mask / 4096 % 8) = and_mod (w / 4096) (r.mask / 4096) 3 in
    let b : bit_and (w / 4096 % 8) 7 ≡ w / 4096 % 8 % 8 = and_mask (w / 4096 % 8) 3 in
    let c : bit_and (w / 4096 % 8) (r.mask / 4096 % 8) ≡ bit_and (w / 4096 % 8) 7 = ap (bit_and (w / 4096 % 8)) m in
    let d : r.match / 4096 % 8 ≡ bit_and (w / 4096) (r.mask / 4096) % 8 = ap (λ n. n / 4096 % 8) (sym e) ∙ ap (λ n. n % 8) a in
    omega arith

or_left : (a b : Bool) → a ≡ true → (a || b) ≡ true
or_left true b e = refl
or_left false b e = absurd (false≢true e)

or_right : (a b : Bool) → b ≡ true → (a || b) ≡ true
or_right true b e = refl
or_right false b e = e

is_in-can_be : (w op f : ℕ) → w % 128 ≡ op → w / 4096 % 8 ≡ f → (r : Row) → is_regular r ≡ true → is_in w r ≡ true → can_be op f r ≡ true
is_in-can_be w op f o g r k h =
    let e : bit_and w r.mask ≡ r.match = eqb-true (bit_and w r.mask) r.match h in
    let ps = and_parts (r.mask % 128 == 127) ((r.mask / 4096 % 8 == 0) || (r.mask / 4096 % 8 == 7)) k in
    let left : (r.match % 128 == op) ≡ true = eq-eqb (r.match % 128) op (opcode-is_in w r (eqb-true (r.mask % 128) 127 ps.0) e ∙ o) in
    and_from (r.match % 128 == op) ((r.mask / 4096 % 8 == 0) || (r.match / 4096 % 8 == f)) left (go (r.mask / 4096 % 8 == 0) refl ps.1)
  where
    go : (z : Bool) → (r.mask / 4096 % 8 == 0) ≡ z → (z || (r.mask / 4096 % 8 == 7)) ≡ true → ((r.mask / 4096 % 8 == 0) || (r.match / 4096 % 8 == f)) ≡ true
    go true y q = or_left (r.mask / 4096 % 8 == 0) (r.match / 4096 % 8 == f) y
    go false y q =
        or_right (r.mask / 4096 % 8 == 0) (r.match / 4096 % 8 == f)
        (eq-eqb (r.match / 4096 % 8) f (funct3-is_in w r (eqb-true (r.mask / 4096 % 8) 7 q) (eqb-true (bit_and w r.mask) r.match h) ∙ g))

-- a search finds the same among the elements that can be found
find-filter : (p q k : Row → Bool) → ((r : Row) → k r ≡ true → p r ≡ true → q r ≡ true) → (rs : List Row) → list_all k rs ≡ true → find p rs ≡ find p (filter q rs)
find-filter p q k h [] a = refl
find-filter p q k h (r ∷ rs) a =
    let parts = and_parts (k r) (list_all k rs) a in go (p r) (q r) refl refl (h r parts.0) (find-filter p q k h rs parts.1)
  where
    go : (b c : Bool) → p r ≡ b → q r ≡ c → (p r ≡ true → q r ≡ true) → find p rs ≡ find p (filter q rs) → find p (r ∷ rs) ≡ find p (filter q (r ∷ rs))
    go true true y z i e = rw (y, z, y) refl
    go true false y z i e = absurd (false≢true (sym z ∙ i y))
    go false true y z i e = rw (y, z, y) e
    go false false y z i e = rw (y, z) e

pub row_among : (w op f : ℕ) → w % 128 ≡ op → w / 4096 % 8 ≡ f → row_of w ≡ find (is_in w) (filter (can_be op f) rows)
row_among w op f o g = find-filter (is_in w) (can_be op f) is_regular (is_in-can_be w op f o g) rows refl

named_twice : (w : ℕ) (o : Option Row) → option_map (λ n. instr_of n w) (option_map (λ (r : Row). r.name) o) ≡ option_map (λ (r : Row). instr_of r.name w) o
named_twice w None = refl
named_twice w (Some r) = refl

pub decoded_among : (w op f : ℕ) → w % 128 ≡ op → w / 4096 % 8 ≡ f
    → decoded w ≡ option_map (λ (r : Row). instr_of r.name w) (find (is_in w) (filter (can_be op f) rows))
decoded_among w op f o g = named_twice w (row_of w) ∙ ap (option_map (λ (r : Row). instr_of r.name w)) (row_among w op f o g)

-- the same by the opcode alone
is_in-has_opcode : (w op : ℕ) → w % 128 ≡ op → (r : Row) → is_regular r ≡ true → is_in w r ≡ true → (r.match % 128 == op) ≡ true
is_in-has_opcode w op o r k h =
    let ps = and_parts (r.mask % 128 == 127) ((r.mask / 4096 % 8 == 0) || (r.mask / 4096 % 8 == 7)) k in
    eq-eqb (r.match % 128) op (opcode-is_in w r (eqb-true (r.mask % 128) 127 ps.0) (eqb-true (bit_and w r.mask) r.match h) ∙ o)

pub decoded_opcode : (w op : ℕ) → w % 128 ≡ op
    → decoded w ≡ option_map (λ (r : Row). instr_of r.name w) (find (is_in w) (filter (λ (r : Row). r.match % 128 == op) rows))
decoded_opcode w op o =
    named_twice w (row_of w)
    ∙ ap (option_map (λ (r : Row). instr_of r.name w)) (find-filter (is_in w) (λ (r : Row). r.match % 128 == op) is_regular (is_in-has_opcode w op o) rows refl)
