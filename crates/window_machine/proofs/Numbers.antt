-- Numbers in some lanes of a word.
use Rattle.std.proofs.Common.{◌≡◌, ℕ, zero, suc, ◌+◌, ◌-◌, ◌*◌, ◌/◌, ◌%◌, ◌^◌, ◌<◌, ◌≤◌, Bool, true, false, List, [], ◌∷◌, refl, sym, ap, ◌∙◌, subst, not, ◌&&◌, ◌||◌, arith}
use Rattle.std.specs.Prelude.{◌==◌, bit_and, nat_eq, nat_le, nat_lt, IsTrue}
use Rattle.std.specs.List.{list_all, list_any}
use Rattle.std.proofs.lemmas.Bool.{and_from, and_parts, eq-eqb, eqb-true, false≢true, le-leb, leb-true, ltb-true}
use Rattle.std.proofs.lemmas.Nat.{and_assoc, and_mask, shl-shr, shl_whole}
use Rattle.std.proofs.lemmas.Nat.Bits.{and_high, and_high_mask}
use Rattle.std.proofs.Math.Pow.{high_ones, ones_lt}
use Rattle.std.specs.Int.Bits.{and_self}
use Rattle.memory_model.specs.declared.operation.Kind.{Kind}
use Rattle.memory_model.specs.declared.operation.Kind.TheVariants.{Load, Store, Lr, Sc, Amo}
use Rattle.elf_loader.specs.Size.{base}
use Rattle.rv32_exec.specs.Width.{byte_count}
use Rattle.rv32_exec.specs.declared.actions.Width.{Width}
use Rattle.rv32_exec.specs.declared.actions.Width.TheVariants.{Byte, Half, Word}
use Rattle.window_machine.specs.Lanes.{IsPlace, are_lanes, are_lanes_of, are_placed, first_lane, lane_count, lanes_from, number_in}
use Rattle.window_model.proofs.Waits.{either}

-- ---- the seven

abbrev pub seven : List ℕ
seven = lanes_from 0 1 ∷ lanes_from 1 1 ∷ lanes_from 2 1 ∷ lanes_from 3 1 ∷ lanes_from 0 2 ∷ lanes_from 2 2 ∷ lanes_from 0 4 ∷ []

pub from_all : (p : ℕ → Bool) (xs : List ℕ) (l : ℕ) → list_any (nat_eq l) xs ≡ true → list_all p xs ≡ true → p l ≡ true
from_all p [] l e f = absurd (false≢true e)
from_all p (x ∷ xs) l e f =
    let parts = and_parts (p x) (list_all p xs) f in
    either (p l ≡ true) (nat_eq l x) (list_any (nat_eq l) xs) e (λ here. ap p (eqb-true l x here) ∙ parts.0) (λ there. from_all p xs l there parts.1)

-- the bytes of an access
pub record Stands (lanes : ℕ) : Type 0 where
  pub are : lanes ≡ lanes_from (first_lane lanes) (lane_count lanes)
  pub fits : first_lane lanes + lane_count lanes ≤ 4
  pub some : 0 < lane_count lanes

pub stands : (l : ℕ) → are_lanes l ≡ true → Stands l
unfolding lib.Count.count_trailing_zeros
stands l e =
    let all = from_all (λ n. (n == lanes_from (first_lane n) (lane_count n)) && (nat_le (first_lane n + lane_count n) 4 && nat_lt 0 (lane_count n))) seven l e refl in
    let parts = and_parts (l == lanes_from (first_lane l) (lane_count l)) _ all in
    let more = and_parts (nat_le (first_lane l + lane_count l) 4) _ parts.1 in
    record { are = eqb-true _ _ parts.0; fits = leb-true _ _ more.0; some = ltb-true _ _ more.1 }

whole_word : (l : ℕ) → (l == lanes_from 0 4) ≡ true → are_lanes l ≡ true
whole_word l e = ap are_lanes (eqb-true l (lanes_from 0 4) e)

pub of_kind : (k : Kind) (l : ℕ) → are_lanes_of k l ≡ true → are_lanes l ≡ true
of_kind Load l e = e
of_kind Store l e = e
of_kind Lr l e = whole_word l e
of_kind Sc l e = whole_word l e
of_kind Amo l e = whole_word l e

-- ---- the number in them

pub and_lanes : (n first count : ℕ) → bit_and n (lanes_from first count) ≡ (n / 2 ^ (8 * first) % 2 ^ (8 * count)) * 2 ^ (8 * first)
and_lanes n first count = ap (bit_and n) (sym (high_ones (8 * count) (8 * first))) ∙ and_high n (8 * count) (8 * first)

pub number_is : (l n : ℕ) → are_lanes l ≡ true → number_in l n ≡ n / 2 ^ (8 * first_lane l) % 2 ^ (8 * lane_count l)
number_is l n e =
    ap (λ m. bit_and n m / 2 ^ (8 * first_lane l)) (stands l e).are
    ∙ ap (λ m. m / 2 ^ (8 * first_lane l)) (and_lanes n (first_lane l) (lane_count l))
    ∙ shl-shr (n / 2 ^ (8 * first_lane l) % 2 ^ (8 * lane_count l)) (8 * first_lane l)

-- ---- facts of any of them, by computation

abbrev pub AllOf : (ℕ → Type 0) → List ℕ → Type 0
AllOf P [] = Unit {0}
AllOf P (x ∷ xs) = P x × AllOf P xs

pub each_of : (P : ℕ → Type 0) (xs : List ℕ) (l : ℕ) → list_any (nat_eq l) xs ≡ true → AllOf P xs → P l
each_of P [] l e all = absurd (false≢true e)
each_of P (x ∷ xs) l e all = either (P l) (nat_eq l x) (list_any (nat_eq l) xs) e (λ here. subst P (sym (eqb-true l x here)) all.0) (λ there. each_of P xs l there all.1)

-- a number moved up to them comes down as it is, cut to their size
abbrev ComesDown : ℕ → Type 0
ComesDown l = (n : ℕ) → n * 2 ^ (8 * first_lane l) % 2 ^ 32 / 2 ^ (8 * first_lane l) % 2 ^ (8 * lane_count l) ≡ n % 2 ^ (8 * lane_count l)

by_0_1 : (n : ℕ) → n * 1 % 4294967296 / 1 % 256 ≡ n % 256
by_0_1 n = omega arith

by_1_1 : (n : ℕ) → n * 256 % 4294967296 / 256 % 256 ≡ n % 256
by_1_1 n = omega arith

by_2_1 : (n : ℕ) → n * 65536 % 4294967296 / 65536 % 256 ≡ n % 256
by_2_1 n = omega arith

by_3_1 : (n : ℕ) → n * 16777216 % 4294967296 / 16777216 % 256 ≡ n % 256
by_3_1 n = omega arith

by_0_2 : (n : ℕ) → n * 1 % 4294967296 / 1 % 65536 ≡ n % 65536
by_0_2 n = omega arith

by_2_2 : (n : ℕ) → n * 65536 % 4294967296 / 65536 % 65536 ≡ n % 65536
by_2_2 n = omega arith

by_0_4 : (n : ℕ) → n * 1 % 4294967296 / 1 % 4294967296 ≡ n % 4294967296
by_0_4 n = omega arith

comes_down : (l : ℕ) → are_lanes l ≡ true → ComesDown l
unfolding lib.Count.count_trailing_zeros
comes_down l e = each_of ComesDown seven l e (by_0_1, (by_1_1, (by_2_1, (by_3_1, (by_0_2, (by_2_2, (by_0_4, tt)))))))

pub in_place : (l n : ℕ) → are_lanes l ≡ true → number_in l (bit_and (n * 2 ^ (8 * first_lane l) % 2 ^ 32) l) ≡ n % 2 ^ (8 * lane_count l)
in_place l n e =
    let x = n * 2 ^ (8 * first_lane l) % 2 ^ 32 in
    ap (λ m. m / 2 ^ (8 * first_lane l)) (and_assoc l x l ∙ ap (bit_and x) (and_self l)) ∙ (number_is l x e ∙ comes_down l e n)

pub number_whole : (n : ℕ) → n < 2 ^ 32 → number_in (lanes_from 0 4) n ≡ n
unfolding lib.Count.count_trailing_zeros
number_whole n l = number_is (lanes_from 0 4) n refl ∙ (let h : n / 1 % 4294967296 ≡ n = omega (arith, l) in h)

-- where a shift by so many bits is one of a 32-bit number
pub shift_is : (l shift : ℕ) → are_lanes l ≡ true → shift ≡ 8 * first_lane l → shift % 32 ≡ 8 * first_lane l
shift_is l shift e is = let s = stands l e in omega (arith, is, s.fits, s.some)

-- ---- the lanes of an access

pub record Sized (first count : ℕ) : Type 0 where
  pub are : are_lanes (lanes_from first count) ≡ true
  pub first_is : first_lane (lanes_from first count) ≡ first
  pub count_is : lane_count (lanes_from first count) ≡ count
  pub fits : first + count ≤ 4

sized_byte : (f : ℕ) → f < 4 → Sized f 1
unfolding lib.Count.count_trailing_zeros
sized_byte zero l = record { are = refl; first_is = refl; count_is = refl; fits = omega arith }
sized_byte (suc zero) l = record { are = refl; first_is = refl; count_is = refl; fits = omega arith }
sized_byte (suc (suc zero)) l = record { are = refl; first_is = refl; count_is = refl; fits = omega arith }
sized_byte (suc (suc (suc zero))) l = record { are = refl; first_is = refl; count_is = refl; fits = omega arith }
sized_byte (suc (suc (suc (suc f)))) l = absurd (omega (arith, l))

sized_half : (f : ℕ) → f < 4 → f % 2 ≡ 0 → Sized f 2
unfolding lib.Count.count_trailing_zeros
sized_half zero l e = record { are = refl; first_is = refl; count_is = refl; fits = omega arith }
sized_half (suc zero) l e = absurd (omega (arith, e))
sized_half (suc (suc zero)) l e = record { are = refl; first_is = refl; count_is = refl; fits = omega arith }
sized_half (suc (suc (suc zero))) l e = absurd (omega (arith, e))
sized_half (suc (suc (suc (suc f)))) l e = absurd (omega (arith, l))

sized_word : (f : ℕ) → f ≡ 0 → Sized f 4
unfolding lib.Count.count_trailing_zeros
sized_word zero e = record { are = refl; first_is = refl; count_is = refl; fits = omega arith }
sized_word (suc f) e = absurd (omega (arith, e))

pub sized : (size : Width) (a : ℕ) → a % byte_count size ≡ 0 → Sized (a % 4) (byte_count size)
sized Byte a e = sized_byte (a % 4) (omega arith)
sized Half a e = sized_half (a % 4) (omega arith) (omega (arith, e))
sized Word a e = sized_word (a % 4) e

pub moved_up : (size : Width) (a bytes : ℕ) → a % byte_count size ≡ 0 → bytes ≡ 2 ^ (8 * byte_count size) - 1 → bytes * 2 ^ (8 * (a % 4)) % 2 ^ 32 ≡ lanes_from (a % 4) (byte_count size)
moved_up size a bytes e is =
    let s = sized size a e in
    ap (λ n. n * 2 ^ (8 * (a % 4)) % 2 ^ 32) is
    ∙ shl_whole (2 ^ (8 * byte_count size) - 1) (8 * byte_count size) (8 * (a % 4)) 32 (ones_lt (8 * byte_count size)) (omega (arith, s.fits))

-- ---- where it lies

pub record Lies (a count : ℕ) : Type 0 where
  pub aligned : a % count ≡ 0
  pub above : base ≤ a
  pub below : a + count ≤ 2 ^ 32

pub lies : (a count : ℕ) → are_placed a count ≡ true → Lies a count
lies a count e =
    let parts = and_parts (a % count == 0 && nat_le base a) (nat_le (a + count) (2 ^ 32)) e in
    let more = and_parts (a % count == 0) (nat_le base a) parts.0 in
    record { aligned = eqb-true _ _ more.0; above = leb-true _ _ more.1; below = leb-true _ _ parts.1 }

pub lies_so : (a count : ℕ) → Lies a count → are_placed a count ≡ true
lies_so a count l = and_from _ _ (and_from _ _ (eq-eqb (a % count) 0 l.aligned) (le-leb base a l.above)) (le-leb (a + count) (2 ^ 32) l.below)

word_of : (a : ℕ) → a < 2 ^ 32 → bit_and a 4294967292 ≡ a / 4 * 4
word_of a l = and_high_mask 32 2 (omega arith) a l

pub is_word_place : (a : ℕ) → a < 2 ^ 32 → base ≤ a → IsPlace (bit_and a 4294967292)
is_word_place a l b = subst IsPlace (sym (word_of a l)) (record { aligned = omega arith; above = omega (arith, b); below = omega (arith, l) })

pub first_is : (a lanes : ℕ) → a < 2 ^ 32 → first_lane lanes ≡ a % 4 → bit_and a 4294967292 + first_lane lanes ≡ a
first_is a lanes l e = let w = word_of a l in omega (arith, w, e)
