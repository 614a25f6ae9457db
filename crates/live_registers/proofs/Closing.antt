-- The table is closed: each word's number has what its instruction needs.
use Rattle.std.proofs.Common.{◌≡◌, ℕ, zero, suc, ◌+◌, ◌-◌, ◌*◌, ◌/◌, ◌%◌, ◌<◌, List, Bool, true, false, Some, None, refl, sym, subst, ap, ◌∙◌, arith, cond, length}
use Rattle.std.specs.Prelude.{◌==◌, nat_lt, replicate, bit_and, bit_or, slice_index, slice_set, if◌then◌else◌}
use Rattle.std.specs.Int.{bit_not, w32}
use Rattle.std.proofs.lemmas.Bool.{and_parts, eqb-true, ltb-true, ltb-false}
use Rattle.std.proofs.lemmas.List.{get_or-replicate, length-replicate, length-set}
use Rattle.rv32_exec.specs.Image.{Initial, HasWord, word_at}
use Rattle.rv32_exec.specs.Size.{base}
use Rattle.rv32_decode.specs.Rows.{decoded}
use Rattle.rv32_decode.specs.declared.instruction.Instr.{Instr}
use Rattle.rv32_decode.specs.declared.instruction.Instr.TheVariants.{Upper, Jal, Jalr, Branch, Load, Store, Immediate, Shift, Register, Fence, FenceTso, System, Lr, Sc, Amo}
use Rattle.rv32_exec.specs.Arithmetic.{is_taken, sum32}
use Rattle.rv32_exec.specs.Meaning.{next_of}
use Rattle.live_registers.specs.Live.{before, before_word, behind, closed_within, everything, is_closed, is_live, live_in, live_table, needed, reads, swept, writes}
use Rattle.live_registers.specs.Laws.{LiveIsClosed, Within}
use Rattle.live_registers.proofs.Digits.{first_within, in_everything, in_first, in_second, not_set}
use Rattle.live_registers.proofs.Written.{writes_fit}

-- the number at a place has what is needed there
abbrev HasAt : Initial → List ℕ → ℕ → Type 0
HasAt image table place = Within (needed image table place) (slice_index table place)

swept_length : (image : Initial) (n : ℕ) (table : List ℕ) → length (swept image n table) ≡ length table
unfolding swept
swept_length image zero table = refl
swept_length image (suc n) table = swept_length image n (slice_set table n (needed image table n)) ∙ length-set table n (needed image table n)

closed_length : (n : ℕ) (image : Initial) (table : List ℕ) → length (closed_within n image table) ≡ length table
unfolding closed_within
closed_length zero image table = length-replicate (length table) everything
closed_length (suc n) image table = go (is_closed image table (length table)) (closed_length n image (swept image (length table) table) ∙ swept_length image (length table) table)
  where
    go : (t : Bool) → length (closed_within n image (swept image (length table) table)) ≡ length table → length (cond t table (closed_within n image (swept image (length table) table))) ≡ length table
    go true rest = refl
    go false rest = rest

closed_at : (image : Initial) (table : List ℕ) (n place : ℕ) → is_closed image table n ≡ true → place < n → slice_index table place ≡ needed image table place
unfolding is_closed
closed_at image table zero place e l = absurd (omega (arith, l))
closed_at image table (suc n) place e l = go (nat_lt place n) refl (and_parts (slice_index table n == needed image table n) (is_closed image table n) e) (closed_at image table n place)
  where
    go : (t : Bool) → nat_lt place n ≡ t → ((slice_index table n == needed image table n) ≡ true) × (is_closed image table n ≡ true) → (is_closed image table n ≡ true → place < n → slice_index table place ≡ needed image table place) → slice_index table place ≡ needed image table place
    go true b both rest = rest both.1 (ltb-true place n b)
    go false b both rest =
        let there : n ≡ place = let m = ltb-false place n b in omega (arith, l, m) in
        subst (λ k. slice_index table k ≡ needed image table k) there (eqb-true (slice_index table n) (needed image table n) both.0)

has_each : (n : ℕ) (image : Initial) (table : List ℕ) (place : ℕ) → place < length table → HasAt image (closed_within n image table) place
unfolding closed_within
has_each zero image table place l = λ r b e. subst (λ m. is_live m r ≡ true) (sym (get_or-replicate (length table) place everything 0 l)) (in_everything r b)
has_each (suc n) image table place l = go (is_closed image table (length table)) refl (has_each n image (swept image (length table) table) place (let m = swept_length image (length table) table in omega (arith, l, m)))
  where
    go : (t : Bool) → is_closed image table (length table) ≡ t → HasAt image (closed_within n image (swept image (length table) table)) place → HasAt image (cond t table (closed_within n image (swept image (length table) table))) place
    go false c rest = rest
    go true c rest = λ r b e. subst (λ m. is_live m r ≡ true) (sym (closed_at image table (length table) place c l)) e

-- ---- an instruction leads to what is live behind it

goes_on : (table : List ℕ) (pc : ℕ) (i : Instr) (x : List ℕ) (r : ℕ) → r < 32 → is_live (live_in table (next_of i pc x)) r ≡ true → is_live (behind table pc i) r ≡ true
goes_on table pc (Upper op rd imm) x r l e = e
goes_on table pc (Jal rd offset) x r l e = e
goes_on table pc (Jalr rd rs1 offset) x r l e = in_everything r l
goes_on table pc (Branch op rs1 rs2 offset) x r l e = go (is_taken op (slice_index x rs1) (slice_index x rs2)) e
  where
    go : (t : Bool) → is_live (live_in table (elim (if t then Some (sum32 pc offset) else None) [ Some target ↦ target | None ↦ sum32 pc 4 ])) r ≡ true → is_live (bit_or (live_in table (sum32 pc 4)) (live_in table (sum32 pc offset))) r ≡ true
    go true e = in_second (live_in table (sum32 pc 4)) (live_in table (sum32 pc offset)) r e
    go false e = in_first (live_in table (sum32 pc 4)) (live_in table (sum32 pc offset)) r e
goes_on table pc (Load op rd rs1 offset) x r l e = e
goes_on table pc (Store op rs1 rs2 offset) x r l e = e
goes_on table pc (Immediate op rd rs1 imm) x r l e = e
goes_on table pc (Shift op rd rs1 amount) x r l e = e
goes_on table pc (Register op rd rs1 rs2) x r l e = e
goes_on table pc (Fence sets) x r l e = e
goes_on table pc FenceTso x r l e = e
goes_on table pc (System op) x r l e = e
goes_on table pc (Lr rd rs1 bits) x r l e = e
goes_on table pc (Sc rd rs1 rs2 bits) x r l e = e
goes_on table pc (Amo op rd rs1 rs2 bits) x r l e = e

-- ---- a pc

module _ (image : Initial) (pc : ℕ) (i : Instr) (inside : HasWord image pc) (word : decoded (word_at image pc) ≡ Some i) where
  abbrev table : List ℕ
  table = live_table image

  -- what it needs
  abbrev mine : ℕ
  mine = before table pc i

  abbrev rest : ℕ
  rest = bit_and (behind table pc i) (bit_not w32 (writes i))

  from_mine : (m : ℕ) → Within mine m → (x : List ℕ) (r : ℕ) → r < 32 → is_live (live_in table (next_of i pc x)) r ≡ true → is_live (writes i) r ≡ false → is_live m r ≡ true
  from_mine m w x r l e f = w r l (in_second (reads i) rest r (not_set (behind table pc i) (writes i) r (writes_fit i) l (goes_on table pc i x r l e) f))

  size : length table ≡ length image.bytes / 4
  size = closed_length 64 image (replicate (length image.bytes / 4) 0) ∙ length-replicate {A = ℕ} (length image.bytes / 4) 0

  aligned : pc % 4 ≡ 0 → Within mine (slice_index table ((pc - base) / 4))
  aligned a =
      let place : ℕ = (pc - base) / 4 in
      let here : base + 4 * place ≡ pc = omega (arith, a, inside.0) in
      let below : place < length (replicate (length image.bytes / 4) 0) = let n = length-replicate {A = ℕ} (length image.bytes / 4) 0 in omega (arith, n, inside.0, inside.1) in
      let needs : needed image table place ≡ mine = ap (λ p. before_word table p (decoded (word_at image p))) here ∙ ap (before_word table pc) word in
      subst (λ n. Within n (slice_index table place)) needs (has_each 64 image (replicate (length image.bytes / 4) 0) place below)

  within : (t : Bool) → (pc % 4 == 0) ≡ t → Within mine (if t then slice_index table ((pc - base) / 4) else everything)
  within true e = aligned (eqb-true (pc % 4) 0 e)
  within false e = λ r l s. in_everything r l

  closed_here : Within mine (live_in table pc)
  closed_here = within (pc % 4 == 0) refl

pub live_is_closed : LiveIsClosed
live_is_closed image pc i inside word =
    let w = closed_here image pc i inside word in
    record {
      read = first_within (reads i) (rest image pc i inside word) (live_in (live_table image) pc) w;
      behind = from_mine image pc i inside word (live_in (live_table image) pc) w;
    }
