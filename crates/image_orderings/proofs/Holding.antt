-- What is known of a hart's registers holds behind each instruction, whatever it reads.
use Rattle.std.proofs.Common.{◌≡◌, ◌≢◌, ◌∙◌, ◌==◌, ◌<◌, ℕ, Bool, IfSome, List, None, Option, Some, ap, arith, eqb-true, false, if◌then◌else◌, length, lit<, refl, subst, sym, true}
use Rattle.std.specs.Prelude.{slice_index, slice_set}
use Rattle.std.proofs.lemmas.Bool.{and_parts, eqb-false, false≢true}
use Rattle.std.proofs.lemmas.List.{get_or-set_other, get_or-set_same, length-set}
use Rattle.hart.specs.Arithmetic.{computed_immediate, sum32}
use Rattle.hart.specs.Meaning.{written_of}
use Rattle.hart.specs.Registers.{after_write, reset_registers, with_register}
use Rattle.image_orderings.specs.Flow.{added, after, held, is_among, is_within, nothing, sum_of, with_held}
use Rattle.image_orderings.specs.declared.knowing.Known.{Known}
use Rattle.rv32_decode.specs.declared.instruction.ImmediateOp.{ImmediateOp}
use Rattle.rv32_decode.specs.declared.instruction.ImmediateOp.TheVariants.{Addi, Slti, Sltiu, Xori, Ori, Andi}
use Rattle.rv32_decode.specs.declared.instruction.Instr.{Instr}
use Rattle.rv32_decode.specs.declared.instruction.Instr.TheVariants.{Upper, Jal, Jalr, Branch, Load, Store, Immediate, Shift, Register, Fence, FenceTso, System, Lr, Sc, Amo}
use Rattle.rv32_decode.specs.declared.instruction.UpperOp.TheVariants.{Lui, Auipc}

-- a value that is known is this
abbrev pub Is : Option ℕ → ℕ → Type 0
Is value n = IfSome value (λ v. n ≡ v)

-- what is known of the registers holds
pub record Knows (known : Known) (regs : List ℕ) : Type 0 where
  pub count : length regs ≡ 32
  pub x0 : slice_index regs 0 ≡ 0
  pub link : Is known.link (slice_index regs 1)
  pub number : Is known.number (slice_index regs 17)

pub at_reset_known : (id harts : ℕ) → Knows nothing (reset_registers id harts)
at_reset_known id harts = record { count = refl; x0 = refl; link = tt; number = tt }

-- what is held is
pub is_held : (known : Known) (regs : List ℕ) (r : ℕ) → Knows known regs → Is (held known r) (slice_index regs r)
is_held known regs r k = zeroth (r == 0) refl
  where
    last : (b : Bool) → (r == 17) ≡ b → Is (if b then known.number else None) (slice_index regs r)
    last true e = subst (λ n. Is known.number (slice_index regs n)) (sym (eqb-true r 17 e)) k.number
    last false e = tt

    first : (b : Bool) → (r == 1) ≡ b → Is (if b then known.link else (if r == 17 then known.number else None)) (slice_index regs r)
    first true e = subst (λ n. Is known.link (slice_index regs n)) (sym (eqb-true r 1 e)) k.link
    first false e = last (r == 17) refl

    zeroth : (b : Bool) → (r == 0) ≡ b → Is (if b then Some 0 else (if r == 1 then known.link else (if r == 17 then known.number else None))) (slice_index regs r)
    zeroth true e = subst (λ n. slice_index regs n ≡ 0) (sym (eqb-true r 0 e)) k.x0
    zeroth false e = first (r == 1) refl

-- ---- a write

module _ (known : Known) (regs : List ℕ) (k : Knows known regs) (rd n : ℕ) (value : Option ℕ) (is : Is value n) where
  written : (rd ≢ 0) → Knows (with_held known rd value) (slice_set regs rd n)
  written some = go (rd == 1) refl
    where
      other : (r : ℕ) → r ≢ rd → slice_index (slice_set regs rd n) r ≡ slice_index regs r
      other r apart = get_or-set_other regs rd r n 0 apart

      size : length (slice_set regs rd n) ≡ 32
      size = length-set regs rd n ∙ k.count

      zero_stays : slice_index (slice_set regs rd n) 0 ≡ 0
      zero_stays = other 0 (λ e. some (sym e)) ∙ k.x0

      moved : (old : Option ℕ) (r : ℕ) → r ≢ rd → Is old (slice_index regs r) → Is old (slice_index (slice_set regs rd n) r)
      moved old r apart was = subst (Is old) (sym (other r apart)) was

      there : (r : ℕ) → rd ≡ r → r < 32 → Is value (slice_index (slice_set regs rd n) r)
      there r e low = subst (Is value) (sym (subst (λ r. slice_index (slice_set regs rd n) r ≡ n) e (get_or-set_same regs rd n 0 (subst (λ m. rd < m) (sym k.count) (subst (λ r. r < 32) (sym e) low))))) is

      second : (b : Bool) → (rd == 17) ≡ b → (rd == 1) ≡ false → Knows (if b then record known { number = value } else known) (slice_set regs rd n)
      second true e f = record {
        count = size;
        x0 = zero_stays;
        link = moved known.link 1 (λ g. eqb-false rd 1 f (sym g)) k.link;
        number = there 17 (eqb-true rd 17 e) (lit< tt);
      }
      second false e f = record {
        count = size;
        x0 = zero_stays;
        link = moved known.link 1 (λ g. eqb-false rd 1 f (sym g)) k.link;
        number = moved known.number 17 (λ g. eqb-false rd 17 e (sym g)) k.number;
      }

      go : (b : Bool) → (rd == 1) ≡ b → Knows (if b then record known { link = value } else (if rd == 17 then record known { number = value } else known)) (slice_set regs rd n)
      go true e = record {
        count = size;
        x0 = zero_stays;
        link = there 1 (eqb-true rd 1 e) (lit< tt);
        number = moved known.number 17 (λ f. let g : 17 ≡ 1 = f ∙ eqb-true rd 1 e in absurd (omega (arith, g))) k.number;
      }
      go false e = second (rd == 17) refl e

  pub knows_write : Knows (with_held known rd value) (with_register regs rd n)
  knows_write = go (rd == 0) refl
    where
      go : (b : Bool) → (rd == 0) ≡ b → Knows (with_held known rd value) (if b then regs else slice_set regs rd n)
      go true e = subst (λ r. Knows (with_held known r value) regs) (sym (eqb-true rd 0 e)) k
      go false e = written (eqb-false rd 0 e)

-- ---- an instruction

sum_is : (value : Option ℕ) (n imm : ℕ) → Is value n → Is (sum_of value imm) (sum32 n imm)
sum_is None n imm is = tt
sum_is (Some v) n imm is = ap (λ m. sum32 m imm) is

added_is : (op : ImmediateOp) (value : Option ℕ) (n imm : ℕ) → Is value n → Is (added op value imm) (computed_immediate op n imm)
added_is Addi value n imm is = sum_is value n imm is
added_is Slti value n imm is = tt
added_is Sltiu value n imm is = tt
added_is Xori value n imm is = tt
added_is Ori value n imm is = tt
added_is Andi value n imm is = tt

pub knows_after : (known : Known) (regs : List ℕ) (i : Instr) (pc read : ℕ) → Knows known regs → Knows (after known pc i) (after_write regs (written_of i pc regs read))
knows_after known regs (Upper Lui rd imm) pc read k = knows_write known regs k rd imm (Some imm) refl
knows_after known regs (Upper Auipc rd imm) pc read k = knows_write known regs k rd (sum32 pc imm) (Some (sum32 pc imm)) refl
knows_after known regs (Jal rd offset) pc read k = knows_write known regs k rd (sum32 pc 4) (Some (sum32 pc 4)) refl
knows_after known regs (Jalr rd rs1 offset) pc read k = knows_write known regs k rd (sum32 pc 4) (Some (sum32 pc 4)) refl
knows_after known regs (Branch op rs1 rs2 offset) pc read k = k
knows_after known regs (Load op rd rs1 offset) pc read k = knows_write known regs k rd _ None tt
knows_after known regs (Store op rs1 rs2 offset) pc read k = k
knows_after known regs (Immediate op rd rs1 imm) pc read k =
    knows_write known regs k rd _ (added op (held known rs1) imm) (added_is op (held known rs1) (slice_index regs rs1) imm (is_held known regs rs1 k))
knows_after known regs (Shift op rd rs1 amount) pc read k = knows_write known regs k rd _ None tt
knows_after known regs (Register op rd rs1 rs2) pc read k = knows_write known regs k rd _ None tt
knows_after known regs (Fence sets) pc read k = k
knows_after known regs FenceTso pc read k = k
knows_after known regs (System op) pc read k = k
knows_after known regs (Lr rd rs1 bits) pc read k = knows_write known regs k rd _ None tt
knows_after known regs (Sc rd rs1 rs2 bits) pc read k = knows_write known regs k rd _ None tt
knows_after known regs (Amo op rd rs1 rs2 bits) pc read k = knows_write known regs k rd _ None tt

-- ---- less is known

among_is : (a b : Option ℕ) (n : ℕ) → is_among a b ≡ true → Is b n → Is a n
among_is None b n e is = tt
among_is (Some v) None n e is = absurd (false≢true e)
among_is (Some v) (Some w) n e is = is ∙ sym (eqb-true v w e)

pub knows_less : (have known : Known) (regs : List ℕ) → is_within have known ≡ true → Knows known regs → Knows have regs
knows_less have known regs e k =
    let both = and_parts (is_among have.link known.link) (is_among have.number known.number) e in
    record {
      count = k.count;
      x0 = k.x0;
      link = among_is have.link known.link (slice_index regs 1) both.0 k.link;
      number = among_is have.number known.number (slice_index regs 17) both.1 k.number;
    }
