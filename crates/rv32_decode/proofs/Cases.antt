-- Cases on funct3, and the rows' tests in terms of fields.
use Rattle.std.proofs.Common.{◌≡◌, ℕ, zero, suc, ◌+◌, ◌*◌, ◌/◌, ◌%◌, ◌<◌, Bool, true, false, ◌&&◌, cond, Option, Some, None, refl, sym, ap, ◌∙◌, arith, bit_and}
use Rattle.std.specs.Prelude.{◌==◌, nat_eq}
use Rattle.std.specs.Option.{option_map}
use Rattle.std.proofs.lemmas.Bool.{false≢true, eqb-true, eq-eqb, ne_eqb, and_parts, and_from}
use Rattle.rv32_decode.specs.Rows.{Row, instr_of}
use Rattle.rv32_decode.proofs.Masks.{mask_funct3, mask_funct5, mask_funct7, mask_reserved}

-- a fact for each number below 8
pub by_eight : (P : ℕ → Type 0) → P 0 → P 1 → P 2 → P 3 → P 4 → P 5 → P 6 → P 7 → (n : ℕ) → n < 8 → P n
by_eight P a b c d e f g h zero l = a
by_eight P a b c d e f g h (suc zero) l = b
by_eight P a b c d e f g h (suc (suc zero)) l = c
by_eight P a b c d e f g h (suc (suc (suc zero))) l = d
by_eight P a b c d e f g h (suc (suc (suc (suc zero)))) l = e
by_eight P a b c d e f g h (suc (suc (suc (suc (suc zero))))) l = f
by_eight P a b c d e f g h (suc (suc (suc (suc (suc (suc zero)))))) l = g
by_eight P a b c d e f g h (suc (suc (suc (suc (suc (suc (suc zero))))))) l = h
by_eight P a b c d e f g h (suc (suc (suc (suc (suc (suc (suc (suc n)))))))) l = absurd (omega arith)

-- the bits under the mask of opcode and funct3
pub under : (w op f : ℕ) → w % 128 ≡ op → w / 4096 % 8 ≡ f → bit_and w 0x707f ≡ op + f * 4096
under w op f o g = mask_funct3 w ∙ omega arith

-- two tests of the same fact
pub same_test : (a b c d : ℕ) → (a ≡ b → c ≡ d) → (c ≡ d → a ≡ b) → nat_eq a b ≡ nat_eq c d
same_test a b c d to from = go (nat_eq a b) refl
  where
    go : (t : Bool) → nat_eq a b ≡ t → nat_eq a b ≡ nat_eq c d
    go true e = e ∙ sym (eq-eqb c d (to (eqb-true a b e)))
    go false e = e ∙ sym (ne_eqb c d (λ h. false≢true (sym e ∙ eq-eqb a b (from h))))

-- the tests of rows with funct7, with funct5, and of LR
pub test_7 : (w op f k : ℕ) → k < 128 → w % 128 ≡ op → w / 4096 % 8 ≡ f → nat_eq (bit_and w 0xfe00707f) (op + f * 4096 + k * 33554432) ≡ nat_eq (w / 33554432 % 128) k
test_7 w op f k l o g =
    let m = mask_funct7 w in
    same_test (bit_and w 0xfe00707f) (op + f * 4096 + k * 33554432) (w / 33554432 % 128) k (λ h. omega arith) (λ h. omega arith)

pub test_5 : (w op f k : ℕ) → k < 32 → w % 128 ≡ op → w / 4096 % 8 ≡ f → nat_eq (bit_and w 0xf800707f) (op + f * 4096 + k * 134217728) ≡ nat_eq (w / 134217728 % 32) k
test_5 w op f k l o g =
    let m = mask_funct5 w in
    same_test (bit_and w 0xf800707f) (op + f * 4096 + k * 134217728) (w / 134217728 % 32) k (λ h. omega arith) (λ h. omega arith)

pub test_reserved : (w : ℕ) → w % 128 ≡ 0x2f → w / 4096 % 8 ≡ 2 → nat_eq (bit_and w 0xf9f0707f) 0x1000202f ≡ ((w / 134217728 % 32 == 2) && (w / 1048576 % 32 == 0))
test_reserved w o g = go (nat_eq (bit_and w 0xf9f0707f) 0x1000202f) refl
  where
    go : (t : Bool) → nat_eq (bit_and w 0xf9f0707f) 0x1000202f ≡ t → nat_eq (bit_and w 0xf9f0707f) 0x1000202f ≡ ((w / 134217728 % 32 == 2) && (w / 1048576 % 32 == 0))
    go true e =
        let m = mask_reserved w in
        let h = eqb-true (bit_and w 0xf9f0707f) 0x1000202f e in
        e ∙ sym (and_from (w / 134217728 % 32 == 2) (w / 1048576 % 32 == 0) (eq-eqb (w / 134217728 % 32) 2 (omega arith)) (eq-eqb (w / 1048576 % 32) 0 (omega arith)))
    go false e = e ∙ sym (other ((w / 134217728 % 32 == 2) && (w / 1048576 % 32 == 0)) refl)
      where
        other : (t : Bool) → ((w / 134217728 % 32 == 2) && (w / 1048576 % 32 == 0)) ≡ t → ((w / 134217728 % 32 == 2) && (w / 1048576 % 32 == 0)) ≡ false
        other false h = h
        other true h =
            let ps = and_parts (w / 134217728 % 32 == 2) (w / 1048576 % 32 == 0) h in
            let a = eqb-true (w / 134217728 % 32) 2 ps.0 in
            let b = eqb-true (w / 1048576 % 32) 0 ps.1 in
            let m = mask_reserved w in
            absurd (false≢true (sym e ∙ eq-eqb (bit_and w 0xf9f0707f) 0x1000202f (omega arith)))

-- the first of a search, by the test of its row
pub choose : {R N I : Type 0} (f : R → I) (g : N → I) (r : R) (n : N) (t u : Bool) (rest : Option R) (more : Option N) → t ≡ u → f r ≡ g n → option_map f rest ≡ option_map g more
    → option_map f (cond t (Some r) rest) ≡ option_map g (cond u (Some n) more)
choose f g r n true true rest more e same next = ap Some same
choose f g r n true false rest more e same next = absurd (false≢true (sym e))
choose f g r n false true rest more e same next = absurd (false≢true e)
choose f g r n false false rest more e same next = next

pub first : {R I : Type 0} (f : R → I) (r : R) (t u : Bool) (rest : Option R) (more : Option I) → t ≡ u → option_map f rest ≡ more
    → option_map f (cond t (Some r) rest) ≡ cond u (Some (f r)) more
first f r true true rest more e next = refl
first f r true false rest more e next = absurd (false≢true (sym e))
first f r false true rest more e next = absurd (false≢true e)
first f r false false rest more e next = next

-- a search of one row, at a word that is in it
pub found : (w : ℕ) (r : Row) → bit_and w r.mask ≡ r.match
    → option_map (λ (r : Row). instr_of r.name w) (cond (nat_eq (bit_and w r.mask) r.match) (Some r) None) ≡ Some (instr_of r.name w)
found w r m = ap (λ t. option_map (λ (r : Row). instr_of r.name w) (cond t (Some r) None)) (eq-eqb (bit_and w r.mask) r.match m)
