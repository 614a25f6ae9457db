-- Words that differ at most in what they order.
use Rattle.std.proofs.Common.{◌≡◌, ◌∙◌, ◌==◌, ◌++◌, ◌∷◌, ◌<◌, [], ℕ, All, Bool, List, None, Option, Some, ap, arith, eqb-true, false, filter, if◌then◌else◌, map, option_map, refl, subst, sym, true}
use Rattle.std.proofs.lemmas.List.Elements.{All-append, All-cons, All-filter, All-nil}
use Rattle.image_orderings.specs.Adding.{fences_between, may_be_less, milder_by, milder_words}
use Rattle.image_orderings.specs.Forms.{IsVariant, bits_without, both_bits, fence_forms, fence_without, full, is_weaker, most_of, nop, strengthened, weaker_words, without, without_of}
use Rattle.image_orderings.specs.declared.orderings.Part.{Part}
use Rattle.image_orderings.specs.declared.orderings.Part.TheVariants as part
use Rattle.rv32_decode.proofs.ReadBackAtomics.{amo_read_back, lr_read_back, sc_read_back}
use Rattle.rv32_decode.specs.Encoding.{encoded}
use Rattle.rv32_decode.specs.Fields.{fences_of}
use Rattle.rv32_decode.specs.Rows.{Name, decoded, instr_of, is_tso, name_of}
use Rattle.rv32_decode.specs.declared.instruction.AmoOp.{AmoOp}
use Rattle.rv32_decode.specs.declared.instruction.Annotations.{Annotations}
use Rattle.rv32_decode.specs.declared.instruction.Instr.{Instr}
use Rattle.rv32_decode.specs.declared.instruction.Instr.TheVariants.{Amo, Fence, FenceTso, Lr, Sc}

-- ---- the registers of an LR, SC or AMO

abbrev HaveNumbers : Instr → Type 0
HaveNumbers (Lr rd rs1 bits) = (rd < 32) × (rs1 < 32)
HaveNumbers (Sc rd rs1 rs2 bits) = (rd < 32) × ((rs1 < 32) × (rs2 < 32))
HaveNumbers (Amo op rd rs1 rs2 bits) = (rd < 32) × ((rs1 < 32) × (rs2 < 32))
HaveNumbers _ = Unit {0}

have_numbers : (w : ℕ) (i : Instr) → decoded w ≡ Some i → HaveNumbers i
have_numbers w i e = go (name_of w) e
  where
    of_row : (n : Name) → HaveNumbers (instr_of n w)
    of_row (Name.Upper op) = tt
    of_row Name.Jal = tt
    of_row Name.Jalr = tt
    of_row (Name.Branch op) = tt
    of_row (Name.Load op) = tt
    of_row (Name.Store op) = tt
    of_row (Name.Immediate op) = tt
    of_row (Name.Shift op) = tt
    of_row (Name.Register op) = tt
    of_row Name.Fence = elim (is_tso w) as (λ b. HaveNumbers (if b then FenceTso else Fence (fences_of w))) [ true ↦ tt | false ↦ tt ]
    of_row (Name.System op) = tt
    of_row Name.Lr = (omega arith, omega arith)
    of_row Name.Sc = (omega arith, (omega arith, omega arith))
    of_row (Name.Amo op) = (omega arith, (omega arith, omega arith))

    go : (o : Option Name) → option_map (λ n. instr_of n w) o ≡ Some i → HaveNumbers i
    go None is =
        let bad : None ≡ Some i = is in cc
    go (Some n) is =
        let same : instr_of n w ≡ i = cc in subst HaveNumbers same (of_row n)

-- ---- all that it may order

-- a word of another instruction is no nop
not_nop : (w : ℕ) (i : Instr) → decoded w ≡ Some i → (i ≡ nop → ⊥) → (w == encoded nop) ≡ false
not_nop w i e other = go (w == encoded nop) refl
  where
    go : (b : Bool) → (w == encoded nop) ≡ b → b ≡ false
    go false is = refl
    go true is =
        let at : decoded w ≡ Some nop = ap decoded (eqb-true w (encoded nop) is) in
        let same : i ≡ nop = cc in absurd (other same)

most_is : (w : ℕ) (o : Option Instr) → (w == encoded nop) ≡ false → decoded w ≡ o → strengthened w ≡ most_of w o
most_is w o none e = ap (λ b. if b then encoded full else most_of w (decoded w)) none ∙ ap (most_of w) e

lr_most : (w rd rs1 : ℕ) (bits : Annotations) → decoded w ≡ Some (Lr rd rs1 bits) → strengthened w ≡ encoded (Lr rd rs1 both_bits)
lr_most w rd rs1 bits e = most_is w (Some (Lr rd rs1 bits)) (not_nop w (Lr rd rs1 bits) e (λ bad. cc)) e

sc_most : (w rd rs1 rs2 : ℕ) (bits : Annotations) → decoded w ≡ Some (Sc rd rs1 rs2 bits) → strengthened w ≡ encoded (Sc rd rs1 rs2 both_bits)
sc_most w rd rs1 rs2 bits e = most_is w (Some (Sc rd rs1 rs2 bits)) (not_nop w (Sc rd rs1 rs2 bits) e (λ bad. cc)) e

amo_most : (w : ℕ) (op : AmoOp) (rd rs1 rs2 : ℕ) (bits : Annotations) → decoded w ≡ Some (Amo op rd rs1 rs2 bits) → strengthened w ≡ encoded (Amo op rd rs1 rs2 both_bits)
amo_most w op rd rs1 rs2 bits e = most_is w (Some (Amo op rd rs1 rs2 bits)) (not_nop w (Amo op rd rs1 rs2 bits) e (λ bad. cc)) e

fence_most : (w : ℕ) (i : Instr) → decoded w ≡ Some i → (i ≡ nop → ⊥) → most_of w (Some i) ≡ encoded full → strengthened w ≡ encoded full
fence_most w i e other is = most_is w (Some i) (not_nop w i e other) e ∙ is

abbrev AreAlike : (own word : ℕ) → Type 0
AreAlike own word = strengthened word ≡ strengthened own

lr_alike : (w rd rs1 : ℕ) (bits now : Annotations) → decoded w ≡ Some (Lr rd rs1 bits) → AreAlike w (encoded (Lr rd rs1 now))
lr_alike w rd rs1 bits now e =
    let h = have_numbers w (Lr rd rs1 bits) e in
    lr_most (encoded (Lr rd rs1 now)) rd rs1 now (lr_read_back rd rs1 now h.0 h.1) ∙ sym (lr_most w rd rs1 bits e)

sc_alike : (w rd rs1 rs2 : ℕ) (bits now : Annotations) → decoded w ≡ Some (Sc rd rs1 rs2 bits) → AreAlike w (encoded (Sc rd rs1 rs2 now))
sc_alike w rd rs1 rs2 bits now e =
    let h = have_numbers w (Sc rd rs1 rs2 bits) e in
    sc_most (encoded (Sc rd rs1 rs2 now)) rd rs1 rs2 now (sc_read_back rd rs1 rs2 now h.0 h.1.0 h.1.1) ∙ sym (sc_most w rd rs1 rs2 bits e)

amo_alike : (w : ℕ) (op : AmoOp) (rd rs1 rs2 : ℕ) (bits now : Annotations) → decoded w ≡ Some (Amo op rd rs1 rs2 bits) → AreAlike w (encoded (Amo op rd rs1 rs2 now))
amo_alike w op rd rs1 rs2 bits now e =
    let h = have_numbers w (Amo op rd rs1 rs2 bits) e in
    amo_most (encoded (Amo op rd rs1 rs2 now)) op rd rs1 rs2 now (amo_read_back op rd rs1 rs2 now h.0 h.1.0 h.1.1) ∙ sym (amo_most w op rd rs1 rs2 bits e)

-- the word with all of it
most_alike : (w : ℕ) → AreAlike w (strengthened w)
most_alike w = by_nop (w == encoded nop) refl
  where
    full_alike : strengthened w ≡ encoded full → AreAlike w (strengthened w)
    full_alike is = ap strengthened is ∙ sym is

    by_instr : (o : Option Instr) → (w == encoded nop) ≡ false → decoded w ≡ o → AreAlike w (strengthened w)
    by_instr None other e = ap strengthened (most_is w None other e)
    by_instr (Some (Fence sets)) other e = full_alike (most_is w (Some (Fence sets)) other e)
    by_instr (Some FenceTso) other e = full_alike (most_is w (Some FenceTso) other e)
    by_instr (Some (Lr rd rs1 bits)) other e = ap strengthened (lr_most w rd rs1 bits e) ∙ lr_alike w rd rs1 bits both_bits e
    by_instr (Some (Sc rd rs1 rs2 bits)) other e = ap strengthened (sc_most w rd rs1 rs2 bits e) ∙ sc_alike w rd rs1 rs2 bits both_bits e
    by_instr (Some (Amo op rd rs1 rs2 bits)) other e = ap strengthened (amo_most w op rd rs1 rs2 bits e) ∙ amo_alike w op rd rs1 rs2 bits both_bits e
    by_instr (Some instr) other e = ap strengthened (most_is w (Some instr) other e)

    by_nop : (b : Bool) → (w == encoded nop) ≡ b → AreAlike w (strengthened w)
    by_nop true is = full_alike (ap (λ b. if b then encoded full else most_of w (decoded w)) is)
    by_nop false is = by_instr (decoded w) is refl

-- the word without what orders
without_alike : (p : Part) (w : ℕ) → AreAlike w (without p w)
without_alike p w = by_instr p (decoded w) refl
  where
    fence_alike : (p : Part) (i : Instr) → decoded w ≡ Some i → (i ≡ nop → ⊥) → most_of w (Some i) ≡ encoded full → without p w ≡ fence_without p w → AreAlike w (without p w)
    fence_alike part.Fence i e other is so = ap strengthened so ∙ sym (fence_most w i e other is)
    fence_alike part.Acquire i e other is so = ap strengthened so
    fence_alike part.Release i e other is so = ap strengthened so

    by_instr : (p : Part) (o : Option Instr) → decoded w ≡ o → AreAlike w (without p w)
    by_instr p None e = ap strengthened (ap (without_of p w) e)
    by_instr p (Some (Fence sets)) e = fence_alike p (Fence sets) e (λ bad. cc) refl (ap (without_of p w) e)
    by_instr p (Some FenceTso) e = fence_alike p FenceTso e (λ bad. cc) refl (ap (without_of p w) e)
    by_instr p (Some (Lr rd rs1 bits)) e = ap strengthened (ap (without_of p w) e) ∙ lr_alike w rd rs1 bits (bits_without p bits) e
    by_instr p (Some (Sc rd rs1 rs2 bits)) e = ap strengthened (ap (without_of p w) e) ∙ sc_alike w rd rs1 rs2 bits (bits_without p bits) e
    by_instr p (Some (Amo op rd rs1 rs2 bits)) e = ap strengthened (ap (without_of p w) e) ∙ amo_alike w op rd rs1 rs2 bits (bits_without p bits) e
    by_instr p (Some other) e = ap strengthened (ap (without_of p w) e)

pub most_variant : (w : ℕ) → IsVariant w (strengthened w)
most_variant w = record { most = most_alike w }

pub without_variant : (p : Part) (w : ℕ) → IsVariant w (without p w)
without_variant p w = record { most = without_alike p w }

pub itself : (w : ℕ) → IsVariant w w
itself w = record { most = refl }

pub variant_of_variant : (own mid w : ℕ) → IsVariant own mid → IsVariant mid w → IsVariant own w
variant_of_variant own mid w first later = record { most = later.most ∙ first.most }

-- ---- FENCEs

-- with all that they may order they are the FENCE that orders all
abbrev AreFences : List Instr → Type 0
AreFences [] = Unit {0}
AreFences (i ∷ rest) = (strengthened (encoded i) ≡ encoded full) × AreFences rest

each_variant : (w : ℕ) (instrs : List Instr) → strengthened w ≡ encoded full → AreFences instrs → All (IsVariant w) (map encoded instrs)
each_variant w [] is those = All-nil (IsVariant w)
each_variant w (i ∷ rest) is those = All-cons (IsVariant w) (encoded i) (map encoded rest) (record { most = those.0 ∙ sym is }) (each_variant w rest is those.1)

forms_variants : (w : ℕ) → strengthened w ≡ encoded full → All (IsVariant w) (map encoded fence_forms)
forms_variants w is = each_variant w fence_forms is (refl, (refl, (refl, (refl, (refl, (refl, (refl, (refl, (refl, (refl, tt))))))))))

-- those that order less than a word, which are none where it is no FENCE
pub weaker_variants : (w : ℕ) → All (IsVariant w) (weaker_words w)
weaker_variants w = by_instr (decoded w) refl
  where
    some_below : strengthened w ≡ encoded full → All (IsVariant w) (weaker_words w)
    some_below is = All-filter (λ form. is_weaker (decoded form) (decoded w)) (IsVariant w) (map encoded fence_forms) (forms_variants w is)

    none_below : weaker_words w ≡ [] → All (IsVariant w) (weaker_words w)
    none_below is = subst (All (IsVariant w)) (sym is) (All-nil (IsVariant w))

    by_instr : (o : Option Instr) → decoded w ≡ o → All (IsVariant w) (weaker_words w)
    by_instr (Some (Fence sets)) e = some_below (fence_most w (Fence sets) e (λ bad. cc) refl)
    by_instr (Some FenceTso) e = some_below (fence_most w FenceTso e (λ bad. cc) refl)
    by_instr None e = none_below (ap (λ o. filter (λ form. is_weaker (decoded form) o) (map encoded fence_forms)) e)
    by_instr (Some other) e = none_below (ap (λ o. filter (λ form. is_weaker (decoded form) o) (map encoded fence_forms)) e)

-- words that order less than one, and more than its own
pub milder_variants : (own w : ℕ) → All (IsVariant w) (milder_words own w)
milder_variants own w =
    All-append (IsVariant w) (fences_between own w ++ milder_by part.Release own w) (milder_by part.Acquire own w)
    (All-append (IsVariant w) (fences_between own w) (milder_by part.Release own w)
    (All-filter (λ form. is_weaker (decoded own) (decoded form)) (IsVariant w) (weaker_words w) (weaker_variants w))
    (by part.Release))
    (by part.Acquire)
  where
    by : (p : Part) → All (IsVariant w) (milder_by p own w)
    by p =
        elim (may_be_less p own w) as (λ b. All (IsVariant w) (if b then without p w ∷ [] else [])) [
          | true ↦ All-cons (IsVariant w) (without p w) [] (without_variant p w) (All-nil (IsVariant w))
          | false ↦ All-nil (IsVariant w)
        ]
