-- An instruction that accesses memory has one of three opcodes.
use Rattle.std.proofs.Common.{◌≡◌, ◌≢◌, ◌<◌, ◌/◌, ◌%◌, ℕ, arith, List, [], ◌∷◌, Bool, true, false, Option, Some, None, refl, cond, sym, ap, ◌∙◌, ◌&&◌, ◌||◌, not}
use Rattle.std.specs.Prelude.{◌==◌, filter, find, is_some, nat_lt}
use Rattle.std.specs.List.{list_all}
use Rattle.std.specs.Option.{option_map, option_map_or}
use Rattle.std.proofs.lemmas.Bool.{and_parts, eqb-true, ne_eqb, true≢false}
use Rattle.rv32_decode.specs.Rows.{Name, Upper, Jal, Jalr, Branch, Load, Store, Immediate, Shift, Register, Fence, System, Lr, Sc, Amo, Row, decoded, instr_of, is_in, is_tso, rows}
use Rattle.rv32_decode.specs.Fields.{annotations_of, fences_of, imm_i, imm_s, rd_of, rs1_of, rs2_of}
use Rattle.hart.specs.declared.retired.Retired.{Retired}
use Rattle.rv32_decode.specs.declared.instruction.Instr.{Instr}
use Rattle.rv32_decode.specs.declared.instruction.Instr.TheVariants as instr
use Rattle.rv32_decode.specs.declared.instruction.AmoOp.{AmoOp}
use Rattle.rv32_decode.specs.declared.instruction.LoadOp.{LoadOp}
use Rattle.rv32_decode.specs.declared.instruction.StoreOp.{StoreOp}
use Rattle.rv32_decode.specs.Decoding.{amo_of, load_of, store_of}
use Rattle.rv32_decode.proofs.Atomics.{decoded_atomic}
use Rattle.rv32_decode.proofs.Branches.{decoded_load, decoded_store}
use Rattle.rv32_decode.proofs.Cases.{by_eight}
use Rattle.rv32_decode.proofs.Table.{decoded_opcode}
use Rattle.memory_model.specs.Items.{accesses_memory, has_operation, succeeded}

-- ---- rows

abbrev is_access : Name → Bool
is_access (Load op) = true
is_access (Store op) = true
is_access Lr = true
is_access Sc = true
is_access (Amo op) = true
is_access _ = false

fence_is_none : (sc : Option Bool) (w : ℕ) → accesses_memory sc (instr_of Fence w) ≡ false
fence_is_none sc w = go (is_tso w)
  where
    go : (b : Bool) → accesses_memory sc (cond b instr.FenceTso (instr.Fence (fences_of w))) ≡ false
    go true = refl
    go false = refl

private_named : (sc : Option Bool) (n : Name) (w : ℕ) → is_access n ≡ false → accesses_memory sc (instr_of n w) ≡ false
private_named sc (Upper op) w e = refl
private_named sc Jal w e = refl
private_named sc Jalr w e = refl
private_named sc (Branch op) w e = refl
private_named sc (Load op) w e = absurd (true≢false e)
private_named sc (Store op) w e = absurd (true≢false e)
private_named sc (Immediate op) w e = refl
private_named sc (Shift op) w e = refl
private_named sc (Register op) w e = refl
private_named sc Fence w e = fence_is_none sc w
private_named sc (System op) w e = refl
private_named sc Lr w e = absurd (true≢false e)
private_named sc Sc w e = absurd (true≢false e)
private_named sc (Amo op) w e = absurd (true≢false e)

-- an access has one of the opcodes of loads, stores and atomics
abbrev has_its_opcode : Row → Bool
has_its_opcode r = not (is_access r.name) || (r.match % 128 == 0x03) || (r.match % 128 == 0x23) || (r.match % 128 == 0x2f)

found_both : (p q k : Row → Bool) (rs : List Row) → list_all k rs ≡ true → (r : Row) → find p (filter q rs) ≡ Some r → (q r && k r) ≡ true
found_both p q k [] all r e = absurd (none_some e)
  where
    none_some : None ≡ Some r → ⊥
    none_some e = cc
found_both p q k (x ∷ rest) all r e = let both = and_parts (k x) (list_all k rest) all in go (q x) refl both.0 e (found_both p q k rest both.1 r)
  where
    here : (b : Bool) → p x ≡ b → q x ≡ true → k x ≡ true → cond b (Some x) (find p (filter q rest)) ≡ Some r → (find p (filter q rest) ≡ Some r → (q r && k r) ≡ true) → (q r && k r) ≡ true
    here true f g h e ih = let same : x ≡ r = cc in rw (sym same, g, h) refl
    here false f g h e ih = ih e

    go : (b : Bool) → q x ≡ b → k x ≡ true → find p (cond b (x ∷ filter q rest) (filter q rest)) ≡ Some r → (find p (filter q rest) ≡ Some r → (q r && k r) ≡ true) → (q r && k r) ≡ true
    go true f h e ih = here (p x) refl f h e ih
    go false f h e ih = ih e

pub private_opcode : (sc : Option Bool) (w : ℕ) → w % 128 ≢ 0x03 → w % 128 ≢ 0x23 → w % 128 ≢ 0x2f → option_map_or (accesses_memory sc) (decoded w) false ≡ false
private_opcode sc w load store atomic = ap (λ (o : Option Instr). option_map_or (accesses_memory sc) o false) (decoded_opcode w (w % 128) refl) ∙ go (find (is_in w) (filter (λ (r : Row). r.match % 128 == w % 128) rows)) refl
  where
    other : (r : Row) → r.match % 128 ≡ w % 128 → has_its_opcode r ≡ true → is_access r.name ≡ false
    other r e h = by (is_access r.name) (sym (ap (λ (n : ℕ). not (is_access r.name) || (n == 0x03) || (n == 0x23) || (n == 0x2f)) e) ∙ h)
      where
        by : (b : Bool) → (not b || (w % 128 == 0x03) || (w % 128 == 0x23) || (w % 128 == 0x2f)) ≡ true → b ≡ false
        by false h = refl
        by true h = absurd (true≢false (sym h ∙ rw (ne_eqb (w % 128) 0x03 load, ne_eqb (w % 128) 0x23 store, ne_eqb (w % 128) 0x2f atomic) refl))

    go : (o : Option Row) → find (is_in w) (filter (λ (r : Row). r.match % 128 == w % 128) rows) ≡ o → option_map_or (accesses_memory sc) (option_map (λ (r : Row). instr_of r.name w) o) false ≡ false
    go None e = refl
    go (Some r) e =
        let both = and_parts (r.match % 128 == w % 128) (has_its_opcode r) (found_both (is_in w) (λ (r : Row). r.match % 128 == w % 128) has_its_opcode rows refl r e) in
        private_named sc r.name w (other r (eqb-true (r.match % 128) (w % 128) both.0) both.1)

-- ---- loads and stores, by funct3

load_known : (sc : Option Bool) (w : ℕ) (o : Option LoadOp) → option_map_or (accesses_memory sc) (option_map (λ op. instr.Load op (rd_of w) (rs1_of w) (imm_i w)) o) false ≡ option_map_or (λ (op : LoadOp). true) o false
load_known sc w None = refl
load_known sc w (Some op) = refl

load_named : (f : ℕ) → f < 8 → option_map_or (λ (op : LoadOp). true) (load_of f) false ≡ (nat_lt f 6 && not (f == 3))
load_named f l = by_eight (λ (f : ℕ). option_map_or (λ (op : LoadOp). true) (load_of f) false ≡ (nat_lt f 6 && not (f == 3))) refl refl refl refl refl refl refl refl f l

pub load_told : (e : Retired) → e.word % 128 ≡ 0x03 → has_operation e ≡ (nat_lt (e.word / 4096 % 8) 6 && not (e.word / 4096 % 8 == 3))
load_told e o =
    ap (λ (i : Option Instr). option_map_or (accesses_memory e.sc_ok) i false) (decoded_load e.word o)
    ∙ (load_known e.sc_ok e.word (load_of (e.word / 4096 % 8)) ∙ load_named (e.word / 4096 % 8) (omega arith))

store_known : (sc : Option Bool) (w : ℕ) (o : Option StoreOp) → option_map_or (accesses_memory sc) (option_map (λ op. instr.Store op (rs1_of w) (rs2_of w) (imm_s w)) o) false ≡ option_map_or (λ (op : StoreOp). true) o false
store_known sc w None = refl
store_known sc w (Some op) = refl

store_named : (f : ℕ) → f < 8 → option_map_or (λ (op : StoreOp). true) (store_of f) false ≡ nat_lt f 3
store_named f l = by_eight (λ (f : ℕ). option_map_or (λ (op : StoreOp). true) (store_of f) false ≡ nat_lt f 3) refl refl refl refl refl refl refl refl f l

pub store_told : (e : Retired) → e.word % 128 ≡ 0x23 → has_operation e ≡ nat_lt (e.word / 4096 % 8) 3
store_told e o =
    ap (λ (i : Option Instr). option_map_or (accesses_memory e.sc_ok) i false) (decoded_store e.word o)
    ∙ (store_known e.sc_ok e.word (store_of (e.word / 4096 % 8)) ∙ store_named (e.word / 4096 % 8) (omega arith))

-- ---- atomics, by funct3, funct5 and rs2

atomic_known : (sc : Option Bool) (w : ℕ) (a b c : Bool) (m : Option AmoOp) → option_map_or (accesses_memory sc) (cond a (cond b (Some (instr.Lr (rd_of w) (rs1_of w) (annotations_of w))) (cond c (Some (instr.Sc (rd_of w) (rs1_of w) (rs2_of w) (annotations_of w))) (option_map (λ op. instr.Amo op (rd_of w) (rs1_of w) (rs2_of w) (annotations_of w)) m))) None) false ≡ (a && cond b true (cond c (succeeded sc) (is_some m)))
atomic_known sc w false b c m = refl
atomic_known sc w true true c m = refl
atomic_known sc w true false true m = refl
atomic_known sc w true false false None = refl
atomic_known sc w true false false (Some op) = refl

pub atomic_told : (e : Retired) → e.word % 128 ≡ 0x2f → has_operation e ≡ ((e.word / 4096 % 8 == 2) && cond ((e.word / 134217728 % 32 == 2) && (e.word / 1048576 % 32 == 0)) true (cond (e.word / 134217728 % 32 == 3) (succeeded e.sc_ok) (is_some (amo_of (e.word / 134217728 % 32)))))
atomic_told e o =
    ap (λ (i : Option Instr). option_map_or (accesses_memory e.sc_ok) i false) (decoded_atomic e.word o)
    ∙ atomic_known e.sc_ok e.word (e.word / 4096 % 8 == 2) ((e.word / 134217728 % 32 == 2) && (e.word / 1048576 % 32 == 0)) (e.word / 134217728 % 32 == 3) (amo_of (e.word / 134217728 % 32))
