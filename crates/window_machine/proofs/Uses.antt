-- The registers that an instruction names: never x0, and of an access no others than those of its address and of what it stores.
use Rattle.std.proofs.Common.{◌≡◌, ℕ, Bool, true, false, not, ◌&&◌, ◌⊎◌, inl, inr, List, [], ◌∷◌, ◌++◌, Option, Some, None, refl, sym, ap, ◌∙◌}
use Rattle.std.specs.Prelude.{◌==◌, if◌then◌else◌, unwrap_or}
use Rattle.std.specs.List.{list_all}
use Rattle.std.specs.Option.{option_or, option_to_list}
use Rattle.std.proofs.lemmas.Bool.{and_from, and_parts, false≢true}
use Rattle.std.proofs.lemmas.List.{append-nil}
use Rattle.std.proofs.lemmas.List.Folds.{list_all-append}
use Rattle.memory_model.specs.Dependencies.{sources}
use Rattle.rv32_decode.specs.declared.instruction.Instr.{Instr}
use Rattle.rv32_decode.specs.declared.instruction.Instr.TheVariants.{Upper, Jal, Jalr, Branch, Load, Store, Immediate, Shift, Register, Fence, FenceTso, System, Lr, Sc, Amo}
use Rattle.rv32_exec.specs.Uses.{named, uses_of}

-- ---- never x0

abbrev are_but_x0 : List ℕ → Bool
are_but_x0 = list_all (λ r. not (r == 0))

one_named : (r : ℕ) → are_but_x0 (named r) ≡ true
one_named r = go (r == 0) refl
  where
    go : (b : Bool) → (r == 0) ≡ b → are_but_x0 (if b then [] else (r ∷ [])) ≡ true
    go true e = refl
    go false e = and_from (not (r == 0)) true (ap not e) refl

two_named : (q r : ℕ) → are_but_x0 (named q ++ named r) ≡ true
two_named q r = list_all-append (λ r. not (r == 0)) (named q) (named r) ∙ and_from (are_but_x0 (named q)) (are_but_x0 (named r)) (one_named q) (one_named r)

-- the number of a register that is none is 0
number_named : (o : Option ℕ) → are_but_x0 (option_to_list o) ≡ true → named (unwrap_or o 0) ≡ option_to_list o
number_named None e = refl
number_named (Some r) e = go (r == 0) refl
  where
    go : (b : Bool) → (r == 0) ≡ b → (if b then [] else (r ∷ [])) ≡ r ∷ []
    go true h = absurd (false≢true (sym (ap (λ c. not c && true) h) ∙ e))
    go false h = refl

-- ---- by the instruction

record HasUses (i : Instr) : Type 0 where
  pub address : are_but_x0 (uses_of i).address ≡ true
  pub stored : are_but_x0 (uses_of i).stored ≡ true
  pub other : are_but_x0 (uses_of i).other ≡ true
  pub written : are_but_x0 (uses_of i).written ≡ true
  pub apart : ((uses_of i).other ≡ []) ⊎ (((uses_of i).address ≡ []) × ((uses_of i).stored ≡ []))

accesses : (i : Instr) (a s w : ℕ) → (uses_of i).address ≡ named a → (uses_of i).stored ≡ named s → (uses_of i).other ≡ [] → (uses_of i).written ≡ named w → HasUses i
accesses i a s w e f g h = record { address = ap are_but_x0 e ∙ one_named a; stored = ap are_but_x0 f ∙ one_named s; other = ap are_but_x0 g; written = ap are_but_x0 h ∙ one_named w; apart = inl g }

computes : (i : Instr) (q r w : ℕ) → (uses_of i).address ≡ [] → (uses_of i).stored ≡ [] → (uses_of i).other ≡ named q ++ named r → (uses_of i).written ≡ named w → HasUses i
computes i q r w e f g h = record { address = ap are_but_x0 e; stored = ap are_but_x0 f; other = ap are_but_x0 g ∙ two_named q r; written = ap are_but_x0 h ∙ one_named w; apart = inr (e, f) }

has_uses : (i : Instr) → HasUses i
has_uses (Upper op rd imm) = computes (Upper op rd imm) 0 0 rd refl refl refl refl
has_uses (Jal rd offset) = computes (Jal rd offset) 0 0 rd refl refl refl refl
has_uses (Jalr rd rs1 offset) = computes (Jalr rd rs1 offset) rs1 0 rd refl refl (sym (append-nil (named rs1))) refl
has_uses (Branch op rs1 rs2 offset) = computes (Branch op rs1 rs2 offset) rs1 rs2 0 refl refl refl refl
has_uses (Load op rd rs1 offset) = accesses (Load op rd rs1 offset) rs1 0 rd refl refl refl refl
has_uses (Store op rs1 rs2 offset) = accesses (Store op rs1 rs2 offset) rs1 rs2 0 refl refl refl refl
has_uses (Immediate op rd rs1 imm) = computes (Immediate op rd rs1 imm) rs1 0 rd refl refl (sym (append-nil (named rs1))) refl
has_uses (Shift op rd rs1 amount) = computes (Shift op rd rs1 amount) rs1 0 rd refl refl (sym (append-nil (named rs1))) refl
has_uses (Register op rd rs1 rs2) = computes (Register op rd rs1 rs2) rs1 rs2 rd refl refl refl refl
has_uses (Fence sets) = computes (Fence sets) 0 0 0 refl refl refl refl
has_uses FenceTso = computes FenceTso 0 0 0 refl refl refl refl
has_uses (System op) = computes (System op) 0 0 0 refl refl refl refl
has_uses (Lr rd rs1 bits) = accesses (Lr rd rs1 bits) rs1 0 rd refl refl refl refl
has_uses (Sc rd rs1 rs2 bits) = accesses (Sc rd rs1 rs2 bits) rs1 rs2 rd refl refl refl refl
has_uses (Amo op rd rs1 rs2 bits) = accesses (Amo op rd rs1 rs2 bits) rs1 rs2 rd refl refl refl refl

-- ---- their numbers

-- each register of an instruction that isn't x0, where there is one: of its address, of what it stores, and of what it reads otherwise
pub record Found (i : Instr) (address stored one another : Option ℕ) : Type 0 where
  pub address_is : (uses_of i).address ≡ option_to_list address
  pub stored_is : (uses_of i).stored ≡ option_to_list stored
  pub other_is : (uses_of i).other ≡ option_to_list one ++ option_to_list another

first_alone : (a o : Option ℕ) → option_to_list o ≡ [] → option_or a o ≡ a
first_alone None None e = refl
first_alone None (Some r) e = absurd (cc)
first_alone (Some q) o e = refl

none_first : (o p : Option ℕ) → option_to_list o ++ option_to_list p ≡ [] → option_to_list o ≡ []
none_first None p e = refl
none_first (Some r) p e = absurd (cc)

none_second : (o p : Option ℕ) → option_to_list o ++ option_to_list p ≡ [] → option_to_list p ≡ []
none_second None p e = e
none_second (Some r) p e = absurd (cc)

second_alone : (a o : Option ℕ) → option_to_list a ≡ [] → option_or a o ≡ o
second_alone None o e = refl
second_alone (Some r) o e = absurd (cc)

number_as : (o : Option ℕ) (xs : List ℕ) → xs ≡ option_to_list o → are_but_x0 xs ≡ true → named (unwrap_or o 0) ≡ xs
number_as o xs e h = number_named o (ap are_but_x0 (sym e) ∙ h) ∙ sym e

pub address_number : (i : Instr) (a s o p : Option ℕ) → Found i a s o p → (uses_of i).other ≡ [] → named (unwrap_or (option_or a o) 0) ≡ (uses_of i).address
address_number i a s o p f e =
    ap (λ q. named (unwrap_or q 0)) (first_alone a o (none_first o p (sym f.other_is ∙ e)))
    ∙ number_as a (uses_of i).address f.address_is (has_uses i).address

pub stored_number : (i : Instr) (a s o p : Option ℕ) → Found i a s o p → (uses_of i).other ≡ [] → named (unwrap_or (option_or s p) 0) ≡ (uses_of i).stored
stored_number i a s o p f e =
    ap (λ q. named (unwrap_or q 0)) (first_alone s p (none_second o p (sym f.other_is ∙ e)))
    ∙ number_as s (uses_of i).stored f.stored_is (has_uses i).stored

pub written_number : (i : Instr) (w : Option ℕ) → (uses_of i).written ≡ option_to_list w → named (unwrap_or w 0) ≡ (uses_of i).written
written_number i w e = number_as w (uses_of i).written e (has_uses i).written

pub source_numbers : (i : Instr) (a s o p : Option ℕ) → Found i a s o p → named (unwrap_or (option_or a o) 0) ++ named (unwrap_or (option_or s p) 0) ≡ sources (uses_of i)
source_numbers i a s o p f = go (has_uses i).apart
  where
    go : ((uses_of i).other ≡ []) ⊎ (((uses_of i).address ≡ []) × ((uses_of i).stored ≡ [])) → named (unwrap_or (option_or a o) 0) ++ named (unwrap_or (option_or s p) 0) ≡ sources (uses_of i)
    go (inl e) =
        ap (λ xs. xs ++ named (unwrap_or (option_or s p) 0)) (address_number i a s o p f e)
        ∙ (ap (λ xs. (uses_of i).address ++ xs) (stored_number i a s o p f e)
        ∙ (sym (append-nil ((uses_of i).address ++ (uses_of i).stored)) ∙ ap (λ xs. ((uses_of i).address ++ (uses_of i).stored) ++ xs) (sym e)))
    go (inr e) =
        let both : are_but_x0 (option_to_list o ++ option_to_list p) ≡ true = ap are_but_x0 (sym f.other_is) ∙ (has_uses i).other in
        let each = and_parts (are_but_x0 (option_to_list o)) (are_but_x0 (option_to_list p)) (sym (list_all-append (λ r. not (r == 0)) (option_to_list o) (option_to_list p)) ∙ both) in
        ap (λ q. named (unwrap_or q 0) ++ named (unwrap_or (option_or s p) 0)) (second_alone a o (sym f.address_is ∙ e.0))
        ∙ (ap (λ q. named (unwrap_or o 0) ++ named (unwrap_or q 0)) (second_alone s p (sym f.stored_is ∙ e.1))
        ∙ (ap (λ xs. xs ++ named (unwrap_or p 0)) (number_named o each.0) ∙ (ap (λ xs. option_to_list o ++ xs) (number_named p each.1)
        ∙ (sym f.other_is ∙ (ap (λ xs. ([] ++ xs) ++ (uses_of i).other) (sym e.1) ∙ ap (λ xs. (xs ++ (uses_of i).stored) ++ (uses_of i).other) (sym e.0))))))
