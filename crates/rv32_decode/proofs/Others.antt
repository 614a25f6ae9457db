-- Words of an opcode that no row has.
use Rattle.std.proofs.Common.{◌≡◌, ◌≢◌, ℕ, ◌%◌, List, [], ◌∷◌, Bool, true, false, ◌||◌, None, refl, sym, ap, ◌∙◌}
use Rattle.std.specs.Prelude.{◌==◌}
use Rattle.std.specs.Option.{option_map}
use Rattle.std.specs.List.{find, filter, list_all}
use Rattle.std.proofs.lemmas.Bool.{false≢true, ne_eqb, and_parts}
use Rattle.rv32_decode.specs.Rows.{Row, rows, is_in, decoded, instr_of}
use Rattle.rv32_decode.proofs.Table.{decoded_opcode}

-- whether some row has the opcode
is_known : ℕ → Bool
is_known op = (op == 0x37) || (op == 0x17) || (op == 0x6f) || (op == 0x67) || (op == 0x63) || (op == 0x03) || (op == 0x23) || (op == 0x13) || (op == 0x33) || (op == 0x0f) || (op == 0x73) || (op == 0x2f)

filter-none : (q k : Row → Bool) → ((r : Row) → k r ≡ true → q r ≡ false) → (rs : List Row) → list_all k rs ≡ true → filter q rs ≡ []
filter-none q k h [] a = refl
filter-none q k h (r ∷ rs) a = let parts = and_parts (k r) (list_all k rs) a in rw (h r parts.0) (filter-none q k h rs parts.1)

all_known : list_all (λ (r : Row). is_known (r.match % 128)) rows ≡ true
unfolding is_known
all_known = refl

unequal : (m op : ℕ) → is_known m ≡ true → is_known op ≡ false → (m == op) ≡ false
unequal m op k n = ne_eqb m op (λ e. false≢true (sym n ∙ (ap is_known (sym e) ∙ k)))

unknown : (op : ℕ) → op ≢ 0x37 → op ≢ 0x17 → op ≢ 0x6f → op ≢ 0x67 → op ≢ 0x63 → op ≢ 0x03 → op ≢ 0x23 → op ≢ 0x13 → op ≢ 0x33 → op ≢ 0x0f → op ≢ 0x73 → op ≢ 0x2f → is_known op ≡ false
unfolding is_known
unknown op a b c d e f g h i j k l =
    rw (ne_eqb op 0x37 a, ne_eqb op 0x17 b, ne_eqb op 0x6f c, ne_eqb op 0x67 d, ne_eqb op 0x63 e, ne_eqb op 0x03 f, ne_eqb op 0x23 g, ne_eqb op 0x13 h, ne_eqb op 0x33 i, ne_eqb op 0x0f j, ne_eqb op 0x73 k, ne_eqb op 0x2f l) refl

pub decoded_other : (w op : ℕ) → w % 128 ≡ op → op ≢ 0x37 → op ≢ 0x17 → op ≢ 0x6f → op ≢ 0x67 → op ≢ 0x63 → op ≢ 0x03 → op ≢ 0x23 → op ≢ 0x13 → op ≢ 0x33 → op ≢ 0x0f → op ≢ 0x73 → op ≢ 0x2f
    → decoded w ≡ None
decoded_other w op o a b c d e f g h i j k l =
    decoded_opcode w op o
    ∙ ap (λ rs. option_map (λ (r : Row). instr_of r.name w) (find (is_in w) rs))
    (filter-none (λ (r : Row). r.match % 128 == op) (λ (r : Row). is_known (r.match % 128)) (λ r y. unequal (r.match % 128) op y (unknown op a b c d e f g h i j k l)) rows all_known)
