-- The longest row of private instructions, one instruction after the other.
use Rattle.std.specs.Prelude.{◌≡◌, ◌<◌, ◌-◌, ◌==◌, ℕ, zero, suc, Bool, true, false, List, [], ◌∷◌, length}
use Rattle.std.proofs.Common.{arith, sym, ◌∙◌, ap, cond}
use Rattle.std.proofs.Math.Dec.{eqb-suc-suc, eqb-zero-suc}
use Rattle.elf_loader.specs.Image.{Initial}
use Rattle.hart.specs.declared.retired.Retired.{Retired}
use Rattle.hart.specs.declared.state.Hart.{Hart}
use Rattle.hart.specs.Local.{can_go_alone, next_entry, private_row}
use Rattle.hart.specs.Run.{after}
use Rattle.hart.proofs.Rows.{Taken}

-- the row has all its instructions
abbrev pub is_whole : Initial → Hart → ℕ → Bool
is_whole image hart count = length (private_row image hart count) == count

pub not_whole : (image : Initial) (hart : Hart) (count : ℕ) → 0 < count → private_row image hart count ≡ [] → is_whole image hart count ≡ false
not_whole image hart zero l e = absurd (omega (arith, l))
not_whole image hart (suc n) l e = ap (λ (r : List Retired). length r == suc n) e ∙ eqb-zero-suc n

whole_by : (image : Initial) (hart : Hart) (n : ℕ) (b : Bool) → b ≡ true → (length (cond b (next_entry image hart ∷ private_row image (after hart (next_entry image hart)) n) []) == suc n) ≡ is_whole image (after hart (next_entry image hart)) n
whole_by image hart n true e = eqb-suc-suc (length (private_row image (after hart (next_entry image hart)) n)) n
whole_by image hart n false e = cc

less : (n : ℕ) → suc n - 1 ≡ n
less n = omega arith

pub whole_on : (image : Initial) (hart next : Hart) (entry : Retired) (count : ℕ) → 0 < count → Taken image hart entry next → is_whole image hart count ≡ is_whole image next (count - 1)
whole_on image hart next entry zero l t = absurd (omega (arith, l))
whole_on image hart next entry (suc n) l t =
    whole_by image hart n (can_go_alone image hart) t.goes
    ∙ (ap (λ (h : Hart). is_whole image h n) (sym t.next_is) ∙ ap (is_whole image next) (sym (less n)))
