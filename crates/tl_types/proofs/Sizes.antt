-- What holds of each size of a line.
use Rattle.std.proofs.Common.{◌≡◌, ℕ, Bool, true, false, cond, eqb, Some, None, refl, sym, subst}
use Rattle.std.proofs.lemmas.Bool.{eqb-true, false≢true}
use Rattle.std.specs.Prelude.{is_some}
use Rattle.tl_types.specs.Line.{length_of, size_of_bytes}
use Rattle.tl_types.specs.declared.line.LineSize.{LineSize}
use Rattle.tl_types.specs.declared.line.LineSize.TheVariants.{Bytes16, Bytes64}

pub of_each_size : (P : ℕ → Type 0) → ((size : LineSize) → P (length_of size)) → (n : ℕ) → is_some (size_of_bytes n) ≡ true → P n
of_each_size P each n e = go (eqb n 16) refl (eqb n 64) refl e
  where
    go : (a : Bool) → eqb n 16 ≡ a → (b : Bool) → eqb n 64 ≡ b → is_some (cond a (Some Bytes16) (cond b (Some Bytes64) None)) ≡ true → P n
    go true x b y e = subst P (sym (eqb-true n 16 x)) (each Bytes16)
    go false x true y e = subst P (sym (eqb-true n 64 y)) (each Bytes64)
    go false x false y e = absurd (false≢true e)
