-- Where a word can be fetched.
use Rattle.std.proofs.Common.{◌≡◌, ◌+◌, ℕ, Bool, true, false, refl, sym, ◌↔◌}
use Rattle.std.specs.Prelude.{nat_le}
use Rattle.std.proofs.lemmas.Bool.{false≢true, and_parts, and_from, le-leb, leb-true}
use Rattle.rv32_exec.specs.Image.{Initial, HasWord, end_of}
use Rattle.rv32_exec.specs.Size.{base}
use Rattle.hart.specs.Run.{can_fetch}

pub fetches : (image : Initial) (pc : ℕ) (b : Bool) → (b ≡ true) ↔ HasWord image pc → b ≡ can_fetch image pc
fetches image pc true h = let w = h.0 refl in sym (and_from _ _ (le-leb base pc w.0) (le-leb (pc + 4) (end_of image) w.1))
fetches image pc false h = go (can_fetch image pc) refl
  where
    go : (c : Bool) → can_fetch image pc ≡ c → false ≡ can_fetch image pc
    go false e = sym e
    go true e = let p = and_parts (nat_le base pc) (nat_le (pc + 4) (end_of image)) e in absurd (false≢true (h.1 (leb-true base pc p.0, leb-true (pc + 4) (end_of image) p.1)))
