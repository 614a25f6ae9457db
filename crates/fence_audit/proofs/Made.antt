-- What was made side by side is all that each call gave.
use Rattle.std.proofs.Common.{◌≡◌, ◌<◌, ℕ, All, Err, IfOk, List, Ok, Result, arith}
use Rattle.std.specs.Global.{Vec}
use Rattle.std.specs.Prelude.{slice_index_or, vec_len}
use Rattle.std.specs.declared.alloc.AllocError.{AllocError}

pub made_all : {X : Type 0} (P : X → Type 0) (Gives : List X → Type 0) (n : ℕ) (r : Result (Vec X) AllocError) → ((xs : List X) → Gives xs → (i : ℕ) (d : X) → i < n → P (slice_index_or xs i d))
    → IfOk r (λ v. vec_len v ≡ n) → IfOk r (λ v. Gives v.items) → IfOk r (λ v. All P v.items)
made_all P Gives n (Ok v) each len given = λ i d below. each v.items given i d (omega (arith, below, len, v.ok.0))
made_all P Gives n (Err error) each len given = tt
