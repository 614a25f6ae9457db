-- A name's bytes: its text, and zeros behind it.
use Rattle.std.proofs.Common.{◌≡◌, ℕ, ◌-◌, ◌≤◌, List, ◌++◌, length, take, drop, ◌∙◌, arith}
use Rattle.std.proofs.lemmas.List.{drop-replicate, length-append, length-replicate}
use Rattle.std.proofs.Math.Seq.{drop-append_seam}
use Rattle.std.specs.Prelude.{replicate}

-- a text that was copied over zeros
pub padded : (text copied : List ℕ) → length text ≤ 200 → copied ≡ text
    → (length (copied ++ drop (length text) (replicate 200 0)) ≡ 200) × (length text ≤ length (copied ++ drop (length text) (replicate 200 0))) × (drop (length text) (copied ++ drop (length text) (replicate 200 0)) ≡ replicate (200 - length text) 0)
padded text copied le is =
    let zeros : drop (length text) (replicate 200 0) ≡ replicate (200 - length text) 0 = drop-replicate (length text) 200 0 in
    let long : length (copied ++ drop (length text) (replicate 200 0)) ≡ 200 = rw (is, zeros) (simp (length-append, length-replicate) (omega arith)) in
    (long, omega arith, rw is (drop-append_seam text (drop (length text) (replicate 200 0)) ∙ zeros))
