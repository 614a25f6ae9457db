-- A coherent machine's copies hold what was performed.
use Rattle.std.proofs.Common.{◌≡◌, ℕ, zero, suc, ◌+◌, ◌-◌, ◌%◌, ◌<◌, ◌≤◌, List, [], ◌∷◌, Some, None, ap, ◌∙◌, subst, arith}
use Rattle.std.specs.Prelude.{slice_get, slice_index}
use Rattle.client_cache.specs.Cache.{copy_at}
use Rattle.client_cache.specs.Held.{bytes_in}
use Rattle.client_cache.specs.declared.held.Held.{Held}
use Rattle.machine_model.specs.Coherent.{IsCoherent}
use Rattle.machine_model.specs.Views.{State, line_size, node_at}
use Rattle.machine_model.specs.Words.{word_of}
use Rattle.machine_model.proofs.order.Bytes.{place_at}
use Rattle.machine_model.proofs.order.Returns.{AllHold}
use Rattle.memory_model.specs.Traces.{last_performed}
use Rattle.tl_types.specs.Line.{bytes_of, length_of, line_of, size_of}
use Rattle.tl_types.specs.declared.line.LineSize.{LineSize}
use Rattle.tl_types.specs.declared.line.LineSize.TheVariants.{Bytes16, Bytes64}

-- every cache and every copy has lines of the machine's size
pub record CopiesFit (s : State) : Type 0 where
  pub caches : (h : ℕ) → h < s.views.config.harts → (node_at s h).cache.shape.size ≡ line_size s
  pub copies : (h line : ℕ) (held : Held) → h < s.views.config.harts → copy_at (node_at s h).cache line ≡ Some held → size_of (bytes_in held) ≡ line_size s

index_is : (xs : List ℕ) (i v : ℕ) → slice_get xs i ≡ Some v → slice_index xs i ≡ v
index_is [] i v e = absurd (none_not e)
  where
    none_not : None ≡ Some v → ⊥
    none_not e = cc
index_is (x ∷ xs) zero v e = same x v e
  where
    same : (x v : ℕ) → Some x ≡ Some v → x ≡ v
    same x v e = cc
index_is (x ∷ xs) (suc i) v e = index_is xs i v e

-- a word's byte lies in the word's line
pub record InLine (size : LineSize) (address k : ℕ) : Type 0 where
  pub above : line_of size address ≤ word_of address + k
  pub below : word_of address + k < line_of size address + length_of size
  pub place : word_of address % length_of size + k ≡ (word_of address + k) - line_of size address

in_line : (size : LineSize) (address k : ℕ) → k < 4 → InLine size address k
in_line Bytes16 address k l = record { above = omega (arith, l); below = omega (arith, l); place = omega (arith, l) }
in_line Bytes64 address k l = record { above = omega (arith, l); below = omega (arith, l); place = omega (arith, l) }

pub coherent_holds : (s : State) → IsCoherent s → CopiesFit s → AllHold s
coherent_holds s coherent fit h l address k held m copy =
    let size = line_size s in
    let there : copy_at (node_at s h).cache (line_of size address) ≡ Some held = subst (λ z. copy_at (node_at s h).cache (line_of z address) ≡ Some held) (fit.caches h l) copy in
    let is_in = in_line size address k m in
    place_at (λ i. slice_index (bytes_of (bytes_in held)) (word_of address % length_of (size_of (bytes_in held)) + i)) k m
    ∙ (ap (λ z. slice_index (bytes_of (bytes_in held)) (word_of address % length_of z + k)) (fit.copies h (line_of size address) held l there)
    ∙ (ap (slice_index (bytes_of (bytes_in held))) is_in.place
    ∙ index_is (bytes_of (bytes_in held)) ((word_of address + k) - line_of size address) (last_performed s.trace (word_of address + k)) (coherent.last_write h (line_of size address) (word_of address + k) held there is_in.above is_in.below)))
