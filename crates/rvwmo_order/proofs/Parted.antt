-- What stands before an operation in its hart's list: what stands before an earlier one, that one, and those between.
use Rattle.std.proofs.Common.{◌≡◌, ℕ, zero, suc, ◌+◌, ◌-◌, ◌<◌, List, [], ◌∷◌, ◌++◌, Some, ap, ◌∙◌, arith, drop, take}
use Rattle.std.specs.Prelude.{slice_get}
use Rattle.std.proofs.lemmas.Option.{none-some, same_Some}
use Rattle.memory_model.specs.declared.operation.Operation.{Operation}
use Rattle.memory_model.specs.Dependencies.{between}
use Rattle.memory_model.specs.Items.{Item}
use Rattle.trace_operations.specs.Placed.{IsPlaced}
use Rattle.trace_operations.proofs.Placed.{between_cut}

-- the first i, the one at i, and then so many
taken : (items : List Item) (i n k : ℕ) (m : Item) → slice_get items i ≡ Some m → k ≡ suc (i + n) → take k items ≡ take i items ++ (m ∷ take n (drop (suc i) items))
taken [] i n k m e h = absurd (none-some m e)
taken (x ∷ rest) zero n k m e h =
    let one : k ≡ suc n = omega (arith, h) in
    ap (λ (j : ℕ). take j (x ∷ rest)) one ∙ ap (λ (y : Item). y ∷ take n rest) (same_Some x m e)
taken (x ∷ rest) (suc i) n zero m e h = absurd (omega (arith, h))
taken (x ∷ rest) (suc i) n (suc k) m e h = ap (λ (ys : List Item). x ∷ ys) (taken rest i n k m e (omega (arith, h)))

pub parted : (items : List Item) (a b : Operation) (m : Item) → IsPlaced 0 items → slice_get items a.place ≡ Some m → a.place < b.place → take b.place items ≡ take a.place items ++ (m ∷ between items a b)
parted items a b m p e l =
    let next : suc a.place ≡ a.place + 1 = omega arith in
    taken items a.place (b.place - (a.place + 1)) b.place m e (omega (arith, l))
    ∙ (ap (λ (j : ℕ). take a.place items ++ (m ∷ take (b.place - (a.place + 1)) (drop j items))) next
    ∙ ap (λ (ys : List Item). take a.place items ++ (m ∷ ys)) (between_cut items a b p))

-- one more
pub one_more : (items : List Item) (i : ℕ) (m : Item) → slice_get items i ≡ Some m → take (i + 1) items ≡ take i items ++ (m ∷ [])
one_more [] i m e = absurd (none-some m e)
one_more (x ∷ rest) zero m e = ap (λ (y : Item). y ∷ []) (same_Some x m e)
one_more (x ∷ rest) (suc i) m e =
    let next : suc i + 1 ≡ suc (i + 1) = omega arith in
    ap (λ (j : ℕ). take j (x ∷ rest)) next ∙ ap (λ (ys : List Item). x ∷ ys) (one_more rest i m e)
