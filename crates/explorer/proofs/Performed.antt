-- Memory behind one more operation.
use Rattle.std.proofs.Common.{◌≡◌, ◌∙◌, ◌+◌, ◌-◌, ◌<◌, ◌≤◌, ℕ, Bool, true, false, List, [], ◌∷◌, Some, refl, sym, ap, arith, drop, filter, get_or, if◌then◌else◌, length, take}
use Rattle.std.specs.Prelude.{slice_index}
use Rattle.std.specs.List.{last_or}
use Rattle.std.proofs.lemmas.List.{ext_get_or, length-drop, take_all}
use Rattle.elf_loader.specs.Size.{base}
use Rattle.flat_model.specs.Flat.{byte_in}
use Rattle.flat_model.specs.Operation.{Operation}
use Rattle.flat_model.specs.Operations.{stores_to, written_at}
use Rattle.flat_model.specs.Order.{byte_from, last_of, last_write}

-- ---- while an operation is performed

-- the bytes of a store below an index are those that it wrote
abbrev pub AreWritten : (old new : List ℕ) → Operation → ℕ → Type 0
AreWritten old new a index = (x : ℕ) → base ≤ x → x < base + length old → a.address ≤ x → x < a.address + index → byte_in new x ≡ written_at a x

-- the bytes that it doesn't write are as they were
abbrev pub AreOthers : (old new : List ℕ) → Operation → Type 0
AreOthers old new a = (x : ℕ) → base ≤ x → stores_to x a ≡ false → byte_in new x ≡ byte_in old x

-- ---- behind a list of operations

-- behind a store the image doesn't count
image_unused : (image other : ℕ → ℕ) (x : ℕ) (s : Operation) (rest : List Operation) → byte_from image x (last_or (Some s) rest) ≡ byte_from other x (last_or (Some s) rest)
image_unused image other x s [] = refl
image_unused image other x s (t ∷ rest) = image_unused image other x t rest

after_store : (image other : ℕ → ℕ) (x : ℕ) (s : Operation) (rest : List Operation) → other x ≡ written_at s x → byte_from other x (last_of rest) ≡ byte_from image x (last_or (Some s) rest)
after_store image other x s [] is = is
after_store image other x s (t ∷ rest) is = image_unused other image x t rest

after_none : (image other : ℕ → ℕ) (x : ℕ) (rest : List Operation) → other x ≡ image x → byte_from other x (last_of rest) ≡ byte_from image x (last_of rest)
after_none image other x [] is = is
after_none image other x (t ∷ rest) is = image_unused other image x t rest

-- what the rest leaves where one operation was performed is what it leaves with it
one_performed : (image other : ℕ → ℕ) (x : ℕ) (a : Operation) (rest : List Operation) → (stores_to x a ≡ true → other x ≡ written_at a x) → (stores_to x a ≡ false → other x ≡ image x)
    → last_write other rest x ≡ last_write image (a ∷ rest) x
one_performed image other x a rest written others = go (stores_to x a) refl
  where
    go : (b : Bool) → stores_to x a ≡ b → byte_from other x (last_of (filter (stores_to x) rest)) ≡ byte_from image x (last_of (if b then a ∷ filter (stores_to x) rest else filter (stores_to x) rest))
    go true is = after_store image other x a (filter (stores_to x) rest) (written is)
    go false is = after_none image other x (filter (stores_to x) rest) (others is)

first_is : (os : List Operation) (d : Operation) → 1 ≤ length os → os ≡ get_or os 0 d ∷ take (length os - 1) (drop 1 os)
first_is [] d some = absurd (omega (arith, some))
first_is (a ∷ os) d some = ap (λ (r : List Operation). a ∷ r) (sym (take_all (length (a ∷ os) - 1) (drop 1 (a ∷ os)) (omega (arith, length-drop 1 (a ∷ os)))))

pub performed_more : (was new : List ℕ) (rest : List Operation) (d : Operation) (x : ℕ) → 1 ≤ length rest
    → (stores_to x (get_or rest 0 d) ≡ true → byte_in new x ≡ written_at (get_or rest 0 d) x) → (stores_to x (get_or rest 0 d) ≡ false → byte_in new x ≡ byte_in was x)
    → last_write (byte_in new) (take (length rest - 1) (drop 1 rest)) x ≡ last_write (byte_in was) rest x
performed_more was new rest d x some written others =
    one_performed (byte_in was) (byte_in new) x (get_or rest 0 d) (take (length rest - 1) (drop 1 rest)) written others ∙ ap (λ (os : List Operation). last_write (byte_in was) os x) (sym (first_is rest d some))

-- ---- two memories

-- two of one size and with the same bytes are one
pub same_bytes : (one other : List ℕ) → length one ≡ length other → ((x : ℕ) → base ≤ x → x < base + length one → byte_in one x ≡ byte_in other x) → one ≡ other
same_bytes one other long same = ext_get_or 0 one other long λ k l.
    let e : base + k - base ≡ k = omega arith in
    sym (ap (λ (i : ℕ). slice_index one i) e) ∙ (same (base + k) (omega arith) (omega (arith, l)) ∙ ap (λ (i : ℕ). slice_index other i) e)
