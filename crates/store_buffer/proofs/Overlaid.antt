-- What entries laid over one another show of a word.
use Rattle.std.proofs.Common.{◌≡◌, ◌≢◌, ℕ, Bool, true, false, cond, ◌||◌, List, [], ◌∷◌, ◌++◌, Option, Some, None, refl, sym, ap, ◌∙◌}
use Rattle.std.specs.Prelude.{is_some, unwrap_or, slice_index}
use Rattle.std.proofs.lemmas.Bool.{eq-eqb, ne_eqb}
use Rattle.std.specs.Option.{option_or}
use Rattle.store_buffer.specs.declared.entry.Entry.{Entry}
use Rattle.store_buffer.specs.ByteMask.{each_place, is_marked, united, laid_over}
use Rattle.store_buffer.specs.Entry.{marked_byte}
use Rattle.store_buffer.specs.Groups.{buffered_byte, forwarded}
use Rattle.store_buffer.specs.Layout.{sealed_in, groups_in, AreGroupsLaidOut, byte_in, newest_byte, overlaid}
use Rattle.store_buffer.proofs.Layouts.{newest_byte-append, buffered_byte-groups_in}

pub each_same : {A : Type 0} (f g : ℕ → A) → ((k : ℕ) → f k ≡ g k) → each_place f ≡ each_place g
each_same f g same = λ i. same 0 i ∷ same 1 i ∷ same 2 i ∷ same 3 i ∷ []

newest-push : (word k : ℕ) (xs : List Entry) (e : Entry) → newest_byte word k (xs ++ e ∷ []) ≡ option_or (byte_in word k e) (newest_byte word k xs)
newest-push word k xs e = newest_byte-append word k xs (e ∷ [])

own-byte : (word k : ℕ) (e : Entry) → e.word ≡ word → byte_in word k e ≡ marked_byte k e
own-byte word k e own = ap (λ b. cond b (marked_byte k e) None) (eq-eqb e.word word own)

marked-over : (marked : Bool) (byte : ℕ) (o : Option ℕ) → is_some (option_or (cond marked (Some byte) None) o) ≡ (marked || is_some o)
marked-over true byte o = refl
marked-over false byte o = refl

byte-over : (marked : Bool) (byte : ℕ) (o : Option ℕ) → unwrap_or (option_or (cond marked (Some byte) None) o) 0 ≡ cond marked byte (unwrap_or o 0)
byte-over true byte o = refl
byte-over false byte o = refl

-- an entry of the word is laid over the earlier ones
pub overlaid-mask : (word : ℕ) (xs : List Entry) (e : Entry) → e.word ≡ word → (overlaid word (xs ++ e ∷ [])).0 ≡ united e.mask (overlaid word xs).0
overlaid-mask word xs e own =
    each_same (λ k. is_some (newest_byte word k (xs ++ e ∷ []))) (λ k. is_marked e.mask k || is_some (newest_byte word k xs))
    (λ k. ap is_some (newest-push word k xs e ∙ ap (λ o. option_or o (newest_byte word k xs)) (own-byte word k e own)) ∙ marked-over (is_marked e.mask k) (slice_index e.bytes k) (newest_byte word k xs))

pub overlaid-bytes : (word : ℕ) (xs : List Entry) (e : Entry) → e.word ≡ word → (overlaid word (xs ++ e ∷ [])).1 ≡ laid_over e.mask e.bytes (overlaid word xs).1
overlaid-bytes word xs e own =
    each_same (λ k. unwrap_or (newest_byte word k (xs ++ e ∷ [])) 0) (λ k. cond (is_marked e.mask k) (slice_index e.bytes k) (unwrap_or (newest_byte word k xs) 0))
    (λ k. ap (λ o. unwrap_or o 0) (newest-push word k xs e ∙ ap (λ o. option_or o (newest_byte word k xs)) (own-byte word k e own)) ∙ byte-over (is_marked e.mask k) (slice_index e.bytes k) (newest_byte word k xs))

-- one of another word shows nothing of it
pub overlaid-other : (word : ℕ) (xs : List Entry) (e : Entry) → e.word ≢ word → overlaid word (xs ++ e ∷ []) ≡ overlaid word xs
overlaid-other word xs e other =
    let same : (k : ℕ) → newest_byte word k (xs ++ e ∷ []) ≡ newest_byte word k xs =
    λ k. newest-push word k xs e ∙ ap (λ b. option_or (cond b (marked_byte k e) None) (newest_byte word k xs)) (ne_eqb e.word word other) in
    λ i. (
      each_same (λ k. is_some (newest_byte word k (xs ++ e ∷ []))) (λ k. is_some (newest_byte word k xs)) (λ k. ap is_some (same k)) i,
      each_same (λ k. unwrap_or (newest_byte word k (xs ++ e ∷ [])) 0) (λ k. unwrap_or (newest_byte word k xs) 0) (λ k. ap (λ o. unwrap_or o 0) (same k)) i,
    )

pub overlaid-groups_in : (word : ℕ) (ns : List ℕ) (es : List Entry) → AreGroupsLaidOut ns es → overlaid word es ≡ forwarded word (groups_in ns es)
overlaid-groups_in word ns es h =
    let same : (k : ℕ) → newest_byte word k es ≡ buffered_byte word k (sealed_in ns es ++ (groups_in ns es).current ∷ []) =
    λ k. sym (buffered_byte-groups_in word k ns es h.distinct h.current_distinct) in
    λ i. (each_place (λ k. is_some (same k i)), each_place (λ k. unwrap_or (same k i) 0))
