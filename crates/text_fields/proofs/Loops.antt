use Rattle.std.proofs.Common.{◌≡◌, ℕ, zero, suc, ◌+◌, ◌-◌, ◌<◌, ◌≤◌, List, [], ◌∷◌, ◌++◌, length, take, Option, Some, None, refl, sym, ap, ◌∙◌, append_assoc, arith}
use Rattle.std.proofs.lemmas.List.{append-nil, take_more_set, take_all, length-set}
use Rattle.std.specs.Prelude.{slice_set}
use Rattle.text_fields.specs.Reading.{◌>>=◌, hex_at, hex_byte_at, all_at, after, section_at}
use Rattle.text_fields.proofs.Laws.{after_takes}
use Rattle.std.proofs.lemmas.List.{length-append}
use Rattle.std.proofs.lemmas.Bool.{ne_eqb}

-- what is read behind elements that are read already
abbrev pub fronted : {A : Type 0} → List A → Option (List A × List ℕ) → Option (List A × List ℕ)
fronted front read = read >>= λ x. Some (front ++ x.0, x.1)

pub fronted_none : {A : Type 0} (read : Option (List A × List ℕ)) → fronted [] read ≡ read
fronted_none (Some x) = refl
fronted_none None = refl

pub fronted_more : {A : Type 0} (front : List A) (x : A) (read : Option (List A × List ℕ)) → fronted front (read >>= λ xs. Some (x ∷ xs.0, xs.1)) ≡ fronted (front ++ x ∷ []) read
fronted_more {A} front x (Some xs) = ap (λ (l : List A). Some (l, xs.1)) (sym (append_assoc front (x ∷ []) xs.0))
fronted_more front x None = refl

pub hex_more : (n : ℕ) (front : List ℕ) (b : ℕ) (rest tail : List ℕ) → hex_byte_at rest ≡ Some (b, tail) → fronted front (hex_at (suc n) rest) ≡ fronted (front ++ b ∷ []) (hex_at n tail)
unfolding hex_at
hex_more n front b rest tail e = rw e (fronted_more front b (hex_at n tail))

pub hex_none : (n : ℕ) (front rest : List ℕ) → hex_byte_at rest ≡ None → fronted front (hex_at (suc n) rest) ≡ None
unfolding hex_at
hex_none n front rest e = rw e refl

pub hex_end : (front rest : List ℕ) → fronted front (hex_at 0 rest) ≡ Some (front, rest)
unfolding hex_at
hex_end front rest = simp append-nil

pub hex_done : (i : ℕ) (out rest : List ℕ) (total : Option (List ℕ × List ℕ)) → length out ≤ i → fronted (take i out) (hex_at (length out - i) rest) ≡ total → Some (out, rest) ≡ total
hex_done i out rest total le so_far =
    let none : length out - i ≡ 0 = omega arith in
    let whole : take i out ≡ out = take_all i out le in
    sym (hex_end out rest) ∙ (rw (none, whole) at so_far)

pub hex_step : (i : ℕ) (out rest tail : List ℕ) (b : ℕ) (total : Option (List ℕ × List ℕ)) → i < length out → Some (b, tail) ≡ hex_byte_at rest
    → fronted (take i out) (hex_at (length out - i) rest) ≡ total
    → fronted (take (i + 1) (slice_set out i b)) (hex_at (length (slice_set out i b) - (i + 1)) tail) ≡ total
hex_step i out rest tail b total lt read so_far =
    let one : length out - i ≡ suc (length out - (i + 1)) = omega arith in
    let len : length (slice_set out i b) ≡ length out = length-set out i b in
    rw (take_more_set out i b lt, len) (sym (hex_more (length out - (i + 1)) (take i out) b rest tail (sym read)) ∙ (rw one at so_far))

pub hex_fails : (i : ℕ) (out rest : List ℕ) (total : Option (List ℕ × List ℕ)) → i < length out → None ≡ hex_byte_at rest
    → fronted (take i out) (hex_at (length out - i) rest) ≡ total → None ≡ total
hex_fails i out rest total lt read so_far =
    let one : length out - i ≡ suc (length out - (i + 1)) = omega arith in
    sym (hex_none (length out - (i + 1)) (take i out) rest (sym read)) ∙ (rw one at so_far)

-- ---- loops over items

-- a reader that takes something
abbrev pub Shortens : {A : Type 0} → (List ℕ → Option (A × List ℕ)) → Type 0
Shortens {A} r = (bytes : List ℕ) (x : A) (rest : List ℕ) → r bytes ≡ Some (x, rest) → length rest < length bytes

abbrev pub joined : {A : Type 0} → List A → Option (List A) → Option (List A)
joined front read = read >>= λ xs. Some (front ++ xs)

-- what stands in front, and what is still to be read, are all there is
pub record Reading {A : Type 0} (r : List ℕ → Option (A × List ℕ)) (front : List A) (rest : List ℕ) (total : Option (List A)) : Type 0 where
  pub fuel : ℕ
  pub enough : length rest ≤ fuel
  pub same : joined front (all_at r fuel rest) ≡ total

joined_more : {A : Type 0} (front : List A) (x : A) (read : Option (List A)) → joined front (read >>= λ xs. Some (x ∷ xs)) ≡ joined (front ++ x ∷ []) read
joined_more {A} front x (Some xs) = ap (λ (l : List A). Some l) (sym (append_assoc front (x ∷ []) xs))
joined_more front x None = refl

pub reading_starts : {A : Type 0} (r : List ℕ → Option (A × List ℕ)) (bytes : List ℕ) → Reading r [] bytes (all_at r (length bytes) bytes)
reading_starts r bytes = record { fuel = length bytes; enough = omega arith; same = none (all_at r (length bytes) bytes) }
  where
    none : {A : Type 0} (read : Option (List A)) → joined [] read ≡ read
    none (Some xs) = refl
    none None = refl

all_step : {A : Type 0} (r : List ℕ → Option (A × List ℕ)) (n : ℕ) (rest : List ℕ) → 0 < length rest → all_at r (suc n) rest ≡ (r rest >>= λ x. all_at r n x.1 >>= λ xs. Some (x.0 ∷ xs))
unfolding all_at
all_step r n rest some = rw (ne_eqb (length rest) 0 (λ e. omega arith)) refl

pub reading_more : {A : Type 0} (r : List ℕ → Option (A × List ℕ)) → Shortens r → (front : List A) (rest later : List ℕ) (x : A) (total : Option (List A)) → 0 < length rest → Some (x, later) ≡ r rest → Reading r front rest total → Reading r (front ++ x ∷ []) later total
reading_more {A} r short front rest later x total some read h =
    go h.fuel h.enough h.same
  where
    go : (n : ℕ) → length rest ≤ n → joined front (all_at r n rest) ≡ total → Reading r (front ++ x ∷ []) later total
    go zero le same = absurd (omega arith)
    go (suc n) le same =
        let shorter = short rest x later (sym read) in
        let one : joined front (all_at r (suc n) rest) ≡ joined front (all_at r n later >>= λ xs. Some (x ∷ xs)) = ap (joined front) (all_step r n rest some ∙ rw (← read) refl) in
        record { fuel = n; enough = omega arith; same = sym (joined_more front x (all_at r n later)) ∙ sym one ∙ same }

all_fails : {A : Type 0} (r : List ℕ → Option (A × List ℕ)) (n : ℕ) (rest : List ℕ) → 0 < length rest → None ≡ r rest → all_at r (suc n) rest ≡ None
all_fails r n rest some read = all_step r n rest some ∙ rw (← read) refl

pub reading_fails : {A : Type 0} (r : List ℕ → Option (A × List ℕ)) (front : List A) (rest : List ℕ) (total : Option (List A)) → 0 < length rest → None ≡ r rest → Reading r front rest total → total ≡ None
reading_fails {A} r front rest total some read h = go h.fuel h.enough h.same
  where
    go : (n : ℕ) → length rest ≤ n → joined front (all_at r n rest) ≡ total → total ≡ None
    go zero le same = absurd (omega arith)
    go (suc n) le same = sym same ∙ ap (joined front) (all_fails r n rest some read)

ended_at : {A : Type 0} (r : List ℕ → Option (A × List ℕ)) (n : ℕ) (rest : List ℕ) → length rest ≡ 0 → all_at r n rest ≡ Some []
unfolding all_at
ended_at r zero rest none = rw none refl
ended_at r (suc n) rest none = rw none refl

pub reading_ends : {A : Type 0} (r : List ℕ → Option (A × List ℕ)) (front : List A) (rest : List ℕ) (total : Option (List A)) → length rest ≡ 0 → Reading r front rest total → total ≡ Some front
reading_ends {A} r front rest total none h = go h.fuel h.same
  where
    go : (n : ℕ) → joined front (all_at r n rest) ≡ total → total ≡ Some front
    go n same = sym same ∙ ap (joined front) (ended_at r n rest none) ∙ ap (λ (l : List A). Some l) (append-nil front)

-- ---- a section

pub record Sections {A : Type 0} (lead : List ℕ) (r : List ℕ → Option (A × List ℕ)) (front : List A) (rest : List ℕ) (total : Option (List A × List ℕ)) : Type 0 where
  pub fuel : ℕ
  pub enough : length rest ≤ fuel
  pub same : fronted front (section_at lead r fuel rest) ≡ total

pub section_starts : {A : Type 0} (lead : List ℕ) (r : List ℕ → Option (A × List ℕ)) (bytes : List ℕ) → Sections lead r [] bytes (section_at lead r (length bytes) bytes)
section_starts lead r bytes = record { fuel = length bytes; enough = omega arith; same = fronted_none (section_at lead r (length bytes) bytes) }

section_step : {A : Type 0} (lead : List ℕ) (r : List ℕ → Option (A × List ℕ)) (n : ℕ) (bytes rest : List ℕ) → after lead bytes ≡ Some rest → section_at lead r (suc n) bytes ≡ (r rest >>= λ x. section_at lead r n x.1 >>= λ xs. Some (x.0 ∷ xs.0, xs.1))
unfolding section_at
section_step lead r n bytes rest e = rw e refl

section_stop : {A : Type 0} (lead : List ℕ) (r : List ℕ → Option (A × List ℕ)) (n : ℕ) (bytes : List ℕ) → after lead bytes ≡ None → section_at lead r n bytes ≡ Some ([], bytes)
unfolding section_at
section_stop lead r zero bytes e = refl
section_stop lead r (suc n) bytes e = rw e refl

pub after_shortens : (lead bytes rest : List ℕ) → after lead bytes ≡ Some rest → length bytes ≡ length lead + length rest
after_shortens lead bytes rest e = ap length (after_takes lead bytes rest e) ∙ length-append lead rest

pub section_more : {A : Type 0} (lead : List ℕ) (r : List ℕ → Option (A × List ℕ)) → Shortens r → (front : List A) (bytes rest later : List ℕ) (x : A) (total : Option (List A × List ℕ)) → Some rest ≡ after lead bytes → Some (x, later) ≡ r rest → Sections lead r front bytes total → Sections lead r (front ++ x ∷ []) later total
section_more {A} lead r short front bytes rest later x total led read h = go h.fuel h.enough h.same
  where
    go : (n : ℕ) → length bytes ≤ n → fronted front (section_at lead r n bytes) ≡ total → Sections lead r (front ++ x ∷ []) later total
    go zero le same = absurd (omega (arith, after_shortens lead bytes rest (sym led), short rest x later (sym read)))
    go (suc n) le same =
        let one : section_at lead r (suc n) bytes ≡ (section_at lead r n later >>= λ xs. Some (x ∷ xs.0, xs.1)) = section_step lead r n bytes rest (sym led) ∙ rw (← read) refl in
        record { fuel = n; enough = omega (arith, after_shortens lead bytes rest (sym led), short rest x later (sym read)); same = sym (fronted_more front x (section_at lead r n later)) ∙ sym (ap (fronted front) one) ∙ same }

pub section_fails : {A : Type 0} (lead : List ℕ) (r : List ℕ → Option (A × List ℕ)) (front : List A) (bytes rest : List ℕ) (total : Option (List A × List ℕ)) → 0 < length lead → Some rest ≡ after lead bytes → None ≡ r rest → Sections lead r front bytes total → total ≡ None
section_fails {A} lead r front bytes rest total some led read h = go h.fuel h.enough h.same
  where
    go : (n : ℕ) → length bytes ≤ n → fronted front (section_at lead r n bytes) ≡ total → total ≡ None
    go zero le same = absurd (omega (arith, after_shortens lead bytes rest (sym led)))
    go (suc n) le same =
        let one : section_at lead r (suc n) bytes ≡ None = section_step lead r n bytes rest (sym led) ∙ rw (← read) refl in
        sym same ∙ ap (fronted front) one

pub section_ends : {A : Type 0} (lead : List ℕ) (r : List ℕ → Option (A × List ℕ)) (front : List A) (bytes : List ℕ) (total : Option (List A × List ℕ)) → None ≡ after lead bytes → Sections lead r front bytes total → total ≡ Some (front, bytes)
section_ends {A} lead r front bytes total led h =
    sym h.same ∙ ap (fronted front) (section_stop lead r h.fuel bytes (sym led)) ∙ ap (λ (l : List A). Some (l, bytes)) (append-nil front)
