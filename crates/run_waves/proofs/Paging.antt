-- What several calls spell onto one page, one after another.
use Rattle.std.proofs.Common.{◌≡◌, ℕ, List, [], ◌++◌, Option, Result, Ok, Err, refl, sym, ap, subst, ◌∙◌, append_assoc}
use Rattle.std.proofs.lemmas.Bool.{false≢true}
use Rattle.std.proofs.lemmas.List.{append-nil}
use Rattle.std.specs.Result.{IsErr}
use Rattle.text_fields.specs.Pages.{Paged, Spells}
use Rattle.text_fields.specs.Writing.{Begins, Writes}
use Rattle.text_fields.proofs.Pages.{page_as, page_ends, page_fails, page_more, page_spelled, page_starts, page_stops}
use Rattle.text_fields.proofs.Written.{appends_none, appends_then, begins_first, begins_then, writes_then}

-- ---- one call behind another

pub paged_then : (a b c : Option (List ℕ)) (p q r x y : List ℕ) → Paged a b p q x → Paged b c q r y → Paged a c p r (x ++ y)
paged_then a b c p q r x y h now = record {
  front = h.front ++ now.front;
  parts =
      sym (append_assoc p x y) ∙ (ap (λ (t : List ℕ). t ++ y) h.parts ∙ (append_assoc h.front q y ∙ (ap (λ (t : List ℕ). h.front ++ t) now.parts ∙ sym (append_assoc h.front now.front r))));
  sent = appends_then a b c h.front now.front h.sent now.sent;
}

paged_fails : (a b c : Option (List ℕ)) (p q x y : List ℕ) → Paged a b p q x → Begins b c (q ++ y) → Begins a c (p ++ (x ++ y))
paged_fails a b c p q x y h now =
    subst (Begins a c) (sym (sym (append_assoc p x y) ∙ (ap (λ (t : List ℕ). t ++ y) h.parts ∙ append_assoc h.front q y))) (begins_then a b c h.front (q ++ y) h.sent now)

pub spells_then : {T E : Type 0} (a b c : Option (List ℕ)) (p q after x y : List ℕ) (r : Result T E) → Paged a b p q x → Spells b c q after y r → Spells a c p after (x ++ y) r
spells_then a b c p q after x y (Ok _) h now = paged_then a b c p q after x y h now
spells_then a b c p q after x y (Err _) h now = paged_fails a b c p q x y h now

pub spells_fails : {T E : Type 0} (a b : Option (List ℕ)) (p after x y : List ℕ) (r : Result T E) → IsErr r → Begins a b (p ++ x) → Spells a b p after (x ++ y) r
spells_fails a b p after x y r failed now = page_stops a b p after (x ++ y) r failed (subst (Begins a b) (append_assoc p x y) (begins_first a b (p ++ x) y now))

-- ---- a text behind room for it

pub room_fails : {T E : Type 0} (a b : Option (List ℕ)) (page after text : List ℕ) (r : Result T E) → IsErr r → Begins a b (page ++ []) → Spells a b page after text r
room_fails a b page after text r failed now = page_stops a b page after text r failed (page_fails a a b page [] text (page ++ text) (page_starts a page text) now)

pub room_whole : (a b : Option (List ℕ)) (page room after text : List ℕ) → Paged a b page room [] → after ≡ room ++ text → Paged a b page after text
room_whole a b page room after text now spelled =
    page_ends a b page after text
    (page_spelled a b room after text [] (page ++ text) (page_as a b room text (text ++ []) (page ++ text) (sym (append-nil text)) (page_more a a b page room [] text (page ++ text) (page_starts a page text) now)) spelled)

-- ---- a page of one's own, that was empty

pub all_stops : {T E : Type 0} (a b : Option (List ℕ)) (p after x : List ℕ) (r : Result T E) → p ≡ [] → IsErr r → Spells a b p after x r → Writes a b x r
all_stops a b p after x (Ok _) none failed h = absurd (false≢true failed)
all_stops a b p after x (Err _) none failed h = subst (λ (t : List ℕ). Begins a b (t ++ x)) none h

pub all_written : {T E : Type 0} (a b c : Option (List ℕ)) (p q x : List ℕ) (r : Result T E) → p ≡ [] → Paged a b p q x → Writes b c q r → Writes a c x r
all_written a b c p q x r none h now = subst (λ (t : List ℕ). Writes a c t r) (sym h.parts ∙ ap (λ (t : List ℕ). t ++ x) none) (writes_then a b c h.front q r h.sent now)

-- ---- nothing went out, or a beginning

pub spells_nothing : {T E : Type 0} (a : Option (List ℕ)) (p after x : List ℕ) (r : Result T E) → IsErr r → Spells a a p after x r
spells_nothing a p after x r failed = page_stops a a p after x r failed (record { front = []; rest = p ++ x; parts = refl; sent = appends_none a })

pub writes_fails : {T E : Type 0} (a b : Option (List ℕ)) (x : List ℕ) (r : Result T E) → IsErr r → Begins a b x → Writes a b x r
writes_fails a b x (Ok _) failed h = absurd (false≢true failed)
writes_fails a b x (Err _) failed h = h

pub writes_nothing : {T E : Type 0} (a : Option (List ℕ)) (x : List ℕ) (r : Result T E) → IsErr r → Writes a a x r
writes_nothing a x r failed = writes_fails a a x r failed (record { front = []; rest = x; parts = refl; sent = appends_none a })

-- a page goes out that holds what was spelled
pub out_fails : {T E : Type 0} (a b c : Option (List ℕ)) (p q x : List ℕ) (r : Result T E) → p ≡ [] → IsErr r → Paged a b p q x → Begins b c q → Writes a c x r
out_fails a b c p q x r none failed h now =
    writes_fails a c x r failed (subst (Begins a c) (sym h.parts ∙ ap (λ (t : List ℕ). t ++ x) none) (begins_then a b c h.front q h.sent now))
