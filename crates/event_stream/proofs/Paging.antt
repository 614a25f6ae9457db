-- What several calls spell onto one page, one after another.
use Rattle.std.proofs.Common.{◌≡◌, ℕ, List, [], ◌++◌, Option, Result, Ok, Err, sym, ap, subst, ◌∙◌, append_assoc}
use Rattle.std.proofs.lemmas.Bool.{false≢true}
use Rattle.std.proofs.lemmas.List.{append-nil}
use Rattle.std.specs.Io.KnownBytes.{Appends}
use Rattle.text_fields.specs.Pages.{Paged, Spells}
use Rattle.text_fields.specs.Writing.{Begins, Writes}
use Rattle.std.specs.Result.{IsErr}
use Rattle.text_fields.proofs.Pages.{Spelling, page_as, page_ends, page_fails, page_more, page_spelled, page_starts, page_stops}
use Rattle.text_fields.proofs.Written.{appends_then, begins_first, begins_then, writes_then}

pub paged_then : (a b c : Option (List ℕ)) (p q r x y : List ℕ) → Paged a b p q x → Paged b c q r y → Paged a c p r (x ++ y)
paged_then a b c p q r x y h now = record {
  front = h.front ++ now.front;
  parts =
      sym (append_assoc p x y) ∙ (ap (λ (t : List ℕ). t ++ y) h.parts ∙ (append_assoc h.front q y ∙ (ap (λ (t : List ℕ). h.front ++ t) now.parts ∙ sym (append_assoc h.front now.front r))));
  sent = appends_then a b c h.front now.front h.sent now.sent;
}

-- a fault behind what was spelled
pub paged_fails : (a b c : Option (List ℕ)) (p q x y : List ℕ) → Paged a b p q x → Begins b c (q ++ y) → Begins a c (p ++ (x ++ y))
paged_fails a b c p q x y h now =
    subst (Begins a c) (sym (sym (append_assoc p x y) ∙ (ap (λ (t : List ℕ). t ++ y) h.parts ∙ append_assoc h.front q y))) (begins_then a b c h.front (q ++ y) h.sent now)

-- what goes out behind what was spelled
pub paged_writes : {T E : Type 0} (a b c : Option (List ℕ)) (p q x y : List ℕ) (r : Result T E) → Paged a b p q x → Writes b c (q ++ y) r → Writes a c (p ++ (x ++ y)) r
paged_writes a b c p q x y r h now =
    subst (λ (t : List ℕ). Writes a c t r) (sym (sym (append_assoc p x y) ∙ (ap (λ (t : List ℕ). t ++ y) h.parts ∙ append_assoc h.front q y))) (writes_then a b c h.front (q ++ y) r h.sent now)

-- the page goes out
pub paged_out : (a b c : Option (List ℕ)) (p q x : List ℕ) → Paged a b p q x → Appends b c q → Appends a c (p ++ x)
paged_out a b c p q x h now = subst (Appends a c) (sym h.parts) (appends_then a b c h.front q h.sent now)

pub paged_writes_all : {T E : Type 0} (a b c : Option (List ℕ)) (p q x : List ℕ) (r : Result T E) → Paged a b p q x → Writes b c q r → Writes a c (p ++ x) r
paged_writes_all a b c p q x r h now = subst (λ (t : List ℕ). Writes a c t r) (sym h.parts) (writes_then a b c h.front q r h.sent now)

-- a text on the page, and then a call that spells
pub spells_behind : {T E : Type 0} (a b : Option (List ℕ)) (p q after x y : List ℕ) (r : Result T E) → q ≡ p ++ x → Spells a b q after y r → Spells a b p after (x ++ y) r
spells_behind a b p q after x y (Ok _) is h = record { front = h.front; parts = sym (append_assoc p x y) ∙ (ap (λ (t : List ℕ). t ++ y) (sym is) ∙ h.parts); sent = h.sent }
spells_behind a b p q after x y (Err _) is h = subst (Begins a b) (ap (λ (t : List ℕ). t ++ y) is ∙ append_assoc p x y) h

-- a last call
pub page_last : {T E : Type 0} (a b c : Option (List ℕ)) (before page after x text : List ℕ) (r : Result T E) → Spelling a b page x (before ++ text) → Spells b c page after x r → Spells a c before after text r
page_last a b c before page after x text (Ok _) h now =
    page_ends a c before after text (page_more a b c page after x [] (before ++ text) (page_as a b page x (x ++ []) (before ++ text) (sym (append-nil x)) h) now)
page_last a b c before page after x text (Err _) h now =
    page_fails a b c page x [] (before ++ text) (page_as a b page x (x ++ []) (before ++ text) (sym (append-nil x)) h) now

-- ---- a call that first makes room

pub room_fails : {T E : Type 0} (a b : Option (List ℕ)) (page after text : List ℕ) (r : Result T E) → IsErr r → Begins a b (page ++ []) → Spells a b page after text r
room_fails a b page after text r failed now = page_stops a b page after text r failed (page_fails a a b page [] text (page ++ text) (page_starts a page text) now)

-- with the text in parts, the first of which is spelled and the next handed to a call
pub room_spelled : (a b : Option (List ℕ)) (page room after x rest text : List ℕ) → text ≡ x ++ rest → Paged a b page room [] → after ≡ room ++ x → Spelling a b after rest (page ++ text)
room_spelled a b page room after x rest text is now spelled =
    page_spelled a b room after x rest (page ++ text) (page_as a b room text (x ++ rest) (page ++ text) is (page_more a a b page room [] text (page ++ text) (page_starts a page text) now)) spelled

-- with the whole text spelled
pub room_whole : (a b : Option (List ℕ)) (page room after text : List ℕ) → Paged a b page room [] → after ≡ room ++ text → Paged a b page after text
room_whole a b page room after text now spelled = page_ends a b page after text (room_spelled a b page room after text [] text (sym (append-nil text)) now spelled)

-- ---- one call behind another

pub spells_then : {T E : Type 0} (a b c : Option (List ℕ)) (p q after x y : List ℕ) (r : Result T E) → Paged a b p q x → Spells b c q after y r → Spells a c p after (x ++ y) r
spells_then a b c p q after x y (Ok _) h now = paged_then a b c p q after x y h now
spells_then a b c p q after x y (Err _) h now = paged_fails a b c p q x y h now

pub spells_fails : {T E : Type 0} (a b : Option (List ℕ)) (p after x y : List ℕ) (r : Result T E) → IsErr r → Begins a b (p ++ x) → Spells a b p after (x ++ y) r
spells_fails a b p after x y r failed now = page_stops a b p after (x ++ y) r failed (subst (Begins a b) (append_assoc p x y) (begins_first a b (p ++ x) y now))

-- ---- a page of one's own

pub stops_writing : {T E : Type 0} (a b : Option (List ℕ)) (p after x : List ℕ) (r : Result T E) → IsErr r → Spells a b p after x r → Writes a b (p ++ x) r
stops_writing a b p after x (Ok _) failed h = absurd (false≢true failed)
stops_writing a b p after x (Err _) failed h = h

-- that was empty
pub blank_written : {T E : Type 0} (a b : Option (List ℕ)) (p x : List ℕ) (r : Result T E) → p ≡ [] → Writes a b (p ++ x) r → Writes a b x r
blank_written a b p x r none h = subst (λ (t : List ℕ). Writes a b (t ++ x) r) none h
