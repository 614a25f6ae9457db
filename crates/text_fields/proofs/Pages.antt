-- What stands on a page, what went out, and what is still to be spelled.
use Rattle.std.proofs.Common.{◌≡◌, ℕ, ◌+◌, ◌<◌, ◌≤◌, List, [], ◌++◌, length, get_or, drop, Option, Result, Ok, Err, refl, sym, ap, subst, ◌∙◌, append_assoc}
use Rattle.std.proofs.lemmas.Bool.{false≢true}
use Rattle.std.proofs.lemmas.List.{append-nil, drop_more, drop_all}
use Rattle.std.proofs.lemmas.List.Concat.{flat_map-cons}
use Rattle.std.specs.Io.KnownBytes.{Appends}
use Rattle.std.specs.List.{flat_map}
use Rattle.std.specs.Result.{IsErr}
use Rattle.text_fields.specs.Pages.{Paged, Spells}
use Rattle.text_fields.specs.Writing.{Begins, Writes}
use Rattle.text_fields.proofs.Written.{appends_none, appends_then, begins_first, begins_then, writes_then}

pub paged_none : (old : Option (List ℕ)) (page : List ℕ) → Paged old old page page []
paged_none old page = record { front = []; parts = append-nil page; sent = appends_none old }

pub paged_out : (old new : Option (List ℕ)) (page : List ℕ) → Appends old new page → Paged old new page [] []
paged_out old new page h = record { front = page; parts = refl; sent = h }

pub begins_page : (old new : Option (List ℕ)) (page : List ℕ) → Begins old new page → Begins old new (page ++ [])
begins_page old new page h = subst (Begins old new) (sym (append-nil page)) h

-- What went out, then the page, and then what is still to be spelled, are the text.
pub record Spelling (old new : Option (List ℕ)) (page rest text : List ℕ) : Type 0 where
  pub front : List ℕ
  pub parts : text ≡ front ++ (page ++ rest)
  pub sent : Appends old new front

pub page_starts : (a : Option (List ℕ)) (page rest : List ℕ) → Spelling a a page rest (page ++ rest)
page_starts a page rest = record { front = []; parts = refl; sent = appends_none a }

-- the first text, on an empty page
pub page_first : (a : Option (List ℕ)) (page after x rest : List ℕ) → page ≡ [] → after ≡ page ++ x → Spelling a a after rest (x ++ rest)
page_first a page after x rest none is =
    record { front = []; parts = ap (λ (t : List ℕ). t ++ rest) (sym (is ∙ ap (λ (t : List ℕ). t ++ x) none)); sent = appends_none a }

-- a text that was spelled onto the page
pub page_spelled : (a b : Option (List ℕ)) (page after x rest text : List ℕ) → Spelling a b page (x ++ rest) text → after ≡ page ++ x → Spelling a b after rest text
page_spelled a b page after x rest text h is =
    record { front = h.front; parts = h.parts ∙ ap (λ (t : List ℕ). h.front ++ t) (sym (append_assoc page x rest) ∙ ap (λ (t : List ℕ). t ++ rest) (sym is)); sent = h.sent }

-- a text that was spelled onto the page, or went out
pub page_more : (a b c : Option (List ℕ)) (page after x rest text : List ℕ) → Spelling a b page (x ++ rest) text → Paged b c page after x → Spelling a c after rest text
page_more a b c page after x rest text h now =
    record {
      front = h.front ++ now.front;
      parts = h.parts ∙ ap (λ (t : List ℕ). h.front ++ t) (sym (append_assoc page x rest) ∙ ap (λ (t : List ℕ). t ++ rest) now.parts ∙ append_assoc now.front after rest) ∙ sym (append_assoc h.front now.front (after ++ rest));
      sent = appends_then a b c h.front now.front h.sent now.sent;
    }

pub page_fails : (a b c : Option (List ℕ)) (page x rest text : List ℕ) → Spelling a b page (x ++ rest) text → Begins b c (page ++ x) → Begins a c text
page_fails a b c page x rest text h now =
    subst (Begins a c) (sym (h.parts ∙ ap (λ (t : List ℕ). h.front ++ t) (sym (append_assoc page x rest)))) (begins_then a b c h.front ((page ++ x) ++ rest) h.sent (begins_first b c (page ++ x) rest now))

pub page_ends : (a b : Option (List ℕ)) (before page text : List ℕ) → Spelling a b page [] (before ++ text) → Paged a b before page text
page_ends a b before page text h = record { front = h.front; parts = h.parts ∙ ap (λ (t : List ℕ). h.front ++ t) (append-nil page); sent = h.sent }

-- all goes out
pub page_out : {T E : Type 0} (a b c : Option (List ℕ)) (page text : List ℕ) (r : Result T E) → Spelling a b page [] text → Writes b c page r → Writes a c text r
page_out a b c page text r h now = subst (λ (t : List ℕ). Writes a c t r) (sym (h.parts ∙ ap (λ (t : List ℕ). h.front ++ t) (append-nil page))) (writes_then a b c h.front page r h.sent now)

-- what is still to be spelled, told in another way
pub page_as : (a b : Option (List ℕ)) (page x y text : List ℕ) → x ≡ y → Spelling a b page x text → Spelling a b page y text
page_as a b page x y text e h = subst (λ (t : List ℕ). Spelling a b page t text) e h

-- the next item of a list
pub item_next : {X : Type 0} (f : X → List ℕ) (xs : List X) (i : ℕ) (d : X) → i < length xs → flat_map f (drop i xs) ≡ f (get_or xs i d) ++ flat_map f (drop (i + 1) xs)
item_next f xs i d lt = ap (flat_map f) (drop_more xs i d lt) ∙ flat_map-cons f (get_or xs i d) (drop (i + 1) xs)

pub item_none : {X : Type 0} (f : X → List ℕ) (xs : List X) (i : ℕ) → length xs ≤ i → flat_map f (drop i xs) ≡ []
item_none f xs i le = ap (flat_map f) (drop_all i xs le)

-- a fault that is passed on
pub page_stops : {T E : Type 0} (a b : Option (List ℕ)) (before after x : List ℕ) (r : Result T E) → IsErr r → Begins a b (before ++ x) → Spells a b before after x r
page_stops a b before after x (Ok _) h p = absurd (false≢true h)
page_stops a b before after x (Err _) h p = p
