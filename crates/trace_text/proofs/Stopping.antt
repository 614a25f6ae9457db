-- Where readers of lines stop, and that they read the lines before again where another line follows that is alike.
use Rattle.std.proofs.Common.{◌≡◌, ℕ, zero, suc, ◌+◌, ◌-◌, ◌<◌, ◌≤◌, false, List, [], ◌∷◌, ◌++◌, length, Option, Some, None, refl, sym, ap, subst, ◌∙◌, append_assoc, arith, inl, inr}
use Rattle.std.specs.Prelude.{replicate}
use Rattle.std.specs.List.{flat_map, AllByRecursion}
use Rattle.std.proofs.lemmas.List.{length-append, append-nil, length-replicate, flat_map_more}
use Rattle.std.proofs.lemmas.Option.{some_pair_parts}
use Rattle.std.proofs.lemmas.List.Concat.{flat_map-cons}
use Rattle.text_fields.specs.Fields.{numbered}
use Rattle.text_fields.specs.Reading.{◌>>=◌, after, section_at, numbered_at}
use Rattle.text_fields.proofs.Laws.{Reads, bind_some, some_is, after_takes, after_again, behind_takes, section_takes, section_again}
use Rattle.text_fields.proofs.Loops.{Sections, fronted, fronted_none, section_fails, after_shortens}
use Rattle.text_fields.proofs.Numbered.{Numbered, numbered_takes, numbered_starts, numbered_more, numbered_fails}
use Rattle.trace_text.specs.Refusals.{has_line_feed}
use Rattle.trace_text.specs.TraceRefusals.{AreLines}
use Rattle.trace_text.specs.TraceStops.{AreAlike, AreAll, StopsIn}
use Rattle.trace_text.proofs.FirstLines.{IsLine, alike_behind, after_alike, after_alike_none, line_alike, line_behind, lines_none, lines_append, one_line}

-- What is read is spelled by whole lines, and is read again where an alike line follows.
pub record Keeps {A : Type 0} (s : A → List ℕ) (f : A → Type 0) (r : List ℕ → Option (A × List ℕ)) : Type 0 where
  pub takes : (bytes : List ℕ) (x : A) (rest : List ℕ) → r bytes ≡ Some (x, rest) → (bytes ≡ s x ++ rest) × f x
  pub keeps : (bytes : List ℕ) (x : A) (rest other : List ℕ) → r bytes ≡ Some (x, rest) → AreAlike rest other → r (s x ++ other) ≡ Some (x, other)
  pub lines : (x : A) → f x → AreLines (s x)

pub line_keeps : {A : Type 0} {s : A → List ℕ} {f : A → Type 0} {r : List ℕ → Option (A × List ℕ)} → Reads s f r → ((x : A) → f x → IsLine (s x)) → Keeps s f r
line_keeps law line = record {
  takes = law.takes;
  keeps = λ bytes x rest other e a. law.again x other (law.takes bytes x rest e).1;
  lines = λ x h. one_line _ (line x h);
}

-- no value's line stands there
pub line_stops : {A : Type 0} {s : A → List ℕ} {f : A → Type 0} {r : List ℕ → Option (A × List ℕ)} → Reads s f r → ((x : A) → f x → IsLine (s x)) → (d : A) → f d → (rest : List ℕ) → r rest ≡ None → StopsIn s f r rest (length rest)
line_stops {A} {s} {f} {r} law line d fits rest none = record {
  before = [];
  rest = rest;
  parts = refl;
  lines = lines_none;
  starts = (d, s d, fits, refl);
  never = λ other a. line_alike law line rest other none a;
  long = refl;
}

-- ---- one reader after the other

pub first_stops : {A B C D : Type 0} {sa : A → List ℕ} {fa : A → Type 0} {ra : List ℕ → Option (C × List ℕ)} (sb : B → List ℕ) (fb : B → Type 0) (next : C × List ℕ → Option D) (d : B) → fb d → (bytes : List ℕ) (left : ℕ)
    → StopsIn sa fa ra bytes left → StopsIn (λ (p : A × B). sa p.0 ++ sb p.1) (λ p. fa p.0 × fb p.1) (λ b. ra b >>= next) bytes left
first_stops {A} {B} {C} {D} {sa} {fa} {ra} sb fb next d fits bytes left w =
    let x = w.starts in
    record {
      before = w.before;
      rest = w.rest;
      parts = w.parts;
      lines = w.lines;
      starts = ((x.0, d), x.1 ++ sb d, (x.2, fits), sym (append_assoc w.before x.1 (sb d)) ∙ ap (λ t. t ++ sb d) x.3);
      never = λ other a. rw (w.never other a) refl;
      long = w.long;
    }

pub last_stops : {A C D : Type 0} {sa : A → List ℕ} {fa : A → Type 0} {ra : List ℕ → Option (C × List ℕ)} (next : C × List ℕ → Option D) (bytes : List ℕ) (left : ℕ) → StopsIn sa fa ra bytes left → StopsIn sa fa (λ b. ra b >>= next) bytes left
last_stops {A} {C} {D} {sa} {fa} {ra} next bytes left w =
    record { before = w.before; rest = w.rest; parts = w.parts; lines = w.lines; starts = w.starts; never = λ other a. rw (w.never other a) refl; long = w.long }

pub then_stops : {A B D : Type 0} {sa : A → List ℕ} {fa : A → Type 0} {ra : List ℕ → Option (A × List ℕ)} {sb : B → List ℕ} {fb : B → Type 0} (next : A × List ℕ → Option D) → Keeps sa fa ra → (bytes : List ℕ) (x : A) (rest : List ℕ) (left : ℕ) → ra bytes ≡ Some (x, rest)
    → StopsIn sb fb (λ b. next (x, b)) rest left → StopsIn (λ (p : A × B). sa p.0 ++ sb p.1) (λ p. fa p.0 × fb p.1) (λ b. ra b >>= next) bytes left
then_stops {A} {B} {D} {sa} {fa} {ra} {sb} {fb} next law bytes x rest left read w =
    let t = law.takes bytes x rest read in
    let y = w.starts in
    record {
      before = sa x ++ w.before;
      rest = w.rest;
      parts = t.0 ∙ ap (λ u. sa x ++ u) w.parts ∙ sym (append_assoc (sa x) w.before w.rest);
      lines = lines_append (sa x) w.before (law.lines x t.1) w.lines;
      starts = ((x, y.0), y.1, (t.1, y.2), append_assoc (sa x) w.before y.1 ∙ ap (λ u. sa x ++ u) y.3);
      never = λ other a.
          let alike : AreAlike rest (w.before ++ other) = subst (λ u. AreAlike u (w.before ++ other)) (sym w.parts) (alike_behind w.before w.rest other a) in
          let again : ra ((sa x ++ w.before) ++ other) ≡ Some (x, w.before ++ other) = ap ra (append_assoc (sa x) w.before other) ∙ law.keeps bytes x rest (w.before ++ other) read alike in
          rw again (w.never other a);
      long = w.long;
    }

-- ---- sections

flat_lines : {A : Type 0} (g : A → List ℕ) (f : A → Type 0) → ((x : A) → f x → AreLines (g x)) → (xs : List A) → AllByRecursion f xs → AreLines (flat_map g xs)
flat_lines g f law [] h = lines_none
flat_lines g f law (x ∷ xs) h = subst AreLines (sym (flat_map-cons g x xs)) (lines_append (g x) (flat_map g xs) (law x h.0) (flat_lines g f law xs h.1))

fronted_cons : {A : Type 0} (x : A) (xs : List A) (read : Option (List A × List ℕ)) → (fronted xs read >>= λ ys. Some (x ∷ ys.0, ys.1)) ≡ fronted (x ∷ xs) read
fronted_cons x xs (Some y) = refl
fronted_cons x xs None = refl

-- lines that fit are read, and then what follows them
front_read : {A : Type 0} {s : A → List ℕ} {f : A → Type 0} {r : List ℕ → Option (A × List ℕ)} (lead : List ℕ) → Reads s f r → 0 < length lead → (n : ℕ) (front : List A) (other : List ℕ) → AllByRecursion f front
    → length (flat_map (λ x. lead ++ s x) front ++ other) ≤ n → (m : ℕ) × (length other ≤ m) × (section_at lead r n (flat_map (λ x. lead ++ s x) front ++ other) ≡ fronted front (section_at lead r m other))
unfolding section_at
front_read {A} {s} {f} {r} lead law some n [] other fits le = (n, le, sym (fronted_none (section_at lead r n other)))
front_read {A} {s} {f} {r} lead law some zero (x ∷ xs) other fits le =
    absurd (omega (arith, some, le, ap length (flat_map-cons (λ x. lead ++ s x) x xs), length-append (flat_map (λ x. lead ++ s x) (x ∷ xs)) other, length-append (lead ++ s x) (flat_map (λ x. lead ++ s x) xs), length-append lead (s x)))
front_read {A} {s} {f} {r} lead law some (suc n) (x ∷ xs) other fits le =
    let more : List ℕ = flat_map (λ x. lead ++ s x) xs in
    let parts : flat_map (λ x. lead ++ s x) (x ∷ xs) ++ other ≡ lead ++ (s x ++ (more ++ other)) =
    ap (λ t. t ++ other) (flat_map-cons (λ x. lead ++ s x) x xs) ∙ append_assoc (lead ++ s x) more other ∙ append_assoc lead (s x) (more ++ other) in
    let len : length (flat_map (λ x. lead ++ s x) (x ∷ xs) ++ other) ≡ length lead + (length (s x) + length (more ++ other)) = ap length parts ∙ length-append lead (s x ++ (more ++ other)) ∙ ap (λ k. length lead + k) (length-append (s x) (more ++ other)) in
    let later = front_read lead law some n xs other fits.1 (omega (arith, some, le, len)) in
    let one : section_at lead r (suc n) (lead ++ (s x ++ (more ++ other))) ≡ (section_at lead r n (more ++ other) >>= λ ys. Some (x ∷ ys.0, ys.1)) = rw (after_again lead (s x ++ (more ++ other)), law.again x (more ++ other) fits.0) refl in
    (later.0, later.1, ap (section_at lead r (suc n)) parts ∙ one ∙ ap (λ q. q >>= λ ys. Some (x ∷ ys.0, ys.1)) later.2 ∙ fronted_cons x xs (section_at lead r later.0 other))

pub section_reached : {A : Type 0} {s : A → List ℕ} {f : A → Type 0} {r : List ℕ → Option (A × List ℕ)} (lead : List ℕ) → Reads s f r → 0 < length lead → (front : List A) (other : List ℕ) → AllByRecursion f front
    → Sections lead r front other (section_at lead r (length (flat_map (λ x. lead ++ s x) front ++ other)) (flat_map (λ x. lead ++ s x) front ++ other))
section_reached {A} {s} {f} {r} lead law some front other fits =
    let w = front_read lead law some (length (flat_map (λ x. lead ++ s x) front ++ other)) front other fits (omega arith) in
    record { fuel = w.0; enough = w.1; same = sym w.2 }

no_lead : (lead : List ℕ) → 0 < length lead → (rest : List ℕ) → length rest ≤ 0 → after lead rest ≡ None
no_lead [] some rest le = absurd (omega arith)
no_lead (t ∷ lead) some [] le = refl
no_lead (t ∷ lead) some (b ∷ rest) le = absurd (omega arith)

-- a section ends where its lead doesn't stand
section_off : {A : Type 0} {s : A → List ℕ} {f : A → Type 0} {r : List ℕ → Option (A × List ℕ)} (lead : List ℕ) → Reads s f r → 0 < length lead → (n : ℕ) (bytes : List ℕ) (xs : List A) (rest : List ℕ) → length bytes ≤ n → section_at lead r n bytes ≡ Some (xs, rest) → after lead rest ≡ None
unfolding section_at
section_off {A} lead law some zero bytes xs rest le e =
    let made : List A × List ℕ = ([], bytes) in
    subst (λ (y : List A × List ℕ). after lead y.1 ≡ None) (some_is made (xs, rest) e) (no_lead lead some bytes le)
section_off {A} {s} {f} {r} lead law some (suc n) bytes xs rest le e =
    let made : List A × List ℕ = ([], bytes) in
    elim (behind_takes (after lead bytes) (λ t. r t >>= λ x. section_at lead r n x.1 >>= λ ys. Some (x.0 ∷ ys.0, ys.1)) (Some ([], bytes)) (xs, rest) e) [
      | inl on ↦
          let p = bind_some (r on.0) (λ x. section_at lead r n x.1 >>= λ ys. Some (x.0 ∷ ys.0, ys.1)) (xs, rest) on.2 in
          let q = bind_some (section_at lead r n p.0.1) (λ ys. Some (p.0.0 ∷ ys.0, ys.1)) (xs, rest) p.2 in
          let shorter : length p.0.1 ≤ n = omega (arith, le, some, after_shortens lead bytes on.0 on.1, ap length (law.takes on.0 p.0.0 p.0.1 p.1).0, length-append (s p.0.0) p.0.1) in
          let off = section_off lead law some n p.0.1 q.0.0 q.0.1 shorter q.1 in
          subst (λ (y : List A × List ℕ). after lead y.1 ≡ None) (some_is (p.0.0 ∷ q.0.0, q.0.1) (xs, rest) q.2) off
      | inr off ↦ subst (λ (y : List A × List ℕ). after lead y.1 ≡ None) (some_is made (xs, rest) off.1) off.0
    ]

abbrev pub Line : {A : Type 0} → (A → List ℕ) → (A → Type 0) → Type 0
Line {A} s f = (x : A) → f x → IsLine (s x)

pub section_lines : {A : Type 0} {s : A → List ℕ} {f : A → Type 0} (lead : List ℕ) → has_line_feed lead ≡ false → Line s f → (xs : List A) → AllByRecursion f xs → AreLines (flat_map (λ x. lead ++ s x) xs)
section_lines {A} {s} {f} lead plain line xs fits = flat_lines (λ x. lead ++ s x) f (λ x h. one_line _ (line_behind lead (s x) plain (line x h))) xs fits

pub section_keeps : {A : Type 0} {s : A → List ℕ} {f : A → Type 0} {r : List ℕ → Option (A × List ℕ)} (lead : List ℕ) → has_line_feed lead ≡ false → 0 < length lead → Reads s f r → Line s f → Keeps (flat_map (λ x. lead ++ s x)) (AllByRecursion f) (λ b. section_at lead r (length b) b)
section_keeps {A} {s} {f} {r} lead plain some law line = record {
  takes = λ bytes xs rest e. section_takes lead law (length bytes) bytes xs rest e;
  keeps = λ bytes xs rest other e a.
      let t = section_takes lead law (length bytes) bytes xs rest e in
      let off = after_alike_none lead rest other plain a (section_off lead law some (length bytes) bytes xs rest (omega arith) e) in
      section_again lead law some (length (flat_map (λ x. lead ++ s x) xs ++ other)) xs other t.1 off (omega (arith, length-append (flat_map (λ x. lead ++ s x) xs) other));
  lines = section_lines lead plain line;
}

-- the lines that were read before the rest
pub record Passed {A : Type 0} (s : A → List ℕ) (f : A → Type 0) (front : List A) (rest bytes : List ℕ) : Type 0 where
  pub parts : bytes ≡ flat_map s front ++ rest
  pub each : AllByRecursion f front

pub passed_none : {A : Type 0} (s : A → List ℕ) (f : A → Type 0) (bytes : List ℕ) → Passed s f [] bytes bytes
passed_none s f bytes = record { parts = refl; each = tt }

each_pushed : {A : Type 0} (f : A → Type 0) (xs ys : List A) → AllByRecursion f xs → AllByRecursion f ys → AllByRecursion f (xs ++ ys)
each_pushed f [] ys h g = g
each_pushed f (x ∷ xs) ys h g = (h.0, each_pushed f xs ys h.1 g)

pub passed_more : {A : Type 0} {s : A → List ℕ} {f : A → Type 0} {r : List ℕ → Option (A × List ℕ)} (lead : List ℕ) → Reads s f r → (front : List A) (rest fields later bytes : List ℕ) (x : A) → Some fields ≡ after lead rest → Some (x, later) ≡ r fields
    → Passed (λ x. lead ++ s x) f front rest bytes → Passed (λ x. lead ++ s x) f (front ++ x ∷ []) later bytes
passed_more {A} {s} {f} {r} lead law front rest fields later bytes x led read h =
    let t = law.takes fields x later (sym read) in
    let one : rest ≡ (lead ++ s x) ++ later = after_takes lead rest fields (sym led) ∙ ap (λ u. lead ++ u) t.0 ∙ sym (append_assoc lead (s x) later) in
    record {
      parts = h.parts ∙ ap (λ u. flat_map (λ x. lead ++ s x) front ++ u) one ∙ sym (append_assoc (flat_map (λ x. lead ++ s x) front) (lead ++ s x) later) ∙ ap (λ u. u ++ later) (flat_map_more (λ x. lead ++ s x) [] front x);
      each = each_pushed f front (x ∷ []) h.each (t.1, tt);
    }

pub section_stops : {A : Type 0} {s : A → List ℕ} {f : A → Type 0} {r : List ℕ → Option (A × List ℕ)} (lead : List ℕ) → has_line_feed lead ≡ false → 0 < length lead → Reads s f r → Line s f → (front : List A) (rest fields bytes : List ℕ) → Some fields ≡ after lead rest → None ≡ r fields
    → Passed (λ x. lead ++ s x) f front rest bytes → StopsIn (flat_map (λ x. lead ++ s x)) (AllByRecursion f) (λ b. section_at lead r (length b) b) bytes (length rest)
section_stops {A} {s} {f} {r} lead plain some law line front rest fields bytes led none h =
    let front_text : List ℕ = flat_map (λ x. lead ++ s x) front in
    record {
      before = front_text;
      rest = rest;
      parts = h.parts;
      lines = section_lines lead plain line front h.each;
      starts = (front, [], h.each, append-nil front_text);
      never = λ other a.
          let later = after_alike lead rest other fields plain a (sym led) in
          section_fails lead r front other later.0 _ some (sym later.1) (sym (line_alike law line fields later.0 (sym none) later.2)) (section_reached lead law some front other h.each);
      long = refl;
    }

-- ---- items by their numbers

numbered_pushed : {A : Type 0} (s : ℕ → A → List ℕ) (k h : ℕ) (front : List A) (x : A) (ys : List A) → k + length front ≡ h → numbered s k (front ++ x ∷ ys) ≡ numbered s k front ++ (s h x ++ numbered s (suc h) ys)
numbered_pushed s k h [] x ys e = let same : k ≡ h = omega arith in rw same refl
numbered_pushed s k h (y ∷ front) x ys e = ap (λ t. s k y ++ t) (numbered_pushed s (suc k) h front x ys (omega arith)) ∙ sym (append_assoc (s k y) (numbered s (suc k) front) (s h x ++ numbered s (suc h) ys))

-- the items that were read before the rest, and that they are read again where an alike line follows
pub record Counted {A : Type 0} (s : ℕ → A → List ℕ) (f : A → Type 0) (item : ℕ → List ℕ → Option (A × List ℕ)) (count h : ℕ) (front : List A) (rest bytes : List ℕ) : Type 0 where
  pub parts : bytes ≡ numbered s 0 front ++ rest
  pub len : length front ≡ h
  pub each : AllByRecursion f front
  pub kept : (other : List ℕ) → AreAlike rest other → Numbered item count h front other (numbered_at item count 0 (numbered s 0 front ++ other))

pub counted_none : {A : Type 0} (s : ℕ → A → List ℕ) (f : A → Type 0) (item : ℕ → List ℕ → Option (A × List ℕ)) (count : ℕ) (bytes : List ℕ) → Counted s f item count 0 [] bytes bytes
counted_none s f item count bytes = record { parts = refl; len = refl; each = tt; kept = λ other a. numbered_starts item count other }

pub counted_more : {A : Type 0} (s : ℕ → A → List ℕ) (f : A → Type 0) (item : ℕ → List ℕ → Option (A × List ℕ)) (count h : ℕ) (front : List A) (rest later bytes : List ℕ) (x : A) → Keeps (s h) f (item h) → h < count → item h rest ≡ Some (x, later)
    → Counted s f item count h front rest bytes → Counted s f item count (h + 1) (front ++ x ∷ []) later bytes
counted_more {A} s f item count h front rest later bytes x law lt read w =
    let t = law.takes rest x later read in
    let pushed : numbered s 0 (front ++ x ∷ []) ≡ numbered s 0 front ++ s h x = numbered_pushed s 0 h front x [] (omega (arith, w.len)) ∙ ap (λ u. numbered s 0 front ++ u) (append-nil (s h x)) in
    let joined : (other : List ℕ) → numbered s 0 (front ++ x ∷ []) ++ other ≡ numbered s 0 front ++ (s h x ++ other) = λ other. ap (λ u. u ++ other) pushed ∙ append_assoc (numbered s 0 front) (s h x) other in
    record {
      parts = w.parts ∙ ap (λ u. numbered s 0 front ++ u) t.0 ∙ sym (joined later);
      len = length-append front (x ∷ []) ∙ ap (λ n. n + 1) w.len;
      each = each_pushed f front (x ∷ []) w.each (t.1, tt);
      kept = λ other a.
          let alike : AreAlike rest (s h x ++ other) = subst (λ u. AreAlike u (s h x ++ other)) (sym t.0) (alike_behind (s h x) later other a) in
          subst (λ u. Numbered item count (h + 1) (front ++ x ∷ []) other (numbered_at item count 0 u)) (sym (joined other))
          (numbered_more item count h front (s h x ++ other) other x _ lt (law.keeps rest x later other read a) (w.kept (s h x ++ other) alike));
    }

all_same : {A : Type 0} (f : A → Type 0) (n : ℕ) (d : A) → f d → AllByRecursion f (replicate n d)
all_same f zero d fits = tt
all_same f (suc n) d fits = (fits, all_same f n d fits)

pub same_fits : {A : Type 0} (f : A → Type 0) (n : ℕ) (d : A) → f d → AreAll f n (replicate n d)
same_fits f n d fits = (length-replicate n d, all_same f n d fits)

pub numbered_lines : {A : Type 0} (s : ℕ → A → List ℕ) (f : A → Type 0) (top : ℕ) → ((h : ℕ) (x : A) → h < top → f x → AreLines (s h x)) → (h : ℕ) (xs : List A) → h + length xs ≤ top → AllByRecursion f xs → AreLines (numbered s h xs)
numbered_lines s f top law h [] le fits = lines_none
numbered_lines s f top law h (x ∷ xs) le fits = lines_append (s h x) (numbered s (suc h) xs) (law h x (omega arith) fits.0) (numbered_lines s f top law (suc h) xs (omega arith) fits.1)

pub counted_stops : {A : Type 0} (s : ℕ → A → List ℕ) (f : A → Type 0) (item : ℕ → List ℕ → Option (A × List ℕ)) (top count h : ℕ) (d : A) (front : List A) (rest bytes : List ℕ) (left : ℕ) → ((h : ℕ) (x : A) → h < top → f x → AreLines (s h x)) → f d → h < count → count ≤ top → StopsIn (s h) f (item h) rest left
    → Counted s f item count h front rest bytes → StopsIn (numbered s 0) (AreAll f count) (numbered_at item count 0) bytes left
counted_stops {A} s f item top count h d front rest bytes left lines fits lt small stop w =
    let x = stop.starts in
    let others : List A = replicate (count - (h + 1)) d in
    let tail : List ℕ = numbered s (suc h) others in
    let front_text : List ℕ = numbered s 0 front in
    let len : length (front ++ x.0 ∷ others) ≡ count = length-append front (x.0 ∷ others) ∙ omega (arith, w.len, length-replicate (count - (h + 1)) d) in
    let text : (front_text ++ stop.before) ++ (x.1 ++ tail) ≡ numbered s 0 (front ++ x.0 ∷ others) =
    append_assoc front_text stop.before (x.1 ++ tail) ∙ ap (λ u. front_text ++ u) (sym (append_assoc stop.before x.1 tail) ∙ ap (λ u. u ++ tail) x.3) ∙ sym (numbered_pushed s 0 h front x.0 others (omega (arith, w.len))) in
    record {
      before = front_text ++ stop.before;
      rest = stop.rest;
      parts = w.parts ∙ ap (λ u. front_text ++ u) stop.parts ∙ sym (append_assoc front_text stop.before stop.rest);
      lines = lines_append front_text stop.before (numbered_lines s f top lines 0 front (omega (arith, w.len)) w.each) stop.lines;
      starts = (front ++ x.0 ∷ others, x.1 ++ tail, (len, each_pushed f front (x.0 ∷ others) w.each (x.2, all_same f (count - (h + 1)) d fits)), text);
      never = λ other a.
          let alike : AreAlike rest (stop.before ++ other) = subst (λ u. AreAlike u (stop.before ++ other)) (sym stop.parts) (alike_behind stop.before stop.rest other a) in
          ap (numbered_at item count 0) (append_assoc front_text stop.before other) ∙ numbered_fails item count h front (stop.before ++ other) _ lt (stop.never other a) (w.kept (stop.before ++ other) alike);
      long = stop.long;
    }

abbrev Takes : {A : Type 0} → (A → List ℕ) → (A → Type 0) → (List ℕ → Option (A × List ℕ)) → Type 0
Takes {A} s f r = (bytes : List ℕ) (x : A) (rest : List ℕ) → r bytes ≡ Some (x, rest) → (bytes ≡ s x ++ rest) × f x

numbered_kept : {A : Type 0} (s : ℕ → A → List ℕ) (f : A → Type 0) (item : ℕ → List ℕ → Option (A × List ℕ)) (top : ℕ) → ((h : ℕ) → Takes (s h) f (item h)) → ((h : ℕ) → h < top → Keeps (s h) f (item h)) → (n h : ℕ) → h + n ≤ top → (bytes : List ℕ) (xs : List A) (rest other : List ℕ) → numbered_at item n h bytes ≡ Some (xs, rest)
    → AreAlike rest other → numbered_at item n h (numbered s h xs ++ other) ≡ Some (xs, other)
unfolding numbered_at
numbered_kept {A} s f item top takes law zero h le bytes xs rest other e a =
    let parts = some_pair_parts [] xs bytes rest e in
    rw (← parts.0) refl
numbered_kept {A} s f item top takes law (suc n) h le bytes xs rest other e a =
    let p = bind_some (item h bytes) (λ x. numbered_at item n (suc h) x.1 >>= λ ys. Some (x.0 ∷ ys.0, ys.1)) (xs, rest) e in
    let q = bind_some (numbered_at item n (suc h) p.0.1) (λ ys. Some (p.0.0 ∷ ys.0, ys.1)) (xs, rest) p.2 in
    let parts = some_pair_parts (p.0.0 ∷ q.0.0) xs q.0.1 rest q.2 in
    let here : AreAlike q.0.1 other = subst (λ u. AreAlike u other) (sym parts.1) a in
    let others : List ℕ = numbered s (suc h) q.0.0 in
    let t = numbered_takes s f item takes n (suc h) p.0.1 q.0.0 q.0.1 q.1 in
    let alike : AreAlike p.0.1 (others ++ other) = subst (λ u. AreAlike u (others ++ other)) (sym t.0) (alike_behind others q.0.1 other here) in
    let one = (law h (omega arith)).keeps bytes p.0.0 p.0.1 (others ++ other) p.1 alike in
    let more = numbered_kept s f item top takes law n (suc h) (omega arith) p.0.1 q.0.0 q.0.1 other q.1 here in
    subst (λ ys. numbered_at item (suc n) h (numbered s h ys ++ other) ≡ Some (ys, other)) parts.0 (ap (numbered_at item (suc n) h) (append_assoc (s h p.0.0) others other) ∙ rw (one, more) refl)

pub numbered_keeps : {A : Type 0} (s : ℕ → A → List ℕ) (f : A → Type 0) (item : ℕ → List ℕ → Option (A × List ℕ)) (top : ℕ) → ((h : ℕ) → Takes (s h) f (item h)) → ((h : ℕ) → h < top → Keeps (s h) f (item h)) → (n : ℕ) → n ≤ top → Keeps (numbered s 0) (AreAll f n) (numbered_at item n 0)
numbered_keeps {A} s f item top takes law n le = record {
  takes = λ bytes xs rest e. numbered_takes s f item takes n 0 bytes xs rest e;
  keeps = λ bytes xs rest other e a. numbered_kept s f item top takes law n 0 (omega arith) bytes xs rest other e a;
  lines = λ xs h. numbered_lines s f top (λ k x lt fits. (law k lt).lines x fits) 0 xs (omega (arith, h.0)) h.1;
}
