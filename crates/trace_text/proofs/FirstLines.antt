-- The first line of some bytes, and what a reader of one line sees of them.
use Rattle.std.proofs.Common.{◌≡◌, ℕ, Bool, ◌||◌, true, false, cond, eqb, List, [], ◌∷◌, ◌++◌, Option, Some, None, refl, sym, ap, subst, ◌∙◌, append_assoc, inl, inr}
use Rattle.std.proofs.lemmas.Bool.{eqb-true}
use Rattle.std.proofs.lemmas.Option.{none-some}
use Rattle.std.proofs.lemmas.List.{append-nil}
use Rattle.std.proofs.lemmas.List.Folds.{list_any-append}
use Rattle.text_fields.specs.Reading.{after}
use Rattle.text_fields.proofs.Laws.{Reads, some_is}
use Rattle.trace_text.specs.Refusals.{has_line_feed}
use Rattle.trace_text.specs.TraceRefusals.{AreLines, first_line}
use Rattle.trace_text.specs.TraceStops.{AreAlike}

-- no line feed, and then one
pub record IsLine (line : List ℕ) : Type 0 where
  pub front : List ℕ
  pub plain : has_line_feed front ≡ false
  pub whole : line ≡ front ++ 10 ∷ []

pub plain_append : (p q : List ℕ) → has_line_feed p ≡ false → has_line_feed q ≡ false → has_line_feed (p ++ q) ≡ false
plain_append p q e f = list_any-append (λ b. eqb b 10) p q ∙ rw (e, f) refl

pub line_behind : (p line : List ℕ) → has_line_feed p ≡ false → IsLine line → IsLine (p ++ line)
line_behind p line e l = record { front = p ++ l.front; plain = plain_append p l.front e l.plain; whole = ap (λ t. p ++ t) l.whole ∙ sym (append_assoc p l.front (10 ∷ [])) }

pub line_ended : (p : List ℕ) → has_line_feed p ≡ false → IsLine (p ++ 10 ∷ [])
line_ended p e = record { front = p; plain = e; whole = refl }

-- ---- the first line

either_feed : (a b : Bool) → (a || b) ≡ false → (a ≡ false) × (b ≡ false)
either_feed true b e = absurd cc
either_feed false b e = (refl, e)

pub first_ended : (p rest : List ℕ) → has_line_feed p ≡ false → first_line ((p ++ 10 ∷ []) ++ rest) ≡ p ++ 10 ∷ []
first_ended [] rest e = refl
first_ended (b ∷ p) rest e =
    let parts = either_feed (eqb b 10) (has_line_feed p) e in
    rw parts.0 (ap (λ (t : List ℕ). b ∷ t) (first_ended p rest parts.1))

pub first_whole : (line rest : List ℕ) → IsLine line → first_line (line ++ rest) ≡ line
first_whole line rest l = ap (λ t. first_line (t ++ rest)) l.whole ∙ first_ended l.front rest l.plain ∙ sym l.whole

-- what follows the first line
pub first_parts : (rest : List ℕ) → (later : List ℕ) × (rest ≡ first_line rest ++ later)
first_parts [] = ([], refl)
first_parts (b ∷ rest) = go (first_parts rest) (eqb b 10) refl
  where
    go : (later : List ℕ) × (rest ≡ first_line rest ++ later) → (v : Bool) → eqb b 10 ≡ v → (later : List ℕ) × (b ∷ rest ≡ first_line (b ∷ rest) ++ later)
    go more true e = (rest, rw e refl)
    go more false e = (more.0, rw e (ap (λ (t : List ℕ). b ∷ t) more.1))

same_first : (rest later : List ℕ) → has_line_feed rest ≡ true → first_line (first_line rest ++ later) ≡ first_line rest
same_first [] later e = absurd cc
same_first (b ∷ rest) later e = go (same_first rest later) (eqb b 10) refl e
  where
    go : (has_line_feed rest ≡ true → first_line (first_line rest ++ later) ≡ first_line rest) → (v : Bool) → eqb b 10 ≡ v → (v || has_line_feed rest) ≡ true → first_line (first_line (b ∷ rest) ++ later) ≡ first_line (b ∷ rest)
    go more true v e = rw v (rw v refl)
    go more false v e = rw v (rw v (ap (λ (t : List ℕ). b ∷ t) (more e)))

-- ---- alike

pub alike_first : (rest later : List ℕ) → has_line_feed rest ≡ true → AreAlike rest (first_line rest ++ later)
alike_first rest later e = (e, same_first rest later e)

or_true : (a b : Bool) → b ≡ true → (a || b) ≡ true
or_true true b e = refl
or_true false b e = e

pub alike_behind : (p rest other : List ℕ) → AreAlike rest other → AreAlike (p ++ rest) (p ++ other)
alike_behind [] rest other a = a
alike_behind (b ∷ p) rest other a = let more = alike_behind p rest other a in (or_true (eqb b 10) (has_line_feed (p ++ rest)) more.0, ap (λ (t : List ℕ). cond (eqb b 10) (b ∷ []) (b ∷ t)) more.1)

-- one byte that ends no line
alike_tails : (b c : ℕ) (rest other : List ℕ) → eqb b 10 ≡ false → AreAlike (b ∷ rest) (c ∷ other) → (c ≡ b) × AreAlike rest other
alike_tails b c rest other e a = go (eqb c 10) refl
  where
    go : (v : Bool) → eqb c 10 ≡ v → (c ≡ b) × AreAlike rest other
    go true v = let same : c ∷ [] ≡ b ∷ first_line rest = (rw (v, e) at a.1) in let heads : c ≡ b = cc in absurd (let other : eqb b 10 ≡ true = subst (λ n. eqb n 10 ≡ true) heads v in cc)
    go false v = let same : c ∷ first_line other ≡ b ∷ first_line rest = (rw (v, e) at a.1) in let heads : c ≡ b = cc in let tails : first_line other ≡ first_line rest = cc in (heads, ((rw e at a.0), tails))

alike_from : (c b : ℕ) (rest other : List ℕ) → eqb c 10 ≡ false → AreAlike (b ∷ rest) (c ∷ other) → (c ≡ b) × AreAlike rest other
alike_from c b rest other e a = go (eqb b 10) refl
  where
    go : (v : Bool) → eqb b 10 ≡ v → (c ≡ b) × AreAlike rest other
    go false v = alike_tails b c rest other v a
    go true v = let same : c ∷ first_line other ≡ b ∷ [] = (rw (e, v) at a.1) in let heads : c ≡ b = cc in absurd (let f : eqb c 10 ≡ true = subst (λ n. eqb n 10 ≡ true) (sym heads) v in cc)

no_other : (b : ℕ) (rest : List ℕ) → AreAlike (b ∷ rest) [] → ⊥
no_other b rest a = go (eqb b 10) refl
  where
    go : (v : Bool) → eqb b 10 ≡ v → ⊥
    go true v = let same : ◌≡◌ {A = List ℕ} [] (b ∷ []) = (rw v at a.1) in absurd cc
    go false v = let same : ◌≡◌ {A = List ℕ} [] (b ∷ first_line rest) = (rw v at a.1) in absurd cc

-- What a lead that is no whole line leaves is alike too.
pub after_alike : (lead rest other fields : List ℕ) → has_line_feed lead ≡ false → AreAlike rest other → after lead rest ≡ Some fields → (later : List ℕ) × (after lead other ≡ Some later) × AreAlike fields later
after_alike [] rest other fields plain a e = (other, refl, subst (λ u. AreAlike u other) (some_is rest fields e) a)
after_alike (t ∷ lead) [] other fields plain a e = absurd cc
after_alike (t ∷ lead) (b ∷ rest) [] fields plain a e = absurd (no_other b rest a)
after_alike (t ∷ lead) (b ∷ rest) (c ∷ other) fields plain a e = go (after_alike lead rest other fields) (either_feed (eqb t 10) (has_line_feed lead) plain) (eqb b t) refl e
  where
    go : (has_line_feed lead ≡ false → AreAlike rest other → after lead rest ≡ Some fields → (later : List ℕ) × (after lead other ≡ Some later) × AreAlike fields later) → (eqb t 10 ≡ false) × (has_line_feed lead ≡ false)
        → (v : Bool) → eqb b t ≡ v → cond v (after lead rest) None ≡ Some fields → (later : List ℕ) × (after (t ∷ lead) (c ∷ other) ≡ Some later) × AreAlike fields later
    go more p false v e = absurd cc
    go more p true v e =
        let same : b ≡ t = eqb-true b t v in
        let tails = alike_tails b c rest other (subst (λ n. eqb n 10 ≡ false) (sym same) p.0) a in
        let found = more p.1 tails.1 e in
        let is : eqb c t ≡ true = ap (λ n. eqb n t) tails.0 ∙ v in
        (found.0, rw is found.1, found.2)

pub after_alike_none : (lead rest other : List ℕ) → has_line_feed lead ≡ false → AreAlike rest other → after lead rest ≡ None → after lead other ≡ None
after_alike_none [] rest other plain a e = absurd cc
after_alike_none (t ∷ lead) [] other plain a e = absurd (let f : ◌≡◌ {A = Bool} false true = a.0 in cc)
after_alike_none (t ∷ lead) (b ∷ rest) [] plain a e = refl
after_alike_none (t ∷ lead) (b ∷ rest) (c ∷ other) plain a e = go (after_alike_none lead rest other) (either_feed (eqb t 10) (has_line_feed lead) plain) (eqb c t) refl e
  where
    go : (has_line_feed lead ≡ false → AreAlike rest other → after lead rest ≡ None → after lead other ≡ None) → (eqb t 10 ≡ false) × (has_line_feed lead ≡ false)
        → (v : Bool) → eqb c t ≡ v → after (t ∷ lead) (b ∷ rest) ≡ None → cond v (after lead other) None ≡ None
    go more p false v e = refl
    go more p true v e =
        let same : c ≡ t = eqb-true c t v in
        let heads = alike_from c b rest other (subst (λ n. eqb n 10 ≡ false) (sym same) p.0) a in
        let is : eqb b t ≡ true = ap (λ n. eqb n t) (sym heads.0) ∙ v in
        more p.1 heads.1 (rw is at e)

-- A reader whose values are spelled by whole lines reads nothing of a line that is alike to one of which it reads nothing.
pub line_alike : {A : Type 0} {s : A → List ℕ} {f : A → Type 0} {r : List ℕ → Option (A × List ℕ)} → Reads s f r → ((x : A) → f x → IsLine (s x)) → (rest other : List ℕ) → r rest ≡ None → AreAlike rest other → r other ≡ None
line_alike {A} {s} {f} {r} law lines rest other none a = go (r other) refl
  where
    go : (o : Option (A × List ℕ)) → r other ≡ o → r other ≡ None
    go None e = e
    go (Some (x, later)) e =
        let t = law.takes other x later e in
        let first : first_line rest ≡ s x = sym a.1 ∙ ap first_line t.0 ∙ first_whole (s x) later (lines x t.1) in
        let parts = first_parts rest in
        let whole : rest ≡ s x ++ parts.0 = parts.1 ∙ ap (λ u. u ++ parts.0) first in
        absurd (none-some (x, parts.0) (sym none ∙ ap r whole ∙ law.again x parts.0 t.1))

-- What such a reader reads of a line it reads of one that is alike.
pub line_read : {A : Type 0} {s : A → List ℕ} {f : A → Type 0} {r : List ℕ → Option (A × List ℕ)} → Reads s f r → ((x : A) → f x → IsLine (s x)) → (rest other later : List ℕ) (x : A) → r rest ≡ Some (x, later) → AreAlike rest other → (behind : List ℕ) × (r other ≡ Some (x, behind))
line_read {A} {s} {f} {r} law lines rest other later x e a =
    let t = law.takes rest x later e in
    let first : first_line other ≡ s x = a.1 ∙ ap first_line t.0 ∙ first_whole (s x) later (lines x t.1) in
    let parts = first_parts other in
    (parts.0, ap r (parts.1 ∙ ap (λ u. u ++ parts.0) first) ∙ law.again x parts.0 t.1)

-- ---- lines and lines

pub lines_none : AreLines []
lines_none = inl refl

pub lines_append : (a b : List ℕ) → AreLines a → AreLines b → AreLines (a ++ b)
lines_append a b first (inl e) = subst AreLines (sym (ap (λ t. a ++ t) e ∙ append-nil a)) first
lines_append a b first (inr (front, e)) = inr (a ++ front, ap (λ t. a ++ t) e ∙ sym (append_assoc a front (10 ∷ [])))

pub one_line : (line : List ℕ) → IsLine line → AreLines line
one_line line l = inr (l.front, l.whole)
