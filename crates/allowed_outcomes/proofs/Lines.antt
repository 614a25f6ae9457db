-- What a set of lines has behind one more.
use Rattle.std.proofs.Common.{◌≡◌, ◌∙◌, ◌&&◌, ◌||◌, ℕ, Bool, true, false, List, [], ◌∷◌, ◌++◌, Bor, ap, refl, subst, sym, cond, map}
use Rattle.std.specs.List.{list_any}
use Rattle.std.specs.Str.{bytes_eq}
use Rattle.std.proofs.lemmas.List.Folds.{list_any-append}
use Rattle.std.proofs.lemmas.Slice.Eq.{bytes_eq-Decides}
use Rattle.indexmap.specs.IndexSet.{insert_key}
use Rattle.bstr.specs.Text.{lines_of, without_terminator}
use Rattle.allowed_outcomes.specs.Allowing.{allows, has_line, has_pattern, is_allowed_line, knows, outcome_in}
use Rattle.allowed_outcomes.specs.Patterns.{fits, is_pattern}

abbrev Line : Type 0
Line = Bor (List ℕ)

abbrev is_same : Line → Line → Bool
is_same x y = bytes_eq x.now y.now

or_none : (a : Bool) → (a || false) ≡ a
or_none true = refl
or_none false = refl

-- a line that is there already has its text there
there : (lines : List Line) (line : Line) (text : List ℕ) → list_any (is_same line) lines ≡ true → bytes_eq text line.now ≡ true → has_line lines text ≡ true
there lines line text has same = subst (λ (t : List ℕ). has_line lines t ≡ true) (sym ((bytes_eq-Decides text line.now).0 same)) has

has_inserted : (lines : List Line) (line : Line) (text : List ℕ) → has_line (insert_key is_same lines line) text ≡ (has_line lines text || bytes_eq text line.now)
has_inserted lines line text = go (list_any (is_same line) lines) refl
  where
    same : (b : Bool) → bytes_eq text line.now ≡ b → list_any (is_same line) lines ≡ true → has_line lines text ≡ (has_line lines text || b)
    same true is has = rw (there lines line text has is) refl
    same false is has = sym (or_none (has_line lines text))

    go : (b : Bool) → list_any (is_same line) lines ≡ b → has_line (cond b lines (lines ++ line ∷ [])) text ≡ (has_line lines text || bytes_eq text line.now)
    go true is = same (bytes_eq text line.now) refl is
    go false is = list_any-append (λ (x : Line). bytes_eq text x.now) lines (line ∷ []) ∙ ap (λ b. has_line lines text || b) (or_none (bytes_eq text line.now))

shuffled : (h e p q r : Bool) → (((h || e) || (p || q)) || r) ≡ ((h || p) || ((e || q) || r))
shuffled true e p q r = refl
shuffled false true true q r = refl
shuffled false true false q r = refl
shuffled false false true q r = refl
shuffled false false false q r = refl

-- one more line goes from what is left to what was kept
pub one_more : (lines after patterns grown : List Line) (rest left : List (List ℕ)) (first : List ℕ) (line : Line) (text : List ℕ) → after ≡ insert_key is_same lines line
    → has_pattern grown text ≡ (has_pattern patterns text || (is_pattern line.now && fits line.now text)) → line.now ≡ outcome_in first → rest ≡ first ∷ left
    → (knows after grown text || list_any (allows text) (map outcome_in left)) ≡ (knows lines patterns text || list_any (allows text) (map outcome_in rest))
one_more lines after patterns grown rest left first line text after_is grown_is line_is rest_is =
    ap (λ (ks : List Line). (has_line ks text || has_pattern grown text) || list_any (allows text) (map outcome_in left)) after_is
    ∙ (ap (λ b. (b || has_pattern grown text) || list_any (allows text) (map outcome_in left)) (has_inserted lines line text)
    ∙ (ap (λ b. ((has_line lines text || bytes_eq text line.now) || b) || list_any (allows text) (map outcome_in left)) grown_is
    ∙ (shuffled (has_line lines text) (bytes_eq text line.now) (has_pattern patterns text) (is_pattern line.now && fits line.now text) (list_any (allows text) (map outcome_in left))
    ∙ (ap (λ (t : List ℕ). knows lines patterns text || (allows text t || list_any (allows text) (map outcome_in left))) line_is
    ∙ ap (λ (xs : List (List ℕ)). knows lines patterns text || list_any (allows text) (map outcome_in xs)) (sym rest_is)))))

-- a line goes to the patterns, if it is one
pub pattern_added : (patterns : List Line) (line : Line) (text : List ℕ) → is_pattern line.now ≡ true
    → has_pattern (patterns ++ line ∷ []) text ≡ (has_pattern patterns text || (is_pattern line.now && fits line.now text))
pattern_added patterns line text is =
    list_any-append (λ (x : Line). fits x.now text) patterns (line ∷ [])
    ∙ ap (λ b. has_pattern patterns text || b) (or_none (fits line.now text) ∙ sym (ap (λ b. b && fits line.now text) is))

pub pattern_left : (patterns : List Line) (line : Line) (text : List ℕ) → is_pattern line.now ≡ false
    → has_pattern patterns text ≡ (has_pattern patterns text || (is_pattern line.now && fits line.now text))
pattern_left patterns line text is = sym (ap (λ b. has_pattern patterns text || (b && fits line.now text)) is ∙ or_none (has_pattern patterns text))

-- before the first line, and behind the last one
pub begun : (lines patterns : List Line) (rest : List (List ℕ)) (text line : List ℕ) → lines ≡ [] → patterns ≡ [] → rest ≡ map without_terminator (lines_of text)
    → (knows lines patterns line || list_any (allows line) (map outcome_in rest)) ≡ is_allowed_line text line
begun lines patterns rest text line none neither all = rw (none, neither, all) refl

pub ended : (lines patterns : List Line) (rest : List (List ℕ)) (text line : List ℕ) → rest ≡ [] → (knows lines patterns line || list_any (allows line) (map outcome_in rest)) ≡ is_allowed_line text line
    → knows lines patterns line ≡ is_allowed_line text line
ended lines patterns rest text line none is =
    sym (or_none (knows lines patterns line)) ∙ (ap (λ (xs : List (List ℕ)). knows lines patterns line || list_any (allows line) (map outcome_in xs)) (sym none) ∙ is)
