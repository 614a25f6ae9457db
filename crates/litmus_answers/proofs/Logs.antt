-- Logs read line by line.
use Rattle.std.proofs.Common.{◌≡◌, ◌∙◌, ◌++◌, ◌-◌, ◌≤◌, ◌<◌, ℕ, zero, suc, Bool, true, false, List, [], ◌∷◌, Option, Some, None, ap, ap₂, append-nil, append_assoc, arith, cond, drop, is_some, length, option_map, refl, sym}
use Rattle.std.proofs.lemmas.Bool.{ne_eqb}
use Rattle.std.proofs.lemmas.List.{map-append}
use Rattle.std.specs.Borrow.{Bor}
use Rattle.std.specs.Global.{Vec}
use Rattle.std.specs.Option.{option_or}
use Rattle.std.specs.Prelude.{◌==◌}
use Rattle.litmus_answers.specs.Entries.{all_said, answer_by, begins_test, left_by, plain_states, said, states_by, told_on}
use Rattle.litmus_answers.specs.Logs.{Said, answer_at, answer_in, body, count_at, item_in, items_in, led, lines, pieces, said_of, state_at, states_in, test_at, tests_in, unless_test, with_test}
use Rattle.litmus_answers.specs.Naming.{plain}
use Rattle.litmus_answers.specs.declared.reading.Entry.{Entry}
use Rattle.litmus_parts.specs.Scanning.{from, is_any, until}
use Rattle.text_words.specs.Words.{skip}

-- ---- pieces

-- the first piece, and those behind it
pieces_split : (marks : List ℕ) (b : ℕ) (bytes : List ℕ) → pieces marks (b ∷ bytes) ≡ until marks (b ∷ bytes) ∷ pieces marks (drop 1 (from marks (b ∷ bytes)))
pieces_split marks b [] = go (is_any marks b)
  where
    go : (test : Bool) → cond test ([] ∷ []) ((b ∷ []) ∷ []) ≡ cond test [] (b ∷ []) ∷ pieces marks (drop 1 (cond test (b ∷ []) []))
    go true = refl
    go false = refl
pieces_split marks b (c ∷ bytes) = go (is_any marks b) (pieces_split marks c bytes)
  where
    go : (test : Bool) → pieces marks (c ∷ bytes) ≡ until marks (c ∷ bytes) ∷ pieces marks (drop 1 (from marks (c ∷ bytes)))
        → cond test ([] ∷ pieces marks (c ∷ bytes)) (led b (pieces marks (c ∷ bytes))) ≡ cond test [] (b ∷ until marks (c ∷ bytes)) ∷ pieces marks (drop 1 (cond test (b ∷ c ∷ bytes) (from marks (c ∷ bytes))))
    go true later = refl
    go false later = ap (led b) later

pub pieces_next : (marks rest front behind : List ℕ) → 0 < length rest → front ≡ until marks rest → behind ≡ drop 1 (from marks rest) → pieces marks rest ≡ front ∷ pieces marks behind
pieces_next marks [] front behind some is others = absurd (omega arith)
pieces_next marks (b ∷ rest) front behind some is others = rw (is, others) (pieces_split marks b rest)

from_fewer : (marks bytes : List ℕ) → length (from marks bytes) ≤ length bytes
from_fewer marks [] = omega arith
from_fewer marks (b ∷ bytes) = go (is_any marks b) (from_fewer marks bytes)
  where
    go : (test : Bool) → length (from marks bytes) ≤ length bytes → length (cond test (b ∷ bytes) (from marks bytes)) ≤ length (b ∷ bytes)
    go true few = omega arith
    go false few = omega (arith, few)

-- what stands behind a piece is shorter
pub behind_fewer : (marks rest behind : List ℕ) → 0 < length rest → behind ≡ drop 1 (from marks rest) → length behind < length rest
behind_fewer marks [] behind some is = absurd (omega arith)
behind_fewer marks (b ∷ rest) behind some is = rw is (go (from marks (b ∷ rest)) (from_fewer marks (b ∷ rest)))
  where
    go : (left : List ℕ) → length left ≤ length (b ∷ rest) → length (drop 1 left) < length (b ∷ rest)
    go [] few = omega arith
    go (c ∷ left) few = omega (arith, few)

-- ---- a state's items

pub none_left : (items total : List (List ℕ)) (rest : List ℕ) → length rest ≡ 0 → items ++ items_in (pieces (59 ∷ []) rest) ≡ total → items ≡ total
none_left items total [] none so = sym (append-nil items) ∙ so
none_left items total (b ∷ rest) none so = absurd (omega (arith, none))

pub items_next : (old new total : List (List ℕ)) (rest front behind : List ℕ) → 0 < length rest → front ≡ until (59 ∷ []) rest → behind ≡ drop 1 (from (59 ∷ []) rest) → new ≡ old ++ item_in (skip front)
    → old ++ items_in (pieces (59 ∷ []) rest) ≡ total → new ++ items_in (pieces (59 ∷ []) behind) ≡ total
items_next old new total rest front behind some is others more so =
    ap (λ (l : List (List ℕ)). l ++ items_in (pieces (59 ∷ []) behind)) more
    ∙ append_assoc old (item_in (skip front)) (items_in (pieces (59 ∷ []) behind))
    ∙ ap (λ (l : List (List ℕ)). old ++ items_in l) (sym (pieces_next (59 ∷ []) rest front behind some is others))
    ∙ so

-- ---- the lines of a test

pub some_mapped : (name : Option (Bor (List ℕ))) → is_some (option_map (λ (text : Bor (List ℕ)). text.now) name) ≡ is_some name
some_mapped None = refl
some_mapped (Some text) = refl

pub state_pushed : (states : List (Vec (Vec ℕ))) (state : Vec (Vec ℕ)) → plain_states (states ++ state ∷ []) ≡ plain_states states ++ plain state.items ∷ []
state_pushed states state = map-append (λ (s : Vec (Vec ℕ)). plain s.items) states (state ∷ [])

line_told : (old new : Entry) (n : ℕ) (line : List ℕ) (others : List (List ℕ)) → plain_states new.states.items ≡ plain_states old.states.items ++ states_by n line → new.answer ≡ answer_by n line old.answer
    → told_on new (left_by n line) others ≡ told_on old n (line ∷ others)
line_told old new zero line others states answer =
    ap₂ (λ (l : List (List (List ℕ))) (a : Option Bool). (l, a)) (ap (λ (l : List (List (List ℕ))). l ++ states_in (count_at line) others) (states ∙ append-nil (plain_states old.states.items)))
    (ap (λ (a : Option Bool). option_or a (answer_in (count_at line) others)) answer ∙ or_later old.answer (answer_at line) (answer_in (count_at line) others))
  where
    or_later : (a b c : Option Bool) → option_or (option_or a b) c ≡ option_or a (option_or b c)
    or_later None b c = refl
    or_later (Some x) b c = refl
line_told old new (suc n) line others states answer =
    let some : (suc n == 0) ≡ false = ne_eqb (suc n) 0 (λ e. omega (arith, e)) in
    let back : suc n - 1 ≡ n = omega arith in
    let later : left_by (suc n) line ≡ n = ap (λ (test : Bool). cond test (count_at line) (suc n - 1)) some ∙ back in
    let more : plain_states new.states.items ≡ plain_states old.states.items ++ state_at line ∷ [] = states ∙ ap (λ (test : Bool). plain_states old.states.items ++ cond test [] (state_at line ∷ [])) some in
    let same : new.answer ≡ old.answer = answer ∙ ap (λ (test : Bool). cond test (option_or old.answer (answer_at line)) old.answer) some in
    ap (λ (m : ℕ). told_on new m others) later
    ∙ ap₂ (λ (l : List (List (List ℕ))) (a : Option Bool). (l, a)) (ap (λ (l : List (List (List ℕ))). l ++ states_in n others) more ∙ append_assoc (plain_states old.states.items) (state_at line ∷ []) (states_in n others))
    (ap (λ (a : Option Bool). option_or a (answer_in n others)) same)

none_is : {A : Type 0} (found : Option A) → is_some found ≡ false → found ≡ None
none_is None h = refl
none_is (Some x) h = absurd cc

body_next : (rest front behind : List ℕ) → 0 < length rest → front ≡ until (10 ∷ []) rest → behind ≡ drop 1 (from (10 ∷ []) rest) → begins_test front ≡ false → body (lines rest) ≡ front ∷ body (lines behind)
body_next rest front behind some is others apart =
    ap body (pieces_next (10 ∷ []) rest front behind some is others) ∙ ap (λ (o : Option (List ℕ)). unless_test o (front ∷ body (lines behind))) (none_is (test_at front) apart)

-- one more line was read
pub line_next : (old new : Entry) (n left : ℕ) (rest front behind : List ℕ) (total : List (List (List ℕ)) × Option Bool) → 0 < length rest → front ≡ until (10 ∷ []) rest → behind ≡ drop 1 (from (10 ∷ []) rest) → begins_test front ≡ false
    → plain_states new.states.items ≡ plain_states old.states.items ++ states_by n front → new.answer ≡ answer_by n front old.answer → left ≡ left_by n front → told_on old n (body (lines rest)) ≡ total → told_on new left (body (lines behind)) ≡ total
line_next old new n left rest front behind total some is others apart states answer later so =
    ap (λ (m : ℕ). told_on new m (body (lines behind))) later
    ∙ line_told old new n front (body (lines behind)) states answer
    ∙ ap (told_on old n) (sym (body_next rest front behind some is others apart))
    ∙ so

abbrev with_name : List ℕ → List (List (List ℕ)) → Option Bool → Said
with_name name states answer = record { name = name; states = states; answer = answer }

or_none : (a : Option Bool) → a ≡ option_or a None
or_none None = refl
or_none (Some x) = refl

whole : (e : Entry) (n : ℕ) (name : List ℕ) (told : List (List ℕ)) → e.name.items ≡ name → told_on e n [] ≡ (states_in 0 told, answer_in 0 told) → said e ≡ said_of name told
whole e n name told is so =
    let states : plain_states e.states.items ≡ states_in 0 told = sym (append-nil (plain_states e.states.items)) ∙ ap (λ (x : List (List (List ℕ)) × Option Bool). x.0) so in
    let answer : e.answer ≡ answer_in 0 told = or_none e.answer ∙ ap (λ (x : List (List (List ℕ)) × Option Bool). x.1) so in
    ap (λ (l : List ℕ). with_name l (plain_states e.states.items) e.answer) is ∙ ap₂ (with_name name) states answer

-- no line is left
pub body_ends : (e : Entry) (n : ℕ) (name rest text : List ℕ) → length rest ≡ 0 → e.name.items ≡ name → told_on e n (body (lines rest)) ≡ (states_in 0 (body (lines text)), answer_in 0 (body (lines text))) → said e ≡ said_of name (body (lines text))
body_ends e n name [] text none is so = whole e n name (body (lines text)) is so
body_ends e n name (b ∷ rest) text none is so = absurd (omega (arith, none))

cut_short : (front : List ℕ) (others : List (List ℕ)) (found : Option (List ℕ)) → is_some found ≡ true → unless_test found others ≡ []
cut_short front others None h = absurd cc
cut_short front others (Some name) h = refl

-- another test begins
pub body_cut : (e : Entry) (n : ℕ) (name rest text front behind : List ℕ) → 0 < length rest → front ≡ until (10 ∷ []) rest → behind ≡ drop 1 (from (10 ∷ []) rest) → begins_test front ≡ true → e.name.items ≡ name
    → told_on e n (body (lines rest)) ≡ (states_in 0 (body (lines text)), answer_in 0 (body (lines text))) → said e ≡ said_of name (body (lines text))
body_cut e n name rest text front behind some at others begins is so =
    let none : body (lines rest) ≡ [] = ap body (pieces_next (10 ∷ []) rest front behind some at others) ∙ cut_short front (front ∷ body (lines behind)) (test_at front) begins in
    whole e n name (body (lines text)) is (ap (told_on e n) (sym none) ∙ so)

-- ---- the tests of a log

pub no_tests_left : (entries : List Entry) (rest : List ℕ) (total : List Said) → length rest ≡ 0 → all_said entries ++ tests_in (lines rest) ≡ total → all_said entries ≡ total
no_tests_left entries [] total none so = sym (append-nil (all_said entries)) ∙ so
no_tests_left entries (b ∷ rest) total none so = absurd (omega (arith, none))

tests_next : (rest front behind : List ℕ) (found : Option (List ℕ)) → 0 < length rest → front ≡ until (10 ∷ []) rest → behind ≡ drop 1 (from (10 ∷ []) rest) → found ≡ test_at front → tests_in (lines rest) ≡ with_test found (lines behind) (tests_in (lines behind))
tests_next rest front behind found some is others at =
    ap tests_in (pieces_next (10 ∷ []) rest front behind some is others) ∙ ap (λ (o : Option (List ℕ)). with_test o (lines behind) (tests_in (lines behind))) (sym at)

-- a test was read
pub test_next : (old new : List Entry) (e : Entry) (name rest front behind : List ℕ) (total : List Said) → 0 < length rest → front ≡ until (10 ∷ []) rest → behind ≡ drop 1 (from (10 ∷ []) rest) → Some name ≡ test_at front
    → said e ≡ said_of name (body (lines behind)) → new ≡ old ++ e ∷ [] → all_said old ++ tests_in (lines rest) ≡ total → all_said new ++ tests_in (lines behind) ≡ total
test_next old new e name rest front behind total some is others at read more so =
    ap (λ (l : List Entry). all_said l ++ tests_in (lines behind)) more
    ∙ ap (λ (l : List Said). l ++ tests_in (lines behind)) (map-append said old (e ∷ []))
    ∙ append_assoc (all_said old) (said e ∷ []) (tests_in (lines behind))
    ∙ ap (λ (s : Said). all_said old ++ s ∷ tests_in (lines behind)) read
    ∙ ap (λ (l : List Said). all_said old ++ l) (sym (tests_next rest front behind (Some name) some is others at))
    ∙ so

-- a line begins none
pub no_test_next : (old : List Entry) (rest front behind : List ℕ) (total : List Said) → 0 < length rest → front ≡ until (10 ∷ []) rest → behind ≡ drop 1 (from (10 ∷ []) rest) → None ≡ test_at front
    → all_said old ++ tests_in (lines rest) ≡ total → all_said old ++ tests_in (lines behind) ≡ total
no_test_next old rest front behind total some is others at so = ap (λ (l : List Said). all_said old ++ l) (sym (tests_next rest front behind None some is others at)) ∙ so
