-- A block reads as its report.
use Rattle.std.proofs.Common.{◌≡◌, ◌∙◌, ◌++◌, ◌^◌, ◌<◌, ℕ, zero, suc, Bool, true, false, List, [], ◌∷◌, Option, Some, None, ap, ap₂, append-nil, append_assoc, arith, cond, drop, length, map, refl, subst, sym}
use Rattle.std.proofs.lemmas.Bool.{ltb-true}
use Rattle.std.proofs.lemmas.List.{length-map}
use Rattle.std.specs.Global.{Vec}
use Rattle.std.specs.List.{AllByRecursion, list_all}
use Rattle.std.specs.Prelude.{◌==◌, codes, decimal, nat_lt}
use Rattle.assembly_reading.proofs.Decimals.{decimal_digits, digits_are_word}
use Rattle.assembly_reading.proofs.Splitting.{starts, word_front}
use Rattle.litmus_answers.proofs.Pieces.{Misses, Plain, all_append, both_true, misses_append, from_none, misses_lines, name_no_blank, name_no_line, no_item, no_line, no_runs, pieces_led, until_front, word_plain}
use Rattle.litmus_answers.proofs.Spelled.{Reads, begins_none, item_reads, number_reads, place_begins, place_plain, place_starts, value_reads}
use Rattle.litmus_answers.specs.Blocks.{answer_text, block_text, counts_text, end_text, head_text, kind_text, often_text, tail_text, whole_text}
use Rattle.litmus_answers.specs.Laws.{BlocksReadBack, IsTold, are_words, is_location_name, is_place, items_of, reported, truth_of}
use Rattle.litmus_answers.specs.Logs.{Said, answer_in, body, counted, count_at, item_in, items_in, lines, or_all, past_runs, pieces, said_in, said_of, state_at, states_in, test_at, tests_in, unless_test, with_test}
use Rattle.litmus_answers.specs.Naming.{plain}
use Rattle.litmus_answers.specs.States.{items_text, state_lines, told_text, value_text}
use Rattle.litmus_answers.specs.declared.answer.Answer.{Answer}
use Rattle.litmus_answers.specs.declared.answer.Answer.TheVariants.{No, NoRun, Ok, Undecided}
use Rattle.litmus_answers.specs.declared.answer.Tally.{Tally}
use Rattle.litmus_answers.specs.declared.report.Report.{Report}
use Rattle.litmus_parts.specs.Scanning.{from, is_any, until}
use Rattle.litmus_parts.specs.declared.told.Told.{Told}
use Rattle.litmus_text.specs.declared.question.Kind.{Kind}
use Rattle.litmus_text.specs.declared.question.Kind.TheVariants.{Exists, NotExists, Forall}
use Rattle.text_fields.specs.Reading.{◌>>=◌, after}
use Rattle.text_words.specs.Numbers.{number_of}
use Rattle.text_words.specs.Words.{is_blank, skip, word}

-- ---- a state

skip_none : (test : Bool) (later all : List ℕ) → cond test false true ≡ true → cond test later all ≡ all
skip_none true later all h = absurd cc
skip_none false later all h = refl

skip_started : (text : List ℕ) → starts text ≡ true → skip text ≡ text
skip_started [] h = absurd cc
skip_started (b ∷ text) h = skip_none (is_blank b) (skip text) (b ∷ text) h

-- what stands before a place: nothing, or a blank
record IsGap (gap : List ℕ) : Type 0 where
  skips : (text : List ℕ) → starts text ≡ true → skip (gap ++ text) ≡ text
  plain_gap : Plain gap

first_gap : IsGap []
first_gap = record { skips = skip_started; plain_gap = tt }

later_gap : IsGap (32 ∷ [])
later_gap = record { skips = skip_started; plain_gap = (refl, tt) }

value_regrouped : (value rest : List ℕ) → (value ++ (59 ∷ [])) ++ rest ≡ value ++ 59 ∷ rest
value_regrouped value rest = append_assoc value (59 ∷ []) rest

place_regrouped : (place value rest : List ℕ) → (place ++ (61 ∷ (value ++ (59 ∷ [])))) ++ rest ≡ (place ++ (61 ∷ value)) ++ 59 ∷ rest
place_regrouped [] value rest = ap (λ (l : List ℕ). 61 ∷ l) (value_regrouped value rest)
place_regrouped (b ∷ place) value rest = ap (λ (l : List ℕ). b ∷ l) (place_regrouped place value rest)

item_regrouped : (gap place value rest : List ℕ) → (gap ++ (place ++ (61 ∷ (value ++ (59 ∷ []))))) ++ rest ≡ (gap ++ (place ++ (61 ∷ value))) ++ 59 ∷ rest
item_regrouped [] place value rest = place_regrouped place value rest
item_regrouped (b ∷ gap) place value rest = ap (λ (l : List ℕ). b ∷ l) (item_regrouped gap place value rest)

starts_on : (front rest : List ℕ) → starts front ≡ true → starts (front ++ rest) ≡ true
starts_on [] rest h = absurd cc
starts_on (b ∷ front) rest h = h

module _ (names : List (Vec ℕ)) (are : list_all is_location_name (plain names) ≡ true) where
  item_plain : (gap : List ℕ) (t : Told) (n : ℕ) → IsGap gap → is_place t ≡ true → n < 2 ^ 32 → Plain (gap ++ (told_text t ++ (61 ∷ value_text names n)))
  item_plain gap t n is place lt = misses_append (10 ∷ 59 ∷ 62 ∷ []) gap _ is.plain_gap (misses_append (10 ∷ 59 ∷ 62 ∷ []) (told_text t) _ (place_plain t place) (refl, (value_reads names n are lt).is_plain))

  line_reads : (gap : List ℕ) (told : List Told) (state : List ℕ) → IsGap gap → list_all is_place told ≡ true → are_words state ≡ true → items_in (pieces (59 ∷ []) (items_text names gap told state)) ≡ items_of names told state
  line_reads gap [] state is places words = refl
  line_reads gap (t ∷ others) [] is places words = refl
  line_reads gap (t ∷ others) (n ∷ state) is places words =
      let place = both_true (is_place t) (list_all is_place others) places in
      let number = both_true (nat_lt n (2 ^ 32)) (are_words state) words in
      let lt : n < 2 ^ 32 = ltb-true n (2 ^ 32) number.0 in
      let value = value_reads names n are lt in
      let item : List ℕ = told_text t ++ (61 ∷ value_text names n) in
      let rest : List ℕ = items_text names (32 ∷ []) others state in
      ap (λ (l : List ℕ). items_in (pieces (59 ∷ []) l)) (item_regrouped gap (told_text t) (value_text names n) rest)
      ∙ ap items_in (pieces_led (59 ∷ []) 59 (gap ++ item) rest refl (no_item (gap ++ item) (item_plain gap t n is place.0 lt)))
      ∙ ap (λ (l : List ℕ). item_in l ++ items_in (pieces (59 ∷ []) rest)) (is.skips item (starts_on (told_text t) (61 ∷ value_text names n) (place_starts t place.0)))
      ∙ ap (λ (l : List (List ℕ)). l ++ items_in (pieces (59 ∷ []) rest)) (item_reads t (value_text names n) place.0 value)
      ∙ ap (λ (l : List (List ℕ)). item ∷ l) (line_reads (32 ∷ []) others state later_gap place.1 number.1)

  -- marks other than a semicolon
  module _ (mark : ℕ) (semicolon : is_any (mark ∷ []) 59 ≡ false) (none : (text : List ℕ) → Plain text → Misses (mark ∷ []) text) where
    line_misses : (gap : List ℕ) (told : List Told) (state : List ℕ) → IsGap gap → list_all is_place told ≡ true → are_words state ≡ true → Misses (mark ∷ []) (items_text names gap told state)
    line_misses gap [] state is places words = tt
    line_misses gap (t ∷ others) [] is places words = tt
    line_misses gap (t ∷ others) (n ∷ state) is places words =
        let place = both_true (is_place t) (list_all is_place others) places in
        let number = both_true (nat_lt n (2 ^ 32)) (are_words state) words in
        let lt : n < 2 ^ 32 = ltb-true n (2 ^ 32) number.0 in
        let item : List ℕ = told_text t ++ (61 ∷ value_text names n) in
        let rest : List ℕ = items_text names (32 ∷ []) others state in
        subst (Misses (mark ∷ [])) (sym (item_regrouped gap (told_text t) (value_text names n) rest))
        (misses_append (mark ∷ []) (gap ++ item) (59 ∷ rest) (none (gap ++ item) (item_plain gap t n is place.0 lt)) (semicolon, line_misses (32 ∷ []) others state later_gap place.1 number.1))

  module _ (told : List Told) (places : list_all is_place told ≡ true) where
    abbrev line_of : List ℕ → List ℕ
    line_of state = items_text names [] told state

    past_same : (state : List ℕ) → are_words state ≡ true → past_runs (line_of state) ≡ line_of state
    past_same state words = ap (λ (l : List ℕ). or_all (drop 1 l) (line_of state)) (from_none (62 ∷ []) (line_of state) (line_misses 62 refl no_runs [] told state first_gap places words))

    state_reads : (state : List ℕ) → are_words state ≡ true → state_at (line_of state) ≡ items_of names told state
    state_reads state words = ap (λ (l : List ℕ). items_in (pieces (59 ∷ []) l)) (past_same state words) ∙ line_reads [] told state first_gap places words

    line_whole : (state : List ℕ) → are_words state ≡ true → Misses (10 ∷ []) (line_of state)
    line_whole state words = line_misses 10 refl no_line [] told state first_gap places words

    begins_not : (text : List ℕ) → begins_none text ≡ true → test_at text ≡ None
    begins_not [] h = refl
    begins_not (b ∷ text) h = go (b == 84) h
      where
        go : (test : Bool) → cond test false true ≡ true → (cond test (after (101 ∷ 115 ∷ 116 ∷ 32 ∷ []) text) None >>= λ rest. Some (until (codes " \t\r") rest)) ≡ None
        go true h = absurd cc
        go false h = refl

    first_begins : (told : List Told) (state : List ℕ) → list_all is_place told ≡ true → begins_none (items_text names [] told state) ≡ true
    first_begins [] state all = refl
    first_begins (t ∷ others) [] all = refl
    first_begins (t ∷ others) (n ∷ state) all =
        ap begins_none (append_assoc (told_text t) (61 ∷ (value_text names n ++ (59 ∷ []))) (items_text names (32 ∷ []) others state)) ∙ place_begins t _ (both_true (is_place t) (list_all is_place others) all).0

    line_no_test : (state : List ℕ) → test_at (line_of state) ≡ None
    line_no_test state = begins_not (line_of state) (first_begins told state places)

    -- ---- all states

    abbrev lines_of : List (Vec ℕ) → List (List ℕ)
    lines_of states = map line_of (plain states)

    states_parted : (states : List (Vec ℕ)) (rest : List ℕ) → list_all are_words (plain states) ≡ true → lines (state_lines names told states ++ rest) ≡ lines_of states ++ lines rest
    states_parted [] rest words = refl
    states_parted (s ∷ states) rest words =
        let parts = both_true (are_words s.items) (list_all are_words (plain states)) words in
        let line : List ℕ = line_of s.items in
        let others : List ℕ = state_lines names told states in
        ap lines (append_assoc (line ++ (10 ∷ [])) others rest ∙ append_assoc line (10 ∷ []) (others ++ rest))
        ∙ pieces_led (10 ∷ []) 10 line (others ++ rest) refl (line_whole s.items parts.0)
        ∙ ap (λ (l : List (List ℕ)). line ∷ l) (states_parted states rest parts.1)

    states_said : (states : List (Vec ℕ)) → list_all are_words (plain states) ≡ true → map state_at (lines_of states) ≡ map (items_of names told) (plain states)
    states_said [] words = refl
    states_said (s ∷ states) words =
        let parts = both_true (are_words s.items) (list_all are_words (plain states)) words in
        ap₂ (λ (x : List (List ℕ)) (l : List (List (List ℕ))). x ∷ l) (state_reads s.items parts.0) (states_said states parts.1)

    states_no_test : (states : List (Vec ℕ)) → AllByRecursion (λ (l : List ℕ). test_at l ≡ None) (lines_of states)
    states_no_test [] = tt
    states_no_test (s ∷ states) = (line_no_test s.items, states_no_test states)

-- ---- lines of a test

states_front : (front behind : List (List ℕ)) → states_in (length front) (front ++ behind) ≡ map state_at front ++ states_in 0 behind
states_front [] behind = refl
states_front (line ∷ front) behind = ap (λ (l : List (List (List ℕ))). state_at line ∷ l) (states_front front behind)

answer_front : (front behind : List (List ℕ)) → answer_in (length front) (front ++ behind) ≡ answer_in 0 behind
answer_front [] behind = refl
answer_front (line ∷ front) behind = answer_front front behind

body_same : (told : List (List ℕ)) → AllByRecursion (λ (l : List ℕ). test_at l ≡ None) told → body told ≡ told
body_same [] none = refl
body_same (line ∷ told) none = ap (λ (o : Option (List ℕ)). unless_test o (line ∷ body told)) none.0 ∙ ap (λ (l : List (List ℕ)). line ∷ l) (body_same told none.1)

tests_none : (told : List (List ℕ)) → AllByRecursion (λ (l : List ℕ). test_at l ≡ None) told → tests_in told ≡ []
tests_none [] none = refl
tests_none (line ∷ told) none = ap (λ (o : Option (List ℕ)). with_test o told (tests_in told)) none.0 ∙ tests_none told none.1

-- ---- the lines of a block

abbrev head_line : Report → List ℕ
head_line r = codes "Test " ++ (r.name.now ++ (32 ∷ kind_text r.kind))

abbrev count_line : ℕ → List ℕ
count_line n = codes "States " ++ decimal n

abbrev tally_line : Tally → List ℕ
tally_line t = codes "Positive: " ++ (decimal t.positive ++ (codes " Negative: " ++ decimal t.negative))

abbrev question_line : Report → List ℕ
question_line r = codes "Condition " ++ r.question.now

abbrev often_line : Report → List ℕ
often_line r = codes "Observation " ++ (r.name.now ++ (32 ∷ counts_text r.is_whole r.tally))

decimal_whole : (n : ℕ) → n < 2 ^ 64 → Misses (10 ∷ []) (decimal n)
decimal_whole n lt = no_line (decimal n) (word_plain (decimal n) (digits_are_word (decimal n) (decimal_digits n lt)))

kind_whole : (kind : Kind) → Misses (10 ∷ []) (kind_text kind)
kind_whole Exists = misses_lines (codes "Allowed") refl
kind_whole NotExists = misses_lines (codes "Forbidden") refl
kind_whole Forall = misses_lines (codes "Required") refl

answer_whole : (answer : Answer) → Misses (10 ∷ []) (answer_text answer)
answer_whole Ok = misses_lines (codes "Ok") refl
answer_whole No = misses_lines (codes "No") refl
answer_whole Undecided = misses_lines (codes "Undecided") refl
answer_whole NoRun = misses_lines (codes "No run ends") refl

whole_whole : (is_whole : Bool) (text : List ℕ) → Misses (10 ∷ []) text → Misses (10 ∷ []) (whole_text is_whole text)
whole_whole true text none = none
whole_whole false text none = misses_lines (codes "Unknown") refl

often_whole : (never always is_whole : Bool) → Misses (10 ∷ []) (cond never (whole_text is_whole (codes "Never")) (cond always (whole_text is_whole (codes "Always")) (codes "Sometimes")))
often_whole true always is_whole = whole_whole is_whole (codes "Never") (misses_lines (codes "Never") refl)
often_whole false true is_whole = whole_whole is_whole (codes "Always") (misses_lines (codes "Always") refl)
often_whole false false is_whole = misses_lines (codes "Sometimes") refl

counts_whole : (is_whole : Bool) (t : Tally) → t.positive < 2 ^ 64 → t.negative < 2 ^ 64 → Misses (10 ∷ []) (counts_text is_whole t)
counts_whole is_whole t positive negative =
    misses_append (10 ∷ []) (often_text is_whole t) _ (often_whole (t.positive == 0) (t.negative == 0) is_whole) (refl, misses_append (10 ∷ []) (decimal t.positive) _ (decimal_whole t.positive positive) (refl, decimal_whole t.negative negative))

-- ---- a block

module _ (r : Report) (is : IsTold r) where
  abbrev last_lines : List (List ℕ)
  last_lines = answer_text r.answer ∷ codes "Witnesses" ∷ tally_line r.tally ∷ question_line r ∷ often_line r ∷ [] ∷ []

  abbrev state_texts : List (List ℕ)
  state_texts = map (λ state. items_text r.names.now [] r.told.now state) (plain r.states.now)

  abbrev told_lines : List (List ℕ)
  told_lines = count_line (length r.states.now) ∷ (state_texts ++ last_lines)

  count_small : length r.states.now < 2 ^ 64
  count_small = let few = is.few in omega (arith, few)

  head_parted : (rest : List ℕ) → lines (head_text r ++ rest) ≡ head_line r ∷ count_line (length r.states.now) ∷ lines rest
  head_parted rest =
      let n : List ℕ = decimal (length r.states.now) in
      let text : head_text r ++ rest ≡ head_line r ++ 10 ∷ (count_line (length r.states.now) ++ 10 ∷ rest) = simp append_assoc refl in
      ap lines text
      ∙ pieces_led (10 ∷ []) 10 (head_line r) (count_line (length r.states.now) ++ 10 ∷ rest) refl (misses_append (10 ∷ []) (codes "Test ") _ (misses_lines (codes "Test ") refl) (misses_append (10 ∷ []) r.name.now _ (name_no_line r.name.now is.name) (refl, kind_whole r.kind)))
      ∙ ap (λ (l : List (List ℕ)). head_line r ∷ l) (pieces_led (10 ∷ []) 10 (count_line (length r.states.now)) rest refl (misses_append (10 ∷ []) (codes "States ") n (misses_lines (codes "States ") refl) (decimal_whole (length r.states.now) count_small)))

  last_parted : lines (tail_text r ++ end_text r) ≡ last_lines
  last_parted =
      let behind_often : List ℕ = 10 ∷ 10 ∷ [] in
      let behind_question : List ℕ = often_line r ++ behind_often in
      let behind_tally : List ℕ = question_line r ++ 10 ∷ behind_question in
      let behind_witnesses : List ℕ = tally_line r.tally ++ 10 ∷ behind_tally in
      let text : tail_text r ++ end_text r ≡ answer_text r.answer ++ 10 ∷ (codes "Witnesses" ++ 10 ∷ behind_witnesses) = simp append_assoc refl in
      let tally_none : Misses (10 ∷ []) (tally_line r.tally) =
      misses_append (10 ∷ []) (codes "Positive: ") _ (misses_lines (codes "Positive: ") refl) (misses_append (10 ∷ []) (decimal r.tally.positive) _ (decimal_whole r.tally.positive is.positive) (misses_append (10 ∷ []) (codes " Negative: ") _ (misses_lines (codes " Negative: ") refl) (decimal_whole r.tally.negative is.negative))) in
      let question_none : Misses (10 ∷ []) (question_line r) = misses_append (10 ∷ []) (codes "Condition ") _ (misses_lines (codes "Condition ") refl) (misses_lines r.question.now is.question) in
      let often_none : Misses (10 ∷ []) (often_line r) =
      misses_append (10 ∷ []) (codes "Observation ") _ (misses_lines (codes "Observation ") refl) (misses_append (10 ∷ []) r.name.now _ (name_no_line r.name.now is.name) (refl, counts_whole r.is_whole r.tally is.positive is.negative)) in
      ap lines text
      ∙ pieces_led (10 ∷ []) 10 (answer_text r.answer) (codes "Witnesses" ++ 10 ∷ behind_witnesses) refl (answer_whole r.answer)
      ∙ ap (λ (l : List (List ℕ)). answer_text r.answer ∷ l)
      (pieces_led (10 ∷ []) 10 (codes "Witnesses") behind_witnesses refl (misses_lines (codes "Witnesses") refl)
      ∙ ap (λ (l : List (List ℕ)). codes "Witnesses" ∷ l)
      (pieces_led (10 ∷ []) 10 (tally_line r.tally) behind_tally refl tally_none
      ∙ ap (λ (l : List (List ℕ)). tally_line r.tally ∷ l)
      (pieces_led (10 ∷ []) 10 (question_line r) behind_question refl question_none
      ∙ ap (λ (l : List (List ℕ)). question_line r ∷ l) (pieces_led (10 ∷ []) 10 (often_line r) (10 ∷ []) refl often_none))))

  block_parted : lines (block_text r) ≡ head_line r ∷ told_lines
  block_parted =
      head_parted (state_lines r.names.now r.told.now r.states.now ++ (tail_text r ++ end_text r))
      ∙ ap (λ (l : List (List ℕ)). head_line r ∷ count_line (length r.states.now) ∷ l) (states_parted r.names.now is.names r.told.now is.places r.states.now (tail_text r ++ end_text r) is.states ∙ ap (λ (l : List (List ℕ)). state_texts ++ l) last_parted)

  answer_no_test : (answer : Answer) → test_at (answer_text answer) ≡ None
  answer_no_test Ok = refl
  answer_no_test No = refl
  answer_no_test Undecided = refl
  answer_no_test NoRun = refl

  none_test : AllByRecursion (λ (l : List ℕ). test_at l ≡ None) told_lines
  none_test = (refl, all_append (λ (l : List ℕ). test_at l ≡ None) state_texts last_lines (states_no_test r.names.now is.names r.told.now is.places r.states.now) (answer_no_test r.answer, (refl, (refl, (refl, (refl, (refl, tt)))))))

  named_so : test_at (head_line r) ≡ Some r.name.now
  named_so = ap (λ (l : List ℕ). Some l) (until_front (32 ∷ 9 ∷ 13 ∷ []) 32 r.name.now (kind_text r.kind) refl (name_no_blank r.name.now is.name))

  count_read : count_at (count_line (length r.states.now)) ≡ length state_texts
  count_read =
      let n : ℕ = length r.states.now in
      let one : word (decimal n) ≡ decimal n = ap word (sym (append-nil (decimal n))) ∙ word_front (decimal n) [] (digits_are_word (decimal n) (decimal_digits n count_small)) refl in
      ap (λ (w : List ℕ). counted (number_of w)) one ∙ ap counted (number_reads n is.few) ∙ sym (length-map (plain r.states.now) (λ state. items_text r.names.now [] r.told.now state) ∙ length-map r.states.now (λ (v : Vec ℕ). v.items))

  no_states : (answer : Answer) → states_in 0 (answer_text answer ∷ codes "Witnesses" ∷ tally_line r.tally ∷ question_line r ∷ often_line r ∷ [] ∷ []) ≡ []
  no_states Ok = refl
  no_states No = refl
  no_states Undecided = refl
  no_states NoRun = refl

  one_answer : (answer : Answer) → answer_in 0 (answer_text answer ∷ codes "Witnesses" ∷ tally_line r.tally ∷ question_line r ∷ often_line r ∷ [] ∷ []) ≡ truth_of answer
  one_answer Ok = refl
  one_answer No = refl
  one_answer Undecided = refl
  one_answer NoRun = refl

  states_told : states_in 0 told_lines ≡ map (items_of r.names.now r.told.now) (plain r.states.now)
  states_told =
      ap (λ (n : ℕ). states_in n (state_texts ++ last_lines)) count_read
      ∙ states_front state_texts last_lines
      ∙ ap₂ (λ (l m : List (List (List ℕ))). l ++ m) (states_said r.names.now is.names r.told.now is.places r.states.now is.states) (no_states r.answer)
      ∙ append-nil (map (items_of r.names.now r.told.now) (plain r.states.now))

  answer_told : answer_in 0 told_lines ≡ truth_of r.answer
  answer_told = ap (λ (n : ℕ). answer_in n (state_texts ++ last_lines)) count_read ∙ answer_front state_texts last_lines ∙ one_answer r.answer

  said_so : said_of r.name.now told_lines ≡ reported r
  said_so = ap₂ {C = Said} (λ (states : List (List (List ℕ))) (answer : Option Bool). record { name = r.name.now; states = states; answer = answer }) states_told answer_told

  block_reads : said_in (block_text r) ≡ reported r ∷ []
  block_reads =
      ap tests_in block_parted
      ∙ ap (λ (o : Option (List ℕ)). with_test o told_lines (tests_in told_lines)) named_so
      ∙ ap₂ (λ (l : List (List ℕ)) (others : List Said). said_of r.name.now l ∷ others) (body_same told_lines none_test) (tests_none told_lines none_test)
      ∙ ap (λ (s : Said). s ∷ []) said_so

pub read_back : BlocksReadBack
read_back r is = block_reads r is
