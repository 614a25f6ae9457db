-- A place with its value, as it is printed, is read as itself.
use Rattle.std.proofs.Common.{◌≡◌, ◌∙◌, ◌++◌, ◌+◌, ◌-◌, ◌/◌, ◌%◌, ◌^◌, ◌<◌, ◌≤◌, ℕ, zero, suc, Bool, true, false, List, [], ◌∷◌, Option, Some, None, Result, Ok, ap, ap₂, append-nil, append_assoc, arith, cond, length, refl, subst, sym}
use Rattle.std.proofs.lemmas.Bool.{lt-ltb, ltb-false, ltb-true, ne_eqb}
use Rattle.std.proofs.lemmas.Bool.Decides.{nat_tests}
use Rattle.std.proofs.lemmas.Fmt.{decimal_digit, decimal_step}
use Rattle.std.specs.Global.{Vec}
use Rattle.std.specs.List.{list_all}
use Rattle.std.specs.Prelude.{◌==◌, ◌&&◌, ◌||◌, decimal, nat_lt, slice_get, if◌then◌else◌}
use Rattle.assembly_reading.proofs.Decimals.{AreDigits, decimal_amount, decimal_digits, digits_amount, digits_are_word, digits_start}
use Rattle.assembly_reading.proofs.Naming.{is_number, number_is}
use Rattle.assembly_reading.proofs.Spelling.{small_unsigned}
use Rattle.assembly_reading.proofs.Splitting.{all_below, are_word, below_passes, is_cut, past_front, skip_front, starts, word_front}
use Rattle.assembly_reading.specs.Registers.{named, register_of}
use Rattle.litmus_answers.proofs.Pieces.{Plain, both_if, both_true, misses_append, word_plain}
use Rattle.litmus_answers.specs.Laws.{is_location_name, is_place}
use Rattle.litmus_answers.specs.Logs.{item_in, setting_of, spelled, written}
use Rattle.litmus_answers.specs.Naming.{plain}
use Rattle.litmus_answers.specs.States.{named as location_at_address, named_by, named_or, place_text, signed_text, told_text, value_text}
use Rattle.litmus_parts.specs.Places.{bracketed_at, hart_of, location_at, named_at, of_hart, place_at, plain_at, register_at, value_at, number_at, address_at}
use Rattle.litmus_parts.specs.declared.places.Place.{Place}
use Rattle.litmus_parts.specs.declared.places.Place.TheVariants.{Location, Register}
use Rattle.litmus_parts.specs.declared.places.Value.{Value}
use Rattle.litmus_parts.specs.declared.places.Value.TheVariants as values
use Rattle.litmus_parts.specs.declared.stop.Section.TheVariants.{Condition}
use Rattle.litmus_parts.specs.declared.told.Told.{Told}
use Rattle.litmus_parts.specs.declared.told.Told.TheVariants as told
use Rattle.text_fields.specs.Reading.{after, is_digit}
use Rattle.text_words.specs.Numbers.{amount_of, amount_on, negated, negated_of, number_of, signed_at, worth}
use Rattle.text_words.specs.Words.{is_blank, is_letter, is_name, is_word_byte, name_at, past_word, skip, word}
use Rattle.text_words.specs.declared.numbers.Number.{Number}
use Rattle.text_words.specs.declared.numbers.Number.TheVariants.{Word, Wide}

-- ---- digits

-- a mark beside the digits doesn't stand first
no_mark : (mark : ℕ) (ds rest : List ℕ) → mark < 48 → AreDigits ds → after (mark ∷ []) (ds ++ rest) ≡ None
no_mark mark [] rest low are = absurd (omega arith)
no_mark mark (d ∷ ds) rest low are = rw (ne_eqb d mark (λ e. omega (arith, are.all.0.0))) refl

no_bracket : (ds rest : List ℕ) → AreDigits ds → after (91 ∷ []) (ds ++ rest) ≡ None
no_bracket [] rest are = absurd (omega arith)
no_bracket (d ∷ ds) rest are = rw (ne_eqb d 91 (λ e. omega (arith, are.all.0.1))) refl

-- ---- registers

digit_is : (h : ℕ) → h < 10 → is_digit (48 + h) ≡ true
digit_is h lt = grind (arith, nat_tests)

hart_digit : (h : ℕ) → h < 10 → hart_of ((48 + h) ∷ []) ≡ Some h
hart_digit h lt =
    let back : 48 + h - 48 ≡ h = omega arith in
    rw (digit_is h lt) (ap (λ (x : ℕ). Some x) back)

hart_read : (h : ℕ) → h < 10 → hart_of (decimal h) ≡ Some h
hart_read h lt = ap hart_of (decimal_digit h lt) ∙ hart_digit h lt

abbrev two_digits : ℕ → List ℕ
two_digits r = if nat_lt r 10 then (48 + r) ∷ [] else (48 + r / 10) ∷ (48 + r % 10) ∷ []

decimal_two : (r : ℕ) → r < 100 → decimal r ≡ two_digits r
decimal_two r lt = go (nat_lt r 10) refl
  where
    go : (test : Bool) → nat_lt r 10 ≡ test → decimal r ≡ cond test ((48 + r) ∷ []) ((48 + r / 10) ∷ (48 + r % 10) ∷ [])
    go true e = decimal_digit r (ltb-true r 10 e)
    go false e =
        let more : 10 ≤ r = ltb-false r 10 e in
        let few : r / 10 < 10 = omega arith in
        decimal_step r more (omega arith) ∙ ap (λ (l : List ℕ). l ++ (48 + r % 10) ∷ []) (decimal_digit (r / 10) few)

registers_read : all_below 32 (λ (r : ℕ). is_number r (register_of (120 ∷ two_digits r))) ≡ true
unfolding register_of named
registers_read = refl

register_read : (r : ℕ) → r < 32 → register_of (120 ∷ decimal r) ≡ Some r
register_read r lt =
    ap (λ (l : List ℕ). register_of (120 ∷ l)) (decimal_two r (omega arith)) ∙ number_is r (register_of (120 ∷ two_digits r)) (below_passes (λ (n : ℕ). is_number n (register_of (120 ∷ two_digits n))) 32 r registers_read lt)

x_named : (h r : ℕ) (rest : List ℕ) → r < 32 → is_cut rest ≡ true → named_at Condition h (120 ∷ (decimal r ++ rest)) ≡ Ok (Register h r, rest)
unfolding named_at
x_named h r rest lt cut =
    let all = digits_are_word (decimal r) (decimal_digits r (omega arith)) in
    rw (word_front (decimal r) rest all cut, register_read r lt, past_front (decimal r) rest all cut) refl

colon_reads : (h r : ℕ) (rest : List ℕ) → r < 32 → is_cut rest ≡ true → register_at Condition h (58 ∷ 120 ∷ (decimal r ++ rest)) ≡ Ok (Register h r, rest)
unfolding register_at
colon_reads h r rest lt cut = x_named h r rest lt cut

hart_behind : (h : ℕ) (bytes : List ℕ) → h < 10 → of_hart (Some h) Condition 10 bytes ≡ register_at Condition h (past_word (skip bytes))
hart_behind h bytes few = rw (lt-ltb h 10 few) refl

hart_reads : (h r : ℕ) (rest : List ℕ) → h < 10 → r < 32 → is_cut rest ≡ true → plain_at Condition 10 (decimal h ++ (58 ∷ 120 ∷ (decimal r ++ rest))) ≡ Ok (Register h r, rest)
unfolding plain_at
hart_reads h r rest few lt cut =
    let are = decimal_digits h (omega arith) in
    let all = digits_are_word (decimal h) are in
    let behind : List ℕ = 58 ∷ 120 ∷ (decimal r ++ rest) in
    let bytes : List ℕ = decimal h ++ behind in
    let skipped : skip bytes ≡ bytes = skip_front (decimal h) behind (digits_start (decimal h) are) in
    let read : hart_of (word (skip bytes)) ≡ Some h = ap (λ (l : List ℕ). hart_of (word l)) skipped ∙ ap hart_of (word_front (decimal h) behind all refl) ∙ hart_read h few in
    ap (λ (o : Option ℕ). of_hart o Condition 10 bytes) read
    ∙ hart_behind h bytes few
    ∙ ap (λ (l : List ℕ). register_at Condition h (past_word l)) skipped
    ∙ ap (register_at Condition h) (past_front (decimal h) behind all refl)
    ∙ colon_reads h r rest lt cut

register_reads : (h r : ℕ) (rest : List ℕ) → h < 10 → r < 32 → is_cut rest ≡ true → place_at Condition 10 (decimal h ++ (58 ∷ 120 ∷ (decimal r ++ rest))) ≡ Ok (Register h r, rest)
unfolding place_at
register_reads h r rest few lt cut =
    let are = decimal_digits h (omega arith) in
    let behind : List ℕ = 58 ∷ 120 ∷ (decimal r ++ rest) in
    rw (skip_front (decimal h) behind (digits_start (decimal h) are), no_bracket (decimal h) behind are) (hart_reads h r rest few lt cut)

-- ---- locations

pub record IsLocation (name : List ℕ) : Type 0 where
  pub all : are_word name ≡ true
  pub start : starts name ≡ true
  pub is : is_name name ≡ true

all_word : (name : List ℕ) → list_all is_word_byte name ≡ true → are_word name ≡ true
all_word [] h = refl
all_word (b ∷ name) h = let parts = both_true (is_word_byte b) (list_all is_word_byte name) h in rw parts.0 (all_word name parts.1)

word_byte_starts : (b : ℕ) → is_word_byte b ≡ true → is_blank b ≡ false
word_byte_starts b h = grind (arith, nat_tests)

word_starts : (name : List ℕ) → is_name name ≡ true → are_word name ≡ true → starts name ≡ true
word_starts [] is all = absurd cc
word_starts (b ∷ name) is all = let parts = both_if (is_word_byte b) (are_word name) all in rw (word_byte_starts b parts.0) refl

pub location_of : (name : List ℕ) → is_location_name name ≡ true → IsLocation name
location_of name h =
    let parts = both_true (is_name name) (list_all is_word_byte name) h in
    let all = all_word name parts.1 in
    record { all = all; start = word_starts name parts.0 all; is = parts.0 }

name_reads : (name rest : List ℕ) → IsLocation name → is_cut rest ≡ true → name_at (name ++ rest) ≡ Some (name, rest)
unfolding name_at
name_reads name rest is cut = rw (skip_front name rest is.start, word_front name rest is.all cut, past_front name rest is.all cut, is.is) refl

location_reads : (name rest : List ℕ) → IsLocation name → place_at Condition 10 (91 ∷ (name ++ (93 ∷ rest))) ≡ Ok (Location name, rest)
unfolding place_at bracketed_at location_at
location_reads name rest is = rw (name_reads name (93 ∷ rest) is refl) refl

-- ---- places

abbrev pub place_of : Told → Place
place_of (told.Register hart register index) = Register hart register
place_of (told.Location name mask number) = Location name

pub place_reads : (t : Told) (rest : List ℕ) → is_place t ≡ true → is_cut rest ≡ true → place_at Condition 10 (told_text t ++ rest) ≡ Ok (place_of t, rest)
place_reads (told.Register h r i) rest is cut =
    let parts = both_true (nat_lt h 10) (nat_lt r 32) is in
    ap (place_at Condition 10) (append_assoc (decimal h) (58 ∷ 120 ∷ decimal r) rest) ∙ register_reads h r rest (ltb-true h 10 parts.0) (ltb-true r 32 parts.1) cut
place_reads (told.Location name mask number) rest is cut =
    ap (λ (l : List ℕ). place_at Condition 10 (91 ∷ l)) (append_assoc name (93 ∷ []) rest) ∙ location_reads name rest (location_of name is)

pub place_plain : (t : Told) → is_place t ≡ true → Plain (told_text t)
place_plain (told.Register h r i) is =
    let parts = both_true (nat_lt h 10) (nat_lt r 32) is in
    let few : h < 10 = ltb-true h 10 parts.0 in
    let lt : r < 32 = ltb-true r 32 parts.1 in
    misses_append (10 ∷ 59 ∷ 62 ∷ []) (decimal h) (58 ∷ 120 ∷ decimal r) (word_plain (decimal h) (digits_are_word (decimal h) (decimal_digits h (omega arith))))
    (refl, (refl, word_plain (decimal r) (digits_are_word (decimal r) (decimal_digits r (omega arith)))))
place_plain (told.Location name mask number) is = (refl, misses_append (10 ∷ 59 ∷ 62 ∷ []) name (93 ∷ []) (word_plain name (location_of name is).all) (refl, tt))

starts_front : (front rest : List ℕ) → starts front ≡ true → starts (front ++ rest) ≡ true
starts_front [] rest h = absurd cc
starts_front (b ∷ front) rest h = h

pub place_starts : (t : Told) → is_place t ≡ true → starts (told_text t) ≡ true
place_starts (told.Register h r i) is =
    let few : h < 10 = ltb-true h 10 (both_true (nat_lt h 10) (nat_lt r 32) is).0 in
    starts_front (decimal h) (58 ∷ 120 ∷ decimal r) (digits_start (decimal h) (decimal_digits h (omega arith)))
place_starts (told.Location name mask number) is = refl

-- ---- numbers

decimal_number : (n : ℕ) → n < 2 ^ 32 → number_of (decimal n) ≡ Some (Word n)
unfolding number_of
decimal_number n lt =
    let is : amount_of (decimal n) ≡ Some n = digits_amount (decimal n) (decimal_digits n (omega arith)) ∙ decimal_amount n (omega arith) in
    rw is (ap (λ (x : Number). Some x) (small_unsigned n lt))

some_negated : (n : ℕ) → 0 < n → n ≤ 2 ^ 31 → negated n ≡ Word (2 ^ 32 - n)
some_negated n some most = grind (arith, nat_tests)

decimal_negated : (n : ℕ) → 0 < n → n ≤ 2 ^ 31 → negated_of (decimal n) ≡ Some (Word (2 ^ 32 - n))
unfolding negated_of
decimal_negated n some most =
    let is : amount_of (decimal n) ≡ Some n = digits_amount (decimal n) (decimal_digits n (omega arith)) ∙ decimal_amount n (omega arith) in
    rw is (ap (λ (x : Number). Some x) (some_negated n some most))

pub number_reads : (n : ℕ) → n < 2 ^ 32 → number_of (decimal n) ≡ Some (Word n)
number_reads = decimal_number

signed_positive : (n : ℕ) → n < 2 ^ 32 → signed_at (decimal n ++ []) ≡ Some (Word n, [])
unfolding signed_at
signed_positive n lt =
    let are = decimal_digits n (omega arith) in
    let all = digits_are_word (decimal n) are in
    rw (skip_front (decimal n) [] (digits_start (decimal n) are), no_mark 45 (decimal n) [] (omega arith) are, word_front (decimal n) [] all refl, past_front (decimal n) [] all refl, decimal_number n lt) refl

signed_negative : (n : ℕ) → 0 < n → n ≤ 2 ^ 31 → signed_at (45 ∷ (decimal n ++ [])) ≡ Some (Word (2 ^ 32 - n), [])
unfolding signed_at
signed_negative n some most =
    let are = decimal_digits n (omega arith) in
    let all = digits_are_word (decimal n) are in
    rw (skip_front (decimal n) [] (digits_start (decimal n) are), word_front (decimal n) [] all refl, past_front (decimal n) [] all refl, decimal_negated n some most) refl

positive_reads : (n : ℕ) → n < 2 ^ 32 → value_at Condition (decimal n ++ []) ≡ Ok (values.Number n, [])
unfolding value_at number_at
positive_reads n lt =
    let are = decimal_digits n (omega arith) in
    rw (skip_front (decimal n) [] (digits_start (decimal n) are), no_mark 38 (decimal n) [] (omega arith) are, signed_positive n lt) refl

negative_reads : (n : ℕ) → 0 < n → n ≤ 2 ^ 31 → value_at Condition (45 ∷ (decimal n ++ [])) ≡ Ok (values.Number (2 ^ 32 - n), [])
unfolding value_at number_at
negative_reads n some most = rw (signed_negative n some most) refl

signed_reads_by : (test : Bool) (n : ℕ) → nat_lt n (2 ^ 31) ≡ test → n < 2 ^ 32 → value_at Condition (cond test (decimal n) (45 ∷ decimal (2 ^ 32 - n))) ≡ Ok (values.Number n, [])
signed_reads_by true n e lt = ap (value_at Condition) (sym (append-nil (decimal n))) ∙ positive_reads n lt
signed_reads_by false n e lt =
    let most : 2 ^ 31 ≤ n = ltb-false n (2 ^ 31) e in
    let back : 2 ^ 32 - (2 ^ 32 - n) ≡ n = omega arith in
    ap (λ (l : List ℕ). value_at Condition (45 ∷ l)) (sym (append-nil (decimal (2 ^ 32 - n)))) ∙ negative_reads (2 ^ 32 - n) (omega arith) (omega arith) ∙ ap (λ (x : ℕ). Ok (values.Number x, [])) back

signed_plain_by : (test : Bool) (n : ℕ) → nat_lt n (2 ^ 31) ≡ test → n < 2 ^ 32 → Plain (cond test (decimal n) (45 ∷ decimal (2 ^ 32 - n)))
signed_plain_by true n e lt = word_plain (decimal n) (digits_are_word (decimal n) (decimal_digits n (omega arith)))
signed_plain_by false n e lt = (refl, word_plain (decimal (2 ^ 32 - n)) (digits_are_word (decimal (2 ^ 32 - n)) (decimal_digits (2 ^ 32 - n) (omega arith))))

-- ---- names of locations

-- a letter or an underscore
first_is : (b : ℕ) (rest : Bool) → ((is_letter b || b == 95) && rest) ≡ true → (is_letter b || b == 95) ≡ true
first_is b rest h = (both_true (is_letter b || b == 95) rest h).0

not_and : (b : ℕ) → (is_letter b || b == 95) ≡ true → (b == 38) ≡ false
not_and b h = grind (arith, nat_tests)

not_minus : (b : ℕ) → (is_letter b || b == 95) ≡ true → (b == 45) ≡ false
not_minus b h = grind (arith, nat_tests)

not_zero : (b : ℕ) → (is_letter b || b == 95) ≡ true → (b == 48) ≡ false
not_zero b h = grind (arith, nat_tests)

no_digit : (b : ℕ) → (is_letter b || b == 95) ≡ true → nat_lt (worth b) 10 ≡ false
no_digit b h = grind (arith, nat_tests)

no_amount : (b : ℕ) (name : List ℕ) → (is_letter b || b == 95) ≡ true → amount_of (b ∷ name) ≡ None
unfolding amount_of amount_on
no_amount b [] h = rw (no_digit b h) refl
no_amount b (c ∷ []) h = rw (no_digit b h) refl
no_amount b (c ∷ d ∷ name) h = rw (not_zero b h, no_digit b h) refl

no_number : (b : ℕ) (name : List ℕ) → (is_letter b || b == 95) ≡ true → number_of (b ∷ name) ≡ None
unfolding number_of
no_number b name h = rw (no_amount b name h) refl

no_and : (name rest : List ℕ) → is_name name ≡ true → after (38 ∷ []) (name ++ rest) ≡ None
no_and [] rest is = absurd cc
no_and (b ∷ name) rest is = rw (not_and b (first_is b _ is)) refl

no_minus : (name rest : List ℕ) → is_name name ≡ true → after (45 ∷ []) (name ++ rest) ≡ None
no_minus [] rest is = absurd cc
no_minus (b ∷ name) rest is = rw (not_minus b (first_is b _ is)) refl

name_no_number : (name : List ℕ) → is_name name ≡ true → number_of name ≡ None
name_no_number [] is = absurd cc
name_no_number (b ∷ name) is = no_number b name (first_is b _ is)

signed_none : (name : List ℕ) → IsLocation name → signed_at (name ++ []) ≡ None
unfolding signed_at
signed_none name is = rw (skip_front name [] is.start, no_minus name [] is.is, word_front name [] is.all refl, name_no_number name is.is) refl

address_reads : (name : List ℕ) → IsLocation name → value_at Condition (name ++ []) ≡ Ok (values.Address name, [])
unfolding value_at number_at address_at
address_reads name is = rw (skip_front name [] is.start, no_and name [] is.is, signed_none name is, name_reads name [] is refl) refl

-- ---- values

-- how a value is printed reads as one that is spelled so
pub record Reads (text : List ℕ) : Type 0 where
  pub value : Value
  pub reads : value_at Condition text ≡ Ok (value, [])
  pub same : written value ≡ text
  pub is_plain : Plain text

signed_value : (n : ℕ) → n < 2 ^ 32 → Reads (signed_text n)
signed_value n lt = record { value = values.Number n; reads = signed_reads_by (nat_lt n (2 ^ 31)) n refl lt; same = refl; is_plain = signed_plain_by (nat_lt n (2 ^ 31)) n refl lt }

address_value : (name : List ℕ) → is_location_name name ≡ true → Reads name
address_value name h =
    let is = location_of name h in
    record { value = values.Address name; reads = ap (value_at Condition) (sym (append-nil name)) ∙ address_reads name is; same = refl; is_plain = word_plain name is.all }

-- ---- numbers that may be addresses

abbrev fits : Option (List ℕ) → Type 0
fits (Some name) = is_location_name name ≡ true
fits None = Unit {0}

value_reads_by : (found : Option (List ℕ)) (n : ℕ) → fits found → n < 2 ^ 32 → Reads (named_or found n)
value_reads_by (Some name) n is lt = address_value name is
value_reads_by None n is lt = signed_value n lt

got_fits : (names : List (Vec ℕ)) (i : ℕ) → list_all is_location_name (plain names) ≡ true → fits (named_by (slice_get names i))
got_fits [] i all = tt
got_fits (x ∷ names) zero all = (both_true (is_location_name x.items) (list_all is_location_name (plain names)) all).0
got_fits (x ∷ names) (suc i) all = got_fits names i (both_true (is_location_name x.items) (list_all is_location_name (plain names)) all).1

named_fits : (low apart : Bool) (found : Option (List ℕ)) → fits found → fits (cond low None (cond apart found None))
named_fits true apart found is = tt
named_fits false true found is = is
named_fits false false found is = tt

pub value_reads : (names : List (Vec ℕ)) (n : ℕ) → list_all is_location_name (plain names) ≡ true → n < 2 ^ 32 → Reads (value_text names n)
value_reads names n all lt =
    value_reads_by (location_at_address names n) n (named_fits (nat_lt n 2147487744) ((n - 2147487744) % 64 == 0) (named_by (slice_get names ((n - 2147487744) / 64))) (got_fits names ((n - 2147487744) / 64) all)) lt

-- ---- a place with its value

place_same : (t : Told) → place_text (place_of t) ≡ told_text t
place_same (told.Register h r i) = refl
place_same (told.Location name mask number) = refl

setting_same : (t : Told) (text : List ℕ) (is : is_place t ≡ true) (value : Reads text) → setting_of (told_text t ++ (61 ∷ text)) ≡ Some (place_of t, value.value)
setting_same t text is value = rw (place_reads t (61 ∷ text) is refl, value.reads) refl

item_alone : (text : List ℕ) → starts text ≡ true → item_in text ≡ spelled (setting_of text) text ∷ []
item_alone [] some = absurd cc
item_alone (b ∷ text) some = refl

pub item_reads : (t : Told) (text : List ℕ) → is_place t ≡ true → Reads text → item_in (told_text t ++ (61 ∷ text)) ≡ (told_text t ++ (61 ∷ text)) ∷ []
item_reads t text is value =
    let item : List ℕ = told_text t ++ (61 ∷ text) in
    item_alone item (starts_front (told_text t) (61 ∷ text) (place_starts t is))
    ∙ ap (λ (o : Option (Place × Value)). spelled o item ∷ []) (setting_same t text is value)
    ∙ ap₂ (λ (a b : List ℕ). (a ++ (61 ∷ b)) ∷ []) (place_same t) value.same

-- it begins no block
abbrev pub begins_none : List ℕ → Bool
begins_none [] = true
begins_none (b ∷ bytes) = if b == 84 then false else true

digits_begin : (ds rest : List ℕ) → AreDigits ds → begins_none (ds ++ rest) ≡ true
digits_begin [] rest are = absurd (omega arith)
digits_begin (d ∷ ds) rest are = rw (ne_eqb d 84 (λ e. omega (arith, are.all.0.1))) refl

pub place_begins : (t : Told) (rest : List ℕ) → is_place t ≡ true → begins_none (told_text t ++ rest) ≡ true
place_begins (told.Register h r i) rest is =
    let few : h < 10 = ltb-true h 10 (both_true (nat_lt h 10) (nat_lt r 32) is).0 in
    ap begins_none (append_assoc (decimal h) (58 ∷ 120 ∷ decimal r) rest) ∙ digits_begin (decimal h) ((58 ∷ 120 ∷ decimal r) ++ rest) (decimal_digits h (omega arith))
place_begins (told.Location name mask number) rest is = refl
