-- A message stands on the same line, whether names are left out or not.
use Rattle.std.proofs.Common.{ℕ, suc, zero, ◌+◌, ◌-◌, ◌≤◌, ◌==◌, ◌≡◌, ◌∙◌, Bool, true, false, cond, codes, IfSome, List, [], ◌∷◌, Option, Some, None, All, ap, arith, is_some, map, refl, subst, sym, take}
use Rattle.std.specs.List.{join_with_byte, onto_first}
use Rattle.std.specs.Option.{option_map_or}
use Rattle.std.proofs.lemmas.Bool.{eqb-true}
use Rattle.std.proofs.lemmas.List.Elements.{All-cons, All-nil, All-take}
use Rattle.std.proofs.lemmas.List.Splits.{slice_split_at, slice_split_none}
use Rattle.text_fields.specs.Reading.{◌>>=◌, after, behind}
use Rattle.log_text.specs.Names.{if_name, is_message_line, is_name, lines_of, named, parted, without_name, without_names}
use Rattle.log_text.specs.Places.{message_line}
use Rattle.log_text.proofs.Lines.{some_line}

abbrev is_feed : ℕ → Bool
is_feed byte = byte == 10

abbrev NoFeed : List ℕ → Type 0
NoFeed line = All (λ byte. is_feed byte ≡ false) line

abbrev AreLines : List (List ℕ) → Type 0
AreLines [] = Unit {0}
AreLines (line ∷ lines) = NoFeed line × AreLines lines

-- ---- the lines of a text have no line feed, and are the lines of what they are joined to

onto_lines : (byte : ℕ) (lines : List (List ℕ)) → is_feed byte ≡ false → AreLines lines → AreLines (onto_first byte lines)
onto_lines byte [] other hold = (All-cons (λ b. is_feed b ≡ false) byte [] other (All-nil (λ b. is_feed b ≡ false)), tt)
onto_lines byte (line ∷ lines) other hold = (All-cons (λ b. is_feed b ≡ false) byte line other hold.0, hold.1)

line_holds : (byte : ℕ) (lines : List (List ℕ)) (b : Bool) → is_feed byte ≡ b → AreLines lines → AreLines (cond b ([] ∷ lines) (onto_first byte lines))
line_holds byte lines true is hold = (All-nil (λ b. is_feed b ≡ false), hold)
line_holds byte lines false is hold = onto_lines byte lines is hold

lines_hold : (text : List ℕ) → AreLines (lines_of text)
lines_hold [] = (All-nil (λ b. is_feed b ≡ false), tt)
lines_hold (byte ∷ text) = line_holds byte (lines_of text) (is_feed byte) refl (lines_hold text)

cut_holds : (line : List ℕ) → NoFeed line → NoFeed (without_name line)
cut_holds line hold = go (named line)
  where
    go : (o : Option (ℕ × List ℕ)) → NoFeed (option_map_or (λ parts. take parts.0 line) o line)
    go None = hold
    go (Some parts) = All-take (λ b. is_feed b ≡ false) parts.0 line hold

cuts_hold : (lines : List (List ℕ)) → AreLines lines → AreLines (map without_name lines)
cuts_hold [] hold = tt
cuts_hold (line ∷ lines) hold = (cut_holds line hold.0, cuts_hold lines hold.1)

split_again : (line : List ℕ) (lines : List (List ℕ)) → NoFeed line → AreLines lines → lines_of (join_with_byte 10 (line ∷ lines)) ≡ line ∷ lines
split_again line [] hold holds = slice_split_none is_feed line hold
split_again line (next ∷ lines) hold holds =
    slice_split_at is_feed line 10 (join_with_byte 10 (next ∷ lines)) hold refl ∙ ap (λ rest. line ∷ rest) (split_again next lines holds.0 holds.1)

lines_cut : (text : List ℕ) → lines_of (without_names text) ≡ map without_name (lines_of text)
lines_cut text = let some = some_line text in go (lines_of text) some.0 some.1 (lines_hold text) some.2
  where
    go : (lines : List (List ℕ)) (first : List ℕ) (rest : List (List ℕ)) → AreLines lines → lines ≡ first ∷ rest
        → lines_of (join_with_byte 10 (map without_name lines)) ≡ map without_name lines
    go [] first rest hold is = absurd cc
    go (line ∷ lines) first rest hold is = split_again (without_name line) (map without_name lines) (cut_holds line hold.0) (cuts_hold lines hold.1)

-- ---- a message's line by the lines

abbrev line_from : (lines messages : ℕ) → List (List ℕ) → Option ℕ
line_from n m [] = None
line_from n m (line ∷ lines) = cond (is_message_line line) (cond (m == 0) (Some (n + 1)) (line_from (n + 1) (m - 1) lines)) (line_from (n + 1) m lines)

abbrev behind_first : (lines messages : ℕ) → List (List ℕ) → Option ℕ
behind_first n m [] = None
behind_first n m (line ∷ lines) = line_from (n + 1) m lines

onto_behind : (n m byte : ℕ) (lines : List (List ℕ)) → behind_first n m (onto_first byte lines) ≡ behind_first n m lines
onto_behind n m byte [] = refl
onto_behind n m byte (line ∷ lines) = refl

-- whether a message's line begins, its first line says
same_some : (b : Bool) (first second : List ℕ) → is_some (cond b (Some first) None) ≡ is_some (cond b (Some second) None)
same_some true first second = refl
same_some false first second = refl

blank_onto : (byte : ℕ) (text : List ℕ) (all : List (List ℕ)) (line : List ℕ) (lines : List (List ℕ)) → onto_first byte all ≡ line ∷ lines
    → is_some (after (32 ∷ []) (byte ∷ text)) ≡ is_some (after (32 ∷ []) line)
blank_onto byte text [] line lines is =
    let same : byte ∷ [] ≡ line = cc in
    same_some (byte == 32) text [] ∙ ap (λ (l : List ℕ). is_some (after (32 ∷ []) l)) same
blank_onto byte text (first ∷ all) line lines is =
    let same : byte ∷ first ≡ line = cc in
    same_some (byte == 32) text first ∙ ap (λ (l : List ℕ). is_some (after (32 ∷ []) l)) same

blank_first : (text line : List ℕ) (lines : List (List ℕ)) → lines_of text ≡ line ∷ lines → is_some (after (32 ∷ []) text) ≡ is_some (after (32 ∷ []) line)
blank_first [] line lines is =
    let same : [] ≡ line = cc in
    ap (λ (l : List ℕ). is_some (after (32 ∷ []) l)) same
blank_first (byte ∷ text) line lines is = go (is_feed byte) refl is
  where
    go : (b : Bool) → is_feed byte ≡ b → cond b ([] ∷ lines_of text) (onto_first byte (lines_of text)) ≡ line ∷ lines → is_some (after (32 ∷ []) (byte ∷ text)) ≡ is_some (after (32 ∷ []) line)
    go true feed is =
        let same : [] ≡ line = cc in
        ap (λ (b : ℕ). is_some (after (32 ∷ []) (b ∷ text))) (eqb-true byte 10 feed) ∙ ap (λ (l : List ℕ). is_some (after (32 ∷ []) l)) same
    go false other is = blank_onto byte text (lines_of text) line lines is

same_lead : (byte : ℕ) (text line : List ℕ) (lines : List (List ℕ)) → lines_of text ≡ line ∷ lines → is_message_line (byte ∷ text) ≡ is_message_line (byte ∷ line)
same_lead byte text line lines is = go (byte == 77)
  where
    go : (b : Bool) → is_some (cond b (after (32 ∷ []) text) None) ≡ is_some (cond b (after (32 ∷ []) line) None)
    go true = blank_first text line lines is
    go false = refl

abbrev IsByLines : ℕ → ℕ → List ℕ → Type 0
IsByLines n m text = (message_line true n m text ≡ line_from n m (lines_of text)) × (message_line false n m text ≡ behind_first n m (lines_of text))

one_more_byte : (n m byte : ℕ) (text : List ℕ) → ((k j : ℕ) → IsByLines k j text) → IsByLines n m (byte ∷ text)
one_more_byte n m byte text rest = (starts (is_feed byte) refl, goes_on (is_feed byte))
  where
    goes_on : (b : Bool) → message_line b (cond b (n + 1) n) m text ≡ behind_first n m (cond b ([] ∷ lines_of text) (onto_first byte (lines_of text)))
    goes_on true = (rest (n + 1) m).0
    goes_on false = (rest n m).1 ∙ sym (onto_behind n m byte (lines_of text))

    message : (b : Bool) (line : List ℕ) (lines : List (List ℕ)) → lines_of text ≡ line ∷ lines
        → cond b (cond (m == 0) (Some (n + 1)) (message_line false n (m - 1) text)) (message_line false n m text)
        ≡ cond b (cond (m == 0) (Some (n + 1)) (line_from (n + 1) (m - 1) lines)) (line_from (n + 1) m lines)
    message true line lines is = ap (λ (f : Option ℕ). cond (m == 0) (Some (n + 1)) f) ((rest n (m - 1)).1 ∙ ap (λ (l : List (List ℕ)). behind_first n (m - 1) l) is)
    message false line lines is = (rest n m).1 ∙ ap (λ (l : List (List ℕ)). behind_first n m l) is

    starts : (b : Bool) → is_feed byte ≡ b
        → cond (is_message_line (byte ∷ text)) (cond (m == 0) (Some (n + 1)) (message_line b (cond b (n + 1) n) (m - 1) text)) (message_line b (cond b (n + 1) n) m text)
        ≡ line_from n m (cond b ([] ∷ lines_of text) (onto_first byte (lines_of text)))
    starts true feed =
        subst
        (λ (f : ℕ). cond (is_message_line (f ∷ text)) (cond (m == 0) (Some (n + 1)) (message_line true (n + 1) (m - 1) text)) (message_line true (n + 1) m text) ≡ line_from (n + 1) m (lines_of text))
        (sym (eqb-true byte 10 feed))
        (rest (n + 1) m).0
    starts false other =
        let some = some_line text in
        message (is_message_line (byte ∷ text)) some.0 some.1 some.2
        ∙ ap (λ (b : Bool). cond b (cond (m == 0) (Some (n + 1)) (line_from (n + 1) (m - 1) some.1)) (line_from (n + 1) m some.1)) (same_lead byte text some.0 some.1 some.2)
        ∙ ap (λ (l : List (List ℕ)). line_from n m (onto_first byte l)) (sym some.2)

by_lines : (n m : ℕ) (text : List ℕ) → IsByLines n m text
by_lines n m [] = (refl, refl)
by_lines n m (byte ∷ text) = one_more_byte n m byte text (λ k j. by_lines k j text)

-- ---- without its name a line is a message's, if it was

least : (n : ℕ) (o : Option (List ℕ)) (p : Option (ℕ × List ℕ)) → IfSome p (λ parts. n + 1 ≤ parts.0) → IfSome (behind o (λ rest. Some (n, rest)) p) (λ parts. n ≤ parts.0)
least n (Some rest) p less = omega arith
least n None None less = tt
least n None (Some parts) less = omega (arith, less)

at_least : (n : ℕ) (bytes : List ℕ) → IfSome (parted n bytes) (λ parts. n ≤ parts.0)
at_least n [] = tt
at_least n (byte ∷ bytes) = least n (after (codes " ; ") (byte ∷ bytes)) (parted (n + 1) bytes) (at_least (n + 1) bytes)

kept_lead : (a b : ℕ) (rest : List ℕ) (k : ℕ) → 2 ≤ k → is_message_line (take k (a ∷ b ∷ rest)) ≡ is_message_line (a ∷ b ∷ rest)
kept_lead a b rest zero two = let bad : ⊥ = omega (arith, two) in absurd bad
kept_lead a b rest (suc zero) two = let bad : ⊥ = omega (arith, two) in absurd bad
kept_lead a b rest (suc (suc k)) two = go (a == 77) (b == 32)
  where
    go : (x y : Bool) → is_some (cond x (cond y (Some (take k rest)) None) None) ≡ is_some (cond x (cond y (Some rest) None) None)
    go true true = refl
    go true false = refl
    go false y = refl

same_kind : (line : List ℕ) → is_message_line (without_name line) ≡ is_message_line line
same_kind [] = refl
same_kind (a ∷ []) = go (a == 77)
  where
    go : (x : Bool) → is_message_line (option_map_or (λ parts. take parts.0 (a ∷ [])) ((cond x None None >>= parted 2) >>= if_name) (a ∷ [])) ≡ is_message_line (a ∷ [])
    go true = refl
    go false = refl
same_kind (a ∷ b ∷ rest) = go (a == 77) (b == 32)
  where
    cut : (o : Option (ℕ × List ℕ)) → IfSome o (λ parts. 2 ≤ parts.0)
        → is_message_line (option_map_or (λ parts. take parts.0 (a ∷ b ∷ rest)) (o >>= if_name) (a ∷ b ∷ rest)) ≡ is_message_line (a ∷ b ∷ rest)
    cut None two = refl
    cut (Some parts) two = if_cut (is_name parts.1)
      where
        if_cut : (x : Bool) → is_message_line (option_map_or (λ (parts : ℕ × List ℕ). take parts.0 (a ∷ b ∷ rest)) (cond x (Some parts) None) (a ∷ b ∷ rest)) ≡ is_message_line (a ∷ b ∷ rest)
        if_cut true = kept_lead a b rest parts.0 two
        if_cut false = refl

    go : (x y : Bool) → is_message_line (option_map_or (λ parts. take parts.0 (a ∷ b ∷ rest)) ((cond x (cond y (Some rest) None) None >>= parted 2) >>= if_name) (a ∷ b ∷ rest))
        ≡ is_message_line (a ∷ b ∷ rest)
    go true true = cut (parted 2 rest) (at_least 2 rest)
    go true false = refl
    go false y = refl

line_from_cut : (n m : ℕ) (lines : List (List ℕ)) → line_from n m (map without_name lines) ≡ line_from n m lines
line_from_cut n m [] = refl
line_from_cut n m (line ∷ lines) =
    ap (λ b. cond b (cond (m == 0) (Some (n + 1)) (line_from (n + 1) (m - 1) (map without_name lines))) (line_from (n + 1) m (map without_name lines))) (same_kind line)
    ∙ ap (λ f. cond (is_message_line line) (cond (m == 0) (Some (n + 1)) f) (line_from (n + 1) m (map without_name lines))) (line_from_cut (n + 1) (m - 1) lines)
    ∙ ap (λ f. cond (is_message_line line) (cond (m == 0) (Some (n + 1)) (line_from (n + 1) (m - 1) lines)) f) (line_from_cut (n + 1) m lines)

pub same_line : (text kept : List ℕ) → kept ≡ without_names text → (index : ℕ) → message_line true 0 index kept ≡ message_line true 0 index text
same_line text kept is index =
    ap (message_line true 0 index) is
    ∙ (by_lines 0 index (without_names text)).0
    ∙ ap (line_from 0 index) (lines_cut text)
    ∙ line_from_cut 0 index (lines_of text)
    ∙ sym (by_lines 0 index text).0
