-- The lines that tell breaches, one after another.
use Rattle.std.proofs.Common.{◌≡◌, ◌∙◌, ◌<◌, ◌+◌, ℕ, List, [], ◌∷◌, ◌++◌, Err, Ok, Option, Result, ap, append_assoc, drop, get_or, length, refl, subst, sym, take}
use Rattle.std.proofs.lemmas.List.{append-nil, take-append-drop, take_more}
use Rattle.std.proofs.lemmas.Bool.{false≢true}
use Rattle.std.specs.Io.KnownBytes.{Appends}
use Rattle.std.specs.Result.{IsErr}
use Rattle.check_command.specs.Breaches.{AreBreachLines, BeginsLines, IsBreachTold, WritesLines, breaches_told}
use Rattle.check_command.specs.declared.objecting.Told.{Told}
use Rattle.log_text.specs.FoundBreaches.{Breaches}
use Rattle.log_text.specs.MessageVerdict.{MessageVerdict}
use Rattle.log_text.specs.Profile.{Profile}
use Rattle.log_text.specs.declared.place.LogText.{LogText}
use Rattle.message_judge.specs.declared.breaches.Broken.{Broken}
use Rattle.text_fields.proofs.Written.{appends_none, appends_then, begins_then}
use Rattle.text_fields.specs.Writing.{Begins}
use Rattle.trace_recorder.specs.declared.logged.Logged.{Logged}

-- a line more
pub one_more : (IsLine : Broken → List ℕ → Type 0) (front : List Broken) (broken : Broken) (bytes line : List ℕ) → AreBreachLines IsLine front bytes → IsLine broken line
    → AreBreachLines IsLine (front ++ broken ∷ []) (bytes ++ line)
one_more IsLine [] broken bytes line none is = (line, [], is, refl, ap (λ (b : List ℕ). b ++ line) none ∙ sym (append-nil line))
one_more IsLine (first ∷ rest) broken bytes line (head, others, is_head, are, whole) is =
    (head, others ++ line, is_head, one_more IsLine rest broken others line are is, ap (λ (b : List ℕ). b ++ line) whole ∙ append_assoc head others line)

module _ (IsLine : Broken → List ℕ → Type 0) (listed : List Broken) (a b c : Option (List ℕ)) (i : ℕ) (broken none : Broken) where
  front_more : i < length listed → broken ≡ get_or listed i none → take (i + 1) listed ≡ take i listed ++ broken ∷ []
  front_more lt is = take_more listed i none lt ∙ ap (λ (x : Broken). take i listed ++ x ∷ []) (sym is)

  -- a turn of the loop
  pub told_more : i < length listed → broken ≡ get_or listed i none → (bytes : List ℕ) × AreBreachLines IsLine (take i listed) bytes × Appends a b bytes
      → (line : List ℕ) × IsLine broken line × Appends b c line → (bytes : List ℕ) × AreBreachLines IsLine (take (i + 1) listed) bytes × Appends a c bytes
  told_more lt is (bytes, are, sent) (line, is_line, now) =
      (bytes ++ line, subst (λ (l : List Broken). AreBreachLines IsLine l (bytes ++ line)) (sym (front_more lt is)) (one_more IsLine (take i listed) broken bytes line are is_line), appends_then a b c bytes line sent now)

  -- a fault in it
  pub told_until : i < length listed → broken ≡ get_or listed i none → (bytes : List ℕ) × AreBreachLines IsLine (take i listed) bytes × Appends a b bytes
      → (line : List ℕ) × IsLine broken line × Begins b c line → BeginsLines IsLine listed a c
  told_until lt is (bytes, are, sent) (line, is_line, now) = record {
    front = take (i + 1) listed;
    rest = drop (i + 1) listed;
    parts = sym (take-append-drop (i + 1) listed);
    bytes = bytes ++ line;
    lines = subst (λ (l : List Broken). AreBreachLines IsLine l (bytes ++ line)) (sym (front_more lt is)) (one_more IsLine (take i listed) broken bytes line are is_line);
    begun = begins_then a b c bytes line sent now;
  }

pub none_told : (IsLine : Broken → List ℕ → Type 0) (a : Option (List ℕ)) → (bytes : List ℕ) × AreBreachLines IsLine [] bytes × Appends a a bytes
none_told IsLine a = ([], refl, appends_none a)

-- the lines, or a beginning of them
pub told_first : {T E : Type 0} (IsLine : Broken → List ℕ → Type 0) (breaches : List Broken) (a b : Option (List ℕ)) (r : Result T E) → WritesLines IsLine breaches a b r → BeginsLines IsLine breaches a b
told_first IsLine breaches a b (Ok _) (bytes, are, sent) = record {
  front = breaches;
  rest = [];
  parts = sym (append-nil breaches);
  bytes = bytes;
  lines = are;
  begun = record { front = bytes; rest = []; parts = sym (append-nil bytes); sent = sent };
}
told_first IsLine breaches a b (Err _) begun = begun

-- so of the breaches that were listed, by another name
pub told_of_listed : {T E : Type 0} (IsLine : Broken → List ℕ → Type 0) (verdict : MessageVerdict) (found listed : Option Breaches) (a b : Option (List ℕ)) (r : Result T E) → found ≡ listed
    → WritesLines IsLine (breaches_told verdict found) a b r → BeginsLines IsLine (breaches_told verdict listed) a b
told_of_listed IsLine verdict found listed a b r same wrote =
    told_first IsLine (breaches_told verdict listed) a b r (subst (λ (x : Option Breaches). WritesLines IsLine (breaches_told verdict x) a b r) same wrote)

-- what is told of a breach, with its parts by other names
pub told_as : (profile : Profile) (text : LogText) (broken : Broken) (h k : ℕ) (log entries : List Logged) (found told : Option Told) → h ≡ k → log ≡ entries → found ≡ told
    → IsBreachTold profile h log text broken found → IsBreachTold profile k entries text broken told
told_as profile text broken h k log entries found told harts same is there = subst (λ (t : Option Told). IsBreachTold profile k entries text broken t) is
    (subst (λ (l : List Logged). IsBreachTold profile k l text broken found) same (subst (λ (n : ℕ). IsBreachTold profile n log text broken found) harts there))

-- a fault that is passed on
pub told_stops : {T E : Type 0} (IsLine : Broken → List ℕ → Type 0) (breaches : List Broken) (a b : Option (List ℕ)) (r : Result T E) → IsErr r → BeginsLines IsLine breaches a b → WritesLines IsLine breaches a b r
told_stops IsLine breaches a b (Ok _) failed begun = absurd (false≢true failed)
told_stops IsLine breaches a b (Err _) failed begun = begun
