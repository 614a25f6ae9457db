-- What a test asks of its final states.
use Rattle.std.specs.Prelude.{ℕ, ◌-◌, ◌==◌, Bool, true, List, [], ◌∷◌, length, take, Option, Some, None, Result, Ok, Err, if◌then◌else◌, codes}
use Rattle.text_words.specs.Words.{is_blank, skip, symbol_at}
use Rattle.litmus_parts.specs.declared.places.Place.{Place}
use Rattle.litmus_parts.specs.declared.stop.Section.TheVariants as sections
use Rattle.litmus_parts.specs.declared.stop.Cause.TheVariants as causes
use Rattle.litmus_parts.specs.declared.stop.Stop.{Stop}
use Rattle.litmus_parts.specs.Stops.{Read, at, ◌>>=◌}
use Rattle.litmus_parts.specs.Scanning.{expect, or_stop, keyword_at, items_at}
use Rattle.litmus_parts.specs.Places.{place_at}
use Rattle.litmus_parts.specs.declared.step.Step.{Step}
use Rattle.litmus_parts.specs.declared.step.Step.TheVariants as steps
use Rattle.litmus_text.specs.declared.question.Asking.{Asking}
use Rattle.litmus_text.specs.declared.question.Kind.{Kind}
use Rattle.litmus_text.specs.declared.question.Kind.TheVariants as kinds
use Rattle.std.specs.Option.{option_map}
use Rattle.litmus_text.specs.Propositions.{closed, proposition_at}

-- ---- locations

-- a semicolon, which may be missing before the bracket
abbrev pub marked : Option (List ℕ) → Option (List ℕ) → List ℕ → Result (List ℕ) Stop
marked (Some rest) bracket bytes = Ok rest
marked None (Some rest) bytes = Ok bytes
marked None None bytes = Err (at causes.LocationsEnd bytes)

unfoldable pub past_mark : List ℕ → Result (List ℕ) Stop
past_mark bytes = marked (symbol_at (codes ";") bytes) (symbol_at (codes "]") bytes) bytes

unfoldable pub asked_at : ℕ → List ℕ → Read Place
asked_at harts bytes = place_at sections.Condition harts bytes >>= λ x. past_mark x.1 >>= λ rest. Ok (x.0, rest)

abbrev pub listed_at : ℕ → List ℕ → Read (List Place)
listed_at harts bytes = items_at (codes "]") causes.FewPlaces (asked_at harts) 400 bytes

abbrev pub bracketed_at : ℕ → List ℕ → Read (List Place)
bracketed_at harts bytes = expect (codes "[") causes.Locations bytes >>= λ rest. listed_at harts rest

abbrev pub behind_locations : Option (List ℕ) → ℕ → List ℕ → Read (List Place)
behind_locations (Some rest) harts bytes = bracketed_at harts rest
behind_locations None harts bytes = Ok ([], bytes)

-- the places that are told beside those of the question, if any are
unfoldable pub locations_at : ℕ → List ℕ → Read (List Place)
locations_at harts bytes = behind_locations (keyword_at (codes "locations") bytes) harts bytes

-- ---- the states that count

abbrev pub filtered_at : ℕ → List ℕ → Read (Option (List Step))
filtered_at harts bytes = proposition_at harts bytes >>= λ x. Ok (Some x.0, x.1)

abbrev pub behind_filter : Option (List ℕ) → ℕ → List ℕ → Read (Option (List Step))
behind_filter (Some rest) harts bytes = filtered_at harts rest
behind_filter None harts bytes = Ok (None, bytes)

-- what a state has to keep to be told, if anything
unfoldable pub filter_at : ℕ → List ℕ → Read (Option (List Step))
filter_at harts bytes = behind_filter (keyword_at (codes "filter") bytes) harts bytes

-- ---- the question

abbrev pub asked : Kind → Read (List Step) → Read (Kind × List Step)
asked kind read = read >>= λ x. Ok ((kind, x.0), x.1)

unfoldable pub exists_at : ℕ → List ℕ → Read (List Step)
exists_at harts bytes = or_stop (keyword_at (codes "exists") bytes) causes.Question bytes >>= λ rest. proposition_at harts rest

-- behind not, in parentheses or not
abbrev pub behind_not : Option (List ℕ) → ℕ → List ℕ → Read (List Step)
behind_not (Some rest) harts bytes = closed (exists_at harts rest)
behind_not None harts bytes = exists_at harts bytes

unfoldable pub denied_at : ℕ → List ℕ → Read (List Step)
denied_at harts bytes = behind_not (symbol_at (codes "(") bytes) harts bytes

abbrev pub question_by : (some all mark word : Option (List ℕ)) → ℕ → List ℕ → Read (Kind × List Step)
question_by (Some rest) all mark word harts bytes = asked kinds.Exists (proposition_at harts rest)
question_by None (Some rest) mark word harts bytes = asked kinds.Forall (proposition_at harts rest)
question_by None None (Some rest) word harts bytes = asked kinds.NotExists (exists_at harts rest)
question_by None None None (Some rest) harts bytes = asked kinds.NotExists (denied_at harts rest)
question_by None None None None harts bytes = Err (at causes.Question bytes)

-- exists, forall, ~exists or not exists
unfoldable pub question_at : ℕ → List ℕ → Read (Kind × List Step)
question_at harts bytes = question_by (keyword_at (codes "exists") bytes) (keyword_at (codes "forall") bytes) (symbol_at (codes "~") bytes) (keyword_at (codes "not") bytes) harts bytes

-- ---- all of it

-- a blank for each stretch of blanks
abbrev pub starts_blank : List ℕ → Bool
starts_blank [] = true
starts_blank (b ∷ bytes) = is_blank b

abbrev pub spaced : List ℕ → List ℕ
spaced [] = []
spaced (b ∷ bytes) = if is_blank b then (if starts_blank bytes then spaced bytes else 32 ∷ spaced bytes) else b ∷ spaced bytes

-- the text from here to there
abbrev pub between : List ℕ → List ℕ → List ℕ
between bytes rest = spaced (take (length (skip bytes) - length rest) (skip bytes))

-- nothing may stand behind a test
abbrev pub end_at : List ℕ → Result (Unit {0}) Stop
end_at rest = if length (skip rest) == 0 then Ok tt else Err (at causes.Nothing rest)

-- the question with its text
abbrev pub last_at : ℕ → List ℕ → Result ((Kind × List Step) × List ℕ) Stop
last_at harts bytes = question_at harts bytes >>= λ q. end_at q.1 >>= λ e. Ok (q.0, between bytes q.1)

-- what is asked: the places told beside it, what a state has to keep to be told, the question and its text
pub record Asked : Type 0 where
  pub places : List Place
  pub filter : Option (List Step)
  pub kind : Kind
  pub steps : List Step
  pub text : List ℕ

abbrev pub asking : Asking → Asked
asking a = record { places = a.places.items; filter = option_map (λ v. v.items) a.filter; kind = a.kind; steps = a.steps.items; text = a.text.items }

unfoldable pub asking_at : ℕ → List ℕ → Result Asked Stop
asking_at harts bytes =
    locations_at harts bytes >>= λ l. filter_at harts l.1 >>= λ f. last_at harts f.1 >>= λ q.
    Ok (record { places = l.0; filter = f.0; kind = q.0.0; steps = q.0.1; text = q.1 })
