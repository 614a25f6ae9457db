-- What is told of a message that breaks a rule.
use Rattle.std.specs.Prelude.{◌≡◌, ◌⊎◌, ℕ, List, [], ◌∷◌, ◌++◌, ◌==◌, Err, None, Ok, Option, Result, Some, codes, if◌then◌else◌, option_map, slice_get}
use Rattle.std.specs.Io.KnownBytes.{Appends}
use Rattle.check_command.specs.Logs.{clients_in, messages_in}
use Rattle.check_command.specs.declared.log.Log.{Log}
use Rattle.check_command.specs.declared.objecting.Cause.{Cause}
use Rattle.check_command.specs.declared.objecting.Cause.TheVariants as cause
use Rattle.check_command.specs.declared.objecting.Told.{Told}
use Rattle.log_text.specs.Contradictions.{Contradicts}
use Rattle.log_text.specs.Objections.{ObjectsTo}
use Rattle.log_text.specs.FoundBreaches.{Breaches}
use Rattle.log_text.specs.MessageVerdict.{MessageVerdict}
use Rattle.log_text.specs.Places.{IsPlace}
use Rattle.log_text.specs.Profile.{Profile}
use Rattle.log_text.specs.declared.contradiction.Contradiction.{Contradiction}
use Rattle.log_text.specs.declared.objection.Objection.{Objection}
use Rattle.log_text.specs.declared.place.LogText.{LogText}
use Rattle.log_text.specs.Words.{contradiction_text, objection_text, place_text, unanswered_text, unwritten_text}
use Rattle.log_text.specs.declared.unanswered.Unanswered.{Unanswered as Question}
use Rattle.log_text.specs.declared.unwritten.UnwrittenByte.{UnwrittenByte}
use Rattle.message_judge.specs.declared.breaches.Broken.{Broken}
use Rattle.message_judge.specs.declared.verdict.MessageBreach.{MessageBreach}
use Rattle.message_judge.specs.declared.verdict.MessageBreach.TheVariants.{Incoherent, Unanswered, Unlawful, Unwritten}
use Rattle.message_judge.specs.declared.verdict.MessageVerdict.TheVariants.{Lawful, Unlawful as Breaks}
use Rattle.text_fields.specs.Writing.{Begins}
use Rattle.trace_recorder.specs.declared.logged.Logged.{Logged}

abbrev pub AsObjection : (Option Objection → Type 0) → Option Cause → Type 0
AsObjection P None = P None
AsObjection P (Some (cause.Objection o)) = P (Some o)
AsObjection P (Some (cause.Contradiction c)) = ⊥
AsObjection P (Some (cause.Unanswered q)) = ⊥
AsObjection P (Some (cause.Unwritten b)) = ⊥

abbrev pub AsContradiction : (Option Contradiction → Type 0) → Option Cause → Type 0
AsContradiction P None = P None
AsContradiction P (Some (cause.Objection o)) = ⊥
AsContradiction P (Some (cause.Contradiction c)) = P (Some c)
AsContradiction P (Some (cause.Unanswered q)) = ⊥
AsContradiction P (Some (cause.Unwritten b)) = ⊥

abbrev pub AsQuestion : (Option Question → Type 0) → Option Cause → Type 0
AsQuestion P None = P None
AsQuestion P (Some (cause.Objection o)) = ⊥
AsQuestion P (Some (cause.Contradiction c)) = ⊥
AsQuestion P (Some (cause.Unanswered q)) = P (Some q)
AsQuestion P (Some (cause.Unwritten b)) = ⊥

abbrev pub AsUnwritten : (Option UnwrittenByte → Type 0) → Option Cause → Type 0
AsUnwritten P None = P None
AsUnwritten P (Some (cause.Objection o)) = ⊥
AsUnwritten P (Some (cause.Contradiction c)) = ⊥
AsUnwritten P (Some (cause.Unanswered q)) = ⊥
AsUnwritten P (Some (cause.Unwritten b)) = P (Some b)

-- what stands against the message at that index of a log: the rule that it breaks, what it contradicts, that no answer follows it, or which of its bytes wasn't written
abbrev pub IsCauseOf : Profile → (harts : ℕ) → List Logged → LogText → (index : ℕ) → MessageBreach → Option Cause → Type 0
IsCauseOf profile harts log text index (Unlawful rule) = AsObjection (ObjectsTo profile rule index harts log)
IsCauseOf profile harts log text index (Incoherent breach) = AsContradiction (Contradicts breach index log text)
IsCauseOf profile harts log text index Unanswered = AsQuestion (λ found. option_map (λ (q : Question). q.entry) found ≡ slice_get log index)
IsCauseOf profile harts log text index (Unwritten address) = AsUnwritten (λ found. found ≡ option_map (λ (e : Logged). record { entry = e; address = address }) (slice_get log index))

-- the line on which the breach's message stands, with its name, and what stands against that message; nothing beyond the log or its text
abbrev pub IsBreachTold : Profile → (harts : ℕ) → List Logged → LogText → Broken → Option Told → Type 0
IsBreachTold profile harts log text broken None = IsPlace broken.index text None ⊎ IsCauseOf profile harts log text broken.index broken.breach None
IsBreachTold profile harts log text broken (Some told) = IsPlace broken.index text (Some told.place) × IsCauseOf profile harts log text broken.index broken.breach (Some told.cause)

-- ---- in words

abbrev pub cause_text : Cause → List ℕ
cause_text (cause.Objection o) = objection_text o
cause_text (cause.Contradiction c) = contradiction_text c
cause_text (cause.Unanswered q) = unanswered_text q
cause_text (cause.Unwritten b) = unwritten_text b

abbrev pub place_line : Told → List ℕ
place_line told = (place_text told.place ++ codes ": ") ++ (cause_text told.cause ++ codes "\n")

-- the message's line on standard error, behind the name of the log's file
abbrev pub told_line : (file : List ℕ) → Option Told → List ℕ
told_line file None = []
told_line file (Some told) = (codes "rvtl: " ++ (file ++ codes ": ")) ++ place_line told

-- the bytes are the line that tells this breach
pub record IsBreachLine (profile : Profile) (log : Log) (text : LogText) (file : List ℕ) (broken : Broken) (bytes : List ℕ) : Type 0 where
  pub told : Option Told
  pub found : IsBreachTold profile (clients_in log) (messages_in log) text broken told
  pub line : bytes ≡ told_line file told

-- the bytes are the lines of these breaches, one after another
abbrev pub AreBreachLines : (Broken → List ℕ → Type 0) → List Broken → List ℕ → Type 0
AreBreachLines IsLine [] bytes = bytes ≡ []
AreBreachLines IsLine (broken ∷ rest) bytes = (first : List ℕ) × (others : List ℕ) × IsLine broken first × AreBreachLines IsLine rest others × (bytes ≡ first ++ others)

-- the first of these breaches have such lines, and a beginning of those went out
pub record BeginsLines (IsLine : Broken → List ℕ → Type 0) (breaches : List Broken) (old new : Option (List ℕ)) : Type 0 where
  pub front : List Broken
  pub rest : List Broken
  pub parts : breaches ≡ front ++ rest
  pub bytes : List ℕ
  pub lines : AreBreachLines IsLine front bytes
  pub begun : Begins old new bytes

-- the line of each of these breaches, or after a fault a beginning of them
abbrev pub WritesLines : {T E : Type 0} → (Broken → List ℕ → Type 0) → List Broken → Option (List ℕ) → Option (List ℕ) → Result T E → Type 0
WritesLines IsLine breaches old new (Ok _) = (bytes : List ℕ) × AreBreachLines IsLine breaches bytes × Appends old new bytes
WritesLines IsLine breaches old new (Err _) = BeginsLines IsLine breaches old new

-- those that are told: the breaches that are listed, where they are asked for, and else the verdict's
abbrev pub breaches_told : MessageVerdict → Option Breaches → List Broken
breaches_told Lawful breaches = []
breaches_told (Breaks breach index) None = record { breach = breach; index = index } ∷ []
breaches_told (Breaks breach index) (Some breaches) = if breaches.count == 0 then record { breach = breach; index = index } ∷ [] else breaches.listed.items
