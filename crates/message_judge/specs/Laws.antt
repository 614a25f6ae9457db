-- Lawful messages, and the first message of another log that breaks a rule.
use Rattle.std.specs.Prelude.{ℕ, ◌≡◌, ◌+◌, ◌++◌, ◌↔◌, Bool, true, false, List, [], ◌∷◌, Option, take}
use Rattle.coherent_log.specs.Laws as coherence
use Rattle.coherent_log.specs.Laws.{IsCoherentLog}
use Rattle.coherent_log.specs.declared.verdict.CoherenceVerdict.{CoherenceVerdict}
use Rattle.coherent_log.specs.declared.verdict.CoherenceVerdict.TheVariants.{Coherent}
use Rattle.elf_loader.specs.Image.{Initial}
use Rattle.lawful_log.specs.Laws as order
use Rattle.lawful_log.specs.declared.rule.LogVerdict.{LogVerdict}
use Rattle.lawful_log.specs.declared.rule.LogVerdict.TheVariants.{Lawful}
use Rattle.lawful_log.specs.Rules.{IsLawfulBy}
use Rattle.lawful_log.specs.declared.profile.Profile.{Profile}
use Rattle.lawful_log.specs.LawfulLog.{IsLawfulLog}
use Rattle.message_judge.specs.declared.verdict.MessageBreach.{MessageBreach}
use Rattle.message_judge.specs.declared.verdict.MessageBreach.TheVariants.{Incoherent, Unanswered, Unlawful, Unwritten}
use Rattle.message_judge.specs.declared.verdict.MessageVerdict.{MessageVerdict}
use Rattle.message_judge.specs.declared.verdict.MessageVerdict.TheVariants as message
use Rattle.open_questions.specs.Open.{open_from}
use Rattle.trace_recorder.specs.declared.logged.Logged.{Logged}

-- each message keeps each rule of both kinds, by this machine's or by TileLink's, where memory begins as the image says, if it is known
abbrev pub AreLawfulMessages : Profile → Option Initial → List Logged → Type 0
AreLawfulMessages profile image log = IsLawfulBy profile log × IsCoherentLog image log

-- messages of a lawful log that is coherent, as those of every machine are, are lawful by this machine's rules and by TileLink's
abbrev pub LawfulByBoth : Type 0
LawfulByBoth = (profile : Profile) (image : Option Initial) (log : List Logged) → IsLawfulLog log → IsCoherentLog image log → AreLawfulMessages profile image log

-- the messages before it are lawful, and it breaks a rule: of the lawful log the first that it breaks, or of the coherent log, if it breaks none of the lawful log
abbrev pub IsFirstFault : Profile → Option Initial → List Logged → MessageBreach → ℕ → Type 0
IsFirstFault profile image log (Unlawful rule) index = order.IsFirstBreach profile log rule index × IsCoherentLog image (take index log)
IsFirstFault profile image log (Incoherent breach) index = coherence.IsFirstBreach image log breach index × IsLawfulBy profile (take (index + 1) log)
IsFirstFault profile image log Unanswered index = ⊥
IsFirstFault profile image log (Unwritten address) index = ⊥

abbrev pub IfUnlawful : MessageVerdict → (MessageBreach → ℕ → Type 0) → Type 0
IfUnlawful message.Lawful P = Unit {0}
IfUnlawful (message.Unlawful breach index) P = P breach index

-- the verdict on a log: lawful, or the first message that breaks a rule, and which
pub record IsMessageVerdict (profile : Profile) (image : Option Initial) (log : List Logged) (v : MessageVerdict) : Type 0 where
  pub lawful : (v ≡ message.Lawful) ↔ AreLawfulMessages profile image log
  pub unlawful : IfUnlawful v (λ breach index. IsFirstFault profile image log breach index)

-- a log that goes on behind such a message has the same first one
abbrev pub FirstFaultStays : Type 0
FirstFaultStays = (profile : Profile) (image : Option Initial) (log more : List Logged) (breach : MessageBreach) (index : ℕ)
    → IsMessageVerdict profile image log (message.Unlawful breach index) → IsMessageVerdict profile image (log ++ more) (message.Unlawful breach index)

-- each question has its answer too
abbrev pub AreEndedMessages : Profile → Option Initial → List Logged → Type 0
AreEndedMessages profile image log = AreLawfulMessages profile image log × (open_from 0 log ≡ [])

-- a rule is broken, or else this is the first question that no answer follows
abbrev pub IsFirstFaultAtEnd : Profile → Option Initial → List Logged → MessageBreach → ℕ → Type 0
IsFirstFaultAtEnd profile image log Unanswered index = AreLawfulMessages profile image log × (rest : List ℕ) × (open_from 0 log ≡ index ∷ rest)
IsFirstFaultAtEnd profile image log (Unlawful rule) index = IsFirstFault profile image log (Unlawful rule) index
IsFirstFaultAtEnd profile image log (Incoherent breach) index = IsFirstFault profile image log (Incoherent breach) index
IsFirstFaultAtEnd profile image log (Unwritten address) index = ⊥

-- the verdict on a log that has ended
pub record IsEndedVerdict (profile : Profile) (image : Option Initial) (log : List Logged) (v : MessageVerdict) : Type 0 where
  pub lawful : (v ≡ message.Lawful) ↔ AreEndedMessages profile image log
  pub unlawful : IfUnlawful v (λ breach index. IsFirstFaultAtEnd profile image log breach index)

-- the verdict on a log that has ended, or may go on
abbrev pub IsVerdict : (ended : Bool) → Profile → Option Initial → List Logged → MessageVerdict → Type 0
IsVerdict true = IsEndedVerdict
IsVerdict false = IsMessageVerdict

-- those of the two judges
pub record IsLogVerdict (profile : Profile) (log : List Logged) (v : LogVerdict) : Type 0 where
  pub lawful : (v ≡ Lawful) ↔ IsLawfulBy profile log
  pub unlawful : order.IfUnlawful v (λ rule index. order.IsFirstBreach profile log rule index)

pub record IsCoherenceVerdict (image : Option Initial) (log : List Logged) (v : CoherenceVerdict) : Type 0 where
  pub coherent : (v ≡ Coherent) ↔ IsCoherentLog image log
  pub incoherent : coherence.IfIncoherent v (λ breach index. coherence.IsFirstBreach image log breach index)
