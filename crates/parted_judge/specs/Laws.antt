-- The verdict on a log of any clients and lines, in words of whole lines.
use Rattle.std.specs.Prelude.{ℕ, ◌≡◌, ◌<◌, ◌↔◌, Bool, true, false, List, [], ◌∷◌, Some, map, slice_get, take}
use Rattle.coherent_log.specs.Laws.{IsCause, rule_of}
use Rattle.coherent_log.specs.Rules as coherent
use Rattle.coherent_log.specs.Told.{brought_of, client_of}
use Rattle.coherent_log.specs.declared.rule.CoherenceRule.{CoherenceRule}
use Rattle.lawful_log.specs.Rules as lawful
use Rattle.lawful_log.specs.declared.profile.Profile.{Profile}
use Rattle.lawful_log.specs.declared.rule.LogRule.{LogRule}
use Rattle.message_judge.specs.Laws.{IfUnlawful}
use Rattle.message_judge.specs.declared.verdict.MessageBreach.{MessageBreach}
use Rattle.message_judge.specs.declared.verdict.MessageBreach.TheVariants.{Incoherent, Unanswered, Unlawful, Unwritten}
use Rattle.message_judge.specs.declared.verdict.MessageVerdict.{MessageVerdict}
use Rattle.message_judge.specs.declared.verdict.MessageVerdict.TheVariants as message
use Rattle.open_questions.specs.Open.{open_from}
use Rattle.parted_judge.specs.Rules.{AreLawfulWide, KeepsWide, ObeysWide}
use Rattle.wide_logs.specs.Entries.{first_of}
use Rattle.wide_logs.specs.declared.entry.WideLogged.{WideLogged}

-- what an entry breaks first behind a log: a rule of the lawful log, or else one of the coherent log, with what the log says that the message doesn't fit
abbrev pub BreaksWide : Profile → List WideLogged → WideLogged → MessageBreach → Type 0
BreaksWide profile log e (Unlawful rule) = (¬ ObeysWide profile rule log e) × ((r : LogRule) → lawful.rank r < lawful.rank rule → ObeysWide profile r log e)
BreaksWide profile log e (Incoherent breach) =
    (¬ KeepsWide (rule_of breach) log e)
    × ((r : CoherenceRule) → coherent.rank r < coherent.rank (rule_of breach) → KeepsWide r log e)
    × ((r : LogRule) → ObeysWide profile r log e)
    × IsCause breach e.first.hart e.first.message.body (λ k. client_of k e.first.message.line (map first_of log)) (brought_of e.first.message.line (map first_of log))
BreaksWide profile log e Unanswered = ⊥
BreaksWide profile log e (Unwritten address) = ⊥

-- the entry at the index is the first that breaks a rule, and the breach has the first that it breaks
pub record IsFirstWideFault (profile : Profile) (log : List WideLogged) (breach : MessageBreach) (index : ℕ) : Type 0 where
  pub entry : WideLogged
  pub stands : slice_get log index ≡ Some entry
  pub lawful_before : AreLawfulWide profile (take index log)
  pub broken : BreaksWide profile (take index log) entry breach

pub record IsWideVerdict (profile : Profile) (log : List WideLogged) (v : MessageVerdict) : Type 0 where
  pub lawful : (v ≡ message.Lawful) ↔ AreLawfulWide profile log
  pub unlawful : IfUnlawful v (λ breach index. IsFirstWideFault profile log breach index)

-- ---- of a log that has ended, so that each question has its answer too

abbrev pub IsWideFaultAtEnd : Profile → List WideLogged → MessageBreach → ℕ → Type 0
IsWideFaultAtEnd profile log Unanswered index = AreLawfulWide profile log × (rest : List ℕ) × (open_from 0 (map first_of log) ≡ index ∷ rest)
IsWideFaultAtEnd profile log (Unlawful rule) index = IsFirstWideFault profile log (Unlawful rule) index
IsWideFaultAtEnd profile log (Incoherent breach) index = IsFirstWideFault profile log (Incoherent breach) index
IsWideFaultAtEnd profile log (Unwritten address) index = ⊥

pub record IsWideEndedVerdict (profile : Profile) (log : List WideLogged) (v : MessageVerdict) : Type 0 where
  pub lawful : (v ≡ message.Lawful) ↔ (AreLawfulWide profile log × (open_from 0 (map first_of log) ≡ []))
  pub unlawful : IfUnlawful v (λ breach index. IsWideFaultAtEnd profile log breach index)

-- the verdict on a log that has ended, or may go on
abbrev pub IsVerdictOnWide : (ended : Bool) → Profile → List WideLogged → MessageVerdict → Type 0
IsVerdictOnWide false = IsWideVerdict
IsVerdictOnWide true = IsWideEndedVerdict
