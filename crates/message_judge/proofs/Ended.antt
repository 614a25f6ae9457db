-- What is said of a log that has ended, by what is said of its messages and its questions.
use Rattle.std.proofs.Common.{ℕ, List, [], ◌∷◌, ◌≡◌, ◌∙◌, Option, refl, sym}
use Rattle.elf_loader.specs.Image.{Initial}
use Rattle.lawful_log.specs.declared.profile.Profile.{Profile}
use Rattle.message_judge.specs.Laws.{AreLawfulMessages, IsEndedVerdict, IsFirstFault, IsFirstFaultAtEnd, IsMessageVerdict}
use Rattle.message_judge.specs.declared.verdict.MessageBreach.{MessageBreach}
use Rattle.message_judge.specs.declared.verdict.MessageBreach.TheVariants.{Incoherent, Unanswered, Unlawful, Unwritten}
use Rattle.message_judge.specs.declared.verdict.MessageVerdict.{MessageVerdict}
use Rattle.message_judge.specs.declared.verdict.MessageVerdict.TheVariants as message
use Rattle.open_questions.specs.Open.{open_from}
use Rattle.trace_recorder.specs.declared.logged.Logged.{Logged}

module _ (profile : Profile) (image : Option Initial) (log : List Logged) where
  pub all_answered : AreLawfulMessages profile image log → open_from 0 log ≡ [] → IsEndedVerdict profile image log message.Lawful
  all_answered lawful none = record { lawful = (λ same. (lawful, none), λ all. refl); unlawful = tt }

  pub first_open : (index : ℕ) (rest : List ℕ) → AreLawfulMessages profile image log → open_from 0 log ≡ index ∷ rest → IsEndedVerdict profile image log (message.Unlawful Unanswered index)
  first_open index rest lawful is = record {
    lawful = (λ same. cc same, λ all. let bad : index ∷ rest ≡ [] = sym is ∙ all.1 in cc bad);
    unlawful = (lawful, rest, is);
  }

  at_end : (breach : MessageBreach) (index : ℕ) → IsFirstFault profile image log breach index → IsFirstFaultAtEnd profile image log breach index
  at_end (Unlawful rule) index fault = fault
  at_end (Incoherent breach) index fault = fault
  at_end Unanswered index fault = absurd fault
  at_end (Unwritten address) index fault = absurd fault

  -- a log that was unlawful before it ended
  pub still_unlawful : (v : MessageVerdict) → (v ≡ message.Lawful → ⊥) → IsMessageVerdict profile image log v → IsEndedVerdict profile image log v
  still_unlawful message.Lawful not verdict = absurd (not refl)
  still_unlawful (message.Unlawful breach index) not verdict = record {
    lawful = (λ same. absurd (not same), λ all. absurd (not (verdict.lawful.1 all.0)));
    unlawful = at_end breach index verdict.unlawful;
  }
