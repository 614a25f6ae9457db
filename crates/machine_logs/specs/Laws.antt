-- What the log of every machine tells, after every list of events, in any order, from reset.
use Rattle.std.specs.Prelude.{ℕ, ◌≡◌, None, Some, true}
use Rattle.coherent_log.specs.Laws.{IsCoherentLog}
use Rattle.coherent_log.specs.Rules.{perm_in}
use Rattle.coherent_log.specs.Told.{brought_of, client_of}
use Rattle.coherent_log.specs.declared.lines.Brought.{Brought}
use Rattle.directory.specs.Directory.{line_at}
use Rattle.directory.specs.Lines.{known_at}
use Rattle.machine_model.specs.Coherent.{perm_at}
use Rattle.machine_model.specs.Deliveries.{line_in_memory}
use Rattle.machine_model.specs.Events.{is_piece}
use Rattle.machine_model.specs.LawfulLog.{IsLawfulLog}
use Rattle.machine_model.specs.Laws.{Always}
use Rattle.machine_model.specs.Views.{State, line_size, place_of}
use Rattle.tl_types.specs.Line.{length_of}
use Rattle.tl_types.specs.declared.permission.Perm.{Perm}

-- each message keeps the eight rules of the lawful log, and the five of the coherent log, also for who doesn't know what memory was at the start
pub record KeepsAllRules (s : State) : Type 0 where
  pub lawful : IsLawfulLog s.trace.log
  pub coherent : IsCoherentLog (Some s.trace.image) s.trace.log
  pub coherent_to_all : IsCoherentLog None s.trace.log

abbrev pub MessagesLawfulAlways : Type 0
MessagesLawfulAlways = Always (λ image config s. KeepsAllRules s)

-- a line of memory begins there
abbrev pub IsLineAt : State → ℕ → Type 0
IsLineAt s line = is_piece s.trace.image line (length_of (line_size s)) ≡ true

-- what the manager notes that a hart has
abbrev pub noted_at : State → (hart line : ℕ) → Perm
noted_at s hart line = (known_at (line_at s.views.notes (place_of (line_size s) line)) hart).perm

-- what the log says last is so: of each hart's copy, of the manager's note, and of memory
pub record IsToldByLog (s : State) : Type 0 where
  pub copies : (hart line : ℕ) → perm_in (client_of hart line s.trace.log).held ≡ perm_at s hart line
  pub notes : (hart line : ℕ) → IsLineAt s line → perm_in (client_of hart line s.trace.log).noted ≡ noted_at s hart line
  pub memory : (line : ℕ) (brought : Brought) → IsLineAt s line → brought_of line s.trace.log ≡ Some brought → line_in_memory s line ≡ brought.bytes

abbrev pub LogTellsState : Type 0
LogTellsState = Always (λ image config s. IsToldByLog s)
