-- What the manager notes of memory's lines, in lines: N its record of a hart, G a transaction, by the hart that is to have the Grant or has it.
use Rattle.std.specs.Prelude.{ℕ, ◌||◌, Bool, true, false, if◌then◌else◌, List, [], ◌∷◌, ◌++◌, length, codes}
use Rattle.std.specs.List.{flat_map, range_with_len}
use Rattle.directory.specs.Directory.{line_at}
use Rattle.directory.specs.Lines.{known_at}
use Rattle.directory.specs.declared.answer.Known.{Known}
use Rattle.directory.specs.declared.answer.Transaction.{Transaction}
use Rattle.directory.specs.declared.answer.Transaction.TheVariants.{Idle, Probing, Granted}
use Rattle.machine_model.specs.Views.{State}
use Rattle.text_fields.specs.Fields.{number, word}
use Rattle.tl_types.specs.declared.permission.Perm.{Perm}
use Rattle.tl_types.specs.declared.permission.Perm.TheVariants.{Nothing, Branch, Trunk}
use Rattle.trace_text.specs.Words.{grow}
use Rattle.event_stream.specs.Closing.{line_address}

-- ---- records

abbrev pub perm_name : Perm → List ℕ
perm_name Nothing = codes " Nothing"
perm_name Branch = codes " Branch"
perm_name Trunk = codes " Trunk"

-- whether the hart's ProbeAck is awaited, and the line's end
abbrev pub awaited_end : Bool → List ℕ
awaited_end true = codes " awaited\n"
awaited_end false = codes "\n"

abbrev pub is_permission : Perm → Bool
is_permission Nothing = false
is_permission Branch = true
is_permission Trunk = true

-- there is something to tell of the hart
abbrev pub is_noted : Known → Bool
is_noted k = is_permission k.perm || k.awaited

-- of a hart and the line at an address
abbrev pub known_line : ℕ → ℕ → Known → List ℕ
known_line h line k = codes "N " ++ (number 32 h ++ (word line ++ (perm_name k.perm ++ awaited_end k.awaited)))

abbrev pub record_line : ℕ → ℕ → Known → List ℕ
record_line h line k = if is_noted k then known_line h line k else []

-- of memory's line of this number and a hart
abbrev pub record_at : State → ℕ → ℕ → List ℕ
record_at s k h = record_line h (line_address s k) (known_at (line_at s.views.notes k) h)

abbrev pub records_of : State → ℕ → List ℕ
records_of s k = flat_map (record_at s k) (range_with_len 0 s.views.notes.harts)

-- ---- transactions

-- ProbeAcks are awaited before the hart's Grant; or its GrantAck is
abbrev pub transaction_line : ℕ → Transaction → List ℕ
transaction_line line Idle = []
transaction_line line (Probing h g) = codes "G " ++ (number 32 h ++ (word line ++ (codes " Probing" ++ (grow g ++ 10 ∷ []))))
transaction_line line (Granted h) = codes "G " ++ (number 32 h ++ (word line ++ codes " Granted\n"))

abbrev pub transaction_at : State → ℕ → List ℕ
transaction_at s k = transaction_line (line_address s k) (line_at s.views.notes k).transaction

-- ---- all lines

abbrev pub noted_at : State → ℕ → List ℕ
noted_at s k = records_of s k ++ transaction_at s k

abbrev pub noted_lines : State → List ℕ
noted_lines s = flat_map (noted_at s) (range_with_len 0 (length s.views.memory))
