-- The manager's notes of all lines, named by their place in memory from 0. A message changes the line that it names.
use Rattle.std.specs.Prelude.{ℕ, ◌<◌, All, List, Option, slice_set, slice_index_or, replicate}
use Rattle.tl_types.specs.declared.permission.Grow.{Grow}
use Rattle.tl_types.specs.declared.permission.Change.{Change}
use Rattle.directory.specs.declared.answer.Transaction.TheVariants.{Idle}
use Rattle.directory.specs.declared.answer.Grant.{Grant}
use Rattle.directory.specs.declared.answer.Acquired.{Acquired}
use Rattle.directory.specs.declared.answer.Acquired.TheVariants.{Handled, Busy}
use Rattle.directory.specs.declared.answer.Sent.{Sent}
use Rattle.directory.specs.declared.answer.Sent.TheVariants.{Probes, Granting}
use Rattle.directory.specs.Lines as of_line
use Rattle.directory.specs.Lines.{Line, unknown}

pub record Notes : Type 0 where
  pub harts : ℕ
  pub lines : List Line

-- nobody has the line, and no transaction is under way
abbrev pub quiet : ℕ → Line
quiet harts = record { known = replicate harts unknown; transaction = Idle }

abbrev pub opening : ℕ → ℕ → Notes
opening harts lines = record { harts = harts; lines = replicate lines (quiet harts) }

abbrev pub line_at : Notes → ℕ → Line
line_at d line = slice_index_or d.lines line (quiet d.harts)

abbrev pub with_line : Notes → ℕ → Line → Notes
with_line d line l = record d { lines = slice_set d.lines line l }

abbrev pub acquired : Notes → ℕ → ℕ → Grow → Acquired × Notes
acquired d line requester grow =
    let answer = of_line.acquired (line_at d line) requester grow in
    (answer.0, with_line d line answer.1)

abbrev pub probe_acked : Notes → ℕ → ℕ → Change → Option Grant × Notes
probe_acked d line hart change =
    let answer = of_line.probe_acked (line_at d line) hart change in
    (answer.0, with_line d line answer.1)

abbrev pub released : Notes → ℕ → ℕ → Notes
released d line hart = with_line d line (of_line.released (line_at d line) hart)

abbrev pub grant_acked : Notes → ℕ → Notes
grant_acked d line = with_line d line (of_line.grant_acked (line_at d line))

-- the harts to which messages are to be sent are there
abbrev pub SendsToHarts : ℕ → Sent → Type 0
SendsToHarts harts (Probes cap probed) = All (λ hart. hart < harts) probed
SendsToHarts harts (Granting grant) = grant.hart < harts

abbrev pub AnswersHarts : ℕ → Acquired → Type 0
AnswersHarts harts (Handled sent) = SendsToHarts harts sent
AnswersHarts harts Busy = Unit {0}
