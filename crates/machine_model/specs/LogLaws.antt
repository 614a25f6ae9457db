-- The numbers of a line's messages.
use Rattle.std.specs.Prelude.{ℕ, ◌≡◌, List}
use Rattle.machine_model.specs.LawfulLog.{IsLawfulLog, is_grant, is_grant_ack, is_of_line, is_probe, is_probe_ack, is_settled, no_grant_open, no_hart_probed}
use Rattle.trace_recorder.specs.declared.logged.Logged.{Logged}

-- whatever the harts, the numbers of the line's Probes and ProbeAcks, and of its Grants and GrantAcks, agree exactly where those of every hart do
pub record AgreeInSum (line : ℕ) (log : List Logged) : Type 0 where
  pub probes : is_settled is_probe is_probe_ack (is_of_line line) log ≡ no_hart_probed line log
  pub grants : is_settled is_grant is_grant_ack (is_of_line line) log ≡ no_grant_open line log

abbrev pub SumsAgree : Type 0
SumsAgree = (line : ℕ) (log : List Logged) → IsLawfulLog log → AgreeInSum line log
