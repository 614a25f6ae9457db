use Rattle.std.proofs.Common.{◌≡◌, ◌<◌, ◌≤◌, ℕ}
use Rattle.explore_command.specs.Keeping.{failure_path, outcome_path, stuck_path}
use Rattle.explore_command.specs.Sparing.{IsOther}
use Rattle.explore_command.proofs.sparing.spare_what_is_read.Given as goal

-- nothing was written, and what was looked at is other than what is read
abbrev pub invariant-loop-number : goal.invariant-loop-number
invariant-loop-number g l = record {
  stays : g.F.Files.held l.files ≡ g.F.Files.held l.initial.files;
  outcomes : (n : ℕ) → 1 ≤ n → n < l.number → IsOther l.wanted (outcome_path l.folder.name.now n);
  failures : (n : ℕ) → 1 ≤ n → n < l.number → IsOther l.wanted (failure_path l.folder.name.now n);
  stuck : IsOther l.wanted (stuck_path l.folder.name.now);
}
