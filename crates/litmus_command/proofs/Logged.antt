-- Which logs are named.
use Rattle.std.proofs.Common.{◌≡◌, ◌∙◌, Bool, true, false, List, ℕ, Option, Some, None, ap, ap₂, is_some, option_map, refl, subst, sym}
use Rattle.std.specs.Borrow.{Bor}
use Rattle.std.specs.Global.{Vec}
use Rattle.std.specs.Prelude.{◌||◌}
use Rattle.command_files.specs.Contents.{Contents}
use Rattle.litmus_answers.specs.Logs.{Said}
use Rattle.litmus_answers.specs.declared.reading.Entry.{Entry}
use Rattle.litmus_command.specs.Comparing.{AreLogs, IsLog, Logged, logged, read}
use Rattle.litmus_command.specs.Waiting.{are_named}
use Rattle.litmus_command.specs.Wishes.{Wishes, are_compared, wishes}
use Rattle.litmus_command.specs.declared.logs.Logs.{Logs}
use Rattle.litmus_command.specs.declared.wanted.Wanted.{Wanted}

pub some_mapped : (name : Option (Bor (List ℕ))) → is_some (option_map (λ (text : Bor (List ℕ)). text.now) name) ≡ is_some name
some_mapped None = refl
some_mapped (Some text) = refl

or_true : (b : Bool) → (b || true) ≡ true
or_true true = refl
or_true false = refl

some_read : (log : Option (Vec Entry)) → is_some (read log) ≡ is_some log
some_read None = refl
some_read (Some entries) = refl

log_named : (held : Contents) (name : Option (List ℕ)) (log : Option (List Said)) → IsLog held name log → is_some log ≡ is_some name
log_named held None log is = ap is_some is
log_named held (Some name) log is = ap is_some is.2

-- a log that was read is one that is named
pub as_named : (held : Contents) (w : Wishes) (logs : Logs) → AreLogs held w (logged logs) → are_named logs ≡ are_compared w
as_named held w logs are = ap₂ (λ (x y : Bool). x || y) (sym (some_read logs.expect) ∙ log_named held w.expect (read logs.expect) are.expect) (sym (some_read logs.seen) ∙ log_named held w.seen (read logs.seen) are.seen)

pub expects : (w : Wanted) → is_some w.expect ≡ true → are_compared (wishes w) ≡ true
expects w is = ap (λ (x : Bool). x || is_some (option_map (λ (text : Bor (List ℕ)). text.now) w.seen)) (some_mapped w.expect ∙ is)

pub has_seen : (w : Wanted) → is_some w.seen ≡ true → are_compared (wishes w) ≡ true
has_seen w is = ap (λ (x : Bool). is_some (option_map (λ (text : Bor (List ℕ)). text.now) w.expect) || x) (some_mapped w.seen ∙ is) ∙ or_true _

-- what the files hold stays
pub logs_stay : (old new : Contents) (w : Wishes) (logs : Logged) → new ≡ old → AreLogs old w logs → AreLogs new w logs
logs_stay old new w logs is are = subst (λ (held : Contents). AreLogs held w logs) (sym is) are
