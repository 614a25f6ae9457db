-- How many messages were taken from a queue.
use Rattle.std.proofs.Common.{ℕ, suc, Bool, true, false, List, [], ◌∷◌, ◌≡◌, Some, None, refl, ap, length, filter, cond}
use Rattle.std.specs.Prelude.{if◌then◌else◌}
use Rattle.std.specs.List.{cons_option}
use Rattle.log_text.specs.Objections.{is_taken_from}
use Rattle.machine_model.specs.LawfulLog.{taken_on}
use Rattle.tl_types.specs.declared.message.Channel.{Channel}
use Rattle.trace_recorder.specs.declared.logged.Logged.{Logged}

pub taken_counted : (c : Channel) (h : ℕ) (log : List Logged) → length (taken_on c h log) ≡ length (filter (is_taken_from c h) log)
taken_counted c h [] = refl
taken_counted c h (e ∷ rest) = go (is_taken_from c h e) (taken_counted c h rest)
  where
    go : (b : Bool) → length (taken_on c h rest) ≡ length (filter (is_taken_from c h) rest)
        → length (cons_option (if b then Some e.message else None) (taken_on c h rest)) ≡ length (cond b (e ∷ filter (is_taken_from c h) rest) (filter (is_taken_from c h) rest))
    go true ih = ap suc ih
    go false ih = ih
