-- Which answer a line waits for.
use Rattle.std.specs.Prelude.{ℕ, ◌≡◌, ◌<◌, Bool, true, false, List, Option, Some, None, codes}
use Rattle.machine_model.specs.LawfulLog.{concerns, is_grant, is_grant_ack, is_probe, is_probe_ack, is_settled}
use Rattle.lawful_log.specs.declared.awaited.Answer.{Answer}
use Rattle.lawful_log.specs.declared.awaited.Answer.TheVariants.{GrantAck, ProbeAck}
use Rattle.lawful_log.specs.declared.awaited.Awaited.{Awaited}
use Rattle.trace_recorder.specs.declared.logged.Logged.{Logged}

abbrev pub answer_name : Answer → List ℕ
answer_name GrantAck = codes "GrantAck"
answer_name ProbeAck = codes "ProbeAck"

-- each question of the line that was sent to the hart has its answer, which was taken
abbrev pub has_answered : Answer → ℕ → ℕ → List Logged → Bool
has_answered GrantAck h line log = is_settled is_grant is_grant_ack (concerns h line) log
has_answered ProbeAck h line log = is_settled is_probe is_probe_ack (concerns h line) log

-- the hart has answered all that the line's transactions asked of it
abbrev pub OwesNothing : ℕ → ℕ → List Logged → Type 0
OwesNothing h line log = (answer : Answer) → has_answered answer h line log ≡ true

-- of the first hart that owes an answer of the line, its GrantAck where it owes both; nothing where each of so many has answered
abbrev pub FindsAwaited : ℕ → ℕ → List Logged → Option Awaited → Type 0
FindsAwaited harts line log None = (h : ℕ) → h < harts → OwesNothing h line log
FindsAwaited harts line log (Some a) = (a.hart < harts) × (has_answered a.answer a.hart line log ≡ false) × (a.answer ≡ ProbeAck → has_answered GrantAck a.hart line log ≡ true)
    × ((h : ℕ) → h < a.hart → OwesNothing h line log)
