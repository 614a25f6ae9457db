-- What the pass from the end keeps of a log.
use Rattle.std.specs.Prelude.{ℕ, ◌≡◌, ◌&&◌, ◌||◌, Bool, true, false, not, List, nat_eq, slice_get}
use Rattle.std.specs.HashMap.{HashMap, get}
use Rattle.std.specs.Option.{option_map_or}
use Rattle.machine_model.specs.LawfulLog.{is_grant, is_grant_ack, is_probe_ack, is_release_ack, is_sent}
use Rattle.open_questions.specs.Open.{is_taken_in}
use Rattle.open_questions.specs.declared.answers.Answered.{Answered}
use Rattle.open_questions.specs.declared.answers.Answers.{Answers}
use Rattle.open_questions.specs.declared.answers.LineAnswers.{LineAnswers}
use Rattle.tl_types.specs.declared.message.Body.{Body}
use Rattle.tl_types.specs.declared.message.Body.TheVariants.{AcquireBlock, ProbeBlock, ProbeAck, ProbeAckData, Release, ReleaseData, Grant, GrantData, ReleaseAck, GrantAck}
use Rattle.trace_recorder.specs.declared.logged.Logged.{Logged}

abbrev pub nothing_answered : Answered
nothing_answered = record { grant = false; probe_ack = false; release_ack = false; grant_ack = false }

-- one more entry
abbrev pub noted : Logged → Answered → Answered
noted e a = record {
  grant = (not (is_sent e.direction) && is_grant e.message.body) || a.grant;
  probe_ack = (not (is_sent e.direction) && is_probe_ack e.message.body) || a.probe_ack;
  release_ack = (not (is_sent e.direction) && is_release_ack e.message.body) || a.release_ack;
  grant_ack = (not (is_sent e.direction) && is_grant_ack e.message.body) || a.grant_ack;
}

-- the answer that the message asks for is among them
abbrev pub has_answer : Body → Answered → Bool
has_answer (AcquireBlock grow) a = a.grant
has_answer (ProbeBlock cap) a = a.probe_ack
has_answer (Release change) a = a.release_ack
has_answer (ReleaseData change bytes) a = a.release_ack
has_answer (Grant cap) a = a.grant_ack
has_answer (GrantData cap bytes) a = a.grant_ack
has_answer _ a = true

-- the message asks for an answer
abbrev pub asks : Body → Bool
asks (AcquireBlock grow) = true
asks (ProbeBlock cap) = true
asks (Release change) = true
asks (ReleaseData change bytes) = true
asks (Grant cap) = true
asks (GrantData cap bytes) = true
asks _ = false

-- it is one
abbrev pub is_answer : Body → Bool
is_answer (Grant cap) = true
is_answer (GrantData cap bytes) = true
is_answer (ProbeAck change) = true
is_answer (ProbeAckData change bytes) = true
is_answer ReleaseAck = true
is_answer GrantAck = true
is_answer _ = false

-- what stands of a client; beyond the list's end nothing
abbrev pub answered_at : List Answered → ℕ → Answered
answered_at clients h = option_map_or (λ (a : Answered). a) (slice_get clients h) nothing_answered

abbrev pub answered_in : {S : Type 0} → HashMap ℕ LineAnswers S → ℕ → ℕ → Answered
answered_in m h line = option_map_or (λ (l : LineAnswers). answered_at l.clients.items h) (get nat_eq m line) nothing_answered

-- what a log says of a client and a line
abbrev pub answered_of : ℕ → ℕ → List Logged → Answered
answered_of h line log = record {
  grant = is_taken_in is_grant h line log;
  probe_ack = is_taken_in is_probe_ack h line log;
  release_ack = is_taken_in is_release_ack h line log;
  grant_ack = is_taken_in is_grant_ack h line log;
}

abbrev pub Follows : Answers → List Logged → Type 0
Follows answers log = (h line : ℕ) → answered_in answers.lines h line ≡ answered_of h line log
