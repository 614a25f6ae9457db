-- Parts of the lawful log, each of every state that a list of events leads to; the lawful log is put together of them.
use Rattle.std.proofs.Common.{ℕ, ◌≡◌, Bool, true, List, ◌∷◌, ◌++◌}
use Rattle.std.specs.Prelude.{not, ◌||◌, IsTrue}
use Rattle.machine_model.specs.LawfulLog.{IsLogInOrder, concerns, is_grant, is_grant_ack, is_owed, is_probe, is_probe_ack, is_release, is_release_ack, may_send}
use Rattle.machine_model.specs.Laws.{Always}
use Rattle.tl_types.specs.declared.message.Body.{Body}
use Rattle.tl_types.specs.declared.message.Body.TheVariants.{ProbeAck, ProbeAckData, ReleaseAck, GrantAck}
use Rattle.tl_types.specs.declared.message.Msg.{Msg}
use Rattle.trace_recorder.specs.declared.logged.Direction.TheVariants.{Sent}
use Rattle.trace_recorder.specs.declared.logged.Logged.{Logged}

abbrev pub LogInOrderAlways : Type 0
LogInOrderAlways = Always (λ image config s. IsLogInOrder s.trace.log)

-- a ProbeAck answers a Probe that has arrived, a ReleaseAck a Release and a GrantAck a Grant
abbrev pub is_due : Body → ℕ → ℕ → List Logged → Bool
is_due (ProbeAck change) h line log = is_owed is_probe is_probe_ack (concerns h line) log
is_due (ProbeAckData change bytes) h line log = is_owed is_probe is_probe_ack (concerns h line) log
is_due ReleaseAck h line log = is_owed is_release is_release_ack (concerns h line) log
is_due GrantAck h line log = is_owed is_grant is_grant_ack (concerns h line) log
is_due _ h line log = true

abbrev pub AreAnswersDue : List Logged → Type 0
AreAnswersDue log = (h : ℕ) (m : Msg) (before rest : List Logged) → before ++ (record { direction = Sent; hart = h; message = m }) ∷ rest ≡ log → IsTrue (is_due m.body h m.line before)

abbrev pub AnswersDueAlways : Type 0
AnswersDueAlways = Always (λ image config s. AreAnswersDue s.trace.log)

-- a Probe or a Grant
abbrev pub is_probe_or_grant : Body → Bool
is_probe_or_grant body = is_probe body || is_grant body

-- each other message was sent where it may be
abbrev pub AreOthersLawful : List Logged → Type 0
AreOthersLawful log = (h : ℕ) (m : Msg) (before rest : List Logged) → before ++ (record { direction = Sent; hart = h; message = m }) ∷ rest ≡ log → IsTrue (not (is_probe_or_grant m.body)) → IsTrue (may_send m.body h m.line before)

abbrev pub OthersLawfulAlways : Type 0
OthersLawfulAlways = Always (λ image config s. AreOthersLawful s.trace.log)
