-- Each answer is sent while its question is unanswered.
use Rattle.std.proofs.Common.{ℕ, true, List, [], ◌∷◌, ◌++◌, ◌≡◌, Option, Some, None, refl, sym, subst}
use Rattle.std.specs.Prelude.{IsTrue}
use Rattle.std.proofs.lemmas.Bool.{lt-ltb}
use native.Mathlib.Omega.{arith}
use Rattle.elf_loader.specs.Image.{Initial}
use Rattle.machine_model.specs.Changing.{acted}
use Rattle.machine_model.specs.Deliveries.{probe_ack_body, taken}
use Rattle.machine_model.specs.Events.{hart_of}
use Rattle.machine_model.specs.LawfulLog.{is_grant, is_grant_ack, is_probe, is_probe_ack, is_release, is_release_ack}
use Rattle.machine_model.proofs.log.Parts.{AnswersDueAlways, is_due}
use Rattle.machine_model.specs.Views.{State, opening, sent}
use Rattle.machine_model.specs.declared.act.Act.{Act}
use Rattle.machine_model.specs.declared.act.Act.TheVariants as act
use Rattle.machine_types.specs.declared.config.Config.{Config}
use Rattle.machine_types.specs.declared.event.Event.{Event}
use Rattle.machine_model.proofs.log.Acts.{Delivers, IsAsking, acted_keeps, handled_keeps}
use Rattle.machine_model.proofs.Events.{Anything, IsMove, events_keep}
use Rattle.machine_model.proofs.log.Counts.{EachSent, NoneTooMany, Owes, no_last, none_in, none_out, one_sent, one_taken, owes_out}
use Rattle.machine_model.proofs.log.Lists.{comes_out, goes_in}
use Rattle.machine_model.proofs.log.Queues.{Quiet}
use Rattle.tl_types.specs.declared.line.LineData.{LineData}
use Rattle.tl_types.specs.declared.message.Body.{Body}
use Rattle.tl_types.specs.declared.message.Body.TheVariants.{ProbeBlock, ProbeAck, ProbeAckData, ReleaseAck, GrantAck}
use Rattle.tl_types.specs.declared.message.Msg.{Msg}
use Rattle.tl_types.specs.declared.permission.Cap.{Cap}
use Rattle.tl_types.specs.declared.permission.Change.{Change}
use Rattle.trace_recorder.specs.declared.logged.Logged.{Logged}

abbrev IsDue : ℕ → Msg → List Logged → Type 0
IsDue h m log = IsTrue (is_due m.body h m.line log)

record AreAnswered (log : List Logged) : Type 0 where
  probes : NoneTooMany is_probe is_probe_ack log
  releases : NoneTooMany is_release is_release_ack log
  grants : NoneTooMany is_grant is_grant_ack log
  each : EachSent IsDue log

-- a message that may go out: if it is an answer, it is owed
record MayAnswer (h : ℕ) (m : Msg) (log : List Logged) : Type 0 where
  probe : is_probe_ack m.body ≡ true → Owes is_probe is_probe_ack h m.line log
  release : is_release_ack m.body ≡ true → Owes is_release is_release_ack h m.line log
  grant : is_grant_ack m.body ≡ true → Owes is_grant is_grant_ack h m.line log

is_answered : (h line : ℕ) (body : Body) (log : List Logged) → MayAnswer h (record { line = line; body = body }) log → IsDue h (record { line = line; body = body }) log
is_answered h line (ProbeAck change) log may = lt-ltb _ _ (may.probe refl)
is_answered h line (ProbeAckData change bytes) log may = lt-ltb _ _ (may.probe refl)
is_answered h line ReleaseAck log may = lt-ltb _ _ (may.release refl)
is_answered h line GrantAck log may = lt-ltb _ _ (may.grant refl)
is_answered h line _ log may = refl

sent_answered : (h : ℕ) (m : Msg) (log : List Logged) → MayAnswer h m log → AreAnswered log → AreAnswered (log ++ goes_in h m ∷ [])
sent_answered h m log may i = record {
  probes = none_in is_probe is_probe_ack log h m i.probes may.probe;
  releases = none_in is_release is_release_ack log h m i.releases may.release;
  grants = none_in is_grant is_grant_ack log h m i.grants may.grant;
  each = one_sent IsDue log h m i.each (is_answered h m.line m.body log may);
}

-- a message has come out, and is unanswered yet
record IsUnanswered (h : ℕ) (m : Msg) (log : List Logged) : Type 0 where
  answered : AreAnswered log
  probe : is_probe m.body ≡ true → Owes is_probe is_probe_ack h m.line log
  release : is_release m.body ≡ true → Owes is_release is_release_ack h m.line log
  grant : is_grant m.body ≡ true → Owes is_grant is_grant_ack h m.line log

taken_answered : (h : ℕ) (m : Msg) (log : List Logged) → AreAnswered log → IsUnanswered h m (log ++ comes_out h m ∷ [])
taken_answered h m log i = record {
  answered = record {
    probes = none_out is_probe is_probe_ack log h m i.probes;
    releases = none_out is_release is_release_ack log h m i.releases;
    grants = none_out is_grant is_grant_ack log h m i.grants;
    each = one_taken IsDue log h m i.each;
  };
  probe = owes_out is_probe is_probe_ack log h m i.probes;
  release = owes_out is_release is_release_ack log h m i.releases;
  grant = owes_out is_grant is_grant_ack log h m i.grants;
}

-- ---- acts

abbrev Answered : State → Type 0
Answered s = AreAnswered s.trace.log

abbrev Unanswered : ℕ → Msg → State → Type 0
Unanswered h m s = IsUnanswered h m s.trace.log

quiet_answered : (s t : State) → Quiet s t → Answered s → Answered t
quiet_answered s t q i = subst AreAnswered (sym q.log) i

asks : (h : ℕ) (m : Msg) (s : State) → IsAsking m.body → Answered s → Answered (sent h m s)
asks h m s is i = sent_answered h m s.trace.log (record { probe = λ e. cc (is.0, e); release = λ e. cc (is.1, e); grant = λ e. cc (is.2, e) }) i

acks_probe : (h line : ℕ) (cap : Cap) (change : Change) (bytes : Option LineData) (s : State) → Unanswered h (record { line = line; body = ProbeBlock cap }) s → Answered (sent h (record { line = line; body = probe_ack_body change bytes }) s)
acks_probe h line cap change None s u = sent_answered h _ s.trace.log (record { probe = λ e. u.probe refl; release = λ e. cc e; grant = λ e. cc e }) u.answered
acks_probe h line cap change (Some bytes) s u = sent_answered h _ s.trace.log (record { probe = λ e. u.probe refl; release = λ e. cc e; grant = λ e. cc e }) u.answered

acks_release : (h line : ℕ) (body : Body) (s : State) → is_release body ≡ true → Unanswered h (record { line = line; body = body }) s → Answered (sent h (record { line = line; body = ReleaseAck }) s)
acks_release h line body s is u = sent_answered h _ s.trace.log (record { probe = λ e. cc e; release = λ e. u.release is; grant = λ e. cc e }) u.answered

acks_grant : (h line : ℕ) (body : Body) (s : State) → is_grant body ≡ true → Unanswered h (record { line = line; body = body }) s → Answered (sent h (record { line = line; body = GrantAck }) s)
acks_grant h line body s is u = sent_answered h _ s.trace.log (record { probe = λ e. cc e; release = λ e. cc e; grant = λ e. u.grant is }) u.answered

delivers : (s : State) (h : ℕ) (a : Act) → Answered s → Delivers Answered s h a
delivers s h (act.Deliver m) i =
    handled_keeps Answered quiet_answered asks Unanswered (λ h m s t q u. subst (IsUnanswered h m) (sym q.log) u) (λ h m s u. u.answered)
    acks_probe acks_release acks_grant
    h m.line m.body (taken h m s) (taken_answered h m s.trace.log i)
delivers s h _ i = tt

acts : (s : State) (e : Event) (a : Act) → IsMove s e a → Anything s → Answered s → Answered (acted (hart_of e) a s)
acts s e a k g i = acted_keeps Answered quiet_answered asks (hart_of e) a s (delivers s (hart_of e) a i) i

opening_answered : (image : Initial) (config : Config) → Answered (opening image config)
opening_answered image config = record {
  probes = λ k l. omega arith;
  releases = λ k l. omega arith;
  grants = λ k l. omega arith;
  each = λ h m before rest e. absurd (no_last before rest _ e);
}

pub answers_due_always : AnswersDueAlways
answers_due_always image config events is = (events_keep Anything Answered (λ s e g. tt) (λ s e a k g i. acts s e a k g i) events (opening image config) tt (opening_answered image config)).each
