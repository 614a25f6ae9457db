-- What a log says of each client and line, with one more entry before it.
use Rattle.std.proofs.Common.{ℕ, Bool, true, false, List, ◌∷◌, ◌≡◌, refl, ap, sym, ◌∙◌}
use Rattle.std.specs.Prelude.{◌&&◌, ◌||◌, not, if◌then◌else◌}
use Rattle.machine_model.specs.LawfulLog.{concerns, is_grant, is_grant_ack, is_probe_ack, is_release_ack, is_sent}
use Rattle.open_questions.specs.Answers.{Follows, answered_in, answered_of, asks, has_answer, is_answer, noted}
use Rattle.open_questions.specs.Open.{is_answered, is_open}
use Rattle.open_questions.specs.declared.answers.Answered.{Answered}
use Rattle.open_questions.specs.declared.answers.Answers.{Answers}
use Rattle.tl_types.specs.declared.message.Body.{Body}
use Rattle.tl_types.specs.declared.message.Body.TheVariants.{AcquireBlock, ProbeBlock, ProbeAck, ProbeAckData, Release, ReleaseData, Grant, GrantData, ReleaseAck, GrantAck}
use Rattle.trace_recorder.specs.declared.logged.Direction.{Direction}
use Rattle.trace_recorder.specs.declared.logged.Direction.TheVariants.{Sent, Taken}
use Rattle.trace_recorder.specs.declared.logged.Logged.{Logged}

-- one of its kinds of answer
one_more : (taken here kind old : Bool) → ((taken && here && kind) || old) ≡ (if here then (taken && kind) || old else old)
one_more true true kind old = refl
one_more true false kind old = refl
one_more false true kind old = refl
one_more false false kind old = refl

both : (here : Bool) (e : Logged) (a : Answered) → record {
  grant = if here then (not (is_sent e.direction) && is_grant e.message.body) || a.grant else a.grant;
  probe_ack = if here then (not (is_sent e.direction) && is_probe_ack e.message.body) || a.probe_ack else a.probe_ack;
  release_ack = if here then (not (is_sent e.direction) && is_release_ack e.message.body) || a.release_ack else a.release_ack;
  grant_ack = if here then (not (is_sent e.direction) && is_grant_ack e.message.body) || a.grant_ack else a.grant_ack;
} ≡ (if here then noted e a else a)
both true e a = refl
both false e a = refl

answered_more : (h line : ℕ) (e : Logged) (log : List Logged) → answered_of h line (e ∷ log) ≡ (if concerns h line e then noted e (answered_of h line log) else answered_of h line log)
answered_more h line e log = (λ k. record {
  grant = one_more (not (is_sent e.direction)) (concerns h line e) (is_grant e.message.body) (answered_of h line log).grant k;
  probe_ack = one_more (not (is_sent e.direction)) (concerns h line e) (is_probe_ack e.message.body) (answered_of h line log).probe_ack k;
  release_ack = one_more (not (is_sent e.direction)) (concerns h line e) (is_release_ack e.message.body) (answered_of h line log).release_ack k;
  grant_ack = one_more (not (is_sent e.direction)) (concerns h line e) (is_grant_ack e.message.body) (answered_of h line log).grant_ack k;
}) ∙ both (concerns h line e) e (answered_of h line log)

pub noted_follows : (f g : Answers) (e : Logged) (log : List Logged) → Follows f log → ((h line : ℕ) → answered_in g.lines h line ≡ (if concerns h line e then noted e (answered_in f.lines h line) else answered_in f.lines h line)) → Follows g (e ∷ log)
noted_follows f g e log old is h line = is h line ∙ ap (λ (a : Answered). if concerns h line e then noted e a else a) (old h line) ∙ sym (answered_more h line e log)

-- an entry that is sent leaves it as it was
sent_noted : (d : Direction) → d ≡ Sent → (e : Logged) → e.direction ≡ d → (a : Answered) → noted e a ≡ a
sent_noted d is e at a = rw (at, is) refl

either : (here : Bool) (a b : Answered) → b ≡ a → (if here then b else a) ≡ a
either true a b same = same
either false a b same = refl

pub sent_follows : (f : Answers) (e : Logged) (log : List Logged) → e.direction ≡ Sent → Follows f log → Follows f (e ∷ log)
sent_follows f e log is old h line = old h line ∙ sym (answered_more h line e log ∙ either (concerns h line e) (answered_of h line log) (noted e (answered_of h line log)) (sent_noted Sent refl e is (answered_of h line log)))

-- what the log says answers a question
told_answer : (body : Body) (h line : ℕ) (log : List Logged) → has_answer body (answered_of h line log) ≡ is_answered body h line log
told_answer (AcquireBlock grow) h line log = refl
told_answer (ProbeBlock cap) h line log = refl
told_answer (ProbeAck change) h line log = refl
told_answer (ProbeAckData change bytes) h line log = refl
told_answer (Release change) h line log = refl
told_answer (ReleaseData change bytes) h line log = refl
told_answer (Grant cap) h line log = refl
told_answer (GrantData cap bytes) h line log = refl
told_answer ReleaseAck h line log = refl
told_answer GrantAck h line log = refl

pub sent_open : (f : Answers) (e : Logged) (log : List Logged) (has : Bool) → e.direction ≡ Sent → has ≡ has_answer e.message.body (answered_in f.lines e.hart e.message.line) → Follows f log → not has ≡ is_open e log
sent_open f e log has is found follows =
    ap not (found ∙ ap (has_answer e.message.body) (follows e.hart e.message.line) ∙ told_answer e.message.body e.hart e.message.line log)
    ∙ ap (λ (d : Direction). is_sent d && not (is_answered e.message.body e.hart e.message.line log)) (sym is)

-- a message that asks nothing isn't open
asks_nothing : (body : Body) (h line : ℕ) (log : List Logged) → asks body ≡ false → is_answered body h line log ≡ true
asks_nothing (AcquireBlock grow) h line log is = cc is
asks_nothing (ProbeBlock cap) h line log is = cc is
asks_nothing (ProbeAck change) h line log is = refl
asks_nothing (ProbeAckData change bytes) h line log is = refl
asks_nothing (Release change) h line log is = cc is
asks_nothing (ReleaseData change bytes) h line log is = cc is
asks_nothing (Grant cap) h line log is = cc is
asks_nothing (GrantData cap bytes) h line log is = cc is
asks_nothing ReleaseAck h line log is = refl
asks_nothing GrantAck h line log is = refl

off : (t : Bool) → false ≡ t && false
off true = refl
off false = refl

pub plain_open : (e : Logged) (log : List Logged) → asks e.message.body ≡ false → false ≡ is_open e log
plain_open e log is = off (is_sent e.direction) ∙ ap (λ (t : Bool). is_sent e.direction && not t) (sym (asks_nothing e.message.body e.hart e.message.line log is))

-- one that answers nothing is noted as nothing
answers_nothing : (e : Logged) → e.direction ≡ Taken → (body : Body) → e.message.body ≡ body → is_answer body ≡ false → (a : Answered) → noted e a ≡ a
answers_nothing e taken (AcquireBlock grow) at is a = rw (taken, at) refl
answers_nothing e taken (ProbeBlock cap) at is a = rw (taken, at) refl
answers_nothing e taken (ProbeAck change) at is a = cc is
answers_nothing e taken (ProbeAckData change bytes) at is a = cc is
answers_nothing e taken (Release change) at is a = rw (taken, at) refl
answers_nothing e taken (ReleaseData change bytes) at is a = rw (taken, at) refl
answers_nothing e taken (Grant cap) at is a = cc is
answers_nothing e taken (GrantData cap bytes) at is a = cc is
answers_nothing e taken ReleaseAck at is a = cc is
answers_nothing e taken GrantAck at is a = cc is

pub plain_follows : (f : Answers) (e : Logged) (log : List Logged) → e.direction ≡ Taken → is_answer e.message.body ≡ false → Follows f log → Follows f (e ∷ log)
plain_follows f e log taken is old h line =
    old h line ∙ sym (answered_more h line e log ∙ either (concerns h line e) (answered_of h line log) (noted e (answered_of h line log)) (answers_nothing e taken e.message.body refl is (answered_of h line log)))

pub taken_open : (e : Logged) (log : List Logged) → e.direction ≡ Taken → false ≡ is_open e log
taken_open e log is = ap (λ (d : Direction). is_sent d && not (is_answered e.message.body e.hart e.message.line log)) (sym is)
