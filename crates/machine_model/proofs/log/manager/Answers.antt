-- Each Grant and each Probe is answered as it is taken.
use Rattle.std.proofs.Common.{ℕ, ◌+◌, Bool, false, List, [], ◌∷◌, ◌++◌, ◌≡◌, Option, Some, None, refl, ap, sym, ◌∙◌, subst}
use Rattle.std.specs.Prelude.{◌==◌, ◌&&◌}
use native.Mathlib.Omega.{arith}
use Rattle.client_cache.specs.Cache.{evicted, probed, wanted}
use Rattle.client_cache.specs.declared.answers.Probed.{Probed}
use Rattle.client_cache.specs.declared.answers.Probed.TheVariants.{Answered}
use Rattle.elf_loader.specs.Image.{Initial}
use Rattle.machine_model.specs.Changing.{acted, release_body}
use Rattle.machine_model.specs.Deliveries.{handled, sent_if_answered, taken, with_less}
use Rattle.machine_model.specs.Events.{counted, happens, hart_of}
use Rattle.machine_model.specs.LawfulLog.{concerns, is_grant, is_grant_ack, is_probe, is_probe_ack, sent_count, taken_count}
use Rattle.machine_model.specs.Views.{Node, State, no_node, node_at, opening, sent, with_node}
use Rattle.machine_model.specs.declared.act.Act.{Act}
use Rattle.machine_model.specs.declared.act.Act.TheVariants as act
use Rattle.machine_types.specs.declared.config.Config.{Config}
use Rattle.machine_types.specs.declared.event.Event.{Event}
use Rattle.machine_model.proofs.Nodes.{same-set}
use Rattle.machine_model.proofs.log.Acts.{IsManaging, Still, acknowledged, acquired_keeps, alone_still}
use Rattle.machine_model.proofs.Events.{by_event}
use Rattle.machine_model.proofs.log.Counts.{bit, sent_in, sent_out, taken_in, taken_out}
use Rattle.machine_model.proofs.log.Flags.{no_bit}
use Rattle.machine_model.proofs.log.Lists.{comes_out, goes_in}
use Rattle.machine_model.proofs.Plans.{IsReady, Rests}
use Rattle.tl_types.specs.declared.line.LineData.{LineData}
use Rattle.tl_types.specs.declared.message.Body.{Body}
use Rattle.tl_types.specs.declared.message.Body.TheVariants.{AcquireBlock, ProbeBlock, ProbeAck, ProbeAckData, Release, ReleaseData, Grant, GrantData, ReleaseAck, GrantAck}
use Rattle.tl_types.specs.declared.message.Msg.{Msg}
use Rattle.tl_types.specs.declared.permission.Cap.{Cap}
use Rattle.tl_types.specs.declared.permission.Change.{Change}
use Rattle.trace_recorder.specs.declared.logged.Logged.{Logged}
use Rattle.machine_model.proofs.Parts.{by_left}

-- ---- a question that is taken, and its answer behind it

module _ (question answer : Body → Bool) where
  abbrev pub AllAnswered : List Logged → Type 0
  AllAnswered log = (k l : ℕ) → taken_count question (concerns k l) log ≡ sent_count answer (concerns k l) log

  plain_in : (log : List Logged) (h : ℕ) (m : Msg) → answer m.body ≡ false → AllAnswered log → AllAnswered (log ++ goes_in h m ∷ [])
  plain_in log h m off all k l =
      let old : taken_count question (concerns k l) log ≡ sent_count answer (concerns k l) log = all k l in
      let a : taken_count question (concerns k l) (log ++ goes_in h m ∷ []) ≡ taken_count question (concerns k l) log + 0 = taken_in question k l log h m in
      let b : sent_count answer (concerns k l) (log ++ goes_in h m ∷ []) ≡ sent_count answer (concerns k l) log + bit ((h == k && m.line == l) && answer m.body) = sent_in answer k l log h m in
      let none : bit ((h == k && m.line == l) && answer m.body) ≡ 0 = no_bit (h == k && m.line == l) (answer m.body) off in
      omega (arith, old, a, b, none)

  plain_out : (log : List Logged) (h : ℕ) (m : Msg) → question m.body ≡ false → AllAnswered log → AllAnswered (log ++ comes_out h m ∷ [])
  plain_out log h m off all k l =
      let old : taken_count question (concerns k l) log ≡ sent_count answer (concerns k l) log = all k l in
      let a : taken_count question (concerns k l) (log ++ comes_out h m ∷ []) ≡ taken_count question (concerns k l) log + bit ((h == k && m.line == l) && question m.body) = taken_out question k l log h m in
      let b : sent_count answer (concerns k l) (log ++ comes_out h m ∷ []) ≡ sent_count answer (concerns k l) log + 0 = sent_out answer k l log h m in
      let none : bit ((h == k && m.line == l) && question m.body) ≡ 0 = no_bit (h == k && m.line == l) (question m.body) off in
      omega (arith, old, a, b, none)

  both : (log : List Logged) (h l : ℕ) (asks says : Body) → question asks ≡ answer says → AllAnswered log → AllAnswered ((log ++ comes_out h (record { line = l; body = asks }) ∷ []) ++ goes_in h (record { line = l; body = says }) ∷ [])
  both log h q asks says same all k l =
      let m : Msg = record { line = q; body = asks } in
      let n : Msg = record { line = q; body = says } in
      let log1 : List Logged = log ++ comes_out h m ∷ [] in
      let old : taken_count question (concerns k l) log ≡ sent_count answer (concerns k l) log = all k l in
      let a : taken_count question (concerns k l) log1 ≡ taken_count question (concerns k l) log + bit ((h == k && q == l) && question asks) = taken_out question k l log h m in
      let b : sent_count answer (concerns k l) log1 ≡ sent_count answer (concerns k l) log + 0 = sent_out answer k l log h m in
      let c : taken_count question (concerns k l) (log1 ++ goes_in h n ∷ []) ≡ taken_count question (concerns k l) log1 + 0 = taken_in question k l log1 h n in
      let d : sent_count answer (concerns k l) (log1 ++ goes_in h n ∷ []) ≡ sent_count answer (concerns k l) log1 + bit ((h == k && q == l) && answer says) = sent_in answer k l log1 h n in
      let e : bit ((h == k && q == l) && question asks) ≡ bit ((h == k && q == l) && answer says) = ap (λ t. bit ((h == k && q == l) && t)) same in
      omega (arith, old, a, b, c, d, e)

pub record IsAnswering (s : State) : Type 0 where
  pub grants : AllAnswered is_grant is_grant_ack s.trace.log
  pub probes : AllAnswered is_probe is_probe_ack s.trace.log

same_log : (s t : State) → t.trace.log ≡ s.trace.log → IsAnswering s → IsAnswering t
same_log s t e i = record {
  grants = subst (AllAnswered is_grant is_grant_ack) (sym e) i.grants;
  probes = subst (AllAnswered is_probe is_probe_ack) (sym e) i.probes;
}

still_answering : (s t : State) → Still s t → IsAnswering s → IsAnswering t
still_answering s t q i = same_log s t q.quiet.log i

sent_answering : (h : ℕ) (m : Msg) (s : State) → is_grant_ack m.body ≡ false → is_probe_ack m.body ≡ false → IsAnswering s → IsAnswering (sent h m s)
sent_answering h m s g p i = record { grants = plain_in is_grant is_grant_ack s.trace.log h m g i.grants; probes = plain_in is_probe is_probe_ack s.trace.log h m p i.probes }

managed : (h : ℕ) (m : Msg) (s : State) → IsManaging m.body → IsAnswering s → IsAnswering (sent h m s)
managed h m s is i = go m.body refl is
  where
    go : (body : Body) → m.body ≡ body → IsManaging body → IsAnswering (sent h m s)
    go (ProbeBlock cap) e is = sent_answering h m s (ap is_grant_ack e) (ap is_probe_ack e) i
    go (Grant cap) e is = sent_answering h m s (ap is_grant_ack e) (ap is_probe_ack e) i
    go (GrantData cap bytes) e is = sent_answering h m s (ap is_grant_ack e) (ap is_probe_ack e) i
    go _ e is = absurd is

taken_answering : (h : ℕ) (m : Msg) (s : State) → is_grant m.body ≡ false → is_probe m.body ≡ false → IsAnswering s → IsAnswering (taken h m s)
taken_answering h m s g p i = record { grants = plain_out is_grant is_grant_ack s.trace.log h m g i.grants; probes = plain_out is_probe is_probe_ack s.trace.log h m p i.probes }

-- ---- acts

-- the message that is taken leaves the caches as they are
pub same_cache : (h : ℕ) (m : Msg) (s : State) → (node_at (taken h m s) h).cache ≡ (node_at s h).cache
same_cache h m s = same-set (λ (x : Node). x.cache) s.views.nodes h h _ (no_node s) (no_node s) refl

released_answering : (h line : ℕ) (change : Change) (bytes : Option LineData) (s : State) → IsAnswering s → IsAnswering (sent h (record { line = line; body = release_body change bytes }) s)
released_answering h line change None s i = sent_answering h _ s refl refl i
released_answering h line change (Some bytes) s i = sent_answering h _ s refl refl i

module _ (s : State) (h l : ℕ) (i : IsAnswering s) where
  abbrev after : Body → State
  after body = taken h (record { line = l; body = body }) s

  probe_answering : (cap : Cap) (change : Change) (bytes : Option LineData) (t : State) → t.trace.log ≡ (after (ProbeBlock cap)).trace.log → IsAnswering (sent_if_answered h l (Answered change bytes) t)
  probe_answering cap change None t e = record {
    grants = subst (λ log. AllAnswered is_grant is_grant_ack (log ++ goes_in h (record { line = l; body = ProbeAck change }) ∷ [])) (sym e) (both is_grant is_grant_ack s.trace.log h l (ProbeBlock cap) (ProbeAck change) refl i.grants);
    probes = subst (λ log. AllAnswered is_probe is_probe_ack (log ++ goes_in h (record { line = l; body = ProbeAck change }) ∷ [])) (sym e) (both is_probe is_probe_ack s.trace.log h l (ProbeBlock cap) (ProbeAck change) refl i.probes);
  }
  probe_answering cap change (Some bytes) t e = record {
    grants = subst (λ log. AllAnswered is_grant is_grant_ack (log ++ goes_in h (record { line = l; body = ProbeAckData change bytes }) ∷ [])) (sym e) (both is_grant is_grant_ack s.trace.log h l (ProbeBlock cap) (ProbeAckData change bytes) refl i.grants);
    probes = subst (λ log. AllAnswered is_probe is_probe_ack (log ++ goes_in h (record { line = l; body = ProbeAckData change bytes }) ∷ [])) (sym e) (both is_probe is_probe_ack s.trace.log h l (ProbeBlock cap) (ProbeAckData change bytes) refl i.probes);
  }

  delivered_answering : (body : Body) → IsReady s h l body → IsAnswering (handled h l body (after body))
  delivered_answering (AcquireBlock grow) ready = acquired_keeps IsAnswering still_answering managed h l grow (after (AcquireBlock grow)) (taken_answering h _ s refl refl i)
  delivered_answering (ProbeBlock cap) ready = go (probed (node_at (after (ProbeBlock cap)) h).cache l cap).0 (ap (λ c. (probed c l cap).0) (same_cache h (record { line = l; body = ProbeBlock cap }) s) ∙ ready.2)
    where
      shrunk : State
      shrunk = with_node h (with_less (probed (node_at (after (ProbeBlock cap)) h).cache l cap).1 l (node_at (after (ProbeBlock cap)) h)) (after (ProbeBlock cap))

      go : (a : Probed) → a ≡ Answered ready.0 ready.1 → IsAnswering (sent_if_answered h l a shrunk)
      go a e = rw e (probe_answering cap ready.0 ready.1 shrunk refl)
  delivered_answering (ProbeAck change) ready = acknowledged IsAnswering still_answering managed h l change None (after (ProbeAck change)) (taken_answering h _ s refl refl i)
  delivered_answering (ProbeAckData change bytes) ready = acknowledged IsAnswering still_answering managed h l change (Some bytes) (after (ProbeAckData change bytes)) (taken_answering h _ s refl refl i)
  delivered_answering (Release change) ready = record { grants = both is_grant is_grant_ack s.trace.log h l (Release change) ReleaseAck refl i.grants; probes = both is_probe is_probe_ack s.trace.log h l (Release change) ReleaseAck refl i.probes }
  delivered_answering (ReleaseData change bytes) ready = record { grants = both is_grant is_grant_ack s.trace.log h l (ReleaseData change bytes) ReleaseAck refl i.grants; probes = both is_probe is_probe_ack s.trace.log h l (ReleaseData change bytes) ReleaseAck refl i.probes }
  delivered_answering (Grant cap) ready = record { grants = both is_grant is_grant_ack s.trace.log h l (Grant cap) GrantAck refl i.grants; probes = both is_probe is_probe_ack s.trace.log h l (Grant cap) GrantAck refl i.probes }
  delivered_answering (GrantData cap bytes) ready = record { grants = both is_grant is_grant_ack s.trace.log h l (GrantData cap bytes) GrantAck refl i.grants; probes = both is_probe is_probe_ack s.trace.log h l (GrantData cap bytes) GrantAck refl i.probes }
  delivered_answering ReleaseAck ready = same_log (after ReleaseAck) _ refl (taken_answering h (record { line = l; body = ReleaseAck }) s refl refl i)
  delivered_answering GrantAck ready = same_log (after GrantAck) _ refl (taken_answering h (record { line = l; body = GrantAck }) s refl refl i)

answering : (s : State) (e : Event) (a : Act) → Rests s e a → IsAnswering s → IsAnswering (acted (hart_of e) a s)
answering s e (act.Miss line grow) is i =
    let h = hart_of e in
    let asking : State = with_node h (record (node_at s h) { cache = (wanted (node_at s h).cache line grow).1 }) s in
    sent_answering h (record { line = line; body = AcquireBlock grow }) asking refl refl (same_log s asking refl i)
answering s e (act.Evict line) is i =
    let h = hart_of e in
    let less : State = with_node h (with_less (evicted (node_at s h).cache line).1 line (node_at s h)) s in
    let still = same_log s less refl i in
    by_left IsAnswering less still h line (evicted (node_at s h).cache line).0 (λ change bytes. released_answering h line change bytes less still)
answering s e (act.Deliver m) is i = delivered_answering s (hart_of e) m.line i m.body is.2.ready
answering s e a is i = still_answering s _ (alone_still (hart_of e) a s tt) i

pub happens_answering : (s : State) (e : Event) → IsAnswering s → IsAnswering (happens s e)
happens_answering s e i = by_event IsAnswering s e i (λ a k. let next = acted (hart_of e) a s in same_log next (counted next) refl (answering s e a k.rests i))

pub opening_answering : (image : Initial) (config : Config) → IsAnswering (opening image config)
opening_answering image config = record { grants = λ k l. refl; probes = λ k l. refl }
