-- Every list of events leads to a lawful log.
use Rattle.std.proofs.Common.{ℕ, ◌/◌, ◌%◌, ◌<◌, Bool, true, false, List, ◌∷◌, ◌++◌, ◌≡◌, Some, None, refl, ap, subst, length}
use Rattle.std.specs.Prelude.{IsTrue, not}
use Rattle.directory.specs.Directory.{quiet}
use Rattle.directory.specs.Lines.{Line}
use Rattle.directory.specs.declared.answer.Transaction.TheVariants.{Idle}
use Rattle.elf_loader.specs.Image.{Initial}
use Rattle.machine_model.specs.Changing.{acted}
use Rattle.machine_model.specs.Deliveries.{handled, taken}
use Rattle.machine_model.specs.Events.{after_events, counted, happens, hart_of}
use Rattle.machine_model.specs.LawfulLog.{may_send}
use Rattle.machine_model.specs.Laws.{Always, LogLawfulAlways}
use Rattle.machine_model.proofs.log.Parts.{is_probe_or_grant}
use Rattle.machine_model.specs.Views.{State, line_size, node_at, opening, place_of}
use Rattle.machine_model.specs.declared.act.Act.{Act}
use Rattle.machine_model.specs.declared.act.Act.TheVariants as act
use Rattle.machine_types.specs.declared.config.Config.{Config}
use Rattle.machine_types.specs.declared.event.Event.{Event}
use Rattle.machine_model.proofs.Events.{IsMove, after_act, events_keep}
use Rattle.machine_model.proofs.log.Counts.{no_last}
use Rattle.machine_model.proofs.log.Events.{log_in_order_always, opening_order}
use Rattle.machine_model.proofs.log.Lists.{goes_in}
use Rattle.machine_model.proofs.log.manager.Acks.{probe_ack_data_governed, probe_ack_governed}
use Rattle.machine_model.proofs.log.manager.Answers.{happens_answering, opening_answering}
use Rattle.machine_model.proofs.log.manager.Caches.{happens_losing, opening_losing}
use Rattle.machine_model.proofs.log.manager.Kept.{IsGoverned, alone_governed, ended_governed, given_up_governed, granted_governed, missed_governed, probed_governed, released_governed, rested_governed, same_governed, same_views}
use Rattle.machine_model.proofs.log.manager.Numbers.{IsPlain, noted}
use Rattle.machine_model.proofs.log.manager.Probes.{acquired_governed}
use Rattle.machine_model.proofs.log.Fronts.{IsFront, front_of_move}
use Rattle.machine_model.proofs.log.Sends.{happens_flagged, known, opening_flagged, others_lawful_always}
use Rattle.machine_model.proofs.Plans.{IsReady}
use Rattle.machine_model.proofs.order.Events.{opening_stand}
use Rattle.machine_model.proofs.runs.Runs.{happens_stand}
use Rattle.machine_model.proofs.coherence.WorldOpening.{opening_fits, same_everywhere}
use Rattle.tl_types.specs.Line.{length_of}
use Rattle.tl_types.specs.declared.message.Body.{Body}
use Rattle.tl_types.specs.declared.message.Body.TheVariants.{AcquireBlock, ProbeBlock, ProbeAck, ProbeAckData, Release, ReleaseData, Grant, GrantData, ReleaseAck, GrantAck}
use Rattle.tl_types.specs.declared.message.Msg.{Msg}
use Rattle.trace_recorder.specs.declared.logged.Logged.{Logged}

module _ (s : State) (p : IsPlain s) (h : ℕ) (in_h : h < length s.views.nodes) (i : IsGoverned s) where
  in_c : h < s.views.config.harts
  in_c = subst (λ c. h < c) p.standing.nodes in_h

  delivered_governed : (l : ℕ) (body : Body) → IsReady s h l body → IsFront (node_at s h) (record { line = l; body = body }) → IsGoverned (handled h l body (taken h (record { line = l; body = body }) s))
  delivered_governed l (AcquireBlock grow) ready front = acquired_governed s p h in_h i l grow front.0 front.1 ready.0 ready.1
  delivered_governed l (ProbeBlock cap) ready front = probed_governed s h in_c i l (ProbeBlock cap) refl cap
  delivered_governed l (ProbeAck change) ready front = probe_ack_governed s p h in_h i l change front.0 front.1
  delivered_governed l (ProbeAckData change bytes) ready front = probe_ack_data_governed s p h in_h i l change bytes front.0 front.1
  delivered_governed l (Release change) ready front = released_governed s h in_c i l (Release change) refl None
  delivered_governed l (ReleaseData change bytes) ready front = released_governed s h in_c i l (ReleaseData change bytes) refl (Some bytes)
  delivered_governed l (Grant cap) ready front = granted_governed s h in_c i l (Grant cap) refl cap None
  delivered_governed l (GrantData cap bytes) ready front = granted_governed s h in_c i l (GrantData cap bytes) refl cap (Some bytes)
  delivered_governed l ReleaseAck ready front = rested_governed s h in_c i l ReleaseAck refl
  delivered_governed l GrantAck ready front = ended_governed s h in_c i l GrantAck refl

governed : (s : State) (p : IsPlain s) (e : Event) (a : Act) (k : IsMove s e a) (i : IsGoverned s) → IsGoverned (acted (hart_of e) a s)
governed s p e (act.Miss line grow) k i = missed_governed s (hart_of e) (in_c s p (hart_of e) k.in_h i) i line grow
governed s p e (act.Evict line) k i = given_up_governed s (hart_of e) (in_c s p (hart_of e) k.in_h i) i line
governed s p e (act.Deliver m) k i = delivered_governed s p (hart_of e) k.in_h i m.line m.body k.rests.2.ready (front_of_move s p.known.1 e m k)
governed s p e a k i = alone_governed s (hart_of e) (in_c s p (hart_of e) k.in_h i) i a tt

happens_plain : (s : State) (e : Event) → IsPlain s → IsPlain (happens s e)
happens_plain s e p = record {
  known = known s e p.known;
  flagged = happens_flagged s e p.known p.flagged;
  answering = happens_answering s e p.answering;
  losing = happens_losing s e p.known p.losing;
  standing = happens_stand s e p.standing;
}

acts : (s : State) (e : Event) (a : Act) → IsMove s e a → IsPlain s → IsGoverned s → IsGoverned (after_act s e a)
acts s e a k p i = let next = acted (hart_of e) a s in same_governed next (counted next) (same_views next (counted next) refl refl refl refl) (governed s p e a k i)

opening_plain : (image : Initial) (config : Config) → length image.bytes % 4096 ≡ 0 → IsPlain (opening image config)
opening_plain image config pages = record {
  known = (opening_fits image config pages, opening_order image config);
  flagged = opening_flagged image config;
  answering = opening_answering image config;
  losing = opening_losing image config;
  standing = opening_stand image config;
}

-- no transaction is under way at reset
opening_governed : (image : Initial) (config : Config) → IsGoverned (opening image config)
opening_governed image config = record {
  below = tt;
  heard = λ k l grow on e.
      let s : State = opening image config in
      let none : (noted s l).transaction ≡ Idle = ap (λ (y : Line). y.transaction) (same_everywhere (length image.bytes / length_of config.line) (quiet config.harts) (place_of (line_size s) l)) in
      cc (none, e);
  each = λ h m before rest e. absurd (no_last before rest _ e);
}

-- ---- the law

pub governed_always : Always (λ image config s. IsGoverned s)
governed_always image config events is = events_keep IsPlain IsGoverned happens_plain acts events (opening image config) (opening_plain image config is.legal_size.whole_pages) (opening_governed image config)

pub log_lawful_always : LogLawfulAlways
log_lawful_always image config events is = record {
  in_order = log_in_order_always image config events is;
  each_sent = λ h m before rest e. go h m before rest e (is_probe_or_grant m.body) refl;
}
  where
    all : IsGoverned (after_events (opening image config) events)
    all = governed_always image config events is

    go : (h : ℕ) (m : Msg) (before rest : List Logged) → before ++ goes_in h m ∷ rest ≡ (after_events (opening image config) events).trace.log → (b : Bool) → is_probe_or_grant m.body ≡ b → IsTrue (may_send m.body h m.line before)
    go h m before rest e true kind = all.each h m before rest e kind
    go h m before rest e false kind = others_lawful_always image config events is h m before rest e (ap not kind)
