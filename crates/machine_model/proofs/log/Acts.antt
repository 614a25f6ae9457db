-- What stays while log and queues do, and as a message goes out, stays at each act but the taking of a message.
use Rattle.std.proofs.Common.{ℕ, Bool, true, false, List, [], ◌∷◌, ◌≡◌, Option, Some, None, refl, ap, ◌∙◌, length, slice_index_or}
use Rattle.std.specs.Prelude.{if◌then◌else◌}
use Rattle.client_cache.specs.Cache.{Cache, answered, copy_at, evicted, granted, probed, wanted, word_written, word_written_in}
use Rattle.client_cache.specs.declared.held.Held.{Held}
use Rattle.directory.specs.Directory.{Notes, acquired, probe_acked, released, grant_acked}
use Rattle.directory.specs.declared.answer.Acquired.{Acquired}
use Rattle.directory.specs.declared.answer.Grant.{Grant as Granting}
use Rattle.hart.specs.Local.{private_row}
use Rattle.hart.specs.Run.{after_instr}
use Rattle.hart.specs.declared.retired.Retired.{Retired}
use Rattle.hart.specs.declared.state.Hart.{Hart}
use Rattle.hart.specs.declared.status.Status.{Status}
use Rattle.hart.specs.declared.status.Status.TheVariants.{Running, Stopped, Exited}
use Rattle.machine_model.specs.Changing.{acted, does, given_up, release_body, with_entries, with_halt, writes_word}
use Rattle.machine_model.specs.Deliveries.{delivered, grant_body, handled, line_in_memory, on_acquire, on_grant, on_probe_ack, on_release, probe_ack_body, sent_grant, sent_if_granted, sent_if_handled, with_less, with_memory, with_notes}
use Rattle.machine_model.specs.LawfulLog.{is_grant, is_grant_ack, is_probe_ack, is_release, is_release_ack}
use Rattle.machine_model.specs.Views.{Node, State, line_size, no_node, node_at, place_of, sent, with_node, with_trace}
use Rattle.machine_model.specs.declared.act.Act.{Act}
use Rattle.machine_model.specs.declared.act.Act.TheVariants as act
use Rattle.machine_model.proofs.log.Queues.{Quiet, quiet_node, quiet_trace}
use Rattle.tl_types.specs.Line.{line_of}
use Rattle.tl_types.specs.declared.line.LineData.{LineData}
use Rattle.tl_types.specs.declared.message.Body.{Body}
use Rattle.tl_types.specs.declared.message.Body.TheVariants.{AcquireBlock, ProbeBlock, ProbeAck, ProbeAckData, Release, ReleaseData, Grant, GrantData, ReleaseAck, GrantAck}
use Rattle.tl_types.specs.declared.message.Msg.{Msg}
use Rattle.tl_types.specs.declared.permission.Cap.{Cap}
use Rattle.tl_types.specs.declared.permission.Change.{Change}
use Rattle.tl_types.specs.declared.permission.Grow.{Grow}
use Rattle.trace_recorder.specs.History.{History, with_entry}
use Rattle.machine_model.proofs.Parts.{KeptByDeeds, by_answered, by_granted, by_handled, by_left, does_by, drained_by}
use Rattle.machine_model.proofs.Nodes.{same-set}

-- ---- log, queues and what is outstanding stay

pub record Still (s t : State) : Type 0 where
  pub quiet : Quiet s t
  pub acquiring : (k : ℕ) (d : Node) → (slice_index_or t.views.nodes k d).cache.acquiring ≡ (slice_index_or s.views.nodes k d).cache.acquiring
  pub releasing : (k : ℕ) (d : Node) → (slice_index_or t.views.nodes k d).cache.releasing ≡ (slice_index_or s.views.nodes k d).cache.releasing

still_not : (s : State) → Still s s
still_not s = record { quiet = record { log = refl; count = refl; queues = λ k d. refl }; acquiring = λ k d. refl; releasing = λ k d. refl }

pub still_then : (a b c : State) → Still a b → Still b c → Still a c
still_then a b c f g = record {
  quiet = record { log = g.quiet.log ∙ f.quiet.log; count = g.quiet.count ∙ f.quiet.count; queues = λ k d. g.quiet.queues k d ∙ f.quiet.queues k d };
  acquiring = λ k d. g.acquiring k d ∙ f.acquiring k d;
  releasing = λ k d. g.releasing k d ∙ f.releasing k d;
}

-- notes, memory and counts don't matter
pub same_nodes : (s t : State) → t.trace ≡ s.trace → t.views.nodes ≡ s.views.nodes → Still s t
same_nodes s t e n = record {
  quiet = record { log = ap (λ (r : History). r.log) e; count = ap length n; queues = λ k d. ap (λ (nodes : List Node). (slice_index_or nodes k d).queues) n };
  acquiring = λ k d. ap (λ (nodes : List Node). (slice_index_or nodes k d).cache.acquiring) n;
  releasing = λ k d. ap (λ (nodes : List Node). (slice_index_or nodes k d).cache.releasing) n;
}

still_trace : (s : State) (t : History) → t.log ≡ s.trace.log → Still s (with_trace t s)
still_trace s t e = record { quiet = quiet_trace s t e; acquiring = λ k d. refl; releasing = λ k d. refl }

pub still_node : (h : ℕ) (n : Node) (s : State) → n.queues ≡ (node_at s h).queues → n.cache.acquiring ≡ (node_at s h).cache.acquiring → n.cache.releasing ≡ (node_at s h).cache.releasing → Still s (with_node h n s)
still_node h n s q a r = record {
  quiet = quiet_node h n s q;
  acquiring = λ k d. same-set (λ (x : Node). x.cache.acquiring) s.views.nodes h k n d (no_node s) a;
  releasing = λ k d. same-set (λ (x : Node). x.cache.releasing) s.views.nodes h k n d (no_node s) r;
}

written_same : (c : Cache) (line word : ℕ) (marks : List Bool) (bytes : List ℕ) (o : Option Held) → ((word_written_in c line word marks bytes o).acquiring ≡ c.acquiring) × ((word_written_in c line word marks bytes o).releasing ≡ c.releasing)
written_same c line word marks bytes None = (refl, refl)
written_same c line word marks bytes (Some x) = (refl, refl)

writes_still : (h word : ℕ) (marks : List Bool) (bytes : List ℕ) (s : State) → Still s (writes_word h word marks bytes s)
writes_still h word marks bytes s =
    let c = (node_at s h).cache in
    let line = line_of c.shape.size word in
    let same = written_same c line word marks bytes (copy_at c line) in
    still_node h (record (node_at s h) { cache = word_written c line word marks bytes }) s refl same.0 same.1

by_deeds : (s : State) → KeptByDeeds (Still s)
by_deeds s = record {
  performs = λ h place t k. still_then s t _ k (still_trace t _ refl);
  puts_out = λ h numbers t k. still_then s t _ k (still_node h _ t refl refl refl);
  buffers = λ h b t k. still_then s t _ k (still_node h _ t refl refl refl);
  reserves = λ h o t k. still_then s t _ k (still_node h _ t refl refl refl);
  writes = λ h word marks bytes t k. still_then s t _ k (writes_still h word marks bytes t);
}

halt_log : (h : ℕ) (status : Status) (t : History) → (with_halt h status t).log ≡ t.log
halt_log h Running t = refl
halt_log h (Stopped code) t = refl
halt_log h (Exited code) t = refl

entries_log : (h : ℕ) (row : List Retired) (t : History) → (with_entries h row t).log ≡ t.log
entries_log h [] t = refl
entries_log h (entry ∷ row) t = entries_log h row (with_entry h entry t)

hart_still : (h : ℕ) (hart : Hart) (t : History) (s : State) → t.log ≡ s.trace.log → Still s (with_trace t (with_node h (record (node_at s h) { hart = hart }) s))
hart_still h hart t s log =
    let moved = with_node h (record (node_at s h) { hart = hart }) s in
    still_then s moved _ (still_node h _ s refl refl refl) (still_trace moved t log)

memory_still : (line : ℕ) (bytes : Option LineData) (s : State) → Still s (with_memory line bytes s)
memory_still line None s = still_not s
memory_still line (Some bytes) s = same_nodes s _ refl refl

pub noted_still : (line : ℕ) (bytes : Option LineData) (notes : Notes) (s : State) → Still s (with_notes notes (with_memory line bytes s))
noted_still line bytes notes s = still_then s (with_memory line bytes s) _ (memory_still line bytes s) (same_nodes (with_memory line bytes s) _ refl refl)

-- the acts of a hart alone
abbrev pub IsAlone : Act → Type 0
IsAlone (act.Miss line grow) = ⊥
IsAlone (act.Evict line) = ⊥
IsAlone (act.Deliver m) = ⊥
IsAlone _ = Unit {0}

pub alone_still : (h : ℕ) (a : Act) (s : State) → IsAlone a → Still s (acted h a s)
alone_still h (act.Stop code) s is = hart_still h _ _ s refl
alone_still h (act.Retire entry i d) s is =
    let did = does s.views.config.model h d s in
    let after = after_instr (node_at did h).hart entry (Some i) in
    still_then s did _ (does_by (Still s) (by_deeds s) s.views.config.model h d s (still_not s)) (hart_still h after (with_halt h after.status (with_entry h entry did.trace)) did (halt_log h after.status (with_entry h entry did.trace)))
alone_still h (act.Drain word) s is = drained_by (Still s) (by_deeds s) h word s (still_not s)
alone_still h (act.Local count) s is = hart_still h _ _ s (entries_log h (private_row s.trace.image (node_at s h).hart count) s.trace)
alone_still h _ s is = absurd is

-- ---- what messages that go out keep

-- the message answers neither a Probe nor a Release nor a Grant
abbrev pub IsAsking : Body → Type 0
IsAsking body = (is_probe_ack body ≡ false) × (is_release_ack body ≡ false) × (is_grant_ack body ≡ false)

release_asks : (change : Change) (bytes : Option LineData) → IsAsking (release_body change bytes)
release_asks change None = (refl, refl, refl)
release_asks change (Some bytes) = (refl, refl, refl)

-- what a delivery keeps
abbrev pub Delivers : (State → Type 0) → State → ℕ → Act → Type 0
Delivers P s h (act.Deliver m) = P (delivered h m s)
Delivers P s h _ = Unit {0}

-- a Probe or a Grant
abbrev pub IsManaging : Body → Type 0
IsManaging (ProbeBlock cap) = Unit {0}
IsManaging (Grant cap) = Unit {0}
IsManaging (GrantData cap bytes) = Unit {0}
IsManaging _ = ⊥

managing_asks : (body : Body) → IsManaging body → IsAsking body
managing_asks (ProbeBlock cap) is = (refl, refl, refl)
managing_asks (Grant cap) is = (refl, refl, refl)
managing_asks (GrantData cap bytes) is = (refl, refl, refl)
managing_asks _ is = absurd is

grant_manages : (g : Granting) (bytes : LineData) → IsManaging (grant_body g bytes)
grant_manages g bytes = go g.with_data
  where
    go : (t : Bool) → IsManaging (if t then GrantData g.cap bytes else Grant g.cap)
    go true = tt
    go false = tt

-- what the manager sends
module _ (P : State → Type 0) (manages : (h : ℕ) (m : Msg) (s : State) → IsManaging m.body → P s → P (sent h m s)) where
  grant_keeps : (line : ℕ) (g : Granting) (s : State) → P s → P (sent_grant line g s)
  grant_keeps line g s p = manages g.hart (record { line = line; body = grant_body g (line_in_memory s line) }) s (grant_manages g (line_in_memory s line)) p

  pub if_handled : (line : ℕ) (a : Acquired) (s : State) → P s → P (sent_if_handled line a s)
  if_handled line a s p = by_handled P (λ h line cap s p. manages h (record { line = line; body = ProbeBlock cap }) s tt p) grant_keeps line a s p

  pub if_granted : (line : ℕ) (g : Option Granting) (s : State) → P s → P (sent_if_granted line g s)
  if_granted line g s p = by_granted P s p line g (λ g. grant_keeps line g s p)

module _ (P : State → Type 0) (still : (s t : State) → Still s t → P s → P t) (manages : (h : ℕ) (m : Msg) (s : State) → IsManaging m.body → P s → P (sent h m s)) where
  pub acknowledged : (h line : ℕ) (change : Change) (bytes : Option LineData) (s : State) → P s → P (on_probe_ack h line change bytes s)
  acknowledged h line change bytes s p =
      let answer = probe_acked s.views.notes (place_of (line_size s) line) h change in
      let noted = with_notes answer.1 (with_memory line bytes s) in
      if_granted P manages line answer.0 noted (still s noted (noted_still line bytes answer.1 s) p)

  pub acquired_keeps : (h line : ℕ) (grow : Grow) (s : State) → P s → P (on_acquire h line grow s)
  acquired_keeps h line grow s p =
      let answer = acquired s.views.notes (place_of (line_size s) line) h grow in
      let noted = with_notes answer.1 s in
      if_handled P manages line answer.0 noted (still s noted (same_nodes s noted refl refl) p)

module _ (P : State → Type 0) (quiet : (s t : State) → Quiet s t → P s → P t) (asks : (h : ℕ) (m : Msg) (s : State) → IsAsking m.body → P s → P (sent h m s)) where
  by_manager : (h : ℕ) (m : Msg) (s : State) → IsManaging m.body → P s → P (sent h m s)
  by_manager h m s is p = asks h m s (managing_asks m.body is) p

  evicted_keeps : (h line : ℕ) (s : State) → P s → P (given_up h line s)
  evicted_keeps h line s p =
      let answer = evicted (node_at s h).cache line in
      let less = with_node h (with_less answer.1 line (node_at s h)) s in
      let q = quiet s less (quiet_node h _ s refl) p in
      by_left P less q h line answer.0 (λ change bytes. asks h (record { line = line; body = release_body change bytes }) less (release_asks change bytes) q)

  pub acted_keeps : (h : ℕ) (a : Act) (s : State) → Delivers P s h a → P s → P (acted h a s)
  acted_keeps h (act.Miss line grow) s t p =
      let asking = with_node h (record (node_at s h) { cache = (wanted (node_at s h).cache line grow).1 }) s in
      asks h (record { line = line; body = AcquireBlock grow }) asking (refl, refl, refl) (quiet s asking (quiet_node h _ s refl) p)
  acted_keeps h (act.Evict line) s t p = evicted_keeps h line s p
  acted_keeps h (act.Deliver m) s t p = t
  acted_keeps h a s t p = quiet s (acted h a s) (alone_still h a s tt).quiet p

  -- `R` holds once the message has left its queue, and until it is answered
  module _ (R : ℕ → Msg → State → Type 0) (quiet_taken : (h : ℕ) (m : Msg) (s t : State) → Quiet s t → R h m s → R h m t) (forget : (h : ℕ) (m : Msg) (s : State) → R h m s → P s)
      (acks_probe : (h line : ℕ) (cap : Cap) (change : Change) (bytes : Option LineData) (s : State) → R h (record { line = line; body = ProbeBlock cap }) s → P (sent h (record { line = line; body = probe_ack_body change bytes }) s))
      (acks_release : (h line : ℕ) (body : Body) (s : State) → is_release body ≡ true → R h (record { line = line; body = body }) s → P (sent h (record { line = line; body = ReleaseAck }) s))
      (acks_grant : (h line : ℕ) (body : Body) (s : State) → is_grant body ≡ true → R h (record { line = line; body = body }) s → P (sent h (record { line = line; body = GrantAck }) s)) where
    released_keeps : (h line : ℕ) (body : Body) (bytes : Option LineData) (s : State) → is_release body ≡ true → R h (record { line = line; body = body }) s → P (on_release h line bytes s)
    released_keeps h line body bytes s is r =
        let notes = released s.views.notes (place_of (line_size s) line) h in
        let noted = with_notes notes (with_memory line bytes s) in
        acks_release h line body noted is (quiet_taken h _ s noted (noted_still line bytes notes s).quiet r)

    granted_keeps : (h line : ℕ) (body : Body) (cap : Cap) (bytes : Option LineData) (s : State) → is_grant body ≡ true → R h (record { line = line; body = body }) s → P (on_grant h line cap bytes s)
    granted_keeps h line body cap bytes s is r =
        let held = with_node h (record (node_at s h) { cache = granted (node_at s h).cache line cap bytes }) s in
        acks_grant h line body held is (quiet_taken h _ s held (quiet_node h _ s refl) r)

    pub handled_keeps : (h line : ℕ) (body : Body) (s : State) → R h (record { line = line; body = body }) s → P (handled h line body s)
    handled_keeps h line (AcquireBlock grow) s r = acquired_keeps P (λ s t q. quiet s t q.quiet) by_manager h line grow s (forget h _ s r)
    handled_keeps h line (ProbeBlock cap) s r =
        let answer = probed (node_at s h).cache line cap in
        let shrunk = with_node h (with_less answer.1 line (node_at s h)) s in
        let q = quiet_taken h _ s shrunk (quiet_node h _ s refl) r in
        by_answered P shrunk (forget h _ shrunk q) h line answer.0 (λ change bytes e. acks_probe h line cap change bytes shrunk q)
    handled_keeps h line (ProbeAck change) s r = acknowledged P (λ s t q. quiet s t q.quiet) by_manager h line change None s (forget h _ s r)
    handled_keeps h line (ProbeAckData change bytes) s r = acknowledged P (λ s t q. quiet s t q.quiet) by_manager h line change (Some bytes) s (forget h _ s r)
    handled_keeps h line (Release change) s r = released_keeps h line (Release change) None s refl r
    handled_keeps h line (ReleaseData change bytes) s r = released_keeps h line (ReleaseData change bytes) (Some bytes) s refl r
    handled_keeps h line (Grant cap) s r = granted_keeps h line (Grant cap) cap None s refl r
    handled_keeps h line (GrantData cap bytes) s r = granted_keeps h line (GrantData cap bytes) cap (Some bytes) s refl r
    handled_keeps h line ReleaseAck s r = quiet s _ (quiet_node h (record (node_at s h) { cache = answered (node_at s h).cache line }) s refl) (forget h _ s r)
    handled_keeps h line GrantAck s r = quiet s (with_notes (grant_acked s.views.notes (place_of (line_size s) line)) s) (same_nodes s _ refl refl).quiet (forget h _ s r)
