-- No act touches the count of the events that changed the machine.
use Rattle.std.proofs.Common.{ℕ, ◌≡◌, refl, ap, List, [], ◌∷◌, Option, Some, None}
use Rattle.client_cache.specs.Cache.{evicted, probed}
use Rattle.client_cache.specs.declared.answers.Evict.{Evict}
use Rattle.client_cache.specs.declared.answers.Evict.TheVariants.{NotHeld, AcquirePending, ReleaseFull, Evicted}
use Rattle.client_cache.specs.declared.answers.Probed.{Probed}
use Rattle.client_cache.specs.declared.answers.Probed.TheVariants.{Releasing, Answered}
use Rattle.directory.specs.Directory.{acquired, probe_acked}
use Rattle.directory.specs.declared.answer.Acquired.{Acquired}
use Rattle.directory.specs.declared.answer.Acquired.TheVariants.{Handled, Busy}
use Rattle.directory.specs.declared.answer.Grant.{Grant as Granting}
use Rattle.directory.specs.declared.answer.Sent.TheVariants.{Probes, Granting as Grants}
use Rattle.machine_model.specs.declared.act.Act.{Act}
use Rattle.machine_model.specs.declared.act.Act.TheVariants as act
use Rattle.machine_model.specs.declared.act.Deed.{Deed}
use Rattle.machine_model.specs.declared.act.Deed.TheVariants as deed
use Rattle.machine_model.specs.Changing.{acted, does, performs, sent_if_evicted}
use Rattle.machine_model.specs.Deliveries.{handled, sent_if_answered, sent_if_granted, sent_if_handled, sent_probes, taken}
use Rattle.machine_model.specs.Views.{State, line_size, node_at, place_of}
use Rattle.machine_types.specs.declared.model.MemoryModel.{MemoryModel}
use Rattle.store_buffer.specs.Entry.{entry_of}
use Rattle.store_buffer.specs.Groups.{oldest}
use Rattle.tl_types.specs.declared.message.Body.{Body}
use Rattle.tl_types.specs.declared.message.Body.TheVariants.{AcquireBlock, ProbeBlock, ProbeAck, ProbeAckData, Release, ReleaseData, Grant, GrantData, ReleaseAck, GrantAck}
use Rattle.tl_types.specs.declared.permission.Cap.{Cap}

performs_keep : (h : ℕ) (places : List ℕ) (s : State) → (performs h places s).views ≡ s.views
performs_keep h [] s = refl
performs_keep h (place ∷ places) s = performs_keep h places _

does_keeps : (model : MemoryModel) (h : ℕ) (d : Deed) (s : State) → (does model h d s).views.changes ≡ s.views.changes
does_keeps model h deed.Private s = refl
does_keeps model h (deed.Output number) s = refl
does_keeps model h deed.Load s = refl
does_keeps model h (deed.Store store) s = refl
does_keeps model h deed.Seal s = refl
does_keeps model h (deed.Lr word) s = refl
does_keeps model h deed.Fail s = refl
does_keeps model h (deed.Sc word value) s = refl
does_keeps model h (deed.Amo word value) s = refl

evicted_keeps : (h line : ℕ) (e : Evict) (s : State) → (sent_if_evicted h line e s).views.changes ≡ s.views.changes
evicted_keeps h line (Evicted change bytes) s = refl
evicted_keeps h line NotHeld s = refl
evicted_keeps h line AcquirePending s = refl
evicted_keeps h line ReleaseFull s = refl

probes_keep : (harts : List ℕ) (line : ℕ) (cap : Cap) (s : State) → (sent_probes harts line cap s).views.changes ≡ s.views.changes
probes_keep [] line cap s = refl
probes_keep (hart ∷ harts) line cap s = probes_keep harts line cap _

acquired_keeps : (line : ℕ) (a : Acquired) (s : State) → (sent_if_handled line a s).views.changes ≡ s.views.changes
acquired_keeps line Busy s = refl
acquired_keeps line (Handled (Probes cap harts)) s = probes_keep harts line cap s
acquired_keeps line (Handled (Grants g)) s = refl

granted_keeps : (line : ℕ) (g : Option Granting) (s : State) → (sent_if_granted line g s).views.changes ≡ s.views.changes
granted_keeps line None s = refl
granted_keeps line (Some g) s = refl

answered_keeps : (h line : ℕ) (p : Probed) (s : State) → (sent_if_answered h line p s).views.changes ≡ s.views.changes
answered_keeps h line Releasing s = refl
answered_keeps h line (Answered change bytes) s = refl

handled_keeps : (h line : ℕ) (body : Body) (s : State) → (handled h line body s).views.changes ≡ s.views.changes
handled_keeps h line (AcquireBlock grow) s = acquired_keeps line (acquired s.views.notes (place_of (line_size s) line) h grow).0 _
handled_keeps h line (ProbeBlock cap) s = answered_keeps h line (probed (node_at s h).cache line cap).0 _
handled_keeps h line (ProbeAck change) s = granted_keeps line (probe_acked s.views.notes (place_of (line_size s) line) h change).0 _
handled_keeps h line (ProbeAckData change bytes) s = granted_keeps line (probe_acked s.views.notes (place_of (line_size s) line) h change).0 _
handled_keeps h line (Release change) s = refl
handled_keeps h line (ReleaseData change bytes) s = refl
handled_keeps h line (Grant cap) s = refl
handled_keeps h line (GrantData cap bytes) s = refl
handled_keeps h line ReleaseAck s = refl
handled_keeps h line GrantAck s = refl

pub acted_keeps_changes : (h : ℕ) (a : Act) (s : State) → (acted h a s).views.changes ≡ s.views.changes
acted_keeps_changes h (act.Stop code) s = refl
acted_keeps_changes h (act.Retire entry i d) s = does_keeps s.views.config.model h d s
acted_keeps_changes h (act.Miss line grow) s = refl
acted_keeps_changes h (act.Drain word) s = ap (λ v. v.changes) (performs_keep h (entry_of word (oldest (node_at s h).buffer)).ops s)
acted_keeps_changes h (act.Evict line) s = evicted_keeps h line (evicted (node_at s h).cache line).0 _
acted_keeps_changes h (act.Deliver m) s = handled_keeps h m.line m.body (taken h m s)
acted_keeps_changes h (act.Local count) s = refl
