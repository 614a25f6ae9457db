-- Which messages keep the rules of the coherent log, by what the log told before them.
use Rattle.std.proofs.Common.{ℕ, Bool, true, false, List, [], ◌∷◌, ◌++◌, ◌≡◌, Option, Some, None, refl, ap, sym, ◌∙◌, subst, length}
use Rattle.std.specs.Prelude.{◌≢◌, if◌then◌else◌}
use Rattle.std.proofs.lemmas.Bool.{eq-eqb}
use Rattle.coherent_log.proofs.Latest.{latest_next}
use Rattle.coherent_log.specs.Rules.{IsDataAsked, IsDataKept, IsOneWriter, IsPermissionHeld, IsProbeObeyed, MayBeGrantedBeside, MayGoBy, asked_from, perm_in}
use Rattle.coherent_log.specs.Told.{brought_of, client_of, tells_probe}
use Rattle.coherent_log.specs.declared.clients.ClientLog.{ClientLog}
use Rattle.coherent_log.specs.declared.clients.Probed.{Probed}
use Rattle.coherent_log.specs.declared.lines.Brought.{Brought}
use Rattle.coherent_log.specs.declared.rule.CoherenceRule.{CoherenceRule}
use Rattle.coherent_log.specs.declared.rule.CoherenceRule.TheVariants.{PermissionHeld, ProbeObeyed, OneWriter, DataAsked, DataKept}
use Rattle.elf_loader.specs.Image.{Initial}
use Rattle.machine_logs.proofs.Told.{IsHome, IsTold, MayGo}
use Rattle.machine_model.proofs.log.Lists.{comes_out}
use Rattle.machine_model.specs.Changing.{release_body}
use Rattle.machine_model.specs.Deliveries.{probe_ack_body}
use Rattle.tl_types.specs.Permission.{held_before, left_by}
use Rattle.tl_types.specs.Shrink.{shrunk_by}
use Rattle.tl_types.specs.declared.line.LineData.{LineData}
use Rattle.tl_types.specs.declared.message.Body.{Body}
use Rattle.tl_types.specs.declared.message.Body.TheVariants.{AcquireBlock, ProbeBlock, ProbeAck, ProbeAckData, Grant, GrantData, ReleaseAck, GrantAck}
use Rattle.tl_types.specs.declared.permission.Cap.{Cap}
use Rattle.tl_types.specs.declared.permission.Change.{Change}
use Rattle.tl_types.specs.declared.permission.Grow.{Grow}
use Rattle.tl_types.specs.declared.permission.Perm.{Perm}
use Rattle.tl_types.specs.declared.permission.Perm.TheVariants.{Nothing, Trunk}
use Rattle.trace_recorder.specs.declared.logged.Logged.{Logged}

by_rule : (image : Initial) (h line : ℕ) (body : Body) (clients : ℕ → ClientLog) (x : Option Brought) → IsPermissionHeld body (perm_in (clients h).held) → IsProbeObeyed body (perm_in (clients h).held) (clients h).probe
    → IsOneWriter body h (λ k. perm_in (clients k).noted) → IsDataAsked body (perm_in (clients h).held) → IsDataKept body (Some image) line x → (r : CoherenceRule) → MayGoBy r (Some image) h line body clients x
by_rule image h line body clients x p o w a k PermissionHeld = p
by_rule image h line body clients x p o w a k ProbeObeyed = o
by_rule image h line body clients x p o w a k OneWriter = w
by_rule image h line body clients x p o w a k DataAsked = a
by_rule image h line body clients x p o w a k DataKept = k

-- of these no rule asks anything
abbrev pub IsPlain : Body → Type 0
IsPlain (ProbeBlock cap) = Unit {0}
IsPlain ReleaseAck = Unit {0}
IsPlain GrantAck = Unit {0}
IsPlain _ = ⊥

module _ (image : Initial) (h line : ℕ) (log : List Logged) where
  abbrev clients : ℕ → ClientLog
  clients k = client_of k line log

  abbrev told : Option Brought
  told = brought_of line log

  pub may_plain : (body : Body) → IsPlain body → MayGo image h (record { line = line; body = body }) log
  may_plain (ProbeBlock cap) is = (by_rule image h line (ProbeBlock cap) clients told tt tt (λ k ne. tt) tt tt, tt)
  may_plain ReleaseAck is = (by_rule image h line ReleaseAck clients told tt tt (λ k ne. tt) tt tt, tt)
  may_plain GrantAck is = (by_rule image h line GrantAck clients told tt tt (λ k ne. tt) tt tt, tt)
  may_plain _ is = absurd is

  module _ {on : ℕ → Bool} {held noted : ℕ → ℕ → Perm} {home : ℕ → LineData} (i : IsTold image on log held noted home) where
    pub may_ask : (grow : Grow) → asked_from grow ≡ held h line → MayGo image h (record { line = line; body = AcquireBlock grow }) log
    may_ask grow from = (by_rule image h line (AcquireBlock grow) clients told (from ∙ sym (i.clients h line)) tt (λ k ne. tt) tt tt, tt)

    pub may_release : (change : Change) (bytes : Option LineData) → held_before change ≡ held h line → left_by change ≡ Nothing → ((b : LineData) → bytes ≡ Some b → held h line ≡ Trunk) → MayGo image h (record { line = line; body = release_body change bytes }) log
    may_release change None from left dirty = (by_rule image h line (release_body change None) clients told (from ∙ sym (i.clients h line)) tt (λ k ne. tt) tt tt, left)
    may_release change (Some b) from left dirty = (by_rule image h line (release_body change (Some b)) clients told (from ∙ sym (i.clients h line)) tt (λ k ne. tt) (i.clients h line ∙ dirty b refl) tt, left)

    answers : (change : Change) (probe : Option Probed) (p : Probed) → probe ≡ Some p → change ≡ (shrunk_by (held h line) p.cap).1 → IsProbeObeyed (ProbeAck change) (perm_in (clients h).held) probe
    answers change probe p is obeyed = subst (IsProbeObeyed (ProbeAck change) (perm_in (clients h).held)) (sym is) (obeyed ∙ ap (λ perm. (shrunk_by perm p.cap).1) (sym (i.clients h line)))

    answers_data : (change : Change) (bytes : LineData) (probe : Option Probed) (p : Probed) → probe ≡ Some p → change ≡ (shrunk_by (held h line) p.cap).1 → IsProbeObeyed (ProbeAckData change bytes) (perm_in (clients h).held) probe
    answers_data change bytes probe p is obeyed = subst (IsProbeObeyed (ProbeAckData change bytes) (perm_in (clients h).held)) (sym is) (obeyed ∙ ap (λ perm. (shrunk_by perm p.cap).1) (sym (i.clients h line)))

    pub may_answer : (change : Change) (bytes : Option LineData) (p : Probed) → (clients h).probe ≡ Some p → change ≡ (shrunk_by (held h line) p.cap).1 → ((b : LineData) → bytes ≡ Some b → held h line ≡ Trunk)
        → MayGo image h (record { line = line; body = probe_ack_body change bytes }) log
    may_answer change None p is obeyed dirty = (by_rule image h line (ProbeAck change) clients told tt (answers change (clients h).probe p is obeyed) (λ k ne. tt) tt tt, tt)
    may_answer change (Some b) p is obeyed dirty = (by_rule image h line (ProbeAckData change b) clients told tt (answers_data change b (clients h).probe p is obeyed) (λ k ne. tt) (i.clients h line ∙ dirty b refl) tt, tt)

    kept : (cap : Cap) (bytes : LineData) (x : Option Brought) → IsHome image line x bytes → IsDataKept (GrantData cap bytes) (Some image) line x
    kept cap bytes None is = is
    kept cap bytes (Some b) is = is

    pub may_grant : (with_data : Bool) (cap : Cap) → on line ≡ true → ((k : ℕ) → k ≢ h → MayBeGrantedBeside cap (noted k line)) → MayGo image h (record { line = line; body = if with_data then GrantData cap (home line) else Grant cap }) log
    may_grant true cap there beside = (
      by_rule image h line (GrantData cap (home line)) clients told tt tt (λ k ne. subst (MayBeGrantedBeside cap) (sym (i.notes k line there)) (beside k ne)) tt (kept cap (home line) told (i.bytes line there)),
      tt,
    )
    may_grant false cap there beside = (by_rule image h line (Grant cap) clients told tt tt (λ k ne. subst (MayBeGrantedBeside cap) (sym (i.notes k line there)) (beside k ne)) tt tt, tt)

-- the Probe that was taken last
pub probe_told : (h line : ℕ) (cap : Cap) (log : List Logged) → (client_of h line (log ++ comes_out h (record { line = line; body = ProbeBlock cap }) ∷ [])).probe ≡ Some (record { cap = cap; index = length log })
probe_told h line cap log = latest_next (tells_probe h line) log (comes_out h (record { line = line; body = ProbeBlock cap })) (length log) refl ∙ rw (eq-eqb h h refl, eq-eqb line line refl) refl
