-- Which questions of a line are under way to a hart or from it, by where the hart stands.
use Rattle.std.proofs.Common.{ℕ, ◌+◌, Bool, true, false, List, [], ◌∷◌, ◌≡◌, Some, None, refl, ap, sym, ◌∙◌}
use native.Mathlib.Omega.{arith}
use Rattle.client_cache.specs.Held.{perm_of}
use Rattle.machine_model.specs.Deliveries.{is_trunk, probe_ack_body}
use Rattle.machine_model.specs.LawfulLog.{is_acquire, is_grant, is_grant_ack, is_loss, is_probe, is_probe_ack}
use Rattle.machine_model.proofs.coherence.LineStands.{Side, Part, Alone, Probed, Asking, Taking, IsBystander, Stands, Holds, Asks, Leaves, Left, AsksProbed, LeavesProbed, HoldsAnswered, AsksAnswered, LeavesAnswered, Waits, Receives, Upgrades, AsksGranted, LeavesGranted, not_conflicting}
use Rattle.machine_model.proofs.log.Counts.{bit}
use Rattle.machine_model.proofs.log.manager.Queues.{count_in}
use Rattle.tl_types.specs.Permission.{left_by}
use Rattle.tl_types.specs.declared.line.LineData.{LineData}
use Rattle.tl_types.specs.declared.message.Body.{Body}
use Rattle.tl_types.specs.declared.message.Body.TheVariants.{AcquireBlock}
use Rattle.tl_types.specs.declared.permission.Change.{Change}
use Rattle.tl_types.specs.declared.permission.Change.TheVariants.{TtoB, BtoB}
use Rattle.tl_types.specs.declared.permission.Grow.{Grow}
use Rattle.tl_types.specs.declared.permission.Perm.{Perm}
use Rattle.tl_types.specs.declared.permission.Perm.TheVariants.{Branch}

-- the requester of a transaction before its Grant, and from its Grant on
abbrev pub is_asking : Part → Bool
is_asking Alone = false
is_asking (Probed grow) = false
is_asking (Asking grow) = true
is_asking Taking = false

abbrev pub is_taking : Part → Bool
is_taking Alone = false
is_taking (Probed grow) = false
is_taking (Asking grow) = false
is_taking Taking = true

stands_by : (part : Part) (noted : Perm) → IsBystander part noted → (is_asking part ≡ false) × (is_taking part ≡ false)
stands_by Alone noted by = (refl, refl)
stands_by (Probed grow) noted by = (refl, refl)
stands_by (Asking grow) noted by = absurd by
stands_by Taking noted by = absurd by

not_taking : (part : Part) (noted : Perm) → IsBystander part noted → 0 ≡ bit (is_taking part)
not_taking part noted by = sym (ap bit (stands_by part noted by).1)

-- a Probe, or its answer, is under way exactly where the answer is awaited
pub probes_open : {last : LineData} {part : Part} {x : Side} → Stands last part x → count_in is_probe x.b + count_in is_probe_ack x.c ≡ bit x.awaited
probes_open (Leaves _ from change None by is) = refl
probes_open (Leaves _ from change (Some bytes) by is) = refl
probes_open (LeavesProbed g from change None is) = refl
probes_open (LeavesProbed g from change (Some bytes) is) = refl
probes_open (HoldsAnswered g from change None copy lowers enough by same is) = refl
probes_open (HoldsAnswered g from change (Some bytes) copy lowers enough by same is) = refl
probes_open (AsksAnswered g from change None copy h lowers enough by same is) = refl
probes_open (AsksAnswered g from change (Some bytes) copy h lowers enough by same is) = refl
probes_open (LeavesAnswered g from change None other lowers enough by) = refl
probes_open (LeavesAnswered g from change (Some bytes) other lowers enough by) = refl
probes_open (LeavesGranted from change None is) = refl
probes_open (LeavesGranted from change (Some bytes) is) = refl
probes_open _ = refl

-- a Grant, or its answer, is under way exactly to the hart that is granted the line
pub grants_open : {last : LineData} {part : Part} {x : Side} → Stands last part x → count_in is_grant x.d + count_in is_grant_ack x.e ≡ bit (is_taking part)
grants_open (Holds part copy by is) = not_taking part (perm_of copy) by
grants_open (Asks part copy h by is reader) = not_taking part (perm_of copy) by
grants_open (Leaves part from change carried by is) = not_taking part from by
grants_open (Left part by) = not_taking part _ by
grants_open _ = refl

not_asking : (part : Part) (noted : Perm) → IsBystander part noted → (n : ℕ) → n ≡ n + bit (is_asking part)
not_asking part noted by n = let off : is_asking part ≡ false = (stands_by part noted by).0 in rw off (omega arith)

-- an Acquire that wasn't answered is under way, or its Grant is, or the manager has it
pub acquires_open : {last : LineData} {part : Part} {x : Side} → Stands last part x → bit x.acquiring ≡ count_in is_acquire x.a + count_in is_grant x.d + bit (is_asking part)
acquires_open (Holds part copy by is) = not_asking part (perm_of copy) by 0
acquires_open (Asks part copy h by is reader) = not_asking part (perm_of copy) by 1
acquires_open (Leaves part from change carried by is) = not_asking part from by 0
acquires_open (Left part by) = not_asking part _ by 0
acquires_open _ = refl

-- the manager has the Acquire of the hart that asks, and the hart has nothing else under way
pub record IsWaiting (x : Side) : Type 0 where
  pub asked : x.a ≡ []
  pub unprobed : x.b ≡ []
  pub answered : x.c ≡ []
  pub acquiring : x.acquiring ≡ true
  pub noted : x.noted ≡ perm_of x.copy
  pub reader : is_trunk (perm_of x.copy) ≡ false

pub waits_for : {last : LineData} {g : Grow} {x : Side} → Stands last (Asking g) x → IsWaiting x
waits_for (Waits g copy is reader) = record { asked = refl; unprobed = refl; answered = refl; acquiring = refl; noted = refl; reader = reader }
waits_for (Holds _ copy by is) = absurd by
waits_for (Asks _ copy h by is reader) = absurd by
waits_for (Leaves _ from change carried by is) = absurd by
waits_for (Left _ by) = absurd by

-- the hart's Acquire comes while no transaction is under way
abbrev pub AsksFirst : Grow → Side → List Body → Type 0
AsksFirst g x [] = Unit {0}
AsksFirst g x (AcquireBlock grow ∷ rest) = (rest ≡ []) × (x.c ≡ []) × (x.acquiring ≡ true) × (x.noted ≡ perm_of x.copy) × (is_trunk (perm_of x.copy) ≡ false)
AsksFirst g x (_ ∷ rest) = Unit {0}

pub asks_first : {last : LineData} {x : Side} (g : Grow) → Stands last Alone x → AsksFirst g x x.a
asks_first g (Asks _ copy h by is reader) = (refl, refl, refl, refl, reader)
asks_first g _ = tt

-- a hart that asks reads at most
pub asking_reads : {last : LineData} {part : Part} {x : Side} → Stands last part x → x.acquiring ≡ true → is_trunk (perm_of x.copy) ≡ false
asking_reads (Asks _ copy h by is reader) e = reader
asking_reads (AsksProbed g copy h is reader) e = reader
asking_reads (AsksAnswered g from change carried copy h lowers enough by same is) e = ap is_trunk same ∙ not_conflicting g (left_by change) enough
asking_reads (Waits g copy is reader) e = reader
asking_reads (Receives g copy is reader) e = reader
asking_reads Upgrades e = refl
asking_reads (AsksGranted copy h is reader) e = reader
asking_reads _ e = cc e

-- a hart that has a Branch copy has no loss of it under way
no_loss : (change : Change) (carried : _) → left_by change ≡ Branch → is_loss (probe_ack_body change carried) ≡ false
no_loss TtoB None e = refl
no_loss TtoB (Some bytes) e = refl
no_loss BtoB None e = refl
no_loss BtoB (Some bytes) e = refl
no_loss _ carried e = cc e

pub branch_kept : {last : LineData} {part : Part} {x : Side} → Stands last part x → perm_of x.copy ≡ Branch → count_in is_loss x.c ≡ 0
branch_kept (HoldsAnswered g from change carried copy lowers enough by same is) e = rw (no_loss change carried (sym same ∙ e)) refl
branch_kept (AsksAnswered g from change carried copy h lowers enough by same is) e = rw (no_loss change carried (sym same ∙ e)) refl
branch_kept (Leaves _ from change carried by is) e = cc e
branch_kept (LeavesProbed g from change carried is) e = cc e
branch_kept (LeavesAnswered g from change carried other lowers enough by) e = cc e
branch_kept (LeavesGranted from change carried is) e = cc e
branch_kept _ e = refl
