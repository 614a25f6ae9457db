-- What one hart has to do with one line, and which states of it are possible, by the part that the line's transaction gives it.
use Rattle.std.proofs.Common.{Bool, true, false, List, [], ◌∷◌, ◌++◌, ◌≡◌, Option, Some, None, refl, ap, sym, ◌∙◌}
use Rattle.std.specs.Prelude.{◌||◌, if◌then◌else◌, is_some}
use Rattle.client_cache.specs.Held.{bytes_in, dirty_in, granted_copy, perm_of, shrunk_at}
use Rattle.client_cache.specs.declared.held.Held.{Held}
use Rattle.client_cache.specs.declared.held.Held.TheVariants as held
use Rattle.directory.specs.Lines.{conflicts, needs_data, probe_cap}
use Rattle.machine_model.specs.Changing.{release_body}
use Rattle.machine_model.specs.Deliveries.{is_trunk, probe_ack_body}
use Rattle.tl_types.specs.Permission.{granted_for, left_by, named_by}
use Rattle.tl_types.specs.Shrink.{shrunk_by}
use Rattle.tl_types.specs.declared.line.LineData.{LineData}
use Rattle.tl_types.specs.declared.message.Body.{Body}
use Rattle.tl_types.specs.declared.message.Body.TheVariants.{AcquireBlock, ProbeBlock, ProbeAck, ProbeAckData, Release, ReleaseData, Grant, GrantData, ReleaseAck, GrantAck}
use Rattle.tl_types.specs.declared.permission.Cap.{Cap}
use Rattle.tl_types.specs.declared.permission.Cap.TheVariants.{ToT, ToB, ToN}
use Rattle.tl_types.specs.declared.permission.Change.{Change}
use Rattle.tl_types.specs.declared.permission.Grow.{Grow}
use Rattle.tl_types.specs.declared.permission.Grow.TheVariants.{NtoB, NtoT, BtoT}
use Rattle.tl_types.specs.declared.permission.Perm.{Perm}
use Rattle.tl_types.specs.declared.permission.Perm.TheVariants.{Nothing, Branch, Trunk}

-- the hart's copy, its two flags, the line's messages in its five queues, and what the manager notes of it
pub record Side : Type 0 where
  pub copy : Option Held
  pub acquiring : Bool
  pub releasing : Bool
  pub a : List Body
  pub b : List Body
  pub c : List Body
  pub d : List Body
  pub e : List Body
  pub noted : Perm
  pub awaited : Bool

abbrev pub quiet_side : Side
quiet_side = record { copy = None; acquiring = false; releasing = false; a = []; b = []; c = []; d = []; e = []; noted = Nothing; awaited = false }

-- ---- what an act makes of a side

abbrev pub dirty_of : Option Held → Option LineData
dirty_of None = None
dirty_of (Some h) = dirty_in h

abbrev pub asked : Side → Grow → Side
asked x g = record x { acquiring = true; a = x.a ++ AcquireBlock g ∷ [] }

abbrev pub left : Side → Side
left x = record x { copy = None; releasing = true; c = x.c ++ release_body (shrunk_by (perm_of x.copy) ToN).1 (dirty_of x.copy) ∷ [] }

abbrev pub shrunk : Side → Cap → List Body → Side
shrunk x cap rest = record x { b = rest; copy = shrunk_at cap x.copy; c = x.c ++ probe_ack_body (shrunk_by (perm_of x.copy) cap).1 (dirty_of x.copy) ∷ [] }

abbrev pub installed : Side → Cap → Option LineData → List Body → Side
installed x cap bytes rest = record x { d = rest; copy = granted_copy cap bytes x.copy; acquiring = false; e = x.e ++ GrantAck ∷ [] }

abbrev pub rested : Side → List Body → Side
rested x rest = record x { d = rest; releasing = false }

abbrev pub wrote : Side → LineData → Side
wrote x bytes = record x { copy = Some (held.Trunk true bytes) }

abbrev pub probe : Grow → Side → Side
probe g x = record x { b = if conflicts g x.noted then x.b ++ ProbeBlock (probe_cap g) ∷ [] else x.b; awaited = conflicts g x.noted }

abbrev pub given : Side → Grow → LineData → Side
given x g memory = record x { d = x.d ++ (if needs_data g x.noted then GrantData (granted_for g) memory else Grant (granted_for g)) ∷ []; noted = named_by (granted_for g) }

abbrev pub acknowledged : Side → Change → List Body → Side
acknowledged x change rest = record x { c = rest; noted = left_by change; awaited = false }

abbrev pub released : Side → List Body → Side
released x rest = record x { c = rest; noted = Nothing; d = x.d ++ ReleaseAck ∷ [] }

-- ---- the states

-- what a hart is to the line's transaction
pub data Part : Type 0 where
  Alone : Part
  Probed : (grow : Grow) → Part
  Asking : (grow : Grow) → Part
  Taking : Part

-- a copy has what was written last
abbrev pub IsLast : LineData → Option Held → Type 0
IsLast last None = Unit {0}
IsLast last (Some h) = bytes_in h ≡ last

-- data on channel C comes from a writer, and is what was written last
abbrev pub IsCarried : LineData → Perm → Option LineData → Type 0
IsCarried last from None = Unit {0}
IsCarried last from (Some bytes) = (bytes ≡ last) × (from ≡ Trunk)

-- what the manager notes goes down
pub record Lowers (from to : Perm) : Type 0 where
  pub writer : to ≡ Trunk → from ≡ Trunk
  pub none : from ≡ Nothing → to ≡ Nothing

-- a hart that isn't awaited, and whose record is this
abbrev pub IsBystander : Part → Perm → Type 0
IsBystander Alone noted = Unit {0}
IsBystander (Probed g) noted = conflicts g noted ≡ false
IsBystander (Asking g) noted = ⊥
IsBystander Taking noted = ⊥

abbrev pub IsReader : Option Held → Type 0
IsReader copy = is_trunk (perm_of copy) ≡ false

pub data Stands (last : LineData) : Part → Side → Type 0 where
  -- no answer to the manager is owed
  Holds : (part : Part) (copy : Option Held) → IsBystander part (perm_of copy) → IsLast last copy →
      Stands last part (record { copy = copy; acquiring = false; releasing = false; a = []; b = []; c = []; d = []; e = []; noted = perm_of copy; awaited = false })
  Asks : (part : Part) (copy : Option Held) (h : Grow) → IsBystander part (perm_of copy) → IsLast last copy → IsReader copy →
      Stands last part (record { copy = copy; acquiring = true; releasing = false; a = AcquireBlock h ∷ []; b = []; c = []; d = []; e = []; noted = perm_of copy; awaited = false })
  Leaves : (part : Part) (from : Perm) (change : Change) (carried : Option LineData) → IsBystander part from → IsCarried last from carried →
      Stands last part (record { copy = None; acquiring = false; releasing = true; a = []; b = []; c = release_body change carried ∷ []; d = []; e = []; noted = from; awaited = false })
  Left : (part : Part) → IsBystander part Nothing →
      Stands last part (record { copy = None; acquiring = false; releasing = true; a = []; b = []; c = []; d = ReleaseAck ∷ []; e = []; noted = Nothing; awaited = false })
  -- a Probe waits
  HoldsProbed : (g : Grow) (copy : Option Held) → IsLast last copy →
      Stands last (Probed g) (record { copy = copy; acquiring = false; releasing = false; a = []; b = ProbeBlock (probe_cap g) ∷ []; c = []; d = []; e = []; noted = perm_of copy; awaited = true })
  AsksProbed : (g : Grow) (copy : Option Held) (h : Grow) → IsLast last copy → IsReader copy →
      Stands last (Probed g) (record { copy = copy; acquiring = true; releasing = false; a = AcquireBlock h ∷ []; b = ProbeBlock (probe_cap g) ∷ []; c = []; d = []; e = []; noted = perm_of copy; awaited = true })
  LeavesProbed : (g : Grow) (from : Perm) (change : Change) (carried : Option LineData) → IsCarried last from carried →
      Stands last (Probed g) (record { copy = None; acquiring = false; releasing = true; a = []; b = ProbeBlock (probe_cap g) ∷ []; c = release_body change carried ∷ []; d = []; e = []; noted = from; awaited = true })
  LeftProbed : (g : Grow) →
      Stands last (Probed g) (record { copy = None; acquiring = false; releasing = true; a = []; b = ProbeBlock (probe_cap g) ∷ []; c = []; d = ReleaseAck ∷ []; e = []; noted = Nothing; awaited = true })
  -- the ProbeAck is on its way
  HoldsAnswered : (g : Grow) (from : Perm) (change : Change) (carried : Option LineData) (copy : Option Held) → Lowers from (left_by change) → conflicts g (left_by change) ≡ false → IsCarried last from carried → perm_of copy ≡ left_by change → IsLast last copy →
      Stands last (Probed g) (record { copy = copy; acquiring = false; releasing = false; a = []; b = []; c = probe_ack_body change carried ∷ []; d = []; e = []; noted = from; awaited = true })
  AsksAnswered : (g : Grow) (from : Perm) (change : Change) (carried : Option LineData) (copy : Option Held) (h : Grow) → Lowers from (left_by change) → conflicts g (left_by change) ≡ false → IsCarried last from carried → perm_of copy ≡ left_by change → IsLast last copy →
      Stands last (Probed g) (record { copy = copy; acquiring = true; releasing = false; a = AcquireBlock h ∷ []; b = []; c = probe_ack_body change carried ∷ []; d = []; e = []; noted = from; awaited = true })
  LeavesAnswered : (g : Grow) (from : Perm) (change : Change) (carried : Option LineData) (other : Change) → Lowers from (left_by change) → conflicts g (left_by change) ≡ false → IsCarried last from carried →
      Stands last (Probed g) (record { copy = None; acquiring = false; releasing = true; a = []; b = []; c = probe_ack_body change carried ∷ Release other ∷ []; d = []; e = []; noted = from; awaited = true })
  -- the requester of the transaction, before its Grant and with it on its way
  Waits : (g : Grow) (copy : Option Held) → IsLast last copy → IsReader copy →
      Stands last (Asking g) (record { copy = copy; acquiring = true; releasing = false; a = []; b = []; c = []; d = []; e = []; noted = perm_of copy; awaited = false })
  Receives : (g : Grow) (copy : Option Held) → IsLast last copy → IsReader copy →
      Stands last Taking (record { copy = copy; acquiring = true; releasing = false; a = []; b = []; c = []; d = GrantData (granted_for g) last ∷ []; e = []; noted = named_by (granted_for g); awaited = false })
  Upgrades :
      Stands last Taking (record { copy = Some (held.Branch last); acquiring = true; releasing = false; a = []; b = []; c = []; d = Grant ToT ∷ []; e = []; noted = Trunk; awaited = false })
  -- its GrantAck is on its way
  HoldsGranted : (copy : Option Held) → IsLast last copy →
      Stands last Taking (record { copy = copy; acquiring = false; releasing = false; a = []; b = []; c = []; d = []; e = GrantAck ∷ []; noted = perm_of copy; awaited = false })
  AsksGranted : (copy : Option Held) (h : Grow) → IsLast last copy → IsReader copy →
      Stands last Taking (record { copy = copy; acquiring = true; releasing = false; a = AcquireBlock h ∷ []; b = []; c = []; d = []; e = GrantAck ∷ []; noted = perm_of copy; awaited = false })
  LeavesGranted : (from : Perm) (change : Change) (carried : Option LineData) → IsCarried last from carried →
      Stands last Taking (record { copy = None; acquiring = false; releasing = true; a = []; b = []; c = release_body change carried ∷ []; d = []; e = GrantAck ∷ []; noted = from; awaited = false })
  LeftGranted :
      Stands last Taking (record { copy = None; acquiring = false; releasing = true; a = []; b = []; c = []; d = ReleaseAck ∷ []; e = GrantAck ∷ []; noted = Nothing; awaited = false })

-- ---- what memory lacks: a dirty copy, or data on channel C

abbrev pub is_dirty : Option Held → Bool
is_dirty None = false
is_dirty (Some (held.Branch bytes)) = false
is_dirty (Some (held.Trunk dirty bytes)) = dirty

abbrev pub has_data : Body → Bool
has_data (ProbeAckData change bytes) = true
has_data (ReleaseData change bytes) = true
has_data _ = false

abbrev pub carries : List Body → Bool
carries [] = false
carries (m ∷ ms) = has_data m || carries ms

abbrev pub owes : Side → Bool
owes x = is_dirty x.copy || carries x.c

-- a step of one hart that the manager doesn't see
pub record Moves (last : LineData) (part : Part) (x y : Side) : Type 0 where
  pub stands : Stands last part y
  pub noted : y.noted ≡ x.noted
  pub owes : owes y ≡ owes x

-- ---- small facts

pub not_conflicting : (g : Grow) (p : Perm) → conflicts g p ≡ false → is_trunk p ≡ false
not_conflicting g Nothing e = refl
not_conflicting g Branch e = refl
not_conflicting NtoB Trunk e = cc e
not_conflicting NtoT Trunk e = cc e
not_conflicting BtoT Trunk e = cc e

pub is_writer : (p : Perm) → is_trunk p ≡ true → p ≡ Trunk
is_writer Nothing e = cc e
is_writer Branch e = cc e
is_writer Trunk e = refl

carried_from : (last : LineData) (copy : Option Held) → IsLast last copy → IsCarried last (perm_of copy) (dirty_of copy)
carried_from last None is = tt
carried_from last (Some (held.Branch bytes)) is = tt
carried_from last (Some (held.Trunk false bytes)) is = tt
carried_from last (Some (held.Trunk true bytes)) is = (is, refl)

owes_released : (copy : Option Held) (change : Change) → carries (release_body change (dirty_of copy) ∷ []) ≡ is_dirty copy || false
owes_released None change = refl
owes_released (Some (held.Branch bytes)) change = refl
owes_released (Some (held.Trunk false bytes)) change = refl
owes_released (Some (held.Trunk true bytes)) change = refl

shrinks : (p : Perm) (cap : Cap) → Lowers p (left_by (shrunk_by p cap).1)
shrinks Trunk ToT = record { writer = λ e. refl; none = λ e. cc e }
shrinks Trunk ToB = record { writer = λ e. refl; none = λ e. cc e }
shrinks Trunk ToN = record { writer = λ e. refl; none = λ e. cc e }
shrinks Branch ToT = record { writer = λ e. cc e; none = λ e. cc e }
shrinks Branch ToB = record { writer = λ e. cc e; none = λ e. cc e }
shrinks Branch ToN = record { writer = λ e. cc e; none = λ e. cc e }
shrinks Nothing cap = record { writer = λ e. cc e; none = λ e. refl }

shrunk_enough : (g : Grow) (p : Perm) → conflicts g (left_by (shrunk_by p (probe_cap g)).1) ≡ false
shrunk_enough NtoB Nothing = refl
shrunk_enough NtoB Branch = refl
shrunk_enough NtoB Trunk = refl
shrunk_enough NtoT Nothing = refl
shrunk_enough NtoT Branch = refl
shrunk_enough NtoT Trunk = refl
shrunk_enough BtoT Nothing = refl
shrunk_enough BtoT Branch = refl
shrunk_enough BtoT Trunk = refl

shrunk_perm : (cap : Cap) (copy : Option Held) → perm_of (shrunk_at cap copy) ≡ left_by (shrunk_by (perm_of copy) cap).1
shrunk_perm cap None = refl
shrunk_perm ToT (Some (held.Branch bytes)) = refl
shrunk_perm ToB (Some (held.Branch bytes)) = refl
shrunk_perm ToN (Some (held.Branch bytes)) = refl
shrunk_perm ToT (Some (held.Trunk dirty bytes)) = refl
shrunk_perm ToB (Some (held.Trunk dirty bytes)) = refl
shrunk_perm ToN (Some (held.Trunk dirty bytes)) = refl

shrunk_last : (last : LineData) (cap : Cap) (copy : Option Held) → IsLast last copy → IsLast last (shrunk_at cap copy)
shrunk_last last cap None is = tt
shrunk_last last ToT (Some (held.Branch bytes)) is = is
shrunk_last last ToB (Some (held.Branch bytes)) is = is
shrunk_last last ToN (Some (held.Branch bytes)) is = tt
shrunk_last last ToT (Some (held.Trunk dirty bytes)) is = is
shrunk_last last ToB (Some (held.Trunk dirty bytes)) is = is
shrunk_last last ToN (Some (held.Trunk dirty bytes)) is = tt

owes_acked : (copy : Option Held) (cap : Cap) (change : Change) → is_dirty (shrunk_at cap copy) || carries (probe_ack_body change (dirty_of copy) ∷ []) ≡ is_dirty copy || false
owes_acked None cap change = refl
owes_acked (Some (held.Branch bytes)) ToT change = refl
owes_acked (Some (held.Branch bytes)) ToB change = refl
owes_acked (Some (held.Branch bytes)) ToN change = refl
owes_acked (Some (held.Trunk false bytes)) ToT change = refl
owes_acked (Some (held.Trunk false bytes)) ToB change = refl
owes_acked (Some (held.Trunk false bytes)) ToN change = refl
owes_acked (Some (held.Trunk true bytes)) ToT change = refl
owes_acked (Some (held.Trunk true bytes)) ToB change = refl
owes_acked (Some (held.Trunk true bytes)) ToN change = refl

reader_clean : (copy : Option Held) → IsReader copy → dirty_of copy ≡ None
reader_clean None r = refl
reader_clean (Some (held.Branch bytes)) r = refl
reader_clean (Some (held.Trunk dirty bytes)) r = cc r

-- ---- what the states say

pub noted_writer : {last : LineData} {part : Part} {x : Side} → Stands last part x → perm_of x.copy ≡ Trunk → x.noted ≡ Trunk
noted_writer (Receives g copy is reader) e = cc (reader, ap is_trunk e)
noted_writer (HoldsAnswered g from change carried copy lowers enough by same is) e = lowers.writer (sym same ∙ e)
noted_writer (AsksAnswered g from change carried copy h lowers enough by same is) e = lowers.writer (sym same ∙ e)
noted_writer Upgrades e = refl
noted_writer (Holds part copy by is) e = e
noted_writer (Asks part copy h by is reader) e = e
noted_writer (HoldsProbed g copy is) e = e
noted_writer (AsksProbed g copy h is reader) e = e
noted_writer (Waits g copy is reader) e = e
noted_writer (HoldsGranted copy is) e = e
noted_writer (AsksGranted copy h is reader) e = e
noted_writer _ e = cc e

is_granted : (g : Grow) → named_by (granted_for g) ≡ Nothing → ⊥
is_granted NtoB e = cc e
is_granted NtoT e = cc e
is_granted BtoT e = cc e

pub noted_none : {last : LineData} {part : Part} {x : Side} → Stands last part x → x.noted ≡ Nothing → perm_of x.copy ≡ Nothing
noted_none (Receives g copy is reader) e = absurd (is_granted g e)
noted_none (HoldsAnswered g from change carried copy lowers enough by same is) e = same ∙ lowers.none e
noted_none (AsksAnswered g from change carried copy h lowers enough by same is) e = same ∙ lowers.none e
noted_none Upgrades e = cc e
noted_none (Holds part copy by is) e = e
noted_none (Asks part copy h by is reader) e = e
noted_none (HoldsProbed g copy is) e = e
noted_none (AsksProbed g copy h is reader) e = e
noted_none (Waits g copy is reader) e = e
noted_none (HoldsGranted copy is) e = e
noted_none (AsksGranted copy h is reader) e = e
noted_none _ e = refl

pub newest : {last : LineData} {part : Part} {x : Side} → Stands last part x → IsLast last x.copy
newest (Holds part copy by is) = is
newest (Asks part copy h by is reader) = is
newest (HoldsProbed g copy is) = is
newest (AsksProbed g copy h is reader) = is
newest (HoldsAnswered g from change carried copy lowers enough by same is) = is
newest (AsksAnswered g from change carried copy h lowers enough by same is) = is
newest (Waits g copy is reader) = is
newest (Receives g copy is reader) = is
newest Upgrades = refl
newest (HoldsGranted copy is) = is
newest (AsksGranted copy h is reader) = is
newest _ = tt

clean : (copy : Option Held) → IsReader copy → is_dirty copy ≡ false
clean None r = refl
clean (Some (held.Branch bytes)) r = refl
clean (Some (held.Trunk dirty bytes)) r = cc r

no_data : (last : LineData) (from : Perm) (carried : Option LineData) → IsCarried last from carried → is_trunk from ≡ false → carried ≡ None
no_data last from None by e = refl
no_data last from (Some bytes) by e = cc (by.1, e)

clean_below : (g : Grow) (change : Change) (copy : Option Held) → conflicts g (left_by change) ≡ false → perm_of copy ≡ left_by change → is_dirty copy ≡ false
clean_below g change copy enough same = clean copy (rw same (not_conflicting g _ enough))

-- what isn't noted as a writer owes nothing
pub owes_nothing : {last : LineData} {part : Part} {x : Side} → Stands last part x → is_trunk x.noted ≡ false → owes x ≡ false
owes_nothing (Holds part copy by is) e = rw (clean copy e) refl
owes_nothing (Asks part copy h by is reader) e = rw (clean copy e) refl
owes_nothing (HoldsProbed g copy is) e = rw (clean copy e) refl
owes_nothing (AsksProbed g copy h is reader) e = rw (clean copy e) refl
owes_nothing (Waits g copy is reader) e = rw (clean copy e) refl
owes_nothing (Receives g copy is reader) e = rw (clean copy reader) refl
owes_nothing (HoldsGranted copy is) e = rw (clean copy e) refl
owes_nothing (AsksGranted copy h is reader) e = rw (clean copy e) refl
owes_nothing (Leaves part from change carried by is) e = rw (no_data _ from carried is e) refl
owes_nothing (LeavesProbed g from change carried is) e = rw (no_data _ from carried is e) refl
owes_nothing (LeavesGranted from change carried is) e = rw (no_data _ from carried is e) refl
owes_nothing (HoldsAnswered g from change carried copy lowers enough by same is) e = rw (no_data _ from carried by e, clean_below g change copy enough same) refl
owes_nothing (AsksAnswered g from change carried copy h lowers enough by same is) e = rw (no_data _ from carried by e, clean_below g change copy enough same) refl
owes_nothing (LeavesAnswered g from change carried other lowers enough by) e = rw (no_data _ from carried by e) refl
owes_nothing _ e = refl

-- ---- the acts of one hart

pub miss_moves : {last : LineData} {part : Part} {x : Side} (h : Grow) → Stands last part x → x.releasing ≡ false → x.acquiring ≡ false → IsReader x.copy → Moves last part x (asked x h)
miss_moves h (Holds part copy by is) e f r = record { stands = Asks part copy h by is r; noted = refl; owes = refl }
miss_moves h (HoldsProbed g copy is) e f r = record { stands = AsksProbed g copy h is r; noted = refl; owes = refl }
miss_moves h (HoldsAnswered g from change carried copy lowers enough by same is) e f r = record { stands = AsksAnswered g from change carried copy h lowers enough by same is; noted = refl; owes = refl }
miss_moves h (HoldsGranted copy is) e f r = record { stands = AsksGranted copy h is r; noted = refl; owes = refl }
miss_moves h (Asks part copy g by is reader) e f r = cc f
miss_moves h (AsksProbed k copy g is reader) e f r = cc f
miss_moves h (AsksAnswered g from change carried copy k lowers enough by same is) e f r = cc f
miss_moves h (Waits g copy is reader) e f r = cc f
miss_moves h (Receives g copy is reader) e f r = cc f
miss_moves h Upgrades e f r = cc f
miss_moves h (AsksGranted copy g is reader) e f r = cc f
miss_moves h _ e f r = cc e

evict_answered : {last : LineData} (g : Grow) (from : Perm) (change : Change) (carried : Option LineData) (copy : Option Held) → Lowers from (left_by change) → conflicts g (left_by change) ≡ false → IsCarried last from carried → dirty_of copy ≡ None → (other : Change) →
    Stands last (Probed g) (record { copy = None; acquiring = false; releasing = true; a = []; b = []; c = probe_ack_body change carried ∷ release_body other (dirty_of copy) ∷ []; d = []; e = []; noted = from; awaited = true })
evict_answered g from change carried copy lowers enough by none other = rw none (LeavesAnswered g from change carried other lowers enough by)

owes_both : (change other : Change) (carried : Option LineData) (copy : Option Held) → IsReader copy → carries (probe_ack_body change carried ∷ release_body other (dirty_of copy) ∷ []) ≡ is_dirty copy || carries (probe_ack_body change carried ∷ [])
owes_both change other None None reader = refl
owes_both change other (Some bytes) None reader = refl
owes_both change other None (Some (held.Branch v)) reader = refl
owes_both change other (Some bytes) (Some (held.Branch v)) reader = refl
owes_both change other carried (Some (held.Trunk dirty v)) reader = cc reader

pub evict_moves : {last : LineData} {part : Part} {x : Side} → Stands last part x → is_some x.copy ≡ true → x.acquiring ≡ false → Moves last part x (left x)
evict_moves {last} (Holds part copy by is) e f = record { stands = Leaves part (perm_of copy) _ (dirty_of copy) by (carried_from last copy is); noted = refl; owes = owes_released copy _ }
evict_moves {last} (HoldsProbed g copy is) e f = record { stands = LeavesProbed g (perm_of copy) _ (dirty_of copy) (carried_from last copy is); noted = refl; owes = owes_released copy _ }
evict_moves {last} (HoldsGranted copy is) e f = record { stands = LeavesGranted (perm_of copy) _ (dirty_of copy) (carried_from last copy is); noted = refl; owes = owes_released copy _ }
evict_moves (HoldsAnswered g from change carried copy lowers enough by same is) e f = record {
  stands = evict_answered g from change carried copy lowers enough by (reader_clean copy (rw same (not_conflicting g _ enough))) _;
  noted = refl;
  owes = owes_both change _ carried copy (rw same (not_conflicting g _ enough));
}
evict_moves (Asks part copy g by is reader) e f = cc f
evict_moves (AsksProbed k copy g is reader) e f = cc f
evict_moves (AsksAnswered g from change carried copy k lowers enough by same is) e f = cc f
evict_moves (Waits g copy is reader) e f = cc f
evict_moves (Receives g copy is reader) e f = cc f
evict_moves Upgrades e f = cc f
evict_moves (AsksGranted copy g is reader) e f = cc f
evict_moves _ e f = cc e

-- a Probe in front of queue B
abbrev pub ProbedAt : LineData → Part → Side → List Body → Type 0
ProbedAt last part x [] = Unit {0}
ProbedAt last part x (ProbeBlock cap ∷ rest) = x.releasing ≡ false → Moves last part x (shrunk x cap rest)
ProbedAt last part x (_ ∷ rest) = Unit {0}

pub probe_moves : {last : LineData} {part : Part} {x : Side} → Stands last part x → ProbedAt last part x x.b
probe_moves {last} (HoldsProbed g copy is) = λ e. record {
  stands = HoldsAnswered g (perm_of copy) _ (dirty_of copy) (shrunk_at (probe_cap g) copy) (shrinks (perm_of copy) (probe_cap g)) (shrunk_enough g (perm_of copy)) (carried_from last copy is) (shrunk_perm (probe_cap g) copy) (shrunk_last last (probe_cap g) copy is);
  noted = refl;
  owes = owes_acked copy (probe_cap g) _;
}
probe_moves {last} (AsksProbed g copy h is reader) = λ e. record {
  stands = AsksAnswered g (perm_of copy) _ (dirty_of copy) (shrunk_at (probe_cap g) copy) h (shrinks (perm_of copy) (probe_cap g)) (shrunk_enough g (perm_of copy)) (carried_from last copy is) (shrunk_perm (probe_cap g) copy) (shrunk_last last (probe_cap g) copy is);
  noted = refl;
  owes = owes_acked copy (probe_cap g) _;
}
probe_moves (LeavesProbed g from change carried is) = λ e. cc e
probe_moves (LeftProbed g) = λ e. cc e
probe_moves _ = tt

-- a Grant or a ReleaseAck in front of queue D
abbrev pub ReachedAt : LineData → Part → Side → List Body → Type 0
ReachedAt last part x [] = Unit {0}
ReachedAt last part x (ReleaseAck ∷ rest) = Moves last part x (rested x rest)
ReachedAt last part x (Grant cap ∷ rest) = Moves last part x (installed x cap None rest)
ReachedAt last part x (GrantData cap bytes ∷ rest) = Moves last part x (installed x cap (Some bytes) rest)
ReachedAt last part x (_ ∷ rest) = Unit {0}

pub reach_moves : {last : LineData} {part : Part} {x : Side} → Stands last part x → ReachedAt last part x x.d
reach_moves (Left part by) = record { stands = Holds part None by tt; noted = refl; owes = refl }
reach_moves (LeftProbed g) = record { stands = HoldsProbed g None tt; noted = refl; owes = refl }
reach_moves LeftGranted = record { stands = HoldsGranted None tt; noted = refl; owes = refl }
reach_moves {last} (Receives NtoB copy is reader) = record { stands = HoldsGranted (Some (held.Branch last)) refl; noted = refl; owes = rw (clean copy reader) refl }
reach_moves {last} (Receives NtoT copy is reader) = record { stands = HoldsGranted (Some (held.Trunk false last)) refl; noted = refl; owes = rw (clean copy reader) refl }
reach_moves {last} (Receives BtoT copy is reader) = record { stands = HoldsGranted (Some (held.Trunk false last)) refl; noted = refl; owes = rw (clean copy reader) refl }
reach_moves {last} Upgrades = record { stands = HoldsGranted (Some (held.Trunk false last)) refl; noted = refl; owes = refl }
reach_moves _ = tt

-- ---- the acts that the manager or every hart sees

-- a write: the writer has the only copy
pub write_stands : {last : LineData} {part : Part} {x : Side} (v : LineData) → Stands last part x → is_trunk (perm_of x.copy) ≡ true → Stands v part (wrote x v)
write_stands v (Holds part (Some (held.Trunk dirty w)) by is) e = Holds part (Some (held.Trunk true v)) by refl
write_stands v (Holds part (Some (held.Branch w)) by is) e = cc e
write_stands v (Holds part None by is) e = cc e
write_stands v (HoldsProbed g (Some (held.Trunk dirty w)) is) e = HoldsProbed g (Some (held.Trunk true v)) refl
write_stands v (HoldsProbed g (Some (held.Branch w)) is) e = cc e
write_stands v (HoldsProbed g None is) e = cc e
write_stands v (HoldsGranted (Some (held.Trunk dirty w)) is) e = HoldsGranted (Some (held.Trunk true v)) refl
write_stands v (HoldsGranted (Some (held.Branch w)) is) e = cc e
write_stands v (HoldsGranted None is) e = cc e
write_stands v (Asks part copy g by is reader) e = cc (reader, e)
write_stands v (AsksProbed k copy g is reader) e = cc (reader, e)
write_stands v (AsksAnswered g from change carried copy k lowers enough by same is) e = cc (not_conflicting g _ enough, ap is_trunk same, e)
write_stands v (HoldsAnswered g from change carried copy lowers enough by same is) e = cc (not_conflicting g _ enough, ap is_trunk same, e)
write_stands v (Waits g copy is reader) e = cc (reader, e)
write_stands v (Receives g copy is reader) e = cc (reader, e)
write_stands v (AsksGranted copy g is reader) e = cc (reader, e)
write_stands v _ e = cc e

nothing_newer : (last next : LineData) (copy : Option Held) → perm_of copy ≡ Nothing → IsLast last copy → IsLast next copy
nothing_newer last next None n is = tt
nothing_newer last next (Some (held.Branch bytes)) n is = cc n
nothing_newer last next (Some (held.Trunk dirty bytes)) n is = cc n

nothing_carried : (last next : LineData) (from : Perm) (carried : Option LineData) → from ≡ Nothing → IsCarried last from carried → IsCarried next from carried
nothing_carried last next from None n by = tt
nothing_carried last next from (Some bytes) n by = cc (by.1, n)

-- where there is no record, nothing rests on what was written last
pub elsewhere : {last : LineData} {part : Part} {x : Side} (next : LineData) → Stands last part x → x.noted ≡ Nothing → Stands next part x
elsewhere {last} next (Holds part copy by is) n = Holds part copy by (nothing_newer last next copy n is)
elsewhere {last} next (Asks part copy g by is reader) n = Asks part copy g by (nothing_newer last next copy n is) reader
elsewhere {last} next (Leaves part from change carried by is) n = Leaves part from change carried by (nothing_carried last next from carried n is)
elsewhere next (Left part by) n = Left part by
elsewhere {last} next (HoldsProbed g copy is) n = HoldsProbed g copy (nothing_newer last next copy n is)
elsewhere {last} next (AsksProbed g copy h is reader) n = AsksProbed g copy h (nothing_newer last next copy n is) reader
elsewhere {last} next (LeavesProbed g from change carried is) n = LeavesProbed g from change carried (nothing_carried last next from carried n is)
elsewhere next (LeftProbed g) n = LeftProbed g
elsewhere {last} next (HoldsAnswered g from change carried copy lowers enough by same is) n = HoldsAnswered g from change carried copy lowers enough (nothing_carried last next from carried n by) same (nothing_newer last next copy (same ∙ lowers.none n) is)
elsewhere {last} next (AsksAnswered g from change carried copy h lowers enough by same is) n = AsksAnswered g from change carried copy h lowers enough (nothing_carried last next from carried n by) same (nothing_newer last next copy (same ∙ lowers.none n) is)
elsewhere {last} next (LeavesAnswered g from change carried other lowers enough by) n = LeavesAnswered g from change carried other lowers enough (nothing_carried last next from carried n by)
elsewhere {last} next (Waits g copy is reader) n = Waits g copy (nothing_newer last next copy n is) reader
elsewhere next (Receives g copy is reader) n = absurd (is_granted g n)
elsewhere next Upgrades n = cc n
elsewhere {last} next (HoldsGranted copy is) n = HoldsGranted copy (nothing_newer last next copy n is)
elsewhere {last} next (AsksGranted copy g is reader) n = AsksGranted copy g (nothing_newer last next copy n is) reader
elsewhere {last} next (LeavesGranted from change carried is) n = LeavesGranted from change carried (nothing_carried last next from carried n is)
elsewhere next LeftGranted n = LeftGranted

-- an Acquire in front of queue A: its hart waits, and the others are probed
abbrev pub AsksAt : LineData → Part → Side → List Body → Type 0
AsksAt last part x [] = Unit {0}
AsksAt last part x (AcquireBlock g ∷ rest) = part ≡ Alone → Stands last (Asking g) (record x { a = rest })
AsksAt last part x (_ ∷ rest) = Unit {0}

pub ask_stands : {last : LineData} {part : Part} {x : Side} → Stands last part x → AsksAt last part x x.a
ask_stands (Asks part copy h by is reader) = λ e. Waits h copy is reader
ask_stands (AsksProbed g copy h is reader) = λ e. cc e
ask_stands (AsksAnswered g from change carried copy h lowers enough by same is) = λ e. cc e
ask_stands (AsksGranted copy h is reader) = λ e. cc e
ask_stands _ = tt

pub probe_stands : {last : LineData} {x : Side} (g : Grow) → Stands last Alone x → Stands last (Probed g) (probe g x)
probe_stands {last} g (Holds part copy by is) = go (conflicts g (perm_of copy)) refl
  where
    go : (t : Bool) → conflicts g (perm_of copy) ≡ t → Stands last (Probed g) (record { copy = copy; acquiring = false; releasing = false; a = []; b = if t then ProbeBlock (probe_cap g) ∷ [] else []; c = []; d = []; e = []; noted = perm_of copy; awaited = t })
    go true e = HoldsProbed g copy is
    go false e = Holds (Probed g) copy e is
probe_stands {last} g (Asks part copy h by is reader) = go (conflicts g (perm_of copy)) refl
  where
    go : (t : Bool) → conflicts g (perm_of copy) ≡ t → Stands last (Probed g) (record { copy = copy; acquiring = true; releasing = false; a = AcquireBlock h ∷ []; b = if t then ProbeBlock (probe_cap g) ∷ [] else []; c = []; d = []; e = []; noted = perm_of copy; awaited = t })
    go true e = AsksProbed g copy h is reader
    go false e = Asks (Probed g) copy h e is reader
probe_stands {last} g (Leaves part from change carried by is) = go (conflicts g from) refl
  where
    go : (t : Bool) → conflicts g from ≡ t → Stands last (Probed g) (record { copy = None; acquiring = false; releasing = true; a = []; b = if t then ProbeBlock (probe_cap g) ∷ [] else []; c = release_body change carried ∷ []; d = []; e = []; noted = from; awaited = t })
    go true e = LeavesProbed g from change carried is
    go false e = Leaves (Probed g) from change carried e is
probe_stands {last} NtoB (Left part by) = Left (Probed NtoB) refl
probe_stands {last} NtoT (Left part by) = Left (Probed NtoT) refl
probe_stands {last} BtoT (Left part by) = Left (Probed BtoT) refl

-- the Grant is sent
pub give_stands : {last : LineData} {x : Side} (g : Grow) (memory : LineData) → Stands last (Asking g) x → memory ≡ last → Stands last Taking (given x g memory)
give_stands NtoB m (Waits h copy is reader) e = rw e (Receives NtoB copy is reader)
give_stands NtoT m (Waits h copy is reader) e = rw e (Receives NtoT copy is reader)
give_stands BtoT m (Waits h None is reader) e = rw e (Receives BtoT None is reader)
give_stands {last} BtoT m (Waits h (Some (held.Branch bytes)) is reader) e = rw is Upgrades
give_stands BtoT m (Waits h (Some (held.Trunk dirty bytes)) is reader) e = cc reader
give_stands g m (Holds _ copy by is) e = elim by [ ]
give_stands g m (Asks _ copy h by is reader) e = elim by [ ]
give_stands g m (Leaves _ from change carried by is) e = elim by [ ]
give_stands g m (Left _ by) e = elim by [ ]

pub rest_stands : {last : LineData} {x : Side} (g : Grow) → Stands last (Probed g) x → x.awaited ≡ false → Stands last Alone x
rest_stands g (Holds part copy by is) e = Holds Alone copy tt is
rest_stands g (Asks part copy h by is reader) e = Asks Alone copy h tt is reader
rest_stands g (Leaves part from change carried by is) e = Leaves Alone from change carried tt is
rest_stands g (Left part by) e = Left Alone tt
rest_stands g _ e = cc e

-- a GrantAck in front of queue E ends the transaction
abbrev pub EndsAt : LineData → Part → Side → List Body → Type 0
EndsAt last part x [] = Unit {0}
EndsAt last part x (GrantAck ∷ rest) = (part ≡ Taking) × Stands last Alone (record x { e = rest })
EndsAt last part x (_ ∷ rest) = Unit {0}

pub end_stands : {last : LineData} {part : Part} {x : Side} → Stands last part x → EndsAt last part x x.e
end_stands (HoldsGranted copy is) = (refl, Holds Alone copy tt is)
end_stands (AsksGranted copy h is reader) = (refl, Asks Alone copy h tt is reader)
end_stands (LeavesGranted from change carried is) = (refl, Leaves Alone from change carried tt is)
end_stands LeftGranted = (refl, Left Alone tt)
end_stands _ = tt

-- a message in front of queue C: `carried` goes to memory
pub record Takes (last : LineData) (part : Part) (x y : Side) (carried : Option LineData) : Type 0 where
  pub stands : Stands last part y
  pub lowers : Lowers x.noted y.noted
  pub stored : (bytes : LineData) → carried ≡ Some bytes → bytes ≡ last
  pub nothing : carried ≡ None → owes y ≡ owes x

abbrev pub TakesAt : LineData → Part → Side → List Body → Type 0
TakesAt last part x [] = Unit {0}
TakesAt last part x (ProbeAck change ∷ rest) = Takes last part x (acknowledged x change rest) None
TakesAt last part x (ProbeAckData change bytes ∷ rest) = Takes last part x (acknowledged x change rest) (Some bytes)
TakesAt last part x (Release change ∷ rest) = Takes last part x (released x rest) None
TakesAt last part x (ReleaseData change bytes ∷ rest) = Takes last part x (released x rest) (Some bytes)
TakesAt last part x (_ ∷ rest) = Unit {0}

to_nothing : {p : Perm} → Lowers p Nothing
to_nothing = record { writer = λ e. cc e; none = λ e. refl }

bystander_nothing : (part : Part) (p : Perm) → IsBystander part p → IsBystander part Nothing
bystander_nothing Alone p by = tt
bystander_nothing (Probed NtoB) p by = refl
bystander_nothing (Probed NtoT) p by = refl
bystander_nothing (Probed BtoT) p by = refl
bystander_nothing (Asking g) p by = by
bystander_nothing Taking p by = by

module _ (last : LineData) (part : Part) (x y : Side) where
  -- without data, what is owed stays
  takes_none : Stands last part y → Lowers x.noted y.noted → owes y ≡ owes x → Takes last part x y None
  takes_none stands lowers same = record { stands = stands; lowers = lowers; stored = λ bytes e. cc e; nothing = λ e. same }

  takes_some : (bytes : LineData) → Stands last part y → Lowers x.noted y.noted → bytes ≡ last → Takes last part x y (Some bytes)
  takes_some bytes stands lowers is = record { stands = stands; lowers = lowers; stored = λ w e. cc (is, e); nothing = λ e. cc e }

holds_after : {last : LineData} (g : Grow) (change : Change) (copy : Option Held) → conflicts g (left_by change) ≡ false → perm_of copy ≡ left_by change → IsLast last copy →
    Stands last (Probed g) (record { copy = copy; acquiring = false; releasing = false; a = []; b = []; c = []; d = []; e = []; noted = left_by change; awaited = false })
holds_after g change copy enough same is = rw (← same) (Holds (Probed g) copy (rw same enough) is)

asks_after : {last : LineData} (g : Grow) (change : Change) (copy : Option Held) (h : Grow) → conflicts g (left_by change) ≡ false → perm_of copy ≡ left_by change → IsLast last copy →
    Stands last (Probed g) (record { copy = copy; acquiring = true; releasing = false; a = AcquireBlock h ∷ []; b = []; c = []; d = []; e = []; noted = left_by change; awaited = false })
asks_after g change copy h enough same is = rw (← same) (Asks (Probed g) copy h (rw same enough) is (rw same (not_conflicting g _ enough)))

pub take_stands : {last : LineData} {part : Part} {x : Side} → Stands last part x → TakesAt last part x x.c
take_stands (Leaves part from change None by is) = takes_none _ _ _ _ (Left part (bystander_nothing part from by)) to_nothing refl
take_stands (Leaves part from change (Some bytes) by is) = takes_some _ _ _ _ bytes (Left part (bystander_nothing part from by)) to_nothing is.0
take_stands (LeavesProbed g from change None is) = takes_none _ _ _ _ (LeftProbed g) to_nothing refl
take_stands (LeavesProbed g from change (Some bytes) is) = takes_some _ _ _ _ bytes (LeftProbed g) to_nothing is.0
take_stands (LeavesGranted from change None is) = takes_none _ _ _ _ LeftGranted to_nothing refl
take_stands (LeavesGranted from change (Some bytes) is) = takes_some _ _ _ _ bytes LeftGranted to_nothing is.0
take_stands (HoldsAnswered g from change None copy lowers enough by same is) = takes_none _ _ _ _ (holds_after g change copy enough same is) lowers refl
take_stands (HoldsAnswered g from change (Some bytes) copy lowers enough by same is) = takes_some _ _ _ _ bytes (holds_after g change copy enough same is) lowers by.0
take_stands (AsksAnswered g from change None copy h lowers enough by same is) = takes_none _ _ _ _ (asks_after g change copy h enough same is) lowers refl
take_stands (AsksAnswered g from change (Some bytes) copy h lowers enough by same is) = takes_some _ _ _ _ bytes (asks_after g change copy h enough same is) lowers by.0
take_stands (LeavesAnswered g from change None other lowers enough by) = takes_none _ _ _ _ (Leaves (Probed g) (left_by change) other None enough tt) lowers refl
take_stands (LeavesAnswered g from change (Some bytes) other lowers enough by) = takes_some _ _ _ _ bytes (Leaves (Probed g) (left_by change) other None enough tt) lowers by.0
take_stands _ = tt
