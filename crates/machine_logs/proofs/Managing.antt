-- What the manager sends and takes, the log tells.
use Rattle.std.proofs.Common.{ℕ, ◌<◌, Bool, true, false, List, [], ◌∷◌, ◌≡◌, Option, Some, None, refl, ap, sym, ◌∙◌, length}
use Rattle.std.specs.Prelude.{◌≢◌, ◌==◌, ◌&&◌, if◌then◌else◌}
use Rattle.std.proofs.lemmas.Bool.{eq-eqb}
use Rattle.std.proofs.lemmas.Bool.Decides.{eqb_tells}
use Rattle.std.proofs.lemmas.List.{length-set}
use mathlib.Core.Logic.{◌⊎◌, inl, inr}
use Rattle.backing_memory.specs.Memory as memory
use Rattle.coherent_log.specs.Rules.{MayBeGrantedBeside}
use Rattle.coherent_log.specs.Told.{at_client, at_manager, brought}
use Rattle.directory.specs.Directory.{Notes, line_at, with_line}
use Rattle.directory.specs.Lines.{Line, acknowledged, acquired_by, acquired_in, answered_in, grant_acked, grant_for, granting, is_any_awaited, known_at, needs_data, probe_cap, probed, probing, released}
use Rattle.directory.specs.declared.answer.Grant.{Grant as Granting}
use Rattle.directory.specs.declared.answer.Known.{Known}
use Rattle.directory.specs.declared.answer.Transaction.{Transaction}
use Rattle.directory.specs.declared.answer.Transaction.TheVariants.{Idle, Probing, Granted}
use Rattle.machine_logs.proofs.Copies.{sent_perm, taken_perm}
use Rattle.machine_logs.proofs.May.{may_grant}
use Rattle.machine_logs.proofs.Notes.{Told, entry_here, entry_there, known_set, note_turned, noted_same, noted_turned, on_at, perm_in_line, probing_perm}
use Rattle.machine_logs.proofs.Sides.{plain_sent, plain_taken}
use Rattle.machine_logs.proofs.Told.{after, told_as, told_sent, told_taken}
use Rattle.machine_logs.specs.Laws.{noted_at}
use Rattle.machine_model.proofs.coherence.LineKept.{not_eq}
use Rattle.machine_model.proofs.coherence.WorldFits.{IsFit}
use Rattle.machine_model.specs.Deliveries.{grant_body, line_in_memory, on_acquire, on_grant_ack, sent_grant, sent_if_granted, sent_if_handled, sent_probes, taken, with_notes}
use Rattle.machine_model.specs.Views.{State, line_size, place_of, sent}
use Rattle.tl_types.specs.Permission.{granted_for, left_by, named_by}
use Rattle.tl_types.specs.declared.line.LineData.{LineData}
use Rattle.tl_types.specs.declared.message.Body.{Body}
use Rattle.tl_types.specs.declared.message.Body.TheVariants.{AcquireBlock, ProbeBlock, Grant, GrantData, ReleaseAck, GrantAck}
use Rattle.tl_types.specs.declared.message.Msg.{Msg}
use Rattle.tl_types.specs.declared.permission.Cap.{Cap}
use Rattle.tl_types.specs.declared.permission.Change.{Change}
use Rattle.tl_types.specs.declared.permission.Grow.{Grow}
use Rattle.tl_types.specs.declared.permission.Grow.TheVariants.{NtoB, NtoT, BtoT}
use Rattle.tl_types.specs.declared.permission.Perm.{Perm}
use Rattle.tl_types.specs.declared.permission.Perm.TheVariants.{Nothing, Branch, Trunk}
use Rattle.trace_recorder.specs.declared.logged.Direction.TheVariants.{Sent, Taken}

-- ---- notes alone

pub notes_told : (u : State) (ns : Notes) → ((k l : ℕ) → on_at u l ≡ true → perm_in_line (line_at ns (place_of (line_size u) l)) k ≡ noted_at u k l) → Told u → Told (with_notes ns u)
notes_told u ns same i = told_as _ _ _ i (λ k l. refl) same (λ l on. refl)

-- ---- Probes

probes_told : (hs : List ℕ) (line : ℕ) (cap : Cap) (u : State) → Told u → Told (sent_probes hs line cap u)
probes_told [] line cap u i = i
probes_told (h ∷ hs) line cap u i = probes_told hs line cap (sent h (record { line = line; body = ProbeBlock cap }) u) (plain_sent h line (ProbeBlock cap) u tt i)

-- ---- the Grant

-- where one is Trunk the other is Nothing, so a Grant may go beside another's permission
beside : (g : Grow) (own other : Perm) → own ≡ named_by (granted_for g) → (own ≡ Trunk → other ≡ Nothing) → (other ≡ Trunk → own ≡ Nothing) → MayBeGrantedBeside (granted_for g) other
beside NtoB own other is writer apart = λ e. let branch : own ≡ Branch = is in let none : own ≡ Nothing = apart e in cc (branch, none)
beside NtoT own other is writer apart = writer is
beside BtoT own other is writer apart = writer is

grant_client : (t : Bool) (cap : Cap) (bytes : LineData) → at_client Sent (if t then GrantData cap bytes else Grant cap) ≡ None
grant_client true cap bytes = refl
grant_client false cap bytes = refl

grant_manager : (t : Bool) (cap : Cap) (bytes : LineData) → at_manager Sent (if t then GrantData cap bytes else Grant cap) ≡ Some (named_by cap)
grant_manager true cap bytes = refl
grant_manager false cap bytes = refl

grant_brought : (t : Bool) (cap : Cap) (bytes : LineData) → brought Sent (if t then GrantData cap bytes else Grant cap) ≡ (if t then Some bytes else None)
grant_brought true cap bytes = refl
grant_brought false cap bytes = refl

-- a Grant carries what memory has
home_same : (t : Bool) (line l : ℕ) (home : ℕ → LineData) → home l ≡ after (if t then Some (home line) else None) (line == l) (home l)
home_same false line l home = refl
home_same true line l home = go (eqb_tells line l)
  where
    go : (((line == l) ≡ true) × (line ≡ l)) ⊎ (((line == l) ≡ false) × (line ≡ l → ⊥)) → home l ≡ (if line == l then home line else home l)
    go (inl e) = rw e.0 (ap home (sym e.1))
    go (inr e) = rw e.0 refl

module _ (u : State) (ns : Notes) (line r : ℕ) (g : Grow) (y : Line) (last : ℕ → LineData) (on : on_at u line ≡ true) (here : line_at ns (place_of (line_size u) line) ≡ granting y r g)
    (there : (l : ℕ) → l ≢ line → on_at u l ≡ true → line_at ns (place_of (line_size u) l) ≡ line_at u.views.notes (place_of (line_size u) l)) (old : line_at u.views.notes (place_of (line_size u) line) ≡ y) (within : r < length y.known) where
  abbrev t : State
  t = sent_grant line (grant_for y r g) (with_notes ns u)

  abbrev with_data : Bool
  with_data = needs_data g (known_at y r).perm

  abbrev bytes : LineData
  bytes = line_in_memory u line

  abbrev gives : Perm
  gives = named_by (granted_for g)

  noted_then : (k l : ℕ) → on_at u l ≡ true → noted_at t k l ≡ (if r == k && line == l then gives else noted_at u k l)
  noted_then =
      let set = known_set (granting y r g) r (record (known_at y r) { perm = gives }) y.known refl within in
      noted_turned (line_size u) (on_at u) u.views.notes ns line r gives (granting y r g) here there
      (note_turned (line_at u.views.notes (place_of (line_size u) line)) (granting y r g) r gives (ap (λ (z : Known). z.perm) set.0) (λ k ne. ap (λ (z : Known). z.perm) (set.1 k ne) ∙ ap (λ z. perm_in_line z k) (sym old)))

  own_then : noted_at t r line ≡ gives
  own_then = noted_then r line on ∙ rw (eq-eqb r r refl, eq-eqb line line refl) refl

  other_then : (k : ℕ) → k ≢ r → noted_at t k line ≡ noted_at u k line
  other_then k ne = noted_then k line on ∙ rw (not_eq r k (λ e. ne (sym e))) refl

  pub grant_told : IsFit t last → Told u → Told t
  grant_told fit i =
      told_as _ _ _
      (told_sent i r (record { line = line; body = grant_body (grant_for y r g) bytes }) None (Some gives) (if with_data then Some bytes else None) (grant_client with_data (granted_for g) bytes) (grant_manager with_data (granted_for g) bytes) (grant_brought with_data (granted_for g) bytes)
      (may_grant _ r line u.trace.log i with_data (granted_for g) on may_beside))
      (λ k l. sent_perm r (record { line = line; body = grant_body (grant_for y r g) bytes }) (with_notes ns u) k l)
      noted_then
      (λ l there. home_same with_data line l (line_in_memory u))
    where
      may_beside : (k : ℕ) → k ≢ r → MayBeGrantedBeside (granted_for g) (noted_at u k line)
      may_beside k ne =
          let kept = fit.well.kept line on in
          beside g (noted_at t r line) (noted_at u k line) own_then
          (λ e. sym (other_then k ne) ∙ kept.apart r k (λ q. ne (sym q)) e)
          (λ e. kept.apart k r ne (other_then k ne ∙ e))

-- ---- what the manager takes

module _ (s : State) (last : ℕ → LineData) (i : IsFit s last) (h : ℕ) (in_h : h < length s.views.nodes) (told : Told s) (line : ℕ) (on : on_at s line ≡ true) where
  abbrev place : ℕ
  place = place_of (line_size s) line

  abbrev own : Line
  own = line_at s.views.notes place

  abbrev with_entry : Line → Notes
  with_entry y = with_line s.views.notes place y

  here : (y : Line) → line_at (with_entry y) place ≡ y
  here = entry_here s last i line on

  there : (y : Line) (l : ℕ) → l ≢ line → on_at s l ≡ true → line_at (with_entry y) (place_of (line_size s) l) ≡ line_at s.views.notes (place_of (line_size s) l)
  there = entry_there s last i line on

  in_known : h < length own.known
  in_known = rw (i.well.known line on) in_h

  -- the entry becomes one with the same permissions
  alike : (u : State) (y : Line) → ((k : ℕ) → perm_in_line y k ≡ perm_in_line own k) → (k l : ℕ) → on_at s l ≡ true → perm_in_line (line_at (with_entry y) (place_of (line_size s) l)) k ≡ noted_at s k l
  alike u y same = noted_same (line_size s) (on_at s) s.views.notes (with_entry y) line y (here y) (there y) same

  -- an Acquire: the Probes, or the Grant at once
  module _ (g : Grow) where
    abbrev s1 : State
    s1 = taken h (record { line = line; body = AcquireBlock g }) s

    told1 : Told s1
    told1 = plain_taken h (record { line = line; body = AcquireBlock g }) s refl refl refl told

    pub acquired_told : (later : ℕ → LineData) → IsFit (on_acquire h line g s1) later → Told (on_acquire h line g s1)
    acquired_told later = by_state own.transaction
      where
        by_list : (hs : List ℕ) → IsFit (sent_if_handled line (acquired_by own h g hs).0 (with_notes (with_entry (acquired_by own h g hs).1) s1)) later → Told (sent_if_handled line (acquired_by own h g hs).0 (with_notes (with_entry (acquired_by own h g hs).1) s1))
        by_list [] fit = grant_told s1 (with_entry (granting own h g)) line h g own later on (here (granting own h g)) (there (granting own h g)) refl in_known fit told1
        by_list (a ∷ hs) fit = probes_told (a ∷ hs) line (probe_cap g) (with_notes (with_entry (probing own h g)) s1) (notes_told s1 (with_entry (probing own h g)) (alike s1 (probing own h g) (probing_perm own h g)) told1)

        by_state : (t : Transaction) → IsFit (sent_if_handled line (acquired_in t own h g).0 (with_notes (with_entry (acquired_in t own h g).1) s1)) later → Told (sent_if_handled line (acquired_in t own h g).0 (with_notes (with_entry (acquired_in t own h g).1) s1))
        by_state Idle fit = by_list (probed own h g) fit
        by_state (Probing r q) fit = notes_told s1 (with_entry own) (alike s1 own (λ k. refl)) told1
        by_state (Granted r) fit = notes_told s1 (with_entry own) (alike s1 own (λ k. refl)) told1

  -- a GrantAck
  pub ended_told : Told (on_grant_ack line (taken h (record { line = line; body = GrantAck }) s))
  ended_told =
      let s1 = taken h (record { line = line; body = GrantAck }) s in
      notes_told s1 (with_entry (grant_acked own)) (alike s1 (grant_acked own) (λ k. refl)) (plain_taken h (record { line = line; body = GrantAck }) s refl refl refl told)

  -- ---- a message of channel C: it leaves the hart a permission, and may bring bytes

  module _ (body : Body) (leaves : Perm) (carried : Option LineData) (tells : at_client Taken body ≡ None) (tells_manager : at_manager Taken body ≡ Some leaves) (tells_bytes : brought Taken body ≡ carried) (cells : List LineData)
      (home : (l : ℕ) → on_at s l ≡ true → memory.line_data cells (place_of (line_size s) l) ≡ after carried (line == l) (line_in_memory s l)) where
    abbrev msg : Msg
    msg = record { line = line; body = body }

    -- with memory as it is then
    abbrev stored : State
    stored = record (taken h msg s) { views = record (taken h msg s).views { memory = cells } }

    -- the entry says so
    left_told : (y : Line) → perm_in_line y h ≡ leaves → ((k : ℕ) → k ≢ h → perm_in_line y k ≡ perm_in_line own k) → Told (with_notes (with_entry y) stored)
    left_told y is others =
        told_as _ _ _
        (told_taken told h msg None (Some leaves) carried tells tells_manager tells_bytes)
        (taken_perm h msg s)
        (noted_turned (line_size s) (on_at s) s.views.notes (with_entry y) line h leaves y (here y) (there y) (note_turned own y h leaves is others))
        home

    -- a Release
    pub released_told : leaves ≡ Nothing → Told (sent h (record { line = line; body = ReleaseAck }) (with_notes (with_entry (released own h)) stored))
    released_told gone =
        let set = known_set (released own h) h (record (known_at own h) { perm = Nothing }) own.known refl in_known in
        plain_sent h line ReleaseAck (with_notes (with_entry (released own h)) stored) tt (left_told (released own h) (ap (λ (z : Known). z.perm) set.0 ∙ sym gone) (λ k ne. ap (λ (z : Known). z.perm) (set.1 k ne)))

    -- a ProbeAck, and the Grant if it was the last that was awaited
    module _ (change : Change) (is : leaves ≡ left_by change) where
      abbrev y : Line
      y = acknowledged own h change

      acked : Told (with_notes (with_entry y) stored)
      acked =
          let set = known_set y h (record { perm = left_by change; awaited = false }) own.known refl in_known in
          left_told y (ap (λ (z : Known). z.perm) set.0 ∙ sym is) (λ k ne. ap (λ (z : Known). z.perm) (set.1 k ne))

      pub acked_told : (later : ℕ → LineData) → IsFit (sent_if_granted line (answered_in own.transaction y).0 (with_notes (with_entry (answered_in own.transaction y).1) stored)) later → Told (sent_if_granted line (answered_in own.transaction y).0 (with_notes (with_entry (answered_in own.transaction y).1) stored))
      acked_told later = by_state own.transaction refl
        where
          known_still : length y.known ≡ length own.known
          known_still = length-set own.known h _

          choice : Bool → ℕ → Grow → Option Granting × Line
          choice t r g = if t then (None, y) else (Some (grant_for y r g), granting y r g)

          by_awaited : (r : ℕ) (g : Grow) → own.transaction ≡ Probing r g → (t : Bool) → IsFit (sent_if_granted line (choice t r g).0 (with_notes (with_entry (choice t r g).1) stored)) later → Told (sent_if_granted line (choice t r g).0 (with_notes (with_entry (choice t r g).1) stored))
          by_awaited r g e true fit = acked
          by_awaited r g e false fit =
              grant_told (with_notes (with_entry y) stored) (with_entry (granting y r g)) line r g y later on (here (granting y r g)) (λ l ne o. there (granting y r g) l ne o ∙ sym (there y l ne o)) (here y)
              (rw (known_still, i.well.known line on) (i.well.requester line r g on e)) fit acked

          by_state : (t : Transaction) → own.transaction ≡ t → IsFit (sent_if_granted line (answered_in t y).0 (with_notes (with_entry (answered_in t y).1) stored)) later → Told (sent_if_granted line (answered_in t y).0 (with_notes (with_entry (answered_in t y).1) stored))
          by_state Idle e fit = acked
          by_state (Granted r) e fit = acked
          by_state (Probing r g) e fit = by_awaited r g e (is_any_awaited y) fit
