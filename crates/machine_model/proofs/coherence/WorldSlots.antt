-- A Grant on its way finds its cache waiting for it, and a reserved word's line may be written.
use Rattle.std.proofs.Common.{ℕ, zero, suc, ◌<◌, length, Bool, true, false, List, [], ◌∷◌, ◌≡◌, refl, ap, subst}
use Rattle.std.specs.Prelude.{◌==◌, if◌then◌else◌, slice_index_or, IsTrue}
use native.Mathlib.Omega.{arith}
use Rattle.std.proofs.lemmas.Bool.{eq-eqb}
use mathlib.Core.Logic.{◌⊎◌, inl, inr}
use Rattle.client_cache.specs.Held.{perm_of}
use Rattle.directory.specs.Lines.{known_at}
use Rattle.directory.specs.Directory.{line_at}
use Rattle.machine_model.specs.Events.{after_events}
use Rattle.machine_model.specs.LawfulLog.{is_grant}
use Rattle.machine_model.specs.Laws.{Always, GrantsHaveSlots, HasSlot, ReservedIsTrunk}
use Rattle.machine_model.specs.Views.{State, line_size, node_at, opening, place_of}
use Rattle.machine_model.proofs.coherence.LineStands.{Side, Part, Stands, is_writer, Left, LeftProbed, Receives, Upgrades, LeftGranted}
use Rattle.machine_model.proofs.coherence.LineViews.{of_line}
use Rattle.machine_model.proofs.coherence.WorldEvents.{after_events_fit}
use Rattle.machine_model.proofs.coherence.WorldFits.{kit_at}
use Rattle.machine_model.proofs.coherence.WorldKept.{is_line, side}
use Rattle.machine_model.proofs.coherence.WorldOpening.{opening_fits}
use Rattle.machine_model.proofs.coherence.WorldSteps.{Fits}
use Rattle.tl_types.specs.declared.line.LineData.{LineData}
use Rattle.tl_types.specs.declared.message.Body.{Body}
use Rattle.tl_types.specs.declared.message.Body.TheVariants.{Grant, GrantData}
use Rattle.tl_types.specs.declared.message.Msg.{Msg}
use Rattle.tl_types.specs.declared.permission.Perm.TheVariants.{Branch}

-- a body among those of a queue
abbrev Member : List Body → Body → Type 0
Member [] b = ⊥
Member (x ∷ xs) b = (x ≡ b) ⊎ Member xs b

of_its_line : (q : List Msg) (m : Msg) (k : ℕ) → k < length q → slice_index_or q k m ≡ m → Member (of_line m.line q) m.body
of_its_line [] m k lt e = absurd (omega arith)
of_its_line (x ∷ q) m zero lt e = rw (eq-eqb x.line m.line (ap (λ (y : Msg). y.line) e)) (inl (ap (λ (y : Msg). y.body) e))
of_its_line (x ∷ q) m (suc k) lt e = go (x.line == m.line) (of_its_line q m k (omega arith) e)
  where
    go : (t : Bool) → Member (of_line m.line q) m.body → Member (if t then x.body ∷ of_line m.line q else of_line m.line q) m.body
    go true is = inr is
    go false is = is

-- what a message on queue D finds
abbrev Finds : Side → Body → Type 0
Finds x (Grant cap) = (x.acquiring ≡ true) × (perm_of x.copy ≡ Branch)
Finds x (GrantData cap bytes) = x.acquiring ≡ true
Finds x _ = Unit {0}

abbrev AllFind : Side → List Body → Type 0
AllFind x [] = Unit {0}
AllFind x (b ∷ bs) = Finds x b × AllFind x bs

all_find : {last : LineData} {part : Part} {x : Side} → Stands last part x → AllFind x x.d
all_find (Left _ by) = (tt, tt)
all_find (LeftProbed g) = (tt, tt)
all_find LeftGranted = (tt, tt)
all_find (Receives g copy is reader) = (refl, tt)
all_find Upgrades = ((refl, refl), tt)
all_find _ = tt

finds : (x : Side) (bs : List Body) (b : Body) → AllFind x bs → Member bs b → Finds x b
finds x [] b all is = absurd is
finds x (c ∷ bs) b all (inl e) = subst (Finds x) e all.0
finds x (c ∷ bs) b all (inr is) = finds x bs b all.1 is

grants_have_slots : (s : State) → Fits s → GrantsHaveSlots s
grants_have_slots s fit h m among grants = go (is_line s.trace.image (line_size s) (length s.views.nodes) m.line) refl
  where
    member : Member (of_line m.line (node_at s h).queues.d) m.body
    member = of_its_line (node_at s h).queues.d m among.0 among.1 among.2

    slot : (b : Body) → m.body ≡ b → Finds (side (kit_at s h) (known_at (line_at s.views.notes (place_of (line_size s) m.line)) h) m.line) b → IsTrue (is_grant b) → HasSlot (node_at s h).cache m
    slot (Grant cap) e found is = record { tracked = found.0; copied = λ other f. found.1 }
    slot (GrantData cap bytes) e found is = record { tracked = found; copied = λ other f. cc (e, f) }
    slot _ e found is = cc is

    go : (t : Bool) → is_line s.trace.image (line_size s) (length s.views.nodes) m.line ≡ t → HasSlot (node_at s h).cache m
    go true on = slot m.body refl (finds (side (kit_at s h) (known_at (line_at s.views.notes (place_of (line_size s) m.line)) h) m.line) (of_line m.line (node_at s h).queues.d) m.body (all_find ((fit.1.well.kept m.line on).stands h)) member) grants
    go false off = absurd (subst (λ bs. Member bs m.body) (ap (λ (x : Side). x.d) (fit.1.well.outside m.line off h)) member)

pub grants_have_slots_always : Always (λ image config s. GrantsHaveSlots s)
grants_have_slots_always image config events is = grants_have_slots (after_events (opening image config) events) (after_events_fit events (opening image config) (opening_fits image config is.legal_size.whole_pages))

pub reserved_is_trunk_always : Always (λ image config s. ReservedIsTrunk s)
reserved_is_trunk_always image config events is h word e = let fit : Fits (after_events (opening image config) events) = after_events_fit events (opening image config) (opening_fits image config is.legal_size.whole_pages) in is_writer _ (fit.1.reserved h word e)
