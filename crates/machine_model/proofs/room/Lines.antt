-- How many messages of one line a hart's queues can hold: each belongs to an Acquire or a Release of the hart, or to a Probe for another hart's Acquire.
use Rattle.std.proofs.Common.{ℕ, zero, suc, ◌+◌, ◌*◌, Bool, true, false, List, [], ◌∷◌, ◌≡◌, ◌<◌, ◌≤◌, refl, ap, sym, ◌∙◌, subst, length}
use Rattle.std.specs.Prelude.{◌==◌, if◌then◌else◌, slice_index_or}
use Rattle.std.specs.Ordering.{nat_cmp}
use Rattle.std.specs.FinSet as set
use Rattle.std.specs.FinSet.{FinSet}
use Rattle.std.proofs.lemmas.Bool.{eq-eqb}
use Rattle.std.proofs.lemmas.Bool.Decides.{eqb_tells}
use Rattle.machine_types.specs.declared.limits.TheConstants.{TRACKERS}
use mathlib.Core.Logic.{◌⊎◌, inl, inr}
use native.Mathlib.Omega.{arith}
use Rattle.directory.specs.Directory.{line_at}
use Rattle.directory.specs.Lines.{Line, known_at, unknown}
use Rattle.directory.specs.declared.answer.Known.{Known}
use Rattle.directory.specs.declared.answer.Transaction.{Transaction}
use Rattle.directory.specs.declared.answer.Transaction.TheVariants.{Idle, Probing, Granted}
use Rattle.machine_model.specs.Views.{Node, State, line_size, node_at, no_node, place_of}
use Rattle.machine_model.proofs.coherence.LineKept.{part_of}
use Rattle.machine_model.proofs.coherence.LineStands.{Side, quiet_side, Part, Alone, Probed, Asking, Taking, Stands, Holds, Asks, Leaves, Left, HoldsProbed, AsksProbed, LeavesProbed, LeftProbed, HoldsAnswered, AsksAnswered, LeavesAnswered, Waits, Receives, Upgrades, HoldsGranted, AsksGranted, LeavesGranted, LeftGranted}
use Rattle.machine_model.proofs.coherence.LineViews.{of_line}
use Rattle.machine_model.proofs.room.Pigeons.{one, times, sizes}
use Rattle.machine_model.proofs.room.Sizes.{AllSmall}
use Rattle.machine_model.proofs.coherence.WorldFits.{IsFit, kit_at}
use Rattle.machine_model.proofs.coherence.WorldKept.{is_line, side}
use Rattle.tl_types.specs.declared.line.LineData.{LineData}
use Rattle.tl_types.specs.declared.permission.Grow.{Grow}

-- ---- one side

abbrev pub probes : Part → ℕ
probes Alone = 0
probes (Probed g) = 1
probes (Asking g) = 0
probes Taking = 0

-- the line's messages, where the hart is probed for so many Acquires of others
pub record HasFew (probed : ℕ) (x : Side) : Type 0 where
  pub few_a : length x.a ≤ one x.acquiring
  pub few_b : length x.b ≤ probed
  pub few_c : length x.c ≤ one x.releasing + probed
  pub few_d : length x.d ≤ one x.acquiring + one x.releasing

few : {last : LineData} {part : Part} {x : Side} → Stands last part x → HasFew (probes part) x
few (Holds _ copy by is) = record { few_a = omega arith; few_b = omega arith; few_c = omega arith; few_d = omega arith }
few (Asks _ copy h by is reader) = record { few_a = omega arith; few_b = omega arith; few_c = omega arith; few_d = omega arith }
few (Leaves _ from change carried by is) = record { few_a = omega arith; few_b = omega arith; few_c = omega arith; few_d = omega arith }
few (Left _ by) = record { few_a = omega arith; few_b = omega arith; few_c = omega arith; few_d = omega arith }
few (HoldsProbed g copy is) = record { few_a = omega arith; few_b = omega arith; few_c = omega arith; few_d = omega arith }
few (AsksProbed g copy h is reader) = record { few_a = omega arith; few_b = omega arith; few_c = omega arith; few_d = omega arith }
few (LeavesProbed g from change carried is) = record { few_a = omega arith; few_b = omega arith; few_c = omega arith; few_d = omega arith }
few (LeftProbed g) = record { few_a = omega arith; few_b = omega arith; few_c = omega arith; few_d = omega arith }
few (HoldsAnswered g from change carried copy lowers enough by same is) = record { few_a = omega arith; few_b = omega arith; few_c = omega arith; few_d = omega arith }
few (AsksAnswered g from change carried copy h lowers enough by same is) = record { few_a = omega arith; few_b = omega arith; few_c = omega arith; few_d = omega arith }
few (LeavesAnswered g from change carried other lowers enough by) = record { few_a = omega arith; few_b = omega arith; few_c = omega arith; few_d = omega arith }
few (Waits g copy is reader) = record { few_a = omega arith; few_b = omega arith; few_c = omega arith; few_d = omega arith }
few (Receives g copy is reader) = record { few_a = omega arith; few_b = omega arith; few_c = omega arith; few_d = omega arith }
few Upgrades = record { few_a = omega arith; few_b = omega arith; few_c = omega arith; few_d = omega arith }
few (HoldsGranted copy is) = record { few_a = omega arith; few_b = omega arith; few_c = omega arith; few_d = omega arith }
few (AsksGranted copy h is reader) = record { few_a = omega arith; few_b = omega arith; few_c = omega arith; few_d = omega arith }
few (LeavesGranted from change carried is) = record { few_a = omega arith; few_b = omega arith; few_c = omega arith; few_d = omega arith }
few LeftGranted = record { few_a = omega arith; few_b = omega arith; few_c = omega arith; few_d = omega arith }

few_quiet : (probed : ℕ) → HasFew probed quiet_side
few_quiet probed = record { few_a = omega arith; few_b = omega arith; few_c = omega arith; few_d = omega arith }

-- the requester of probes waits for its Grant
asks : {last : LineData} {x : Side} {g : Grow} → Stands last (Asking g) x → x.acquiring ≡ true
asks (Waits g copy is reader) = refl
asks (Holds _ copy by is) = elim by [ ]
asks (Asks _ copy h by is reader) = elim by [ ]
asks (Leaves _ from change carried by is) = elim by [ ]
asks (Left _ by) = elim by [ ]

-- ---- the lines that the harts but one ask for

abbrev pub asked_by : List Node → List (FinSet nat_cmp)
asked_by [] = []
asked_by (n ∷ ns) = n.cache.acquiring ∷ asked_by ns

abbrev pub asked_but : List Node → ℕ → List (FinSet nat_cmp)
asked_but [] h = []
asked_but (n ∷ ns) zero = asked_by ns
asked_but (n ∷ ns) (suc h) = n.cache.acquiring ∷ asked_but ns h

few_asked : (ns : List Node) → AllSmall ns → sizes (asked_by ns) ≤ TRACKERS * length ns
few_asked [] all = omega arith
few_asked (n ∷ ns) all = let own : set.len n.cache.acquiring ≤ TRACKERS = all.0.few_acquires in let rest : sizes (asked_by ns) ≤ TRACKERS * length ns = few_asked ns all.1 in omega (arith, own, rest)

pub few_others : (ns : List Node) (h : ℕ) → AllSmall ns → h < length ns → sizes (asked_but ns h) + TRACKERS ≤ TRACKERS * length ns
few_others [] h all lt = absurd (omega (arith, lt))
few_others (n ∷ ns) zero all lt = let rest : sizes (asked_by ns) ≤ TRACKERS * length ns = few_asked ns all.1 in omega (arith, rest)
few_others (n ∷ ns) (suc h) all lt = let own : set.len n.cache.acquiring ≤ TRACKERS = all.0.few_acquires in let rest : sizes (asked_but ns h) + TRACKERS ≤ TRACKERS * length ns = few_others ns h all.1 (omega (arith, lt)) in omega (arith, own, rest)

in_asked_by : (ns : List Node) (r l : ℕ) (d : Node) → r < length ns → set.contains (slice_index_or ns r d).cache.acquiring l ≡ true → 1 ≤ times l (asked_by ns)
in_asked_by [] r l d lt e = absurd (omega (arith, lt))
in_asked_by (n ∷ ns) zero l d lt e = rw e (omega arith)
in_asked_by (n ∷ ns) (suc r) l d lt e = let rest : 1 ≤ times l (asked_by ns) = in_asked_by ns r l d (omega (arith, lt)) e in omega (arith, rest)

in_asked_but : (ns : List Node) (h r l : ℕ) (d : Node) → r < length ns → (h ≡ r → ⊥) → set.contains (slice_index_or ns r d).cache.acquiring l ≡ true → 1 ≤ times l (asked_but ns h)
in_asked_but [] h r l d lt ne e = absurd (omega (arith, lt))
in_asked_but (n ∷ ns) zero zero l d lt ne e = absurd (ne refl)
in_asked_but (n ∷ ns) zero (suc r) l d lt ne e = in_asked_by ns r l d (omega (arith, lt)) e
in_asked_but (n ∷ ns) (suc h) zero l d lt ne e = rw e (omega arith)
in_asked_but (n ∷ ns) (suc h) (suc r) l d lt ne e = let rest : 1 ≤ times l (asked_but ns h) = in_asked_but ns h r l d (omega (arith, lt)) (λ q. ne (ap suc q)) e in omega (arith, rest)

-- ---- one line of a machine

module _ (s : State) (last : ℕ → LineData) (i : IsFit s last) (h : ℕ) where
  abbrev n : Node
  n = node_at s h

  abbrev others : List (FinSet nat_cmp)
  others = asked_but s.views.nodes h

  abbrev own : ℕ → Line
  own l = line_at s.views.notes (place_of (line_size s) l)

  -- a hart is probed only for another's Acquire
  probed_for : (l : ℕ) → is_line s.trace.image (line_size s) (length s.views.nodes) l ≡ true → (t : Transaction) → (own l).transaction ≡ t → probes (part_of t h) ≤ times l others
  probed_for l on Idle e = omega arith
  probed_for l on (Granted r) e = go (h == r)
    where
      go : (b : Bool) → probes (if b then Taking else Alone) ≤ times l others
      go true = omega arith
      go false = omega arith
  probed_for l on (Probing r g) e = go (eqb_tells h r)
    where
      part : part_of (own l).transaction r ≡ Asking g
      part = let own_part : part_of (Probing r g) r ≡ Asking g = rw (eq-eqb r r refl) refl in ap (λ t. part_of t r) e ∙ own_part

      asked : set.contains (node_at s r).cache.acquiring l ≡ true
      asked = asks (subst (λ p. Stands (last l) p (side (kit_at s r) (known_at (own l) r) l)) part ((i.well.kept l on).stands r))

      go : (((h == r) ≡ true) × (h ≡ r)) ⊎ (((h == r) ≡ false) × (h ≡ r → ⊥)) → probes (if h == r then Asking g else Probed g) ≤ times l others
      go (inl q) = rw q.0 (omega arith)
      go (inr q) = rw q.0 (in_asked_but s.views.nodes h r l (no_node s) (i.well.requester l r g on e) q.1 asked)

  pub record LineHasFew (l : ℕ) : Type 0 where
    pub line_a : length (of_line l n.queues.a) ≤ one (set.contains n.cache.acquiring l)
    pub line_b : length (of_line l n.queues.b) ≤ times l others
    pub line_c : length (of_line l n.queues.c) ≤ one (set.contains n.cache.releasing l) + times l others
    pub line_d : length (of_line l n.queues.d) ≤ one (set.contains n.cache.acquiring l) + one (set.contains n.cache.releasing l)

  pub line_few : (l : ℕ) → LineHasFew l
  line_few l = go (is_line s.trace.image (line_size s) (length s.views.nodes) l) refl
    where
      from : (probed : ℕ) (z : Known) → probed ≤ times l others → HasFew probed (side (kit_at s h) z l) → LineHasFew l
      from probed z le k = record { line_a = k.few_a; line_b = omega (arith, le, k.few_b); line_c = omega (arith, le, k.few_c); line_d = k.few_d }

      go : (t : Bool) → is_line s.trace.image (line_size s) (length s.views.nodes) l ≡ t → LineHasFew l
      go true on = from (probes (part_of (own l).transaction h)) (known_at (own l) h) (probed_for l on (own l).transaction refl) (few ((i.well.kept l on).stands h))
      go false off = from 0 unknown (omega arith) (subst (HasFew 0) (sym (i.well.outside l off h)) (few_quiet 0))
