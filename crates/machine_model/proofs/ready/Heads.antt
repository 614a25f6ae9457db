-- What the message in front of queue C or D says of its hart.
use Rattle.std.proofs.Common.{List, [], ◌∷◌, true, false, ◌≡◌, Some, None, refl, ap}
use Rattle.std.specs.Prelude.{◌≢◌}
use Rattle.directory.specs.Lines.{conflicts}
use Rattle.machine_model.specs.Deliveries.{is_trunk}
use Rattle.machine_model.proofs.coherence.LineStands.{Side, Part, Stands, Leaves, LeavesProbed, LeavesGranted, HoldsAnswered, AsksAnswered, LeavesAnswered, Receives, Upgrades, not_conflicting}
use Rattle.tl_types.specs.Permission.{left_by}
use Rattle.tl_types.specs.declared.line.LineData.{LineData}
use Rattle.tl_types.specs.declared.message.Body.{Body}
use Rattle.tl_types.specs.declared.message.Body.TheVariants.{ProbeAck, ProbeAckData, ReleaseData, Grant, GrantData}
use Rattle.tl_types.specs.declared.permission.Grow.{Grow}
use Rattle.tl_types.specs.declared.permission.Perm.{Perm}
use Rattle.tl_types.specs.declared.permission.Perm.TheVariants.{Trunk}

-- an answer leaves no Trunk, and its data are what was written last
abbrev pub IsAnswering : LineData → List Body → Type 0
IsAnswering last [] = Unit {0}
IsAnswering last (ProbeAck change ∷ rest) = left_by change ≢ Trunk
IsAnswering last (ProbeAckData change bytes ∷ rest) = (left_by change ≢ Trunk) × (bytes ≡ last)
IsAnswering last (ReleaseData change bytes ∷ rest) = bytes ≡ last
IsAnswering last (_ ∷ rest) = Unit {0}

no_trunk : (g : Grow) (p : Perm) → conflicts g p ≡ false → p ≢ Trunk
no_trunk g p e is = cc (not_conflicting g p e, ap is_trunk is)

pub answering : {last : LineData} {part : Part} {x : Side} → Stands last part x → IsAnswering last x.c
answering (Leaves _ from change None by is) = tt
answering (Leaves _ from change (Some bytes) by is) = is.0
answering (LeavesProbed g from change None is) = tt
answering (LeavesProbed g from change (Some bytes) is) = is.0
answering (LeavesGranted from change None is) = tt
answering (LeavesGranted from change (Some bytes) is) = is.0
answering (HoldsAnswered g from change None copy lowers enough by same is) = no_trunk g (left_by change) enough
answering (HoldsAnswered g from change (Some bytes) copy lowers enough by same is) = (no_trunk g (left_by change) enough, by.0)
answering (AsksAnswered g from change None copy h lowers enough by same is) = no_trunk g (left_by change) enough
answering (AsksAnswered g from change (Some bytes) copy h lowers enough by same is) = (no_trunk g (left_by change) enough, by.0)
answering (LeavesAnswered g from change None other lowers enough by) = no_trunk g (left_by change) enough
answering (LeavesAnswered g from change (Some bytes) other lowers enough by) = (no_trunk g (left_by change) enough, by.0)
answering _ = tt

-- a Grant's Acquire is outstanding
abbrev pub IsGranted : Side → List Body → Type 0
IsGranted x [] = Unit {0}
IsGranted x (Grant cap ∷ rest) = x.acquiring ≡ true
IsGranted x (GrantData cap bytes ∷ rest) = x.acquiring ≡ true
IsGranted x (_ ∷ rest) = Unit {0}

pub granting : {last : LineData} {part : Part} {x : Side} → Stands last part x → IsGranted x x.d
granting (Receives g copy is reader) = refl
granting Upgrades = refl
granting _ = tt
