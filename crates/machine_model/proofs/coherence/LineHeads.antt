-- Which messages can stand in front of a queue.
use Rattle.std.proofs.Common.{List, [], ◌∷◌, ◌≡◌, Some, None, refl}
use Rattle.machine_model.proofs.coherence.LineStands.{Side, Part, Stands, IsReader, Asks, Leaves, Left, HoldsProbed, AsksProbed, LeavesProbed, LeftProbed, HoldsAnswered, AsksAnswered, LeavesAnswered, Receives, Upgrades, HoldsGranted, AsksGranted, LeavesGranted, LeftGranted}
use Rattle.tl_types.specs.Message.{channel_of_body}
use Rattle.tl_types.specs.declared.line.LineData.{LineData}
use Rattle.tl_types.specs.declared.message.Body.{Body}
use Rattle.tl_types.specs.declared.message.Body.TheVariants.{Grant, GrantData}
use Rattle.tl_types.specs.declared.message.Channel.{Channel}
use Rattle.tl_types.specs.declared.message.Channel.TheVariants.{A, B, C, D, E}

abbrev pub queue_in : Side → Channel → List Body
queue_in x A = x.a
queue_in x B = x.b
queue_in x C = x.c
queue_in x D = x.d
queue_in x E = x.e

abbrev pub IsHeadOn : Channel → List Body → Type 0
IsHeadOn ch [] = Unit {0}
IsHeadOn ch (body ∷ rest) = channel_of_body body ≡ ch

head_a : {last : LineData} {part : Part} {x : Side} → Stands last part x → IsHeadOn A x.a
head_a (Asks _ copy h by is reader) = refl
head_a (AsksProbed g copy h is reader) = refl
head_a (AsksAnswered g from change carried copy h lowers enough by same is) = refl
head_a (AsksGranted copy h is reader) = refl
head_a _ = tt

head_b : {last : LineData} {part : Part} {x : Side} → Stands last part x → IsHeadOn B x.b
head_b (HoldsProbed g copy is) = refl
head_b (AsksProbed g copy h is reader) = refl
head_b (LeavesProbed g from change carried is) = refl
head_b (LeftProbed g) = refl
head_b _ = tt

head_c : {last : LineData} {part : Part} {x : Side} → Stands last part x → IsHeadOn C x.c
head_c (Leaves _ from change None by is) = refl
head_c (Leaves _ from change (Some bytes) by is) = refl
head_c (LeavesProbed g from change None is) = refl
head_c (LeavesProbed g from change (Some bytes) is) = refl
head_c (LeavesGranted from change None is) = refl
head_c (LeavesGranted from change (Some bytes) is) = refl
head_c (HoldsAnswered g from change None copy lowers enough by same is) = refl
head_c (HoldsAnswered g from change (Some bytes) copy lowers enough by same is) = refl
head_c (AsksAnswered g from change None copy h lowers enough by same is) = refl
head_c (AsksAnswered g from change (Some bytes) copy h lowers enough by same is) = refl
head_c (LeavesAnswered g from change None other lowers enough by) = refl
head_c (LeavesAnswered g from change (Some bytes) other lowers enough by) = refl
head_c _ = tt

head_d : {last : LineData} {part : Part} {x : Side} → Stands last part x → IsHeadOn D x.d
head_d (Left _ by) = refl
head_d (LeftProbed g) = refl
head_d (Receives g copy is reader) = refl
head_d Upgrades = refl
head_d LeftGranted = refl
head_d _ = tt

head_e : {last : LineData} {part : Part} {x : Side} → Stands last part x → IsHeadOn E x.e
head_e (HoldsGranted copy is) = refl
head_e (AsksGranted copy h is reader) = refl
head_e (LeavesGranted from change carried is) = refl
head_e LeftGranted = refl
head_e _ = tt

pub head_on : {last : LineData} {part : Part} {x : Side} (ch : Channel) → Stands last part x → IsHeadOn ch (queue_in x ch)
head_on A s = head_a s
head_on B s = head_b s
head_on C s = head_c s
head_on D s = head_d s
head_on E s = head_e s

-- a hart to which a Grant is on its way doesn't write
abbrev pub IsGranting : Side → List Body → Type 0
IsGranting x [] = Unit {0}
IsGranting x (Grant cap ∷ rest) = IsReader x.copy
IsGranting x (GrantData cap bytes ∷ rest) = IsReader x.copy
IsGranting x (_ ∷ rest) = Unit {0}

pub granting_reader : {last : LineData} {part : Part} {x : Side} → Stands last part x → IsGranting x x.d
granting_reader (Receives g copy is reader) = reader
granting_reader Upgrades = refl
granting_reader _ = tt
