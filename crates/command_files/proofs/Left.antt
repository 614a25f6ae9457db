-- What a fault has left on the output, and which faults a caller hands up.
use Rattle.std.proofs.Common.{◌≡◌, ◌⊎◌, ℕ, Bool, Err, IfErr, IsErrAnd, List, Ok, Option, Result, inl, inr, refl, subst, sym}
use Rattle.command_files.specs.Contents.{Contents}
use Rattle.command_files.specs.Status.{status_of}
use Rattle.command_files.specs.Faults.{IsImageFault, IsReadFault, IsScriptFault, LeavesAtFault, Name}
use Rattle.command_files.specs.declared.fault.Fault.{Fault}
use Rattle.command_files.specs.declared.fault.Unshown.{Unshown}
use Rattle.command_files.specs.declared.fault.Fault.TheVariants.{BadAddress, BadEvent, BytesAfterTrace, CannotMake, CannotRead, CannotShow, CannotWrite, Check, Configuration, Event, Image, Mismatch, NoThread, NothingHappens, OtherImage, OutOfMemory, Text, TooManyRows}

module _ (old new : Option (List ℕ)) (broken : Type 0) where
  -- any fault but the output's leaves it as it was
  pub left : (fault : Fault) → (fault ≡ CannotWrite → ⊥) → new ≡ old → LeavesAtFault fault old new broken
  left CannotWrite other same = absurd (other refl)
  left OutOfMemory other same = inl same
  left (CannotRead file) other same = same
  left (CannotMake file) other same = same
  left (Image file error) other same = same
  left (Text file error) other same = same
  left (Event file line error) other same = same
  left (BytesAfterTrace file) other same = same
  left (NothingHappens file line outcome) other same = same
  left (Check file error) other same = same
  left (OtherImage file address) other same = same
  left (TooManyRows file) other same = same
  left (BadAddress word) other same = same
  left (CannotShow word cause) other same = same
  left NoThread other same = same
  left Mismatch other same = same
  left BadEvent other same = same
  left Configuration other same = same

  pub spoiled : (fault : Fault) → (fault ≡ CannotWrite) ⊎ (fault ≡ OutOfMemory) → broken → LeavesAtFault fault old new broken
  spoiled fault is so = elim is [
    | inl at ↦ subst (λ f. LeavesAtFault f old new broken) (sym at) so
    | inr at ↦ subst (λ f. LeavesAtFault f old new broken) (sym at) (inr so)
  ]

  pub either : (fault : Fault) → LeavesAtFault fault old new broken → (new ≡ old) ⊎ broken
  either CannotWrite so = inr so
  either OutOfMemory so = so
  either (CannotRead file) so = inl so
  either (CannotMake file) so = inl so
  either (Image file error) so = inl so
  either (Text file error) so = inl so
  either (Event file line error) so = inl so
  either (BytesAfterTrace file) so = inl so
  either (NothingHappens file line outcome) so = inl so
  either (Check file error) so = inl so
  either (OtherImage file address) so = inl so
  either (TooManyRows file) so = inl so
  either (BadAddress word) so = inl so
  either (CannotShow word cause) so = inl so
  either NoThread so = inl so
  either Mismatch so = inl so
  either BadEvent so = inl so
  either Configuration so = inl so

-- what `?` hands up is the fault itself
pub handed_up : {T : Type 0} (P : Fault → Type 0) (r : Result T Fault) (fault : Fault) → IsErrAnd r (λ told. told ≡ fault) → P fault → IfErr r P
handed_up P (Ok x) fault is so = absurd is
handed_up P (Err told) fault is so = subst P (sym is) so

pub script_is_not_write : (held : Contents) (name : Name) (fault : Fault) → IsScriptFault held name fault → fault ≡ CannotWrite → ⊥
script_is_not_write held name fault is at = subst (IsScriptFault held name) at is

pub image_is_not_write : (held : Contents) (is_raw : Bool) (name : Name) (kib : ℕ) (fault : Fault) → IsImageFault held is_raw name kib fault → fault ≡ CannotWrite → ⊥
image_is_not_write held is_raw name kib fault is at = subst (IsImageFault held is_raw name kib) at is

-- an image that is refused behind another file was refused of what all files held before
pub image_as_before : (now held : Contents) (is_raw : Bool) (name : Name) (kib : ℕ) (fault : Fault) → now ≡ held → IsImageFault now is_raw name kib fault → IsImageFault held is_raw name kib fault
image_as_before now held is_raw name kib fault same is = subst (λ (files : Contents). IsImageFault files is_raw name kib fault) same is

pub read_is_not_write : (name : Name) (fault : Fault) → IsReadFault name fault → fault ≡ CannotWrite → ⊥
read_is_not_write name fault is at = subst (IsReadFault name) at is

pub only_configuration : (fault : Fault) → ((word : Name) → fault ≡ BadAddress word → ⊥) → ((word : Name) (cause : Unshown) → fault ≡ CannotShow word cause → ⊥) → status_of fault ≡ 2 → fault ≡ Configuration
only_configuration CannotWrite named shown two = cc
only_configuration OutOfMemory named shown two = cc
only_configuration (CannotRead file) named shown two = cc
only_configuration (CannotMake file) named shown two = cc
only_configuration (Image file error) named shown two = cc
only_configuration (Text file error) named shown two = cc
only_configuration (Event file line error) named shown two = cc
only_configuration (BytesAfterTrace file) named shown two = cc
only_configuration (NothingHappens file line outcome) named shown two = cc
only_configuration (Check file error) named shown two = cc
only_configuration (OtherImage file address) named shown two = cc
only_configuration (TooManyRows file) named shown two = cc
only_configuration (BadAddress word) named shown two = absurd (named word refl)
only_configuration (CannotShow word cause) named shown two = absurd (shown word cause refl)
only_configuration NoThread named shown two = cc
only_configuration Mismatch named shown two = cc
only_configuration BadEvent named shown two = cc
only_configuration Configuration named shown two = refl
