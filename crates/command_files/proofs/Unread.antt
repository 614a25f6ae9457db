-- Which faults tell of a file that was read and holds no image.
use Rattle.std.proofs.Common.{◌≡◌, ◌≢◌, ◌∙◌, ◌⊎◌, ◌↔◌, ◌*◌, ℕ, Bool, Err, IfErr, List, Ok, Result, ap, inl, inr, refl, subst, sym}
use Rattle.std.specs.Result.{IsErrOf}
use Rattle.command_files.specs.Faults.{IsImageFault, IsLoadFault, Name}
use Rattle.command_files.specs.Files.{image_answer}
use Rattle.command_files.specs.Contents.{Contents, HoldsBytes}
use Rattle.command_files.specs.declared.fault.Fault.{Fault}
use Rattle.command_files.specs.declared.fault.Fault.TheVariants.{BadAddress, BadEvent, BytesAfterTrace, CannotMake, CannotRead, CannotShow, CannotWrite, Check, Configuration, Event, Image, Mismatch, NoThread, NothingHappens, OtherImage, OutOfMemory, Text, TooManyRows}
use Rattle.elf_loader.specs.declared.error.LoadError.{LoadError}
use Rattle.elf_loader.specs.declared.error.LoadError.TheVariants as loading

abbrev error_or : {T : Type 0} → LoadError → Result T LoadError → LoadError
error_or default (Ok value) = default
error_or default (Err error) = error

pub aside : {T : Type 0} (error : LoadError) → error ≢ loading.NoMemory → ¬ IsErrOf {T = T} (Err error) loading.NoMemory
aside error other is = other (ap (error_or error) is)

pub answered : (is_raw : Bool) (bytes file : List ℕ) (size kib : ℕ) (error : LoadError) → bytes ≡ file → size ≡ 1024 * kib → Err error ≡ image_answer is_raw bytes size
    → image_answer is_raw file (1024 * kib) ≡ Err error
answered is_raw bytes file size kib error same sized told = sym (told ∙ ap (λ b. image_answer is_raw b size) same ∙ ap (image_answer is_raw file) sized)

pub no_image_told : (is_raw : Bool) (name : Name) (kib : ℕ) (bytes : List ℕ) (error : LoadError) (fault : Fault)
    → (error ≢ loading.NoMemory → image_answer is_raw bytes (1024 * kib) ≡ Err error)
    → (fault ≡ Image name error) ⊎ (fault ≡ OutOfMemory) → (fault ≡ OutOfMemory) ↔ (error ≡ loading.NoMemory) → IsLoadFault is_raw bytes name kib fault
no_image_told is_raw name kib bytes error fault answer told memory = elim told [
  | inl at ↦ subst (IsLoadFault is_raw bytes name kib) (sym at) (refl, answer (λ no. let bad : Image name error ≡ OutOfMemory = sym at ∙ memory.1 no in cc))
  | inr at ↦ subst (IsLoadFault is_raw bytes name kib) (sym at) tt
]

-- what the bytes of a file are refused for its image is
pub of_bytes : (held : Contents) (is_raw : Bool) (name : Name) (kib : ℕ) (bytes : List ℕ) (fault : Fault) → HoldsBytes held name.now bytes → IsLoadFault is_raw bytes name kib fault
    → IsImageFault held is_raw name kib fault
of_bytes held is_raw name kib bytes (Image file error) holds is = (is.0, record { file = bytes; bytes = holds; refused = is.1 })
of_bytes held is_raw name kib bytes OutOfMemory holds is = tt
of_bytes held is_raw name kib bytes (CannotRead file) holds is = absurd is
of_bytes held is_raw name kib bytes (CannotMake file) holds is = absurd is
of_bytes held is_raw name kib bytes CannotWrite holds is = absurd is
of_bytes held is_raw name kib bytes (Text file error) holds is = absurd is
of_bytes held is_raw name kib bytes (Event file line error) holds is = absurd is
of_bytes held is_raw name kib bytes (NothingHappens file line outcome) holds is = absurd is
of_bytes held is_raw name kib bytes (BytesAfterTrace file) holds is = absurd is
of_bytes held is_raw name kib bytes (Check file error) holds is = absurd is
of_bytes held is_raw name kib bytes (OtherImage file address) holds is = absurd is
of_bytes held is_raw name kib bytes (TooManyRows file) holds is = absurd is
of_bytes held is_raw name kib bytes (BadAddress word) holds is = absurd is
of_bytes held is_raw name kib bytes (CannotShow word cause) holds is = absurd is
of_bytes held is_raw name kib bytes NoThread holds is = absurd is
of_bytes held is_raw name kib bytes Mismatch holds is = absurd is
of_bytes held is_raw name kib bytes BadEvent holds is = absurd is
of_bytes held is_raw name kib bytes Configuration holds is = absurd is

pub all_of_bytes : {T : Type 0} (held : Contents) (is_raw : Bool) (name : Name) (kib : ℕ) (bytes : List ℕ) (r : Result T Fault) → HoldsBytes held name.now bytes → IfErr r (IsLoadFault is_raw bytes name kib)
    → IfErr r (IsImageFault held is_raw name kib)
all_of_bytes held is_raw name kib bytes (Ok value) holds is = tt
all_of_bytes held is_raw name kib bytes (Err fault) holds is = of_bytes held is_raw name kib bytes fault holds is
