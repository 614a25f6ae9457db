-- Which faults the command hands up, and what its result says.
use Rattle.std.proofs.Common.{◌≡◌, ◌∙◌, ◌⊎◌, ℕ, Bool, Err, IfErr, IfOk, IfSome, List, None, Ok, Option, Result, Some, ap, refl, inl, inr, subst, sym}
use Rattle.std.specs.declared.alloc.AllocError.{AllocError}
use Rattle.command_files.specs.Contents.{Contents, HoldsBytes}
use Rattle.command_files.specs.Faults.{IsImageFault, IsReadFault, Name}
use Rattle.command_files.specs.Sizes.{IsInside, config_named}
use Rattle.command_files.specs.declared.fault.Fault.{Fault}
use Rattle.command_files.specs.declared.fault.Fault.TheVariants.{BadAddress, BadEvent, BytesAfterTrace, CannotMake, CannotRead, CannotShow, CannotWrite, Check, Configuration, Event, Image, Mismatch, NoThread, NothingHappens, OtherImage, OutOfMemory, Text, TooManyRows}
use Rattle.command_settings.specs.declared.wanted.Audit.{Audit as Wanted}
use Rattle.elf_loader.specs.Image.{Initial}
use Rattle.elf_symbols.specs.Named.{Named}
use Rattle.command_files.specs.Allowing.{IsAllowFile, IsNamedBy}
use Rattle.command_files.specs.declared.allowing.Judgement.{Judgement}
use Rattle.command_files.specs.declared.fault.Unshown.{Unshown}
use Rattle.command_settings.specs.declared.wanted.Fences.{Fences}
use Rattle.fences_command.specs.Keeping.{IsProgramFile, IsProgramKept, IsUnread}
use Rattle.fences_command.specs.Witnesses.{AllSpare, AreShownFor, IsFencesFile, IsNeededFile}
use Rattle.search_files.proofs.Files.{all_of, output_left}
use Rattle.search_files.specs.Faults.{ComesBeforeScripts, IsFolderFault, LeavesPart}
use Rattle.search_files.specs.Folders.{HasName, IsInNamed, SparesOthers}
use Rattle.search_files.specs.Targets.{AreAddressesOf, ComesBehindShown, IsUnplaced, IsUnshown, names_of}
use Rattle.search_files.specs.WordName.{WordName}
use Rattle.fence_audit.specs.Adding.{IsAllowance}
use Rattle.std.specs.Io.KnownBytes.{Appends}
use Rattle.fence_audit.specs.Answers.{answer_within}
use Rattle.fence_audit.specs.declared.searches.World.{World}
use Rattle.fence_audit.specs.declared.allowing.Allowance.{Allowance}
use Rattle.fences_command.specs.Fencing.{AuditHas, HadMemory, IsAuditTold, IsFencesFault, IsKeepingFault, IsOfFile, IsSought, judgement_of, told_text, world_of}
use Rattle.machine_types.specs.declared.config.Config.{Config}
use Rattle.search_files.specs.Named.{HoldsNamedImage}
use Rattle.text_fields.specs.Writing.{Begins}

pub of_image : (held : Contents) (wanted : Wanted) (fault : Fault) → IsImageFault held wanted.fences.raw wanted.fences.image wanted.fences.machine.memory fault → IsFencesFault held wanted fault
of_image held wanted (CannotRead file) is = inl is
of_image held wanted OutOfMemory is = tt
of_image held wanted (Image file error) is = is
of_image held wanted (Text file error) is = absurd is
of_image held wanted (CannotMake file) is = absurd is
of_image held wanted CannotWrite is = tt
of_image held wanted (Event file line error) is = absurd is
of_image held wanted (BytesAfterTrace file) is = absurd is
of_image held wanted (NothingHappens file line outcome) is = absurd is
of_image held wanted (Check file error) is = absurd is
of_image held wanted (OtherImage file address) is = absurd is
of_image held wanted (TooManyRows file) is = absurd is
of_image held wanted (BadAddress word) is = absurd is
of_image held wanted (CannotShow word cause) is = absurd is
of_image held wanted NoThread is = absurd is
of_image held wanted Mismatch is = absurd is
of_image held wanted BadEvent is = absurd is
of_image held wanted Configuration is = absurd is

-- a file that is read can't be, or memory ran out
read_is : (name : Name) (fault : Fault) → IsReadFault name fault → (fault ≡ CannotRead name) ⊎ (fault ≡ OutOfMemory)
read_is name (CannotRead file) is = inl (ap CannotRead is)
read_is name OutOfMemory is = inr refl
read_is name CannotWrite is = absurd is
read_is name (Image file error) is = absurd is
read_is name (Text file error) is = absurd is
read_is name (CannotMake file) is = absurd is
read_is name (Event file line error) is = absurd is
read_is name (BytesAfterTrace file) is = absurd is
read_is name (NothingHappens file line outcome) is = absurd is
read_is name (Check file error) is = absurd is
read_is name (OtherImage file address) is = absurd is
read_is name (TooManyRows file) is = absurd is
read_is name (BadAddress word) is = absurd is
read_is name (CannotShow word cause) is = absurd is
read_is name NoThread is = absurd is
read_is name Mismatch is = absurd is
read_is name BadEvent is = absurd is
read_is name Configuration is = absurd is

of_read : (held : Contents) (wanted : Wanted) (fault : Fault) → IsReadFault wanted.fences.image fault → IsFencesFault held wanted fault
of_read held wanted fault is = elim (read_is wanted.fences.image fault is) [
  | inl at ↦ subst (IsFencesFault held wanted) (sym at) (inl refl)
  | inr at ↦ subst (IsFencesFault held wanted) (sym at) tt
]

-- of the file that says what is allowed
of_named : (held : Contents) (wanted : Wanted) (name : Name) (fault : Fault) → wanted.fences.allow ≡ Some name → IsReadFault name fault → IsFencesFault held wanted fault
of_named held wanted name fault at is = elim (read_is name fault is) [
  | inl read ↦ subst (IsFencesFault held wanted) (sym read) (inr at)
  | inr memory ↦ subst (IsFencesFault held wanted) (sym memory) tt
]

pub of_allow : (held : Contents) (wanted : Wanted) (allow : Option Name) (fault : Fault) → wanted.fences.allow ≡ allow → IsNamedBy allow IsReadFault fault → IsFencesFault held wanted fault
of_allow held wanted None fault at is = absurd is
of_allow held wanted (Some name) fault at is = of_named held wanted name fault at is

pub allow_is_not_write : (allow : Option Name) (fault : Fault) → IsNamedBy allow IsReadFault fault → fault ≡ CannotWrite → ⊥
allow_is_not_write None fault is at = is
allow_is_not_write (Some name) fault is at = subst (IsReadFault name) at is

image_before : (held before : Contents) (wanted : Wanted) (image : Initial) (symbols : List Named) → before ≡ held
    → HoldsNamedImage before wanted.fences.raw wanted.fences.image.now wanted.fences.machine.memory image symbols → HoldsNamedImage held wanted.fences.raw wanted.fences.image.now wanted.fences.machine.memory image symbols
image_before held before wanted image symbols same file = subst (λ (files : Contents). HoldsNamedImage files wanted.fences.raw wanted.fences.image.now wanted.fences.machine.memory image symbols) same file

-- a word that can't be shown is told
unplaced_is : (image : Initial) (symbols : List Named) (word : Name) (fault : Fault) → IsUnplaced image symbols word fault → (cause : Unshown) × (fault ≡ CannotShow word cause)
unplaced_is image symbols word fault (inl (none, is)) = (_, is)
unplaced_is image symbols word fault (inr (place, at, never, is)) = (_, is)

pub of_words : (held before : Contents) (wanted : Wanted) (image : Initial) (symbols : List Named) (words : List Name) (fault : Fault) → words ≡ wanted.words.items → before ≡ held
    → HoldsNamedImage before wanted.fences.raw wanted.fences.image.now wanted.fences.machine.memory image symbols → IsUnshown image symbols words fault → IsFencesFault held wanted fault
of_words held before wanted image symbols words fault all same file (inl (word, first, unplaced)) =
    let is = unplaced_is image symbols word fault unplaced in
    subst (IsFencesFault held wanted) (sym is.1)
    (record { image = image; symbols = symbols; image_file = image_before held before wanted image symbols same file; word = word; first = subst (λ ws. ComesBehindShown image symbols ws word) all first; unplaced = subst (IsUnplaced image symbols word) is.1 unplaced })
of_words held before wanted image symbols words fault all same file (inr memory) = subst (IsFencesFault held wanted) (sym memory) tt

pub words_are_not_write : (image : Initial) (symbols : List Named) (words : List Name) (fault : Fault) → IsUnshown image symbols words fault → fault ≡ CannotWrite → ⊥
words_are_not_write image symbols words fault (inl (word, first, unplaced)) at =
    let is = unplaced_is image symbols word fault unplaced in
    let bad : CannotShow word is.0 ≡ CannotWrite = sym is.1 ∙ at in cc
words_are_not_write image symbols words fault (inr memory) at =
    let bad : OutOfMemory ≡ CannotWrite = sym memory ∙ at in cc

-- ---- the files for the program and for runs

-- one can't be made, or memory ran out
unmade : (file : Option Name) (fault : Fault) → IsNamedBy file IsFolderFault fault → ((name : Name) × (file ≡ Some name) × (fault ≡ CannotMake name)) ⊎ (fault ≡ OutOfMemory)
unmade None fault is = absurd is
unmade (Some name) fault is = elim is [
  | inl at ↦ inl (name, refl, at)
  | inr at ↦ inr at
]

pub of_program : (held : Contents) (wanted : Wanted) (fault : Fault) → IsNamedBy wanted.fences.write IsFolderFault fault → IsFencesFault held wanted fault
of_program held wanted fault is = elim (unmade wanted.fences.write fault is) [
  | inl at ↦ subst (IsFencesFault held wanted) (sym at.2) (inl at.1)
  | inr at ↦ subst (IsFencesFault held wanted) (sym at) tt
]

pub of_runs : (held : Contents) (wanted : Wanted) (fault : Fault) → IsNamedBy wanted.fences.scripts IsFolderFault fault → IsFencesFault held wanted fault
of_runs held wanted fault is = elim (unmade wanted.fences.scripts fault is) [
  | inl at ↦ subst (IsFencesFault held wanted) (sym at.2) (inr at.1)
  | inr at ↦ subst (IsFencesFault held wanted) (sym at) tt
]

pub of_kept : (held : Contents) (wanted : Wanted) (fault : Fault) → IsKeepingFault wanted.fences fault → IsFencesFault held wanted fault
of_kept held wanted fault (inl is) = of_program held wanted fault is
of_kept held wanted fault (inr is) = of_runs held wanted fault is

pub runs_fault : {T : Type 0} (fences : Fences) (r : Result T Fault) → IfErr r (IsNamedBy fences.scripts IsFolderFault) → IfErr r (IsKeepingFault fences)
runs_fault fences (Ok done) is = tt
runs_fault fences (Err fault) is = inr is

pub unmade_is_not_write : (file : Option Name) (fault : Fault) → IsNamedBy file IsFolderFault fault → fault ≡ CannotWrite → ⊥
unmade_is_not_write file fault is at = elim (unmade file fault is) [
  | inl made ↦
      let bad : CannotMake made.0 ≡ CannotWrite = sym made.2 ∙ at in cc
  | inr memory ↦
      let bad : OutOfMemory ≡ CannotWrite = sym memory ∙ at in cc
]

-- they come behind the text
unmade_late : (file : Option Name) (fault : Fault) → IsNamedBy file IsFolderFault fault → ComesBeforeScripts fault → ⊥
unmade_late file fault is early = elim (unmade file fault is) [
  | inl made ↦ subst ComesBeforeScripts made.2 early
  | inr memory ↦ subst ComesBeforeScripts memory early
]

pub kept_late : (fences : Fences) (fault : Fault) → IsKeepingFault fences fault → ComesBeforeScripts fault → ⊥
kept_late fences fault (inl is) early = unmade_late fences.write fault is early
kept_late fences fault (inr is) early = unmade_late fences.scripts fault is early

pub memory_late : (fault : Fault) → fault ≡ OutOfMemory → ComesBeforeScripts fault → ⊥
memory_late fault is early = subst ComesBeforeScripts is early

-- before the text nothing was printed
pub unbegun : (fault : Fault) (old new : Option (List ℕ)) (Has : (List ℕ → Type 0) → Type 0) → (fault ≡ CannotWrite → ⊥) → new ≡ old → LeavesPart fault old new Has
unbegun (CannotRead file) old new Has other same = same
unbegun (CannotMake file) old new Has other same = inl same
unbegun CannotWrite old new Has other same = absurd (other refl)
unbegun OutOfMemory old new Has other same = inl same
unbegun (Image file error) old new Has other same = same
unbegun (Text file error) old new Has other same = same
unbegun (Event file line error) old new Has other same = same
unbegun (BytesAfterTrace file) old new Has other same = same
unbegun (NothingHappens file line outcome) old new Has other same = same
unbegun (Check file error) old new Has other same = same
unbegun (OtherImage file address) old new Has other same = same
unbegun (TooManyRows file) old new Has other same = same
unbegun (BadAddress word) old new Has other same = same
unbegun (CannotShow word cause) old new Has other same = same
unbegun NoThread old new Has other same = same
unbegun Mismatch old new Has other same = same
unbegun BadEvent old new Has other same = same
unbegun Configuration old new Has other same = same

-- what is sought of the image in the file is the file's
pub of_file : (held before : Contents) (wanted : Wanted) (config : Config) (image : Initial) (symbols : List Named) (addresses : List ℕ) (names : List WordName) (text : Option (List ℕ)) (allowance : Allowance) (inside : IsInside wanted.fences.machine)
    → config ≡ config_named wanted.fences.machine inside → before ≡ held → IsAllowFile held wanted.fences.allow text → AreAddressesOf symbols wanted.words.items addresses → names ≡ names_of wanted.words.items
    → HoldsNamedImage before wanted.fences.raw wanted.fences.image.now wanted.fences.machine.memory image symbols → IsSought (world_of wanted.fences.subject) image config addresses wanted.fences.window wanted.fences.states names text allowance → IsOfFile held wanted symbols allowance image
of_file held before wanted config image symbols addresses names text allowance inside is same allowed placed named file so =
    record {
      image_file = image_before held before wanted image symbols same file;
      addresses = addresses;
      placed = placed;
      inside = inside;
      text = text;
      allow_file = allowed;
      sought = subst (λ c. IsSought (world_of wanted.fences.subject) image c addresses wanted.fences.window wanted.fences.states (names_of wanted.words.items) text allowance) is (subst (λ n. IsSought (world_of wanted.fences.subject) image config addresses wanted.fences.window wanted.fences.states n text allowance) named so);
    }

-- what is printed of it
module _ (held : Contents) (wanted : Wanted) (names : List WordName) (named_so : names ≡ names_of wanted.words.items) (symbols : List Named) (allowance : Allowance) (image : Initial) (file : IsOfFile held wanted symbols allowance image) (old new : Option (List ℕ)) where
  pub has : (P : List ℕ → Type 0) → P (told_text names symbols allowance) → AuditHas held wanted P
  has P so = record { symbols = symbols; allowance = allowance; image = image; of_file = file; of_text = subst (λ n. P (told_text n symbols allowance)) named_so so }

  pub part_told : (fault : Fault) → (fault ≡ CannotWrite) ⊎ (fault ≡ OutOfMemory) → Begins old new (told_text names symbols allowance) → LeavesPart fault old new (AuditHas held wanted)
  part_told fault is so = output_left fault old new (AuditHas held wanted) is (has (Begins old new) so)

  unmade_told : (file : Option Name) (fault : Fault) → IsNamedBy file IsFolderFault fault → Appends old new (told_text names symbols allowance) → LeavesPart fault old new (AuditHas held wanted)
  unmade_told file fault is so = elim (unmade file fault is) [
    | inl at ↦ subst (λ f. LeavesPart f old new (AuditHas held wanted)) (sym at.2) (inr (has (Appends old new) so))
    | inr at ↦ subst (λ f. LeavesPart f old new (AuditHas held wanted)) (sym at) (inr (has (Begins old new) (all_of old new (told_text names symbols allowance) so)))
  ]

  -- the files come behind it
  pub all_told : (fault : Fault) → IsKeepingFault wanted.fences fault → Appends old new (told_text names symbols allowance) → LeavesPart fault old new (AuditHas held wanted)
  all_told fault (inl is) so = unmade_told wanted.fences.write fault is so
  all_told fault (inr is) so = unmade_told wanted.fences.scripts fault is so

  -- and want of memory, too
  pub memory_told : (fault : Fault) → fault ≡ OutOfMemory → Appends old new (told_text names symbols allowance) → LeavesPart fault old new (AuditHas held wanted)
  memory_told fault is so = subst (λ f. LeavesPart f old new (AuditHas held wanted)) (sym is) (inr (has (Begins old new) (all_of old new (told_text names symbols allowance) so)))

  pub whole_told : (left : Contents) (judgement : Judgement) (file_bytes : List ℕ) (config : Config) → Appends old new (told_text names symbols allowance) → judgement ≡ judgement_of allowance → HadMemory allowance → HoldsBytes held wanted.fences.image.now file_bytes
      → IfSome wanted.fences.write (λ name. IsUnread wanted.fences name.now) → IsProgramKept held left wanted.fences image file_bytes allowance wanted.fences.write
      → HasName wanted.fences.scripts → IfSome wanted.fences.scripts (λ folder. AllSpare wanted.fences image folder.now) → (inside : IsInside wanted.fences.machine) × (config ≡ config_named wanted.fences.machine inside)
      → AreShownFor left wanted.fences config image file_bytes allowance wanted.fences.scripts → SparesOthers (IsFencesFile wanted.fences) held left → IsAuditTold held left wanted judgement old new
  whole_told left judgement file_bytes config so is whole bytes unread kept named spare config_is shown spared = record {
    symbols = symbols;
    allowance = allowance;
    image = image;
    of_file = file;
    printed = subst (λ n. Appends old new (told_text n symbols allowance)) named_so so;
    judged = is;
    whole = whole;
    file = file_bytes;
    bytes = bytes;
    unread = unread;
    kept = kept;
    named = named;
    spare = spare;
    shown = (config_is.0, subst (λ c. AreShownFor left wanted.fences c image file_bytes allowance wanted.fences.scripts) config_is.1 shown);
    spared = spared;
  }

pub output_told : (held : Contents) (wanted : Wanted) (fault : Fault) → (fault ≡ CannotWrite) ⊎ (fault ≡ OutOfMemory) → IsFencesFault held wanted fault
output_told held wanted fault is = elim is [
  | inl at ↦ subst (IsFencesFault held wanted) (sym at) tt
  | inr at ↦ subst (IsFencesFault held wanted) (sym at) tt
]

-- what a text allows is the same as it is read
pub of_allowed : (world : World) (image : Initial) (config : Config) (addresses : List ℕ) (window limit : ℕ) (names : List WordName) (allows other : List ℕ → Bool) (r : Result Allowance AllocError)
    → ((line : List ℕ) → allows line ≡ other line) → IfOk r (IsAllowance world image config addresses window limit (answer_within allows names)) → IfOk r (IsAllowance world image config addresses window limit (answer_within other names))
of_allowed world image config addresses window limit names allows other r same so =
    let all : allows ≡ other = λ i line. same line i in
    subst (λ (f : List ℕ → Bool). IfOk r (IsAllowance world image config addresses window limit (answer_within f names))) all so
