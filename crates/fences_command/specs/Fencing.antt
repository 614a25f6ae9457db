-- What `rvtl fences` has told, and which faults it tells.
use Rattle.std.specs.Prelude.{◌≡◌, ◌⊎◌, ◌||◌, ℕ, Bool, IfSome, List, None, Option, Some, false}
use Rattle.std.specs.List.{list_any}
use Rattle.std.specs.Io.KnownBytes.{Appends}
use Rattle.fence_audit.specs.Allowing.{is_allowed_line}
use Rattle.command_files.specs.Contents.{Contents, HoldsBytes}
use Rattle.command_files.specs.Faults.{IsNoImage, Name}
use Rattle.command_files.specs.Sizes.{IsInside, IsOutside, config_named}
use Rattle.command_files.specs.declared.fault.Fault.{Fault}
use Rattle.command_files.specs.declared.fault.Fault.TheVariants.{CannotMake, CannotRead, CannotShow, CannotWrite, Configuration, Image, OutOfMemory}
use Rattle.command_settings.specs.declared.wanted.Audit.{Audit as Wanted}
use Rattle.command_settings.specs.declared.wanted.Fences.{Fences}
use Rattle.command_settings.specs.declared.wanted.Subject.{Subject}
use Rattle.command_settings.specs.declared.wanted.Subject.TheVariants as subject
use Rattle.elf_loader.specs.Image.{Initial}
use Rattle.elf_symbols.specs.Named.{Named}
use Rattle.command_files.specs.Allowing.{IsAllowFile, IsNamedBy}
use Rattle.command_files.specs.declared.allowing.Judgement.{Judgement}
use Rattle.command_files.specs.declared.allowing.Judgement.TheVariants.{Allowed, NotAllowed}
use Rattle.fences_command.specs.Keeping.{IsProgramKept, IsUnread}
use Rattle.fences_command.specs.Witnesses.{AllSpare, AreShownFor, IsFencesFile}
use Rattle.search_files.specs.Faults.{IsFolderFault}
use Rattle.search_files.specs.Folders.{HasName, SparesOthers}
use Rattle.search_files.specs.Targets.{AreAddressesOf, ComesBehindShown, IsUnplaced, names_of}
use Rattle.search_files.specs.WordName.{WordName}
use Rattle.fence_audit.specs.Adding.{IsAllowance}
use Rattle.architecture_outcomes.specs.declared.architecture.Architecture.{Architecture}
use Rattle.fence_audit.specs.Answers.{answer_within, lacked_memory}
use Rattle.fence_audit.specs.Auditing.{IsAudit}
use Rattle.fence_audit.specs.declared.allowing.Allowance.{Allowance}
use Rattle.fence_audit.specs.declared.searches.Search.{Search}
use Rattle.fence_audit.specs.declared.searches.World.{World}
use Rattle.fence_audit.specs.declared.searches.World.TheVariants as world
use Rattle.fence_audit.specs.declared.allowing.Allowance.TheVariants.{Broken, Kept}
use Rattle.fence_audit.specs.Lacking.{missing_text}
use Rattle.fence_audit.specs.Text.{audit_text}
use Rattle.machine_types.specs.declared.config.Config.{Config}
use Rattle.search_files.specs.Named.{HoldsNamedImage}

-- with a text that says which outcomes are allowed, what the image needs for these, or lacks; and else what it needs for its own
abbrev pub IsSought : World → Initial → Config → (addresses : List ℕ) → (window limit : ℕ) → List WordName → Option (List ℕ) → Allowance → Type 0
IsSought world image config addresses window limit names (Some text) allowance = IsAllowance world image config addresses window limit (answer_within (is_allowed_line text) names) allowance
IsSought world image config addresses window limit names None (Kept audit) = IsAudit world image config addresses window limit audit
IsSought world image config addresses window limit names None (Broken missing) = ⊥

-- whose outcomes are asked for
abbrev pub world_of : Subject → World
world_of subject.Model = world.Model
world_of subject.Machine = world.Machine

-- it is of the image in the file, which has these symbols, with the words of memory where these say, of the machine that is wanted, whose outcomes or whose model's are asked for, and of what a file allows, if one was named
pub record IsOfFile (held : Contents) (wanted : Wanted) (symbols : List Named) (allowance : Allowance) (image : Initial) : Type 0 where
  pub image_file : HoldsNamedImage held wanted.fences.raw wanted.fences.image.now wanted.fences.machine.memory image symbols
  pub addresses : List ℕ
  pub placed : AreAddressesOf symbols wanted.words.items addresses
  pub inside : IsInside wanted.fences.machine
  pub text : Option (List ℕ)
  pub allow_file : IsAllowFile held wanted.fences.allow text
  pub sought : IsSought (world_of wanted.fences.subject) image (config_named wanted.fences.machine inside) addresses wanted.fences.window wanted.fences.states (names_of wanted.words.items) text allowance

-- the lines that tell it
abbrev pub told_text : List WordName → List Named → Allowance → List ℕ
told_text names symbols (Kept audit) = audit_text names symbols audit
told_text names symbols (Broken missing) = missing_text names symbols missing

-- an outcome of the program as it is isn't allowed
abbrev pub judgement_of : Allowance → Judgement
judgement_of (Kept audit) = Allowed
judgement_of (Broken missing) = NotAllowed

abbrev pub search_lacked : Search → Bool
search_lacked search = lacked_memory search.found

-- one of these searches ended for want of memory
abbrev pub lacked_by_any : Architecture → List Search → Bool
lacked_by_any known searches = lacked_memory known || list_any search_lacked searches

-- where all that was found is allowed, none did
abbrev pub HadMemory : Allowance → Type 0
HadMemory (Kept audit) = lacked_by_any audit.known audit.searches.items ≡ false
HadMemory (Broken missing) = Unit {0}

-- what was appended tells this, and the judgement is by it; the file that was named for the program has it with the orderings that are enough, the folder that was named for runs has one for each ordering that is needed, and each other file is as before
pub record IsAuditTold (held left : Contents) (wanted : Wanted) (judgement : Judgement) (old new : Option (List ℕ)) : Type 0 where
  pub symbols : List Named
  pub allowance : Allowance
  pub image : Initial
  pub of_file : IsOfFile held wanted symbols allowance image
  pub printed : Appends old new (told_text (names_of wanted.words.items) symbols allowance)
  pub judged : judgement ≡ judgement_of allowance
  pub whole : HadMemory allowance
  pub file : List ℕ
  pub bytes : HoldsBytes held wanted.fences.image.now file
  pub unread : IfSome wanted.fences.write (λ name. IsUnread wanted.fences name.now)
  pub kept : IsProgramKept held left wanted.fences image file allowance wanted.fences.write
  pub named : HasName wanted.fences.scripts
  pub spare : IfSome wanted.fences.scripts (λ folder. AllSpare wanted.fences image folder.now)
  pub shown : (inside : IsInside wanted.fences.machine) × AreShownFor left wanted.fences (config_named wanted.fences.machine inside) image file allowance wanted.fences.scripts
  pub spared : SparesOthers (IsFencesFile wanted.fences) held left

-- P holds of the text that tells it
pub record AuditHas (held : Contents) (wanted : Wanted) (P : List ℕ → Type 0) : Type 0 where
  pub symbols : List Named
  pub allowance : Allowance
  pub image : Initial
  pub of_file : IsOfFile held wanted symbols allowance image
  pub of_text : P (told_text (names_of wanted.words.items) symbols allowance)

-- one of the words of memory can't be shown, by the image in the file, and it is the first
pub record HasUnshown (held : Contents) (wanted : Wanted) (fault : Fault) : Type 0 where
  pub image : Initial
  pub symbols : List Named
  pub image_file : HoldsNamedImage held wanted.fences.raw wanted.fences.image.now wanted.fences.machine.memory image symbols
  pub word : Name
  pub first : ComesBehindShown image symbols wanted.words.items word
  pub unplaced : IsUnplaced image symbols word fault

-- the program can't be written, or the runs, or memory ran out
abbrev pub IsKeepingFault : Fences → Fault → Type 0
IsKeepingFault fences fault = IsNamedBy fences.write IsFolderFault fault ⊎ IsNamedBy fences.scripts IsFolderFault fault

-- the machine is out of limits, a file can't be read, the image can't be used, for the cause that is told, a word of memory can't be shown, the program or the runs can't be written, the output takes no more, or memory ran out
abbrev pub IsFencesFault : Contents → Wanted → Fault → Type 0
IsFencesFault held wanted Configuration = IsOutside wanted.fences.machine
IsFencesFault held wanted (CannotRead file) = (file ≡ wanted.fences.image) ⊎ (wanted.fences.allow ≡ Some file)
IsFencesFault held wanted (Image file error) = (file ≡ wanted.fences.image) × IsNoImage held wanted.fences.raw wanted.fences.image.now wanted.fences.machine.memory error
IsFencesFault held wanted (CannotShow word cause) = HasUnshown held wanted (CannotShow word cause)
IsFencesFault held wanted (CannotMake file) = (wanted.fences.write ≡ Some file) ⊎ (wanted.fences.scripts ≡ Some file)
IsFencesFault held wanted CannotWrite = Unit {0}
IsFencesFault held wanted OutOfMemory = Unit {0}
IsFencesFault held wanted _ = ⊥
