-- What random runs that were looked through for a message have told.
use Rattle.std.specs.Prelude.{◌≡◌, ◌==◌, ◌≤◌, ◌++◌, [], ℕ, List, None, Option, Some, codes, decimal, false, if◌then◌else◌}
use Rattle.std.specs.Io.KnownBytes.{Appends}
use Rattle.command_files.specs.Contents.{Contents}
use Rattle.command_files.specs.Files.{HoldsImage}
use Rattle.command_files.specs.Sizes.{IsInside, config_named, script_for}
use Rattle.command_files.specs.declared.allowing.Judgement.{Judgement}
use Rattle.command_files.specs.declared.allowing.Judgement.TheVariants.{Allowed, NotAllowed}
use Rattle.command_settings.specs.declared.wanted.Explore.{Explore}
use Rattle.elf_loader.specs.Image.{Initial}
use Rattle.machine_types.specs.declared.config.Config.{Config}
use Rattle.message_pattern.specs.declared.pattern.MessagePattern.{MessagePattern}
use Rattle.message_search.specs.Searched.{IsSearched, length_of}
use Rattle.message_search.specs.Sought.{sought_of}
use Rattle.message_search.specs.declared.met.Met.{Met}
use Rattle.message_search.specs.declared.met.Searched.{Searched}
use Rattle.text_fields.specs.Writing.{Begins}
use Rattle.trace_text.specs.Scripts.{text}

-- as many runs as are asked for, or 1,000
abbrev pub runs_wanted : ℕ → ℕ
runs_wanted sample = if sample == 0 then 1000 else sample

-- the script of the events that send the message, if some are known to
abbrev pub way_text : Config → ℕ → Option Met → List ℕ
way_text config kib None = []
way_text config kib (Some met) = text (script_for config kib met.events.items)

-- by how many events it is sent, if it is
abbrev pub told_of : (runs : ℕ) → Option ℕ → List ℕ
told_of runs None = codes "none of " ++ (decimal runs ++ codes " random runs sends the message (--until)\n")
told_of runs (Some events) =
    codes "the last of " ++ (decimal events ++ (codes " events sends the message, and none of " ++ (decimal runs ++ codes " random runs sends it by fewer\n")))

-- what isn't allowed is that no run sends it
abbrev pub judgement_of : Option ℕ → Judgement
judgement_of None = NotAllowed
judgement_of (Some events) = Allowed

-- so many runs were looked through, or fewer where memory ended: the last of the events that are told sends the message, and none of the runs sends it by fewer
pub record AreLookedThrough (image : Initial) (config : Config) (message : MessagePattern) (runs : ℕ) (found : Searched) : Type 0 where
  pub searched : IsSearched image config (sought_of message config.line) found
  pub within : found.runs ≤ runs
  pub all_made : found.out_of_memory ≡ false → found.runs ≡ runs

-- P holds of the machine and of what runs of the image in the file show of the message
pub record OfWay (held : Contents) (wanted : Explore) (message : MessagePattern) (P : Config → Searched → Type 0) : Type 0 where
  pub image : Initial
  pub found : Searched
  pub image_file : HoldsImage held wanted.raw wanted.image.now wanted.machine.memory image
  pub inside : IsInside wanted.machine
  pub looked : AreLookedThrough image (config_named wanted.machine inside) message (runs_wanted wanted.sample) found
  pub so : P (config_named wanted.machine inside) found

-- P holds of what is printed of it
abbrev pub WayHas : Contents → Explore → MessagePattern → (List ℕ → Type 0) → Type 0
WayHas held wanted message P = OfWay held wanted message (λ config found. P (way_text config wanted.machine.memory found.met))

-- all runs were made, the script was printed, if there is one, and it was judged whether there is
abbrev pub IsWayTold : Contents → Explore → MessagePattern → Judgement → (old new : Option (List ℕ)) → Type 0
IsWayTold held wanted message judgement old new = OfWay held wanted message (λ config found.
    (found.runs ≡ runs_wanted wanted.sample) × Appends old new (way_text config wanted.machine.memory found.met) × (judgement ≡ judgement_of (length_of found.met)))

-- by how many events the message is sent by what was printed, or a beginning of that, went to standard error
abbrev pub IsWayNoted : Contents → Explore → MessagePattern → (old new before after : Option (List ℕ)) → Type 0
IsWayNoted held wanted message old new before after = OfWay held wanted message (λ config found.
    Appends old new (way_text config wanted.machine.memory found.met) × Begins before after (told_of found.runs (length_of found.met)))
