-- What random runs have told, written and judged.
use Rattle.std.specs.Prelude.{◌≡◌, ℕ, ◌≤◌, IfSome, List, Option, false, length, map, true}
use Rattle.std.specs.Io.KnownBytes.{Appends}
use Rattle.command_files.specs.Files.{HoldsImage}
use Rattle.command_files.specs.Contents.{Contents}
use Rattle.command_files.specs.Faults.{Name}
use Rattle.command_files.specs.Sizes.{IsInside, config_named}
use Rattle.command_settings.specs.declared.wanted.Explore.{Explore}
use Rattle.elf_loader.specs.Image.{Initial}
use Rattle.exploration_text.specs.Sampling.{sampled_text}
use Rattle.exploration_text.specs.Text.{harts_text}
use Rattle.explore_command.specs.Judging.{HaveRefusals, IsJudged, fail_lines, have_failure}
use Rattle.explore_command.specs.Keeping.{AreKeptFrom, HasName, IsInNamed, IsOutcomeScript, SparesOthers}
use Rattle.command_files.specs.declared.allowing.Judgement.{Judgement}
use Rattle.command_files.specs.declared.allowing.Judgement.TheVariants.{Allowed}
use Rattle.explorer.specs.Ends.{outcome_of}
use Rattle.machine_types.specs.declared.config.Config.{Config}
use Rattle.explorer.specs.Sampled as ends
use Rattle.explorer.specs.declared.samples.sampled.Sampled.{Sampled}

-- what else they came to that they may not: runs never show that there is no other end
abbrev pub runs_fail : Option Name → Sampled → List ℕ
runs_fail list found = fail_lines list (have_failure (map (λ f. (outcome_of f).results) found.ends.items)) false true

-- so many runs were made, or fewer where memory ended, each end is one, its script leads there, and so many came to it
pub record AreRuns (image : Initial) (config : Config) (runs : ℕ) (found : Sampled) : Type 0 where
  pub sampled : ends.IsSampled image config found
  pub within : found.runs ≤ runs
  pub all_made : found.out_of_memory ≡ false → found.runs ≡ runs

-- what runs of the image in the file came to was printed, its scripts are in the folder, if one was named, and each other file is as before, and it was judged by the file that says what is allowed; it is allowed only where all runs were made
pub record IsSampleTold (held left : Contents) (wanted : Explore) (runs : ℕ) (judgement : Judgement) (old new : Option (List ℕ)) : Type 0 where
  pub image : Initial
  pub found : Sampled
  pub image_file : HoldsImage held wanted.raw wanted.image.now wanted.machine.memory image
  pub inside : IsInside wanted.machine
  pub runs_made : AreRuns image (config_named wanted.machine inside) runs found
  pub printed : Appends old new (sampled_text found)
  pub named : HasName wanted.scripts
  pub kept : IfSome wanted.scripts (λ folder. AreKeptFrom left (config_named wanted.machine inside) wanted.machine.memory folder.now 1 found.ends.items)
  pub spared : SparesOthers (IsInNamed wanted.scripts (IsOutcomeScript (length found.ends.items))) held left
  pub judged : IsJudged held wanted.allow (map (λ f. harts_text 0 (outcome_of f).results) found.ends.items) (runs_fail wanted.fail_on found) judgement
  pub whole : judgement ≡ Allowed → found.runs ≡ runs

-- P holds of the text of what runs of the image in the file came to
pub record SampleHas (held : Contents) (wanted : Explore) (runs : ℕ) (P : List ℕ → Type 0) : Type 0 where
  pub image : Initial
  pub found : Sampled
  pub image_file : HoldsImage held wanted.raw wanted.image.now wanted.machine.memory image
  pub inside : IsInside wanted.machine
  pub runs_made : AreRuns image (config_named wanted.machine inside) runs found
  pub of_text : P (sampled_text found)

-- P holds of what is to be told of the ends that were printed, those of runs of the image in the file
pub record SampleRefusals (held : Contents) (wanted : Explore) (runs : ℕ) (old new : Option (List ℕ)) (P : List ℕ → Type 0) : Type 0 where
  pub image : Initial
  pub found : Sampled
  pub image_file : HoldsImage held wanted.raw wanted.image.now wanted.machine.memory image
  pub inside : IsInside wanted.machine
  pub runs_made : AreRuns image (config_named wanted.machine inside) runs found
  pub printed : Appends old new (sampled_text found)
  pub refusals : HaveRefusals held wanted.allow (map (λ f. harts_text 0 (outcome_of f).results) found.ends.items) (runs_fail wanted.fail_on found) P
