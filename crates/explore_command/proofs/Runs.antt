-- What is known of random runs, and what they leave.
use Rattle.std.proofs.Common.{◌≡◌, ◌∙◌, ◌≤◌, ℕ, IfSome, List, Option, arith, false, length, map, subst}
use Rattle.std.specs.Io.KnownBytes.{Appends}
use Rattle.command_files.specs.Files.{HoldsImage}
use Rattle.command_files.specs.Contents.{Contents}
use Rattle.command_files.specs.Sizes.{IsInside, config_named}
use Rattle.command_settings.specs.declared.wanted.Explore.{Explore}
use Rattle.elf_loader.specs.Image.{Initial}
use Rattle.exploration_text.specs.Sampling.{sampled_text}
use Rattle.exploration_text.specs.Text.{harts_text}
use Rattle.explore_command.specs.Judging.{HaveRefusals, IsJudged}
use Rattle.explore_command.specs.Keeping.{AreKeptFrom, HasName, IsInNamed, IsOutcomeScript, SparesOthers}
use Rattle.command_files.specs.declared.allowing.Judgement.{Judgement}
use Rattle.command_files.specs.declared.allowing.Judgement.TheVariants.{Allowed}
use Rattle.explorer.specs.Ends.{outcome_of}
use Rattle.machine_types.specs.declared.config.Config.{Config}
use Rattle.explore_command.specs.Sampling.{AreRuns, IsSampleTold, SampleHas, SampleRefusals, runs_fail}
use Rattle.explorer.specs.declared.samples.sampled.Sampled.{Sampled}
use Rattle.std.proofs.Common.{Err, IfOk, Ok, Result}
use Rattle.std.specs.declared.alloc.AllocError.{AllocError}
use Rattle.explorer.specs.Sampled as ends

module _ (held : Contents) (wanted : Explore) (runs : ℕ) (config : Config) (image : Initial) (found : Sampled)
    (inside : IsInside wanted.machine) (config_is : config ≡ config_named wanted.machine inside) (file : HoldsImage held wanted.raw wanted.image.now wanted.machine.memory image) (are : AreRuns image config runs found) where
  are_runs : AreRuns image (config_named wanted.machine inside) runs found
  are_runs = subst (λ (c : Config). AreRuns image c runs found) config_is are

  pub has : (P : List ℕ → Type 0) → P (sampled_text found) → SampleHas held wanted runs P
  has P so = record { image = image; found = found; image_file = file; inside = inside; runs_made = are_runs; of_text = so }

  pub all : (old new : Option (List ℕ)) (left : Contents) (judgement : Judgement) → Appends old new (sampled_text found) → HasName wanted.scripts → IfSome wanted.scripts (λ folder. AreKeptFrom left config wanted.machine.memory folder.now 1 found.ends.items)
      → SparesOthers (IsInNamed wanted.scripts (IsOutcomeScript (length found.ends.items))) held left
      → IsJudged held wanted.allow (map (λ f. harts_text 0 (outcome_of f).results) found.ends.items) (runs_fail wanted.fail_on found) judgement → (judgement ≡ Allowed → found.runs ≡ runs) → IsSampleTold held left wanted runs judgement old new
  all old new left judgement printed named kept spares by whole = record {
    image = image;
    found = found;
    image_file = file;
    inside = inside;
    runs_made = are_runs;
    printed = printed;
    named = named;
    kept = subst (λ (c : Config). IfSome wanted.scripts (λ folder. AreKeptFrom left c wanted.machine.memory folder.now 1 found.ends.items)) config_is kept;
    spared = spares;
    judged = by;
    whole = whole;
  }

  pub refusals : (old new : Option (List ℕ)) (P : List ℕ → Type 0) → Appends old new (sampled_text found) → HaveRefusals held wanted.allow (map (λ f. harts_text 0 (outcome_of f).results) found.ends.items) (runs_fail wanted.fail_on found) P
      → SampleRefusals held wanted runs old new P
  refusals old new P printed so = record { image = image; found = found; image_file = file; inside = inside; runs_made = are_runs; printed = printed; refusals = so }

-- no fewer runs than were asked for, and no more
pub all_made : (made runs : ℕ) {most : ℕ} → made ≤ most → most ≡ runs → runs ≤ made → made ≡ runs
all_made made runs few same enough = omega (arith, few, same, enough)

-- what is said of them, fact by fact
pub runs_in : (image : Initial) (config : Config) (runs : ℕ) {most : ℕ} (r : Result Sampled AllocError) → most ≡ runs → IfOk r (ends.IsSampled image config) → IfOk r (λ s. s.runs ≤ most) → IfOk r (λ s. s.out_of_memory ≡ false → s.runs ≡ most)
    → IfOk r (AreRuns image config runs)
runs_in image config runs (Ok s) same sampled within whole = record { sampled = sampled; within = subst (λ (n : ℕ). s.runs ≤ n) same within; all_made = λ memory. whole memory ∙ same }
runs_in image config runs (Err error) same sampled within whole = tt
