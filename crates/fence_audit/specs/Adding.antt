-- What a program was searched with in place of its own words that may order more, and what that leaves.
use Rattle.std.specs.Prelude.{◌≡◌, ℕ, All, List, None, Some}
use Rattle.architecture_outcomes.specs.declared.architecture.Architecture.{Architecture}
use Rattle.elf_loader.specs.Image.{Initial}
use Rattle.fence_audit.specs.Answers.{IsSearchIn, refused_place}
use Rattle.fence_audit.specs.Auditing.{IsAuditBy, IsEnough}
use Rattle.fence_audit.specs.Searches.{AreSearched, IsAsked, IsSearched, answer_in}
use Rattle.fence_audit.specs.declared.allowing.Allowance.{Allowance}
use Rattle.fence_audit.specs.declared.allowing.Allowance.TheVariants.{Broken, Kept}
use Rattle.fence_audit.specs.declared.allowing.Missing.{Missing}
use Rattle.fence_audit.specs.declared.auditing.Audit.{Audit}
use Rattle.fence_audit.specs.declared.answers.Answer.{Answer}
use Rattle.fence_audit.specs.declared.answers.Answer.TheVariants.{Same}
use Rattle.fence_audit.specs.declared.searches.Asking.{Asking}
use Rattle.fence_audit.specs.declared.searches.Search.{Search}
use Rattle.fence_audit.specs.declared.searches.World.{World}
use Rattle.image_orderings.specs.Adding.{patches_strengthened, places_of}
use Rattle.image_orderings.specs.Meeting.{IsMetOrNever, met_places}
use Rattle.image_orderings.specs.Programs.{patches_with}
use Rattle.image_orderings.specs.declared.replacing.Patch.{Patch}
use Rattle.machine_types.specs.declared.config.Config.{Config}

-- the program with its own word there again was searched
abbrev pub IsReverted : List Search → List Patch → Patch → Type 0
IsReverted searches patches own = IsAsked searches (patches_with own.address own.word patches)

-- each search is what it says; the program with all that it may order was searched, and where that is enough the last program, which is too, with each of its own words again
pub record IsAddition (asking : Asking) (own most : List Patch) (searches : List Search) (last : List Patch) : Type 0 where
  pub searched : AreSearched asking searches
  pub asked : IsAsked searches most
  pub enough : IsEnough most searches last
  pub each : answer_in searches most ≡ Some Same → All (IsReverted searches last) own

-- the same of a program of which this is known; the words that may order more are its own, all those to which a hart may come, while to the rest none ever does
pub record IsMissing (world : World) (image : Initial) (config : Config) (addresses : List ℕ) (window limit : ℕ) (answers : Architecture → Answer) (known : Architecture) (place : ℕ) (missing : Missing) : Type 0 where
  pub world_is : missing.world ≡ world
  pub known_is : missing.known ≡ known
  pub place_is : missing.place ≡ place
  pub own : missing.own.items ≡ met_places image (places_of image)
  pub never : All (λ (p : Patch). IsMetOrNever image p.address) (places_of image)
  pub most : missing.most.items ≡ patches_strengthened missing.own.items
  pub searched : All (IsSearched world image config addresses window limit answers) missing.searches.items
  pub asked : IsAsked missing.searches.items missing.most.items
  pub enough : IsEnough missing.most.items missing.searches.items missing.last.items
  pub each : answer_in missing.searches.items missing.most.items ≡ Some Same → All (IsReverted missing.searches.items missing.last.items) missing.own.items

-- the program has an outcome that isn't allowed, and this is what it lacks
pub record IsBroken (world : World) (image : Initial) (config : Config) (addresses : List ℕ) (window limit : ℕ) (answers : Architecture → Answer) (missing : Missing) : Type 0 where
  pub known : IsSearchIn world image config addresses window limit missing.known
  pub refused : refused_place (answers missing.known) ≡ Some missing.place
  pub lacks : IsMissing world image config addresses window limit answers missing.known missing.place missing

-- each outcome that was found of the program is allowed, and this is what it needs
pub record IsKept (world : World) (image : Initial) (config : Config) (addresses : List ℕ) (window limit : ℕ) (answers : Architecture → Answer) (audit : Audit) : Type 0 where
  pub allowed : refused_place (answers audit.known) ≡ None
  pub needs : IsAuditBy world image config addresses window limit answers audit

abbrev pub IsAllowance : World → Initial → Config → (addresses : List ℕ) → (window limit : ℕ) → (answers : Architecture → Answer) → Allowance → Type 0
IsAllowance world image config addresses window limit answers (Kept audit) = IsKept world image config addresses window limit answers audit
IsAllowance world image config addresses window limit answers (Broken missing) = IsBroken world image config addresses window limit answers missing
