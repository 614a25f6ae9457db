-- The searches of an audit, each of an image with words replaced.
use Rattle.std.specs.Prelude.{All, ◌<◌, ◌≡◌, ◌&&◌, ◌==◌, ◌++◌, ℕ, [], ◌∷◌, Bool, List, None, Option, Some, if◌then◌else◌, is_some, option_map, true}
use Rattle.std.specs.Cmp.Lexicographic.{pointwise}
use Rattle.architecture_outcomes.specs.declared.architecture.Architecture.{Architecture}
use Rattle.elf_loader.specs.Image.{Initial}
use Rattle.fence_audit.specs.Answers.{IsSearchIn, answer_of}
use Rattle.fence_audit.specs.declared.answers.Answer.{Answer}
use Rattle.architecture_outcomes.specs.Words.{CanShowEach}
use Rattle.fence_audit.specs.declared.searches.Asking.{Asking}
use Rattle.fence_audit.specs.declared.searches.Question.{Question}
use Rattle.fence_audit.specs.declared.searches.Search.{Search}
use Rattle.fence_audit.specs.declared.searches.World.{World}
use Rattle.image_orderings.specs.Replaced.{IsPatchOf, patched}
use Rattle.image_orderings.specs.declared.replacing.Patch.{Patch}
use Rattle.machine_types.specs.declared.config.Config.{Config}

-- it is of the image with these words replaced, each by one that differs from it at most in what it orders, and answers by what it found
pub record IsSearched (world : World) (image : Initial) (config : Config) (addresses : List ℕ) (window limit : ℕ) (answers : Architecture → Answer) (search : Search) : Type 0 where
  pub patches : All (IsPatchOf image) search.patches.items
  pub found : IsSearchIn world (patched image search.patches.items) config addresses window limit search.found
  pub answer : search.answer ≡ answers search.found

abbrev pub are_same : Patch → Patch → Bool
are_same a b = a.address == b.address && a.word == b.word

-- it is of the image with these words replaced
abbrev pub is_of : List Patch → Search → Bool
is_of patches search = pointwise are_same search.patches.items patches

-- the first search of the image with these words replaced, if there is one
abbrev pub search_in : List Search → List Patch → Option Search
search_in [] patches = None
search_in (search ∷ rest) patches = if is_of patches search then Some search else search_in rest patches

abbrev pub answer_in : List Search → List Patch → Option Answer
answer_in searches patches = option_map (λ (s : Search). s.answer) (search_in searches patches)

-- there is one
abbrev pub IsAsked : List Search → List Patch → Type 0
IsAsked searches patches = is_some (search_in searches patches) ≡ true

-- some searches were added
abbrev pub Grows : (old new : List Search) → Type 0
Grows old new = (added : List Search) × (new ≡ old ++ added)

-- ---- what an audit's searches have in common

-- a state may be found, and words lie where they are to be shown
pub record IsReady (question : Question) : Type 0 where
  pub room : 0 < question.limit
  pub words : CanShowEach question.image.now question.addresses.now

-- words lie where they are replaced, and differ from the program's own at most in what they order
abbrev pub ArePatchesOf : Question → List Patch → Type 0
ArePatchesOf question patches = All (IsPatchOf question.image.now) patches

abbrev pub IsSearchedBy : Asking → Search → Type 0
IsSearchedBy asking search =
    IsSearched asking.question.world asking.question.image.now asking.question.config asking.question.addresses.now asking.question.window asking.question.limit (answer_of asking.standard) search

abbrev pub AreSearched : Asking → List Search → Type 0
AreSearched asking searches = All (IsSearchedBy asking) searches
