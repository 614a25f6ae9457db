-- What an audit of a program's orderings has searched, and what it leaves.
use Rattle.std.specs.Prelude.{◌≡◌, ◌⊎◌, ℕ, All, Bool, List, None, Option, Some, slice_get, true}
use Rattle.elf_loader.specs.Image.{Initial, word_at}
use Rattle.architecture_outcomes.specs.declared.architecture.Architecture.{Architecture}
use Rattle.architecture_outcomes.specs.declared.failing.Failing.{Failing}
use Rattle.architecture_outcomes.specs.declared.outcome.Outcome.{Outcome}
use Rattle.architecture_outcomes.specs.declared.outcome.Way.{Way}
use Rattle.fence_audit.specs.Answers.{IsSearchIn, answer_as, is_whole}
use Rattle.fence_audit.specs.Searches.{AreSearched, IsAsked, IsSearched, answer_in, search_in}
use Rattle.fence_audit.specs.declared.answers.Answer.{Answer}
use Rattle.fence_audit.specs.declared.answers.Answer.TheVariants.{Bounded, Fewer, Other, Same, Stops}
use Rattle.fence_audit.specs.declared.auditing.Audit.{Audit}
use Rattle.fence_audit.specs.declared.auditing.Parts.{Parts}
use Rattle.fence_audit.specs.declared.searches.Asking.{Asking}
use Rattle.fence_audit.specs.declared.searches.Search.{Search}
use Rattle.fence_audit.specs.declared.searches.World.{World}
use Rattle.image_orderings.specs.Forms.{is_weaker, weaker_words}
use Rattle.image_orderings.specs.Meeting.{IsMetOrNever, met_orderings}
use Rattle.image_orderings.specs.Orderings.{orderings_of}
use Rattle.image_orderings.specs.Programs.{own_patches, patches_with, patches_without}
use Rattle.image_orderings.specs.Replaced.{addresses_of}
use Rattle.image_orderings.specs.declared.orderings.ImageOrdering.{ImageOrdering}
use Rattle.image_orderings.specs.declared.orderings.Part.{Part}
use Rattle.image_orderings.specs.declared.orderings.Part.TheVariants.{Acquire, Fence, Release}
use Rattle.image_orderings.specs.declared.replacing.Patch.{Patch}
use Rattle.machine_types.specs.declared.config.Config.{Config}
use Rattle.rv32_decode.specs.Rows.{decoded}

-- ---- each ordering by itself

-- the program without it was searched
abbrev pub IsLeftOut : List Search → List Patch → ImageOrdering → Type 0
IsLeftOut searches patches o = IsAsked searches (patches_without o patches)

-- it orders less than the word
abbrev pub is_below : (word weaker : ℕ) → Bool
is_below word weaker = is_weaker (decoded weaker) (decoded word)

-- the program with this word there has the same outcomes
abbrev pub IsSame : List Search → List Patch → (address word : ℕ) → Type 0
IsSame searches patches address word = answer_in searches (patches_with address word patches) ≡ Some Same

-- some word there that orders less than this one is enough
abbrev pub HasEnoughBelow : List Search → List Patch → (address word : ℕ) → Type 0
HasEnoughBelow searches patches address word =
    (weaker : ℕ) × (is_below word weaker ≡ true) × IsSame searches patches address weaker

-- the program with this word there was searched, or a weaker one is enough
abbrev pub IsWeighed : List Search → List Patch → (address word : ℕ) → Type 0
IsWeighed searches patches address word = IsAsked searches (patches_with address word patches) ⊎ HasEnoughBelow searches patches address word

-- where it is a FENCE without which there is another outcome, so is each weaker one
abbrev pub AreWeighedBy : Part → List Search → List Patch → (address word : ℕ) → Type 0
AreWeighedBy Fence searches patches address word = All (IsWeighed searches patches address) (weaker_words word)
AreWeighedBy Acquire searches patches address word = Unit {0}
AreWeighedBy Release searches patches address word = Unit {0}

abbrev pub AreWeighed : Initial → List Search → List Patch → ImageOrdering → Type 0
AreWeighed image searches patches o = (answer_in searches (patches_without o patches) ≡ Some Same) ⊎ AreWeighedBy o.part searches patches o.address (word_at image o.address)

-- ---- all together

-- it is the first program, or one that a search found to be enough, with words at the same addresses
pub record IsEnough (own : List Patch) (searches : List Search) (patches : List Patch) : Type 0 where
  pub outcomes : (patches ≡ own) ⊎ (answer_in searches patches ≡ Some Same)
  pub places : addresses_of patches ≡ addresses_of own

-- each search is what it says; the program without each ordering was searched, of each FENCE that is needed with each weaker one, and the last program, without each of its orderings
pub record IsReduction (asking : Asking) (orderings : List ImageOrdering) (own : List Patch) (searches : List Search) (last : List Patch) : Type 0 where
  pub searched : AreSearched asking searches
  pub alone : All (IsLeftOut searches own) orderings
  pub weighed : All (AreWeighed asking.question.image.now searches own) orderings
  pub enough : IsEnough own searches last
  pub each : All (IsLeftOut searches last) orderings

-- ---- an audit

-- all that orders was found, and to which of it a hart may come, while to the rest none ever does; where the program as it is was searched whole, it was searched without each ordering to which one may come, of each FENCE that is needed with each weaker one, and the last program, without each of its orderings; each search is what it says
pub record ArePartsOf (world : World) (image : Initial) (config : Config) (addresses : List ℕ) (window limit : ℕ) (answers : Architecture → Answer) (whole : Bool) (parts : Parts) : Type 0 where
  pub orderings : parts.orderings.items ≡ orderings_of image
  pub met : parts.met.items ≡ met_orderings image parts.orderings.items
  pub never : All (λ (o : ImageOrdering). IsMetOrNever image o.address) parts.orderings.items
  pub own : parts.own.items ≡ own_patches image parts.orderings.items
  pub searched : All (IsSearched world image config addresses window limit answers) parts.searches.items
  pub alone : whole ≡ true → All (IsLeftOut parts.searches.items parts.own.items) parts.met.items
  pub weighed : whole ≡ true → All (AreWeighed image parts.searches.items parts.own.items) parts.met.items
  pub enough : whole ≡ true → IsEnough parts.own.items parts.searches.items parts.last.items
  pub each : whole ≡ true → All (IsLeftOut parts.searches.items parts.last.items) parts.met.items

abbrev pub parts_in : Audit → Parts
parts_in audit = record { orderings = audit.orderings; met = audit.met; own = audit.own; searches = audit.searches; last = audit.last }

abbrev pub audit_with : World → Architecture → Parts → Audit
audit_with world known parts = record { world = world; known = known; orderings = parts.orderings; met = parts.met; own = parts.own; searches = parts.searches; last = parts.last }

-- the program as it is was searched, and then others, each beside what it is to have
pub record IsAuditBy (world : World) (image : Initial) (config : Config) (addresses : List ℕ) (window limit : ℕ) (answers : Architecture → Answer) (audit : Audit) : Type 0 where
  pub world_is : audit.world ≡ world
  pub known : IsSearchIn world image config addresses window limit audit.known
  pub parts : ArePartsOf world image config addresses window limit answers (is_whole audit.known) (parts_in audit)

-- each is to have the outcomes of the program as it is, and no other hart that stops
abbrev pub IsAudit : World → Initial → Config → (addresses : List ℕ) → (window limit : ℕ) → Audit → Type 0
IsAudit world image config addresses window limit audit = IsAuditBy world image config addresses window limit (answer_as audit.known) audit

-- ---- what shows that an ordering is needed

abbrev pub way_to : Option Outcome → Option Way
way_to None = None
way_to (Some outcome) = Some outcome.way

abbrev pub way_to_stop : Option Failing → Option Way
way_to_stop None = None
way_to_stop (Some failing) = Some failing.way

-- of the first outcome of a search that isn't one of those that there are to be, or else of the first hart that stops as none is to
abbrev pub shown_as : Architecture → Answer → Option Way
shown_as found (Other place) = way_to (slice_get found.outcomes.items place)
shown_as found (Stops place) = way_to_stop (slice_get found.failures.items place)
shown_as found Same = None
shown_as found (Fewer place) = None
shown_as found Bounded = None

abbrev pub shown_by : Search → Option Way
shown_by search = shown_as search.found search.answer

abbrev pub shown_in : Option Search → Option Way
shown_in None = None
shown_in (Some search) = shown_by search

-- of the program without the ordering
abbrev pub shown_without : Audit → ImageOrdering → Option Way
shown_without audit o = shown_in (search_in audit.searches.items (patches_without o audit.own.items))
