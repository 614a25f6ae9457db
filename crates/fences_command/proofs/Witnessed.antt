-- What shows that an ordering is needed is right itself: it shows an outcome, or a hart that stops, of the program without it.
use Rattle.std.proofs.Common.{◌≡◌, ◌⊎◌, ◌∷◌, [], All, Bool, List, None, Option, Some, false, if◌then◌else◌, inl, inr, refl, subst, suc, true, zero, ℕ}
use Rattle.std.proofs.lemmas.List.Elements.{All-head, All-tail}
use Rattle.std.specs.Prelude.{slice_get}
use Rattle.architecture_outcomes.specs.Failings.{IsShown, IsShownBy}
use Rattle.architecture_outcomes.specs.Outcomes.{IsWitnessed, IsWitnessedBy}
use Rattle.architecture_outcomes.specs.declared.architecture.Architecture.{Architecture}
use Rattle.architecture_outcomes.specs.declared.failing.Failing.{Failing}
use Rattle.architecture_outcomes.specs.declared.outcome.Outcome.{Outcome}
use Rattle.architecture_outcomes.specs.declared.outcome.Way.{Way}
use Rattle.elf_loader.specs.Image.{Initial}
use Rattle.fence_audit.specs.Answers.{IsSearchIn}
use Rattle.fence_audit.specs.Auditing.{shown_as, shown_by, shown_in, shown_without, way_to, way_to_stop}
use Rattle.fence_audit.specs.Searches.{IsSearched, is_of, search_in}
use Rattle.fence_audit.specs.declared.answers.Answer.{Answer}
use Rattle.fence_audit.specs.declared.answers.Answer.TheVariants.{Bounded, Fewer, Other, Same, Stops}
use Rattle.fence_audit.specs.declared.auditing.Audit.{Audit}
use Rattle.fence_audit.specs.declared.searches.Search.{Search}
use Rattle.fence_audit.specs.declared.searches.World.{World}
use Rattle.fence_audit.specs.declared.searches.World.TheVariants.{Machine, Model}
use Rattle.image_orderings.specs.Programs.{patches_without}
use Rattle.image_orderings.specs.Replaced.{IsPatchOf, patched}
use Rattle.image_orderings.specs.declared.orderings.ImageOrdering.{ImageOrdering}
use Rattle.image_orderings.specs.declared.replacing.Patch.{Patch}
use Rattle.machine_types.specs.declared.config.Config.{Config}

-- ---- of a list

got_of : (A : Type 0) (P : A → Type 0) (xs : List A) (i : ℕ) (x : A) → All P xs → slice_get xs i ≡ Some x → P x
got_of A P [] i x all is = cc
got_of A P (y ∷ ys) zero x all is = subst P (some_of is) (All-head P y ys all)
  where
    some_of : ◌≡◌ {A = Option A} (Some y) (Some x) → y ≡ x
    some_of same = cc
got_of A P (y ∷ ys) (suc i) x all is = got_of A P ys i x (All-tail P y ys all) is

found_of : (P : Search → Type 0) (searches : List Search) (patches : List Patch) (s : Search) → All P searches → search_in searches patches ≡ Some s → P s
found_of P [] patches s all is = cc
found_of P (x ∷ rest) patches s all is = go (is_of patches x) (found_of P rest patches s (All-tail P x rest all)) is
  where
    go : (b : Bool) → (search_in rest patches ≡ Some s → P s) → (if b then Some x else search_in rest patches) ≡ Some s → P s
    go true later at =
        let is : x ≡ s = cc in subst P is (All-head P x rest all)
    go false later at = later at

no_way : (X : Type 0) (way : Way) → ◌≡◌ {A = Option Way} None (Some way) → X
no_way X way is = cc

same_way : (one other : Way) → ◌≡◌ {A = Option Way} (Some one) (Some other) → one ≡ other
same_way one other is = cc

-- ---- of an audit

witnessed : (world : World) (image : Initial) (config : Config) (addresses : List ℕ) (window limit : ℕ) (found : Architecture) → IsSearchIn world image config addresses window limit found → All (IsWitnessed image config addresses) found.outcomes.items
witnessed Model image config addresses window limit found is = is.shown
witnessed Machine image config addresses window limit found is = is.shown

stopped : (world : World) (image : Initial) (config : Config) (addresses : List ℕ) (window limit : ℕ) (found : Architecture) → IsSearchIn world image config addresses window limit found → All (IsShown image config addresses) found.failures.items
stopped Model image config addresses window limit found is = is.stopped
stopped Machine image config addresses window limit found is = is.stopped

-- it shows an outcome, or a hart that stops
abbrev pub ShowsSome : Initial → Config → (addresses : List ℕ) → Way → Type 0
ShowsSome image config addresses way = ((o : Outcome) × IsWitnessedBy image config addresses o way) ⊎ ((f : Failing) × IsShownBy image config addresses f.failure way)

-- of a program with words replaced
pub record IsShownOf (image : Initial) (config : Config) (addresses : List ℕ) (way : Way) : Type 0 where
  pub words : List Patch
  pub places : All (IsPatchOf image) words
  pub shown : ShowsSome (patched image words) config addresses way

module _ (image : Initial) (config : Config) (addresses : List ℕ) (found : Architecture) (outcomes : All (IsWitnessed image config addresses) found.outcomes.items) (stops : All (IsShown image config addresses) found.failures.items) where
  by_outcome : (r : Option Outcome) (way : Way) → ((o : Outcome) → r ≡ Some o → IsWitnessed image config addresses o) → way_to r ≡ Some way → ShowsSome image config addresses way
  by_outcome None way is at = no_way (ShowsSome image config addresses way) way at
  by_outcome (Some o) way is at = inl (o, subst (IsWitnessedBy image config addresses o) (same_way o.way way at) (is o refl))

  by_stop : (r : Option Failing) (way : Way) → ((f : Failing) → r ≡ Some f → IsShown image config addresses f) → way_to_stop r ≡ Some way → ShowsSome image config addresses way
  by_stop None way is at = no_way (ShowsSome image config addresses way) way at
  by_stop (Some f) way is at = inr (f, subst (IsShownBy image config addresses f.failure) (same_way f.way way at) (is f refl))

  by_answer : (answer : Answer) (way : Way) → shown_as found answer ≡ Some way → ShowsSome image config addresses way
  by_answer (Other place) way at = by_outcome (slice_get found.outcomes.items place) way (λ o is. got_of Outcome (IsWitnessed image config addresses) found.outcomes.items place o outcomes is) at
  by_answer (Stops place) way at = by_stop (slice_get found.failures.items place) way (λ f is. got_of Failing (IsShown image config addresses) found.failures.items place f stops is) at
  by_answer Same way at = no_way (ShowsSome image config addresses way) way at
  by_answer (Fewer place) way at = no_way (ShowsSome image config addresses way) way at
  by_answer Bounded way at = no_way (ShowsSome image config addresses way) way at

module _ (world : World) (image : Initial) (config : Config) (addresses : List ℕ) (window limit : ℕ) (answers : Architecture → Answer) where
  by_search : (s : Search) (way : Way) → IsSearched world image config addresses window limit answers s → shown_by s ≡ Some way → IsShownOf image config addresses way
  by_search s way is at =
      let image' = patched image s.patches.items in
      record {
        words = s.patches.items;
        places = is.patches;
        shown = by_answer image' config addresses s.found (witnessed world image' config addresses window limit s.found is.found) (stopped world image' config addresses window limit s.found is.found) s.answer way at;
      }

  pub shown_of : (audit : Audit) (o : ImageOrdering) (way : Way) → All (IsSearched world image config addresses window limit answers) audit.searches.items → shown_without audit o ≡ Some way → IsShownOf image config addresses way
  shown_of audit o way searched shown = go (search_in audit.searches.items (patches_without o audit.own.items)) refl shown
    where
      go : (r : Option Search) → search_in audit.searches.items (patches_without o audit.own.items) ≡ r → shown_in r ≡ Some way → IsShownOf image config addresses way
      go None none at = no_way (IsShownOf image config addresses way) way at
      go (Some s) found at = by_search s way (found_of (IsSearched world image config addresses window limit answers) audit.searches.items (patches_without o audit.own.items) s searched found) at
