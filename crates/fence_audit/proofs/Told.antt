-- What was asked stays so whatever searches are added.
use Rattle.std.proofs.Common.{ℕ, ◌≡◌, ◌⊎◌, ◌∙◌, ◌==◌, ◌||◌, ◌++◌, ◌∷◌, [], All, Bool, List, None, Option, Some, ap, false, if◌then◌else◌, inl, inr, is_some, Err, Ok, OnOk, Result, option_map, refl, subst, sym, true}
use Rattle.std.specs.List.{list_any}
use Rattle.std.proofs.lemmas.List.{append-nil, append_assoc}
use Rattle.std.proofs.lemmas.List.Elements.{All-head, All-tail, All-weaker}
use Rattle.std.proofs.lemmas.Bool.{false≢true}
use Rattle.std.proofs.lemmas.Bool.Decides.{Decides-eqb}
use Rattle.std.specs.Cmp.Lexicographic.{pointwise}
use Rattle.elf_loader.specs.Image.{Initial, word_at}
use Rattle.fence_audit.specs.Adding.{IsAddition, IsAllowance, IsMissing, IsReverted}
use Rattle.fence_audit.specs.Answers.{IsSearchIn, answer_as, is_enough, is_whole, refused_place}
use Rattle.fence_audit.specs.Auditing.{ArePartsOf, AreWeighed, AreWeighedBy, HasEnoughBelow, IsAudit, IsAuditBy, IsEnough, IsLeftOut, IsReduction, IsSame, IsWeighed, audit_with, is_below}
use Rattle.std.specs.declared.alloc.AllocError.{AllocError}
use Rattle.fence_audit.specs.declared.searches.Asking.{Asking}
use Rattle.fence_audit.specs.Searches.{AreSearched, Grows, IsAsked, answer_in, are_same, is_of, search_in}
use Rattle.architecture_outcomes.specs.declared.architecture.Architecture.{Architecture}
use Rattle.fence_audit.specs.declared.allowing.Allowance.TheVariants.{Broken, Kept}
use Rattle.fence_audit.specs.declared.allowing.Missing.{Missing}
use Rattle.fence_audit.specs.declared.answers.Answer.{Answer}
use Rattle.fence_audit.specs.declared.auditing.Audit.{Audit}
use Rattle.fence_audit.specs.declared.auditing.Parts.{Parts}
use Rattle.machine_types.specs.declared.config.Config.{Config}
use Rattle.fence_audit.specs.declared.answers.Answer.TheVariants.{Bounded, Fewer, Other, Same, Stops}
use Rattle.fence_audit.specs.declared.searches.Search.{Search}
use Rattle.fence_audit.specs.declared.searches.World.{World}
use Rattle.image_orderings.proofs.Variants.{variant_of_variant}
use Rattle.image_orderings.specs.Forms.{IsVariant, weaker_words}
use Rattle.image_orderings.specs.Programs.{patches_with, patches_without}
use Rattle.image_orderings.specs.Replaced.{addresses_of}
use Rattle.image_orderings.specs.declared.orderings.ImageOrdering.{ImageOrdering}
use Rattle.image_orderings.specs.declared.orderings.Part.{Part}
use Rattle.image_orderings.specs.declared.orderings.Part.TheVariants.{Acquire, Fence, Release}
use Rattle.image_orderings.specs.declared.replacing.Patch.{Patch}

-- ---- more searches

pub none_more : (old : List Search) → Grows old old
none_more old = ([], sym (append-nil old))

pub grows_on : (old mid new : List Search) → Grows old mid → Grows mid new → Grows old new
grows_on old mid new (a, e) (b, f) = (a ++ b, f ∙ (ap (λ (xs : List Search). xs ++ b) e ∙ append_assoc old a b))

answer_on : (searches more : List Search) (patches : List Patch) (answer : Answer) → answer_in searches patches ≡ Some answer → answer_in (searches ++ more) patches ≡ Some answer
answer_on [] more patches answer is =
    let bad : None ≡ Some answer = is in cc
answer_on (x ∷ rest) more patches answer is = go (is_of patches x) is (λ later. answer_on rest more patches answer later)
  where
    go : (b : Bool) → option_map (λ (s : Search). s.answer) (if b then Some x else search_in rest patches) ≡ Some answer
        → (answer_in rest patches ≡ Some answer → answer_in (rest ++ more) patches ≡ Some answer)
        → option_map (λ (s : Search). s.answer) (if b then Some x else search_in (rest ++ more) patches) ≡ Some answer
    go true is later = is
    go false is later = later is

asked_on : (searches more : List Search) (patches : List Patch) → IsAsked searches patches → IsAsked (searches ++ more) patches
asked_on [] more patches is = absurd (false≢true is)
asked_on (x ∷ rest) more patches is = go (is_of patches x) is (λ later. asked_on rest more patches later)
  where
    go : (b : Bool) → is_some (if b then Some x else search_in rest patches) ≡ true → (IsAsked rest patches → IsAsked (rest ++ more) patches)
        → is_some (if b then Some x else search_in (rest ++ more) patches) ≡ true
    go true is later = is
    go false is later = later is

pub answer_stays : (old new : List Search) (patches : List Patch) (answer : Answer) → Grows old new → answer_in old patches ≡ Some answer → answer_in new patches ≡ Some answer
answer_stays old new patches answer (added, e) is = subst (λ (xs : List Search). answer_in xs patches ≡ Some answer) (sym e) (answer_on old added patches answer is)

pub asked_stays : (old new : List Search) (patches : List Patch) → Grows old new → IsAsked old patches → IsAsked new patches
asked_stays old new patches (added, e) is = subst (λ (xs : List Search). IsAsked xs patches) (sym e) (asked_on old added patches is)

-- what has an answer was asked
pub answered : (searches : List Search) (patches : List Patch) (answer : Answer) → answer_in searches patches ≡ Some answer → IsAsked searches patches
answered searches patches answer is = go (search_in searches patches) is
  where
    go : (o : Option Search) → option_map (λ (s : Search). s.answer) o ≡ Some answer → is_some o ≡ true
    go None is =
        let bad : None ≡ Some answer = is in cc
    go (Some s) is = refl

-- ---- one search more

same_number : (n : ℕ) → (n == n) ≡ true
same_number n = (Decides-eqb n n).1 refl

of_itself : (patches : List Patch) → pointwise are_same patches patches ≡ true
of_itself [] = refl
of_itself (p ∷ rest) = rw (same_number p.address, same_number p.word, of_itself rest) refl

pub first_asked : (searches new : List Search) (search : Search) (patches : List Patch) → None ≡ search_in searches patches → search.patches.items ≡ patches → new ≡ searches ++ search ∷ []
    → answer_in new patches ≡ Some search.answer
first_asked searches new search patches none own e =
    subst (λ (xs : List Search). answer_in xs patches ≡ Some search.answer) (sym e)
    (go searches (sym none))
  where
    is : is_of patches search ≡ true
    is = subst (λ (xs : List Patch). pointwise are_same xs patches ≡ true) (sym own) (of_itself patches)

    at : (b : Bool) → b ≡ true → option_map (λ (s : Search). s.answer) (if b then Some search else None) ≡ Some search.answer
    at true is = refl
    at false is = absurd (false≢true is)

    go : (xs : List Search) → search_in xs patches ≡ None → answer_in (xs ++ search ∷ []) patches ≡ Some search.answer
    go [] none = at (is_of patches search) is
    go (x ∷ rest) none = pass (is_of patches x) none (λ later. go rest later)
      where
        pass : (b : Bool) → (if b then Some x else search_in rest patches) ≡ None → (search_in rest patches ≡ None → answer_in (rest ++ search ∷ []) patches ≡ Some search.answer)
            → option_map (λ (s : Search). s.answer) (if b then Some x else search_in (rest ++ search ∷ []) patches) ≡ Some search.answer
        pass true none later =
            let bad : Some x ≡ None = none in cc
        pass false none later = later none

-- ---- what is said of searches stays so

pub each_asked_stays : (old new : List Search) (patches : List Patch) (orderings : List ImageOrdering) → Grows old new → All (IsLeftOut old patches) orderings → All (IsLeftOut new patches) orderings
each_asked_stays old new patches orderings grown all =
    All-weaker (IsLeftOut old patches) (IsLeftOut new patches) (λ o is. asked_stays old new (patches_without o patches) grown is) orderings all

pub weighed_stays : (old new : List Search) (patches : List Patch) (address word : ℕ) → Grows old new → IsWeighed old patches address word → IsWeighed new patches address word
weighed_stays old new patches address word grown (inl is) = inl (asked_stays old new (patches_with address word patches) grown is)
weighed_stays old new patches address word grown (inr (v, below, is)) = inr (v, below, answer_stays old new (patches_with address v patches) Same grown is)

pub each_weighed_stays : (old new : List Search) (patches : List Patch) (address : ℕ) (words : List ℕ) → Grows old new → All (IsWeighed old patches address) words → All (IsWeighed new patches address) words
each_weighed_stays old new patches address words grown all = All-weaker (IsWeighed old patches address) (IsWeighed new patches address) (λ w is. weighed_stays old new patches address w grown is) words all

are_weighed_by_stay : (p : Part) (old new : List Search) (patches : List Patch) (address word : ℕ) → Grows old new → AreWeighedBy p old patches address word → AreWeighedBy p new patches address word
are_weighed_by_stay Fence old new patches address word grown all = each_weighed_stays old new patches address (weaker_words word) grown all
are_weighed_by_stay Acquire old new patches address word grown all = tt
are_weighed_by_stay Release old new patches address word grown all = tt

are_weighed_stay : (image : Initial) (old new : List Search) (patches : List Patch) (o : ImageOrdering) → Grows old new → AreWeighed image old patches o → AreWeighed image new patches o
are_weighed_stay image old new patches o grown (inl is) = inl (answer_stays old new (patches_without o patches) Same grown is)
are_weighed_stay image old new patches o grown (inr all) = inr (are_weighed_by_stay o.part old new patches o.address (word_at image o.address) grown all)

pub each_are_weighed_stay : (image : Initial) (old new : List Search) (patches : List Patch) (orderings : List ImageOrdering) → Grows old new → All (AreWeighed image old patches) orderings → All (AreWeighed image new patches) orderings
each_are_weighed_stay image old new patches orderings grown all =
    All-weaker (AreWeighed image old patches) (AreWeighed image new patches) (λ o is. are_weighed_stay image old new patches o grown is) orderings all

pub each_reverted_stays : (old new : List Search) (patches own : List Patch) → Grows old new → All (IsReverted old patches) own → All (IsReverted new patches) own
each_reverted_stays old new patches own grown all =
    All-weaker (IsReverted old patches) (IsReverted new patches) (λ p is. asked_stays old new (patches_with p.address p.word patches) grown is) own all

pub enough_stays : (own : List Patch) (old new : List Search) (patches : List Patch) → Grows old new → IsEnough own old patches → IsEnough own new patches
enough_stays own old new patches grown is = record { outcomes = go is.outcomes; places = is.places }
  where
    go : (patches ≡ own) ⊎ (answer_in old patches ≡ Some Same) → (patches ≡ own) ⊎ (answer_in new patches ≡ Some Same)
    go (inl same) = inl same
    go (inr asked) = inr (answer_stays old new patches Same grown asked)

-- the first program, and one that was found to be
pub enough_first : (own : List Patch) (searches : List Search) (patches : List Patch) → patches ≡ own → IsEnough own searches patches
enough_first own searches patches is = record { outcomes = inl is; places = ap addresses_of is }

pub enough_found : (own : List Patch) (old new : List Search) (last patches asked : List Patch) (answer : Answer) → asked ≡ patches → answer_in new asked ≡ Some answer → answer ≡ Same
    → addresses_of patches ≡ addresses_of last → IsEnough own old last → IsEnough own new patches
enough_found own old new last patches asked answer are told same places was = record {
  outcomes = inr (subst (λ (ps : List Patch). answer_in new ps ≡ Some Same) are (told ∙ ap Some same));
  places = places ∙ was.places;
}

pub each_same_stays : (old new : List Search) (patches : List Patch) (address : ℕ) (words : List ℕ) → Grows old new → All (IsSame old patches address) words → All (IsSame new patches address) words
each_same_stays old new patches address words grown all = All-weaker (IsSame old patches address) (IsSame new patches address) (λ w is. answer_stays old new (patches_with address w patches) Same grown is) words all

-- one of the words that are enough is weaker
pub below_enough : (searches : List Search) (patches : List Patch) (address word : ℕ) (words : List ℕ) → All (IsSame searches patches address) words → list_any (is_below word) words ≡ true
    → HasEnoughBelow searches patches address word
below_enough searches patches address word [] all some = absurd (false≢true some)
below_enough searches patches address word (v ∷ rest) all some =
    go (is_below word v) refl some (λ later. below_enough searches patches address word rest (All-tail (IsSame searches patches address) v rest all) later)
  where
    go : (b : Bool) → is_below word v ≡ b → (b || list_any (is_below word) rest) ≡ true → (list_any (is_below word) rest ≡ true → HasEnoughBelow searches patches address word)
        → HasEnoughBelow searches patches address word
    go true is some later = (v, is, All-head (IsSame searches patches address) v rest all)
    go false is some later = later some

-- a FENCE that is needed, beside weaker ones
pub fence_weighed : (image : Initial) (searches : List Search) (own : List Patch) (o : ImageOrdering) (word : ℕ) → o.part ≡ Fence → word ≡ word_at image o.address
    → All (IsWeighed searches own o.address) (weaker_words word) → AreWeighed image searches own o
fence_weighed image searches own o word is at all =
    inr (subst (λ (p : Part). AreWeighedBy p searches own o.address (word_at image o.address)) (sym is) (subst (λ w. All (IsWeighed searches own o.address) (weaker_words w)) at all))

-- words in place of one that differs from the image's at most in what it orders
pub variants_of : (image : Initial) (address word : ℕ) (words : List ℕ) → IsVariant (word_at image address) word → All (IsVariant word) words → All (IsVariant (word_at image address)) words
variants_of image address word words first all = All-weaker (IsVariant word) (IsVariant (word_at image address)) (λ w is. variant_of_variant (word_at image address) word w first is) words all

-- what a call's success says
pub ok_more : {T : Type 0} (P Q : Type 0) (r : Result T AllocError) → (P → Q) → OnOk r P → OnOk r Q
ok_more P Q (Ok done) f so = f so
ok_more P Q (Err error) f so = tt

-- the searches of an audit, one after another
pub reduction : (asking : Asking) (orderings : List ImageOrdering) (own last last' : List Patch) (first second third all : List Search)
    → All (IsLeftOut first own) orderings → Grows first second → All (AreWeighed asking.question.image.now second own) orderings → Grows second third → IsEnough own third last
    → Grows third all → last' ≡ last → All (IsLeftOut all last') orderings → AreSearched asking all → IsReduction asking orderings own all last
reduction asking orderings own last last' first second third all alone one weighed two enough three is each searched = record {
  searched = searched;
  alone = each_asked_stays first all own orderings (grows_on first second all one (grows_on second third all two three)) alone;
  weighed = each_are_weighed_stay asking.question.image.now second all own orderings (grows_on second third all two three) weighed;
  enough = enough_stays own third all last three enough;
  each = subst (λ (patches : List Patch). All (IsLeftOut all patches) orderings) is each;
}

-- what is enough, and what isn't
pub same_of : (answer : Answer) (b : Bool) → b ≡ is_enough answer → b ≡ true → answer ≡ Same
same_of Same b is so = refl
same_of (Other place) b is so = absurd (false≢true (sym is ∙ so))
same_of (Stops place) b is so = absurd (false≢true (sym is ∙ so))
same_of (Fewer place) b is so = absurd (false≢true (sym is ∙ so))
same_of Bounded b is so = absurd (false≢true (sym is ∙ so))

pub not_enough : (searches : List Search) (patches : List Patch) (answer : Answer) (b : Bool) → answer_in searches patches ≡ Some answer → b ≡ is_enough answer → b ≡ false
    → answer_in searches patches ≡ Some Same → ⊥
not_enough searches patches Same b asked is other same = false≢true (sym other ∙ is)
not_enough searches patches (Other place) b asked is other same =
    let bad : Some (Other place) ≡ Some Same = sym asked ∙ same in cc
not_enough searches patches (Stops place) b asked is other same =
    let bad : Some (Stops place) ≡ Some Same = sym asked ∙ same in cc
not_enough searches patches (Fewer place) b asked is other same =
    let bad : Some (Fewer place) ≡ Some Same = sym asked ∙ same in cc
not_enough searches patches Bounded b asked is other same =
    let bad : Some Bounded ≡ Some Same = sym asked ∙ same in cc

-- where all that may be ordered is not enough
pub not_added : (asking : Asking) (own most last : List Patch) (searches : List Search) (answer : Answer) (b : Bool) → answer_in searches most ≡ Some answer → b ≡ is_enough answer → b ≡ false
    → last ≡ most → AreSearched asking searches → IsAddition asking own most searches last
not_added asking own most last searches answer b asked is other as_it_was searched = record {
  searched = searched;
  asked = answered searches most answer asked;
  enough = enough_first most searches last as_it_was;
  each = λ same. absurd (not_enough searches most answer b asked is other same);
}

-- the searches of programs with more orderings: all of them, which is enough, and then fewer
pub addition : (asking : Asking) (own most last : List Patch) (first all : List Search) → answer_in first most ≡ Some Same → Grows first all → IsEnough most all last
    → All (IsReverted all last) own → AreSearched asking all → IsAddition asking own most all last
addition asking own most last first all same grown enough each searched = record {
  searched = searched;
  asked = asked_stays first all most grown (answered first most Same same);
  enough = enough;
  each = λ is. each;
}

-- the same of equal lists
pub addition_of : (asking : Asking) (own own' most most' last : List Patch) (searches : List Search) → own ≡ own' → most ≡ most' → IsAddition asking own most searches last → IsAddition asking own' most' searches last
addition_of asking own own' most most' last searches e f is =
    subst (λ (ps : List Patch). IsAddition asking own' ps searches last) f (subst (λ (ps : List Patch). IsAddition asking ps most searches last) e is)

-- ---- an audit

module _ (world : World) (image : Initial) (config : Config) (addresses : List ℕ) (window limit : ℕ) where
  pub audited : (answers : Architecture → Answer) (known : Architecture) (parts : Parts) (audit : Audit) (whole : Bool) → IsSearchIn world image config addresses window limit known
      → ArePartsOf world image config addresses window limit answers whole parts → whole ≡ is_whole known → audit ≡ audit_with world known parts → IsAuditBy world image config addresses window limit answers audit
  audited answers known parts audit whole found are is made =
      subst (IsAuditBy world image config addresses window limit answers) (sym made)
      (record { world_is = refl; known = found; parts = subst (λ (b : Bool). ArePartsOf world image config addresses window limit answers b parts) is are })

  -- beside its own outcomes
  pub audited_as : (known : Architecture) (parts : Parts) (audit : Audit) (whole : Bool) → IsSearchIn world image config addresses window limit known
      → ArePartsOf world image config addresses window limit (answer_as known) whole parts → whole ≡ is_whole known → audit ≡ audit_with world known parts → IsAudit world image config addresses window limit audit
  audited_as known parts audit whole found are is made =
      subst (IsAudit world image config addresses window limit) (sym made)
      (record { world_is = refl; known = found; parts = subst (λ (b : Bool). ArePartsOf world image config addresses window limit (answer_as known) b parts) is are })

  -- and beside what is allowed
  pub kept : (answers : Architecture → Answer) (known : Architecture) (parts : Parts) (audit : Audit) (whole : Bool) → refused_place (answers known) ≡ None → IsSearchIn world image config addresses window limit known
      → ArePartsOf world image config addresses window limit answers whole parts → whole ≡ is_whole known → audit ≡ audit_with world known parts → IsAllowance world image config addresses window limit answers (Kept audit)
  kept answers known parts audit whole none found are is made =
      record {
        allowed = subst (λ (a : Audit). refused_place (answers a.known) ≡ None) (sym made) none;
        needs = audited answers known parts audit whole found are is made;
      }

  pub broken : (answers : Architecture → Answer) (known : Architecture) (place : ℕ) (missing : Missing) → refused_place (answers known) ≡ Some place → IsSearchIn world image config addresses window limit known
      → IsMissing world image config addresses window limit answers known place missing → IsAllowance world image config addresses window limit answers (Broken missing)
  broken answers known place missing refused found lacks =
      let known_is = sym lacks.known_is in
      let place_is = sym lacks.place_is in
      record {
        known = subst (IsSearchIn world image config addresses window limit) known_is found;
        refused = subst (λ (k : Architecture). refused_place (answers k) ≡ Some missing.place) known_is (subst (λ (p : ℕ). refused_place (answers known) ≡ Some p) place_is refused);
        lacks = subst (λ (k : Architecture). IsMissing world image config addresses window limit answers k missing.place missing) known_is
            (subst (λ (p : ℕ). IsMissing world image config addresses window limit answers known p missing) place_is lacks);
      }
