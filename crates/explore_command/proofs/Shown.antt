-- What is known of an exploration that shows words, and what its faults say and leave.
use Rattle.std.proofs.Common.{◌≡◌, ◌≢◌, ◌∙◌, ◌⊎◌, ◌≤◌, ℕ, [], ◌∷◌, ◌++◌, IfSome, List, Option, ap, get_or, inl, inr, length, map, subst}
use Rattle.std.specs.Io.KnownBytes.{Appends}
use Rattle.command_files.specs.Faults.{Name}
use Rattle.command_files.specs.Contents.{Contents}
use Rattle.command_files.specs.Sizes.{IsInside, config_named}
use Rattle.command_files.specs.declared.fault.Fault.{Fault}
use Rattle.command_settings.specs.declared.wanted.Show.{Show}
use Rattle.elf_loader.specs.Image.{Initial}
use Rattle.elf_symbols.specs.Named.{Named}
use Rattle.exploration_text.specs.declared.wording.WordName.{WordName}
use Rattle.exploration_text.specs.Words.{end_text, exploration_text}
use Rattle.explore_command.proofs.Explored.{judged}
use Rattle.command_files.specs.Allowing.{IsAllowFile}
use Rattle.explore_command.specs.Exploring.{IsExploreFault, IsFoundIn, exploration_fails}
use Rattle.explore_command.proofs.Refused.{refusals_in}
use Rattle.explore_command.proofs.Sought.{ends_judged}
use Rattle.explore_command.specs.Sought.{EndsBy}
use Rattle.explore_command.specs.Judging.{HaveRefusals, IsJudged, judgement_of_lines, refusals}
use Rattle.explore_command.specs.Keeping.{AreKept, HasName, IsInNamed, IsScriptOf, SparesOthers}
use Rattle.command_files.specs.declared.allowing.Judgement.{Judgement}
use Rattle.command_files.specs.declared.allowing.Judgement.TheVariants.{Allowed}
use Rattle.explorer.specs.declared.exploration.Exploration.{Exploration}
use Rattle.flat_exploration.specs.Outcomes.{Outcome}
use Rattle.machine_types.specs.declared.config.Config.{Config}
use Rattle.explore_command.specs.Asking.{HasProgramBy, HasUnshown}
use Rattle.explore_command.specs.Showing.{AreWordsShown, IsFirstOf, IsOfFile, IsShowFault, WordRefusals, WordsHave}
use Rattle.search_files.specs.Targets.{AreAddressesOf, names_of}
use Rattle.command_files.specs.Named.{HoldsNamedImage}
use Rattle.state_search.specs.declared.findings.Extent.TheVariants as extent
use Rattle.explorer.specs.Ends.{outcome_of}

-- ---- what is allowed

-- the judgement on the lines of ends, by the names that the words have
pub judged_of : {X : Type 0} (outcome : X → Outcome) (held : Contents) (allow : Option Name) (text : Option (List ℕ)) (names told : List WordName) (xs : List X) (fails : List ℕ) (judgement : Judgement) → names ≡ told → IsAllowFile held allow text
    → judgement ≡ judgement_of_lines text (map (λ x. end_text names (outcome x)) xs) fails → IsJudged held allow (map (λ x. end_text told (outcome x)) xs) fails judgement
judged_of outcome held allow text names told xs fails judgement same read is =
    judged held allow text (map (λ x. end_text told (outcome x)) xs) fails judgement read (is ∙ ap (λ (n : List WordName). judgement_of_lines text (map (λ x. end_text n (outcome x)) xs) fails) same)

-- what is to be told of the lines of ends
pub told_of : {X : Type 0} (outcome : X → Outcome) (held : Contents) (allow : Option Name) (text : Option (List ℕ)) (names told : List WordName) (xs : List X) (fails : List ℕ) (P : List ℕ → Type 0) → names ≡ told → IsAllowFile held allow text
    → P (refusals text (map (λ x. end_text names (outcome x)) xs) ++ fails) → HaveRefusals held allow (map (λ x. end_text told (outcome x)) xs) fails P
told_of outcome held allow text names told xs fails P same read so =
    refusals_in held allow text (map (λ x. end_text told (outcome x)) xs) fails P read (subst (λ (n : List WordName). P (refusals text (map (λ x. end_text n (outcome x)) xs) ++ fails)) same so)

-- ---- what was found

module _ (held : Contents) (show : Show) (config : Config) (image : Initial) (symbols : List Named) (addresses : List ℕ) (words : List Name) (names : List WordName) (found : Exploration) (inside : IsInside show.explore.machine) (config_is : config ≡ config_named show.explore.machine inside)
    (words_are : words ≡ show.words.items) (program : HasProgramBy held show.explore words image symbols addresses) (named : names ≡ names_of words) (is : IsFoundIn image config addresses show.explore.states found) where
  pub of_file : IsOfFile held show found
  of_file = record {
    image = image;
    addresses = addresses;
    program = record {
      symbols = symbols;
      image_file = subst (λ (s : List Named). HoldsNamedImage held show.explore.raw show.explore.image.now show.explore.machine.memory image s) program.1 program.0.image_file;
      placed = subst (λ (w : List Name). AreAddressesOf symbols w addresses) words_are (subst (λ (s : List Named). AreAddressesOf s words addresses) program.1 program.0.placed);
      inside = program.0.inside;
    };
    inside = inside;
    found = subst (λ (c : Config). IsFoundIn image c addresses show.explore.states found) config_is is;
  }

  pub names_are : names ≡ names_of show.words.items
  names_are = named ∙ ap names_of words_are

  -- what holds of the text that these names make, holds of what was found
  pub has : (P : List ℕ → Type 0) → P (exploration_text names symbols found) → WordsHave held show P
  unfolding of_file
  has P so = record { exploration = found; of_file = of_file; of_text = subst (λ (n : List WordName). P (exploration_text n symbols found)) names_are so }

  -- and so with what is to be told of its outcomes
  pub refused : (old new : Option (List ℕ)) (P : List ℕ → Type 0) (text : Option (List ℕ)) → Appends old new (exploration_text names symbols found) → IsAllowFile held show.explore.allow text
      → P (refusals text (map (λ f. end_text names (outcome_of f)) found.outcomes.items) ++ exploration_fails show.explore.fail_on found) → WordRefusals held show old new P
  unfolding of_file
  refused old new P text printed read so = record {
    exploration = found;
    of_file = of_file;
    printed = subst (λ (n : List WordName). Appends old new (exploration_text n symbols found)) names_are printed;
    refusals = told_of outcome_of held show.explore.allow text names (names_of show.words.items) found.outcomes.items (exploration_fails show.explore.fail_on found) P names_are read so;
  }

  -- all of it was done
  pub shown : (old new : Option (List ℕ)) (left : Contents) (judgement : Judgement) (text : Option (List ℕ)) → Appends old new (exploration_text names symbols found) → HasName show.explore.scripts → IfSome show.explore.scripts (λ folder. AreKept left config show.explore.machine.memory folder.now found)
      → SparesOthers (IsInNamed show.explore.scripts (IsScriptOf (length found.outcomes.items) (length found.failures.items) found.stuck)) held left → IsAllowFile held show.explore.allow text
      → judgement ≡ judgement_of_lines text (map (λ f. end_text names (outcome_of f)) found.outcomes.items) (exploration_fails show.explore.fail_on found) → (judgement ≡ Allowed → found.extent ≢ extent.OutOfMemory) → EndsBy show.explore.first show.explore.seconds names text found → AreWordsShown held left show judgement old new
  unfolding of_file
  shown old new left judgement text printed folder kept spares read by whole ends = record {
    exploration = found;
    of_file = of_file;
    printed = subst (λ (n : List WordName). Appends old new (exploration_text n symbols found)) names_are printed;
    named = folder;
    kept = subst (λ (c : Config). IfSome show.explore.scripts (λ folder. AreKept left c show.explore.machine.memory folder.now found)) config_is kept;
    spared = spares;
    judged = judged_of outcome_of held show.explore.allow text names (names_of show.words.items) found.outcomes.items (exploration_fails show.explore.fail_on found) judgement names_are read by;
    whole = whole;
    ends = ends_judged names show.explore.first show.explore.seconds text (exploration_fails show.explore.fail_on found) found judgement by ends;
  }

pub show_told : (held : Contents) (show : Show) (fault : Fault) → IsExploreFault held show.explore fault ⊎ HasUnshown held show.explore show.words.items fault → IsShowFault held show fault
show_told held show fault (inl so) = inl so
show_told held show fault (inr so) = inr (inl so)

pub is_first : (words : List Name) (word d : Name) → 1 ≤ length words → word ≡ get_or words 0 d → IsFirstOf words word
is_first [] word d some is = tt
is_first (first ∷ rest) word d some is = is
