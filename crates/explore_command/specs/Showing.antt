-- What an exploration that shows words of memory has told, written and judged, and which faults it tells.
use Rattle.std.specs.Prelude.{◌≡◌, ◌≢◌, ◌<◌, ◌⊎◌, ℕ, [], ◌∷◌, IfSome, List, Option, length, map}
use Rattle.std.specs.Io.KnownBytes.{Appends}
use Rattle.command_files.specs.Faults.{Name}
use Rattle.command_files.specs.Contents.{Contents}
use Rattle.command_files.specs.Sizes.{IsInside, config_named}
use Rattle.command_files.specs.declared.fault.Fault.{Fault}
use Rattle.command_files.specs.declared.fault.Fault.TheVariants.{CannotShow}
use Rattle.command_files.specs.declared.fault.Unshown.TheVariants.{Elsewhere}
use Rattle.command_settings.specs.declared.wanted.Explore.{Explore}
use Rattle.command_settings.specs.declared.wanted.Show.{Show}
use Rattle.elf_loader.specs.Image.{Initial}
use Rattle.exploration_text.specs.Words.{end_text, exploration_text}
use Rattle.explore_command.specs.Exploring.{IsExploreFault, IsFoundIn, exploration_fails}
use Rattle.explore_command.specs.Judging.{HaveRefusals, IsJudged}
use Rattle.explore_command.specs.Keeping.{AreKept, HasName, IsInNamed, IsScriptOf, SparesOthers}
use Rattle.explore_command.specs.Sought.{EndsJudged}
use Rattle.command_files.specs.declared.allowing.Judgement.{Judgement}
use Rattle.command_files.specs.declared.allowing.Judgement.TheVariants.{Allowed}
use Rattle.explore_command.specs.Asking.{HasProgram, HasUnshown}
use Rattle.explore_command.specs.Targets.{names_of}
use Rattle.state_search.specs.declared.findings.Extent.TheVariants as extent
use Rattle.explorer.specs.declared.exploration.Exploration.{Exploration}
use Rattle.explorer.specs.Ends.{outcome_of}

-- ---- what is found

-- the exploration is of the image in the file, and the words lie where its symbols say
pub record IsOfFile (held : Contents) (show : Show) (exploration : Exploration) : Type 0 where
  pub image : Initial
  pub addresses : List ℕ
  pub program : HasProgram held show.explore show.words.items image addresses
  pub inside : IsInside show.explore.machine
  pub found : IsFoundIn image (config_named show.explore.machine inside) addresses show.explore.states exploration

-- what was found was printed, its scripts are in the folder, if one was named, and each other file is as before, and it was judged by the file that says what is allowed; it is allowed only where memory sufficed for all states, or for as many as were asked for; and it ended at the first of what it found only where that was asked for, and it tells what may end it
pub record AreWordsShown (held left : Contents) (show : Show) (judgement : Judgement) (old new : Option (List ℕ)) : Type 0 where
  pub exploration : Exploration
  pub of_file : IsOfFile held show exploration
  pub printed : Appends old new (exploration_text (names_of show.words.items) of_file.program.symbols exploration)
  pub named : HasName show.explore.scripts
  pub kept : IfSome show.explore.scripts (λ folder. AreKept left (config_named show.explore.machine of_file.inside) show.explore.machine.memory folder.now exploration)
  pub spared : SparesOthers (IsInNamed show.explore.scripts (IsScriptOf (length exploration.outcomes.items) (length exploration.failures.items) exploration.stuck)) held left
  pub judged : IsJudged held show.explore.allow (map (λ f. end_text (names_of show.words.items) (outcome_of f)) exploration.outcomes.items) (exploration_fails show.explore.fail_on exploration) judgement
  pub whole : judgement ≡ Allowed → exploration.extent ≢ extent.OutOfMemory
  pub ends : EndsJudged show.explore.first show.explore.seconds judgement exploration

-- P holds of the text of what was found
pub record WordsHave (held : Contents) (show : Show) (P : List ℕ → Type 0) : Type 0 where
  pub exploration : Exploration
  pub of_file : IsOfFile held show exploration
  pub of_text : P (exploration_text (names_of show.words.items) of_file.program.symbols exploration)

-- P holds of what is to be told of the outcomes that were printed
pub record WordRefusals (held : Contents) (show : Show) (old new : Option (List ℕ)) (P : List ℕ → Type 0) : Type 0 where
  pub exploration : Exploration
  pub of_file : IsOfFile held show exploration
  pub printed : Appends old new (exploration_text (names_of show.words.items) of_file.program.symbols exploration)
  pub refusals : HaveRefusals held show.explore.allow (map (λ f. end_text (names_of show.words.items) (outcome_of f)) exploration.outcomes.items) (exploration_fails show.explore.fail_on exploration) P

-- ---- faults

-- random runs are asked for
abbrev pub IsElsewhere : Explore → Type 0
IsElsewhere explore = 0 < explore.sample

-- the word is the first of these, if there are any
abbrev pub IsFirstOf : List Name → Name → Type 0
IsFirstOf [] word = Unit {0}
IsFirstOf (first ∷ rest) word = word ≡ first

-- as an exploration has them; or words can't be shown, the first of which is told
abbrev pub IsShowFault : Contents → Show → Fault → Type 0
IsShowFault held show fault =
    IsExploreFault held show.explore fault
    ⊎ (HasUnshown held show.explore show.words.items fault
    ⊎ ((word : Name) × IsFirstOf show.words.items word × (fault ≡ CannotShow word Elsewhere) × IsElsewhere show.explore))
