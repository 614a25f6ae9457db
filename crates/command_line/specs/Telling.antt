-- Which fault tells why what the words ask for was not done.
use Rattle.std.specs.Prelude.{◌≡◌, ◌≢◌, ◌⊎◌, ℕ, [], Bool, true, false, nat_lt, List, None, Option, Some}
use Rattle.clap.specs.Words.{Text}
use Rattle.explore_command.specs.Searching.{IsSearchFault, IsSearchNoted}
use Rattle.explore_command.specs.Sampling.{SampleRefusals}
use Rattle.script_commands.specs.Charting.{IsChartFault}
use Rattle.trace_commands.specs.Checking.{IsCheckFault}
use Rattle.trace_commands.specs.Messages.{IsLogFault}
use Rattle.command_files.specs.Faults.{IsReplayFault, LeavesAtFault}
use Rattle.command_files.specs.Contents.{Contents}
use Rattle.command_files.specs.Messages.{IsLost, IsToldOf}
use Rattle.command_files.specs.Status.{status_of}
use Rattle.command_files.specs.declared.allowing.Judgement.TheVariants.{NotAllowed}
use Rattle.command_files.specs.declared.fault.Fault.{Fault}
use Rattle.command_files.specs.declared.fault.Fault.TheVariants.{OutOfMemory}
use Rattle.command_line.specs.Running.{AreMisused, ExploreHas, HasNamed, ShowHas, IsHalfPrinted, skips, strictness_of}
use Rattle.command_settings.specs.Refusals.{IsForHelp, IsUnfit}
use Rattle.command_settings.specs.Settings.{AreConflicting, message_in}
use Rattle.command_settings.specs.declared.wanted.Check.{Check as Judging}
use Rattle.command_settings.specs.declared.wanted.Explain.{Explain as Telling}
use Rattle.command_settings.specs.declared.wanted.Explore.{Explore as Seeking}
use Rattle.command_settings.specs.declared.wanted.Settings.{Settings}
use Rattle.command_settings.specs.declared.wanted.Settings.TheVariants.{Chart, Check, Explain, Explore, Fences, Page, Replay, Run, Show}
use Rattle.command_settings.specs.declared.wanted.Show.{Show as Showing}
use Rattle.fences_command.specs.Fencing.{AuditHas, IsFencesFault}
use Rattle.message_pattern.specs.declared.pattern.MessagePattern.{MessagePattern}
use Rattle.script_commands.specs.Explaining.{LeavesOfStream}
use Rattle.trace_commands.specs.Kinds.{IsTellingFault}
use Rattle.trace_commands.specs.Pages.{IsPageFault, LeavesOfPage}
use Rattle.explore_command.specs.Exploring.{ComesBeforeScripts, ExplorationRefusals, IsExploreFault, LeavesPart}
use Rattle.run_command.specs.Running.{ComesBeforeJournal, IsRunFault}
use Rattle.explore_command.specs.Showing.{IsShowFault, WordRefusals}
use Rattle.text_fields.specs.Writing.{Begins}

-- the messages of a trace can't be judged, or its order
abbrev pub IsJudgingFault : (of_messages : Bool) → Contents → Judging → Fault → Type 0
IsJudgingFault true held check = IsLogFault held (skips check.other_opcodes) check.trace
IsJudgingFault false held check = IsCheckFault held check.trace

-- words of memory can't be shown, or what the memory model allows can't be told
abbrev pub IsShowingFault : (architecture : Bool) → Contents → Showing → Fault → Type 0
IsShowingFault true held show = IsSearchFault held show.explore show.words.items
IsShowingFault false held show = IsShowFault held show

-- what a script's events change can't be told as waves, or what they do, or a trace's order
abbrev pub IsExplainingFault : (vcd : Bool) → Contents → Option (List ℕ) → Option (List ℕ) → Telling → Fault → Type 0
IsExplainingFault true held old new explain = IsReplayFault held explain.replay
IsExplainingFault false held old new explain = IsTellingFault held explain.replay (strictness_of explain.strict) old new

-- before waves' first fault nothing is left, but of a stream what comes before it
abbrev pub LeavesOfExplaining : (vcd : Bool) → Fault → Option (List ℕ) → Option (List ℕ) → Type 0 → Type 0
LeavesOfExplaining true fault old new broken = LeavesAtFault fault old new broken
LeavesOfExplaining false fault old new broken = LeavesOfStream fault old new broken

-- each command says which faults it has, of which file, and what that file then holds
abbrev pub IsFaultOfCommand : Contents → Option (List ℕ) → Option (List ℕ) → Settings → Fault → Type 0
IsFaultOfCommand held old new (Replay replay) = IsReplayFault held replay
IsFaultOfCommand held old new (Explain explain) = IsExplainingFault explain.vcd held old new explain
IsFaultOfCommand held old new (Run run) = IsRunFault held run
IsFaultOfCommand held old new (Explore explore) = IsExploreFault held explore
IsFaultOfCommand held old new (Show show) = IsShowingFault show.explore.architecture held show
IsFaultOfCommand held old new (Chart chart) = IsChartFault held chart.replay chart.line
IsFaultOfCommand held old new (Page replay) = IsPageFault held replay old new
IsFaultOfCommand held old new (Fences audit) = IsFencesFault held audit
IsFaultOfCommand held old new (Check check) = IsJudgingFault check.messages held check

-- each command says what its faults leave on standard output
abbrev pub LeavesOf : Contents → Contents → Option (List ℕ) → Option (List ℕ) → Settings → Fault → Type 0
LeavesOf held left old new (Explain explain) fault = LeavesOfExplaining explain.vcd fault old new (IsHalfPrinted held left old new (Explain explain))
LeavesOf held left old new (Explore explore) fault = LeavesPart fault old new (ExploreHas (message_in explore.until) explore.architecture (nat_lt 0 explore.sample) held explore)
LeavesOf held left old new (Show show) fault = LeavesPart fault old new (ShowHas show.explore.architecture held show)
LeavesOf held left old new (Replay replay) fault = LeavesAtFault fault old new (IsHalfPrinted held left old new (Replay replay))
LeavesOf held left old new (Run run) fault = LeavesAtFault fault old new (IsHalfPrinted held left old new (Run run))
LeavesOf held left old new (Chart chart) fault = LeavesAtFault fault old new (IsHalfPrinted held left old new (Chart chart))
LeavesOf held left old new (Page replay) fault = LeavesOfPage held replay old new fault
LeavesOf held left old new (Fences audit) fault = LeavesPart fault old new (AuditHas held audit)
LeavesOf held left old new (Check check) fault = LeavesAtFault fault old new (IsHalfPrinted held left old new (Check check))

-- it is told before the command writes a file: before the journal, before scripts, or before the program; the others write none
abbrev pub ComesBeforeFiles : Settings → Fault → Type 0
ComesBeforeFiles (Run run) fault = ComesBeforeJournal fault
ComesBeforeFiles (Explore explore) fault = ComesBeforeScripts fault
ComesBeforeFiles (Show show) fault = ComesBeforeScripts fault
ComesBeforeFiles (Fences audit) fault = ComesBeforeScripts fault
ComesBeforeFiles _ fault = Unit {0}

-- what tells which outcomes of an exploration aren't allowed, or a beginning of it; under the memory model, behind what is told of their traces; nothing of a message that was looked for
abbrev pub AreJudged : (until : Option MessagePattern) → (architecture sampled : Bool) → Contents → Seeking → (old new before after : Option (List ℕ)) → Type 0
AreJudged (Some message) architecture sampled held explore old new before after = ⊥
AreJudged None true sampled held explore old new before after = IsSearchNoted held explore [] explore.window NotAllowed old new before after
AreJudged None false true held explore old new before after = SampleRefusals held explore explore.sample old new (Begins before after)
AreJudged None false false held explore old new before after = ExplorationRefusals held explore old new (Begins before after)

-- the same with words of memory
abbrev pub AreWordsJudged : (architecture : Bool) → Contents → Showing → (old new before after : Option (List ℕ)) → Type 0
AreWordsJudged true held show old new before after = IsSearchNoted held show.explore show.words.items show.explore.window NotAllowed old new before after
AreWordsJudged false held show old new before after = WordRefusals held show old new (Begins before after)

-- nothing, but where scripts are written behind it, an exploration may have told which outcomes aren't allowed
abbrev pub IsQuietAt : Fault → (before after : Option (List ℕ)) → (judged : Type 0) → Type 0
IsQuietAt fault before after judged = (ComesBeforeScripts fault → after ≡ before) × ((after ≡ before) ⊎ judged)

-- before its fault a command puts nothing else on standard error
abbrev pub IsNotedAt : Contents → (old new before after : Option (List ℕ)) → Settings → Fault → Type 0
IsNotedAt held old new before after (Explore explore) fault = IsQuietAt fault before after (AreJudged (message_in explore.until) explore.architecture (nat_lt 0 explore.sample) held explore old new before after)
IsNotedAt held old new before after (Show show) fault = IsQuietAt fault before after (AreWordsJudged show.explore.architecture held show old new before after)
IsNotedAt held old new before after _ fault = after ≡ before

-- such a fault, of this status, that left this on standard output, and files as they were where it comes before them; its message went to standard error, behind what the command had put there; settings that don't go together, a machine out of limits and a word out of place have status 2
pub record HasFault (held left : Contents) (old new before after : Option (List ℕ)) (status : ℕ) (wanted : Settings) : Type 0 where
  pub fault : Fault
  pub told : IsFaultOfCommand held old new wanted fault
  pub leaves : LeavesOf held left old new wanted fault
  pub untouched : ComesBeforeFiles wanted fault → left ≡ held
  pub of_status : status_of fault ≡ status
  pub inside : status ≢ 2 → ¬ AreMisused wanted
  pub between : Option (List ℕ)
  pub noted : IsNotedAt held old new before between wanted fault
  pub message : IsToldOf fault between after

-- what the words name has a fault of this status, or there was help to print, and standard output took no more
unfoldable pub HasToldFault : List Text → Contents → Contents → (old new before after : Option (List ℕ)) → (status : ℕ) → Type 0
HasToldFault words held left old new before after status = (IsForHelp words × IsLost before after status) ⊎ HasNamed words (HasFault held left old new before after status)

-- the words weren't read for want of memory, and nothing was done
pub record AreUnread (held left : Contents) (old new before after : Option (List ℕ)) : Type 0 where
  pub stays : left ≡ held
  pub unprinted : new ≡ old
  pub message : IsToldOf OutOfMemory before after

-- memory was wanting for the words, or for what they name
unfoldable pub HasToldWant : List Text → Contents → Contents → (old new before after : Option (List ℕ)) → Type 0
HasToldWant words held left old new before after = AreUnread held left old new before after ⊎ HasToldFault words held left old new before after 4

-- the usage says why the words don't fit, or their settings don't go together; or what they name has a fault of status 2
unfoldable pub HasToldMisuse : List Text → Contents → Contents → (old new before after : Option (List ℕ)) → Type 0
HasToldMisuse words held left old new before after = IsUnfit words ⊎ HasNamed words AreConflicting ⊎ HasNamed words (HasFault held left old new before after 2)
