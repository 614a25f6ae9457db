-- What a run of the program has done, by its status.
use Rattle.std.specs.Prelude.{◌≡◌, ◌≢◌, ◌⊎◌, ◌<◌, ℕ, [], Bool, false, true, nat_lt, IsSomeAnd, List, None, Option, Some}
use Rattle.clap.specs.Words.{Text}
use Rattle.command_files.specs.Contents.{Contents}
use Rattle.script_commands.specs.Replaying.{IsCutOff, IsReplayEndTold, IsReplayed}
use Rattle.trace_commands.specs.Pages.{IsHalfPaged, IsPaged}
use Rattle.script_commands.specs.Waving.{AreTold, AreWavesCutOff}
use Rattle.trace_commands.specs.Kinds.{IsHalfTold, IsTold}
use Rattle.fences_command.specs.Fencing.{AuditHas, IsAuditTold}
use Rattle.fences_command.specs.Witnesses.{IsFencesFile}
use Rattle.explore_command.specs.Exploring.{ExplorationHas, ExplorationRefusals, IsExplorationTold}
use Rattle.explore_command.specs.Judging.{IsToldBy}
use Rattle.explore_command.specs.Keeping.{IsScriptFile}
use Rattle.command_files.specs.declared.allowing.Judgement.{Judgement}
use Rattle.command_files.specs.declared.allowing.Judgement.TheVariants.{Allowed, NotAllowed}
use Rattle.explore_command.specs.ModelKeeping.{IsFileInNamed}
use Rattle.explore_command.specs.Searching.{IsSearchNoted, IsSearched, SearchHas}
use Rattle.explore_command.specs.Sampling.{IsSampleTold, SampleHas, SampleRefusals}
use Rattle.explore_command.specs.Showing.{AreWordsShown, IsElsewhere, WordRefusals, WordsHave}
use Rattle.explore_command.specs.Until.{IsWayNoted, IsWayTold, WayHas}
use Rattle.command_files.specs.Addresses.{address}
use Rattle.script_commands.specs.Charting.{IsCharted, IsPictureCutOff as IsHalfCharted}
use Rattle.trace_commands.specs.Checking.{IsVerdictTold, IsVerdictCutOff}
use Rattle.trace_commands.specs.Messages.{AreObjected, IsLogCutOff, IsLogJudged}
use Rattle.trace_commands.specs.MessageCheck.{MessageCheck}
use Rattle.run_command.specs.Running.{IsRun, IsRunCutOff, IsRunEndTold}
use Rattle.command_settings.specs.Refusals.{IsFitting, IsForHelp}
use Rattle.command_settings.specs.Settings.{AreConflicting, IsNamed, asks_tilelink, message_in}
use Rattle.command_files.specs.Sizes.{IsOutside}
use Rattle.command_settings.specs.declared.wanted.Breaches.{Breaches}
use Rattle.command_settings.specs.declared.wanted.Breaches.TheVariants.{All, First}
use Rattle.command_settings.specs.declared.wanted.Check.{Check as Judging}
use Rattle.command_settings.specs.declared.wanted.Explain.{Explain as Telling}
use Rattle.command_settings.specs.declared.wanted.Explore.{Explore as Seeking}
use Rattle.command_settings.specs.declared.wanted.OtherOpcodes.{OtherOpcodes}
use Rattle.command_settings.specs.declared.wanted.OtherOpcodes.TheVariants.{Refused, Skipped}
use Rattle.command_settings.specs.declared.wanted.Settings.{Settings}
use Rattle.command_settings.specs.declared.wanted.Settings.TheVariants.{Chart, Check, Explain, Explore, Fences, Page, Replay, Run, Show}
use Rattle.command_settings.specs.declared.wanted.Show.{Show as Showing}
use Rattle.command_files.specs.Strictness.{Strictness}
use Rattle.command_files.specs.TheVariants.{Lenient, Strict}
use Rattle.message_pattern.specs.declared.pattern.MessagePattern.{MessagePattern}
use Rattle.message_judge.specs.Profile.{Profile}
use Rattle.message_judge.specs.TheVariants.{Machine, TileLink}
use Rattle.message_judge.specs.declared.verdict.MessageBreach.{MessageBreach}
use Rattle.message_judge.specs.declared.verdict.MessageVerdict.TheVariants.{Lawful, Unlawful}
use Rattle.rvwmo_order.specs.declared.verdict.Code.{Code}
use Rattle.rvwmo_order.specs.declared.verdict.Verdict.TheVariants.{Fault, Legal}
use Rattle.text_fields.specs.Writing.{Begins}
use Rattle.trace_recorder.specs.declared.operation.OpId.{OpId}

-- the words fit the usage, and P holds of the settings that they name
abbrev pub HasNamed : List Text → (Settings → Type 0) → Type 0
HasNamed words P = (wanted : Settings) × IsNamed words wanted × IsFitting words × P wanted

abbrev pub strictness_of : Bool → Strictness
strictness_of false = Lenient
strictness_of true = Strict

abbrev pub profile_of : (asks_tilelink : Bool) → Profile
profile_of false = Machine
profile_of true = TileLink

abbrev pub tells_all : Breaches → Bool
tells_all First = false
tells_all All = true

abbrev pub skips : OtherOpcodes → Bool
skips Refused = false
skips Skipped = true

-- what is asked of messages
abbrev pub message_check_of : Judging → MessageCheck
message_check_of check = record { profile = profile_of (asks_tilelink check.profile); ended = check.ended; all = tells_all check.breaches; skip = skips check.other_opcodes }

-- what a check judges is legal: the messages of the trace, or its order
abbrev pub IsClean : (of_messages : Bool) → Contents → Judging → Option (List ℕ) → Option (List ℕ) → Type 0
IsClean true held check old new = IsLogJudged held check.trace.now (message_check_of check) Lawful old new
IsClean false held check old new = IsVerdictTold held check.trace.now check.model Legal old new

-- it is not, and what shows it was printed
abbrev pub IsUnclean : (of_messages : Bool) → Contents → Judging → Option (List ℕ) → Option (List ℕ) → Type 0
IsUnclean true held check old new =
    (breach : MessageBreach) × (index : ℕ) × IsLogJudged held check.trace.now (message_check_of check) (Unlawful breach index) old new
IsUnclean false held check old new =
    (code : Code) × (a : OpId) × (b : OpId) × IsVerdictTold held check.trace.now check.model (Fault code a b) old new

-- no more than a beginning of the verdict went out
abbrev pub IsCheckBroken : (of_messages : Bool) → Contents → Judging → Option (List ℕ) → Option (List ℕ) → Type 0
IsCheckBroken true held check old new = IsLogCutOff held check.trace.now (message_check_of check) old new
IsCheckBroken false held check old new = IsVerdictCutOff held check.trace.now check.model old new

abbrev pub CheckCame : Judgement → (of_messages : Bool) → Contents → Judging → Option (List ℕ) → Option (List ℕ) → Type 0
CheckCame Allowed = IsClean
CheckCame NotAllowed = IsUnclean

-- what random runs show of a message, or what is found of a program's ends, under the memory model, by random runs or by a search of all that the machine does, was told and judged
abbrev pub ExploreCame : (until : Option MessagePattern) → (architecture sampled : Bool) → Judgement → Contents → Contents → Seeking → Option (List ℕ) → Option (List ℕ) → Type 0
ExploreCame (Some message) architecture sampled judgement held left explore old new = IsWayTold held explore message judgement old new
ExploreCame None true sampled judgement held left explore old new = IsSearched held left explore [] explore.window judgement old new
ExploreCame None false true judgement held left explore old new = IsSampleTold held left explore explore.sample judgement old new
ExploreCame None false false judgement held left explore old new = IsExplorationTold held left explore judgement old new

-- P holds of the text of it
abbrev pub ExploreHas : (until : Option MessagePattern) → (architecture sampled : Bool) → Contents → Seeking → (List ℕ → Type 0) → Type 0
ExploreHas (Some message) architecture sampled held explore = WayHas held explore message
ExploreHas None true sampled held explore = SearchHas held explore [] explore.window
ExploreHas None false true held explore = SampleHas held explore explore.sample
ExploreHas None false false held explore = ExplorationHas held explore

-- the same with words of memory
abbrev pub ShowCame : (architecture : Bool) → Judgement → Contents → Contents → Showing → Option (List ℕ) → Option (List ℕ) → Type 0
ShowCame true judgement held left show old new = IsSearched held left show.explore show.words.items show.explore.window judgement old new
ShowCame false judgement held left show old new = AreWordsShown held left show judgement old new

abbrev pub ShowHas : (architecture : Bool) → Contents → Showing → (List ℕ → Type 0) → Type 0
ShowHas true held show = SearchHas held show.explore show.words.items show.explore.window
ShowHas false held show = WordsHave held show

-- words of memory are to be shown where none are
abbrev pub ShowsElsewhere : (architecture : Bool) → Seeking → Type 0
ShowsElsewhere true explore = ⊥
ShowsElsewhere false explore = IsElsewhere explore

-- the file is one that shows an outcome, or how the program gets stuck
abbrev pub IsExploreFile : (architecture : Bool) → Seeking → Text → Type 0
IsExploreFile true explore = IsFileInNamed explore.scripts
IsExploreFile false explore = IsScriptFile explore.scripts

-- what each event of a script changed was told as waves, or what it did, or what a trace's order is
abbrev pub ExplainCame : (vcd : Bool) → Contents → Telling → Option (List ℕ) → Option (List ℕ) → Type 0
ExplainCame true held explain old new = AreTold held explain.replay old new
ExplainCame false held explain old new = IsTold held explain.replay (strictness_of explain.strict) explain.state old new

-- no more than a beginning of it went out
abbrev pub ExplainBroke : (vcd : Bool) → Contents → Telling → Option (List ℕ) → Option (List ℕ) → Type 0
ExplainBroke true held explain old new = AreWavesCutOff held explain.replay old new
ExplainBroke false held explain old new = IsHalfTold held explain.replay (strictness_of explain.strict) explain.state old new

-- the script was replayed and its trace printed, or what each of its events did and, where that is wanted, what the machine holds at the end, or what each changed as waves, a picture of it, or a page that shows it; or what is told of a trace's order was printed; the program ran and its journal was kept and its trace printed; it was explored and each outcome is allowed; which of its orderings it needs was printed; or the trace's order is legal, or its messages
abbrev pub IsDone : Contents → Contents → Option (List ℕ) → Option (List ℕ) → Settings → Type 0
IsDone held left old new (Replay replay) = IsReplayed held replay old new
IsDone held left old new (Explain explain) = ExplainCame explain.vcd held explain old new
IsDone held left old new (Run run) = IsRun held left run Allowed old new
IsDone held left old new (Explore explore) = ExploreCame (message_in explore.until) explore.architecture (nat_lt 0 explore.sample) Allowed held left explore old new
IsDone held left old new (Show show) = ShowCame show.explore.architecture Allowed held left show old new
IsDone held left old new (Chart chart) = IsCharted held chart.replay chart.line old new
IsDone held left old new (Page replay) = IsPaged held replay old new
IsDone held left old new (Fences audit) = IsAuditTold held left audit Allowed old new
IsDone held left old new (Check check) = IsClean check.messages held check old new

-- a check puts nothing on standard error, but the lines of messages that break a rule, or a beginning of them
abbrev pub CheckNoted : Judgement → (of_messages : Bool) → Contents → Judging → (before after : Option (List ℕ)) → Type 0
CheckNoted Allowed of_messages held check before after = after ≡ before
CheckNoted NotAllowed true held check before after =
    (breach : MessageBreach) × (index : ℕ) × AreObjected held check.trace.now (message_check_of check) (Unlawful breach index) before after
CheckNoted NotAllowed false held check before after = after ≡ before

-- by how many events a message is sent, if one is looked for; where the outcomes that were printed are allowed nothing, and else a beginning of the lines that tell which ones aren't; under the memory model, where what shows them was written, behind a beginning of what is told of their traces
abbrev pub ExploreNoted : (until : Option MessagePattern) → (architecture sampled : Bool) → Judgement → Contents → Seeking → (old new before after : Option (List ℕ)) → Type 0
ExploreNoted (Some message) architecture sampled judgement held explore old new before after = IsWayNoted held explore message old new before after
ExploreNoted None true sampled judgement held explore old new before after = IsSearchNoted held explore [] explore.window judgement old new before after
ExploreNoted None false true judgement held explore old new before after = SampleRefusals held explore explore.sample old new (IsToldBy judgement before after)
ExploreNoted None false false judgement held explore old new before after = ExplorationRefusals held explore old new (IsToldBy judgement before after)

abbrev pub ShowNoted : (architecture : Bool) → Judgement → Contents → Showing → (old new before after : Option (List ℕ)) → Type 0
ShowNoted true judgement held show old new before after = IsSearchNoted held show.explore show.words.items show.explore.window judgement old new before after
ShowNoted false judgement held show old new before after = WordRefusals held show old new (IsToldBy judgement before after)

-- what a command that was carried out has itself put on standard error, beside what is remarked of files: of a replay and of a run a beginning of how their harts ended; of an explanation, a chart, a page and an audit of orderings nothing; of an exploration what tells which outcomes aren't allowed
abbrev pub IsNoted : Contents → Contents → (old new before after : Option (List ℕ)) → Judgement → Settings → Type 0
IsNoted held left old new before after judgement (Replay replay) = IsReplayEndTold held replay before after
IsNoted held left old new before after judgement (Run run) = IsRunEndTold held left run judgement before after
IsNoted held left old new before after judgement (Explain explain) = after ≡ before
IsNoted held left old new before after judgement (Chart chart) = after ≡ before
IsNoted held left old new before after judgement (Page replay) = after ≡ before
IsNoted held left old new before after judgement (Fences audit) = after ≡ before
IsNoted held left old new before after judgement (Check check) = CheckNoted judgement check.messages held check before after
IsNoted held left old new before after judgement (Explore explore) = ExploreNoted (message_in explore.until) explore.architecture (nat_lt 0 explore.sample) judgement held explore old new before after
IsNoted held left old new before after judgement (Show show) = ShowNoted show.explore.architecture judgement held show old new before after

-- the trace's order, or its messages, are not legal, and the fault that shows it was printed; or the program was explored and an outcome is not allowed, or no random run sends a message; or a hart of a run stopped that may not
abbrev pub IsFaulty : Contents → Contents → Option (List ℕ) → Option (List ℕ) → Settings → Type 0
IsFaulty held left old new (Replay replay) = ⊥
IsFaulty held left old new (Explain explain) = ⊥
IsFaulty held left old new (Run run) = IsRun held left run NotAllowed old new
IsFaulty held left old new (Explore explore) = ExploreCame (message_in explore.until) explore.architecture (nat_lt 0 explore.sample) NotAllowed held left explore old new
IsFaulty held left old new (Show show) = ShowCame show.explore.architecture NotAllowed held left show old new
IsFaulty held left old new (Chart chart) = ⊥
IsFaulty held left old new (Page replay) = ⊥
IsFaulty held left old new (Fences audit) = IsAuditTold held left audit NotAllowed old new
IsFaulty held left old new (Check check) = IsUnclean check.messages held check old new

-- what the settings name was done, or shown not to be legal
abbrev pub Came : Contents → Contents → Option (List ℕ) → Option (List ℕ) → Settings → Judgement → Type 0
Came held left old new wanted Allowed = IsDone held left old new wanted
Came held left old new wanted NotAllowed = IsFaulty held left old new wanted

-- no more than a beginning of what was to be printed went out: of a stream, all that stands before the event at which it ends
abbrev pub IsHalfPrinted : Contents → Contents → Option (List ℕ) → Option (List ℕ) → Settings → Type 0
IsHalfPrinted held left old new (Replay replay) = IsCutOff held replay old new
IsHalfPrinted held left old new (Explain explain) = ExplainBroke explain.vcd held explain old new
IsHalfPrinted held left old new (Run run) = IsRunCutOff held left run old new
IsHalfPrinted held left old new (Explore explore) = ExploreHas (message_in explore.until) explore.architecture (nat_lt 0 explore.sample) held explore (Begins old new)
IsHalfPrinted held left old new (Show show) = ShowHas show.explore.architecture held show (Begins old new)
IsHalfPrinted held left old new (Chart chart) = IsHalfCharted held chart.replay chart.line old new
IsHalfPrinted held left old new (Page replay) = IsHalfPaged held replay old new
IsHalfPrinted held left old new (Fences audit) = AuditHas held audit (Begins old new)
IsHalfPrinted held left old new (Check check) = IsCheckBroken check.messages held check old new

-- nothing was printed, or a beginning of a trace, a stream, a verdict or of what was found; or there was help to print, whatever of it went out
unfoldable pub IsUnprinted : List Text → Contents → Contents → Option (List ℕ) → Option (List ℕ) → Type 0
IsUnprinted words held left old new = (new ≡ old) ⊎ (IsForHelp words ⊎ HasNamed words (IsHalfPrinted held left old new))

-- the words name a machine that can't be made, or as an address what is none, or words of memory to show where none are shown
abbrev pub IsOutOfRange : Settings → Type 0
IsOutOfRange (Run run) = IsOutside run.machine
IsOutOfRange (Explore explore) = IsOutside explore.machine
IsOutOfRange (Show show) = IsOutside show.explore.machine ⊎ ShowsElsewhere show.explore.architecture show.explore
IsOutOfRange (Fences audit) = IsOutside audit.fences.machine
IsOutOfRange (Chart chart) = IsSomeAnd chart.line (λ word. address word.now ≡ None)
IsOutOfRange _ = ⊥

-- that, or settings that don't go together
abbrev pub AreMisused : Settings → Type 0
AreMisused wanted = AreConflicting wanted ⊎ IsOutOfRange wanted

-- the words fit the usage, the settings that they name go together and are in range, and P holds of them
abbrev pub HasInRange : List Text → (Settings → Type 0) → Type 0
HasInRange words P = HasNamed words (λ wanted. (¬ AreMisused wanted) × P wanted)

-- the words ask for help, or what they name was done
unfoldable pub IsCarriedOut : List Text → Contents → Contents → Option (List ℕ) → Option (List ℕ) → Type 0
IsCarriedOut words held left old new = IsForHelp words ⊎ HasInRange words (IsDone held left old new)

-- the words ask for help, and standard error has nothing new, or it has what the command that they name puts there where all is legal and allowed
unfoldable pub HasNoted : List Text → Contents → Contents → (old new before after : Option (List ℕ)) → Type 0
HasNoted words held left old new before after = (IsForHelp words × (after ≡ before)) ⊎ HasNamed words (IsNoted held left old new before after Allowed)

-- what they name was judged, and it isn't legal, or not allowed
unfoldable pub IsNotLegal : List Text → Contents → Contents → Option (List ℕ) → Option (List ℕ) → Type 0
IsNotLegal words held left old new = HasInRange words (IsFaulty held left old new)

-- an exploration may meet a state at least, and so may each search of an audit
abbrev pub MeetsSomeState : Settings → Type 0
MeetsSomeState (Explore explore) = 0 < explore.states
MeetsSomeState (Show show) = 0 < show.explore.states
MeetsSomeState (Fences audit) = 0 < audit.fences.states
MeetsSomeState _ = Unit {0}

-- the file is the journal of a run, and not its program, or shows an outcome of an exploration, or how it gets stuck, or has the program with the orderings that are enough, or shows what is lost without one that is needed
abbrev pub IsWritten : Text → Settings → Type 0
IsWritten name (Run run) = (name ≡ run.journal.now) × (name ≢ run.image.now)
IsWritten name (Explore explore) = IsExploreFile explore.architecture explore name
IsWritten name (Show show) = IsExploreFile show.explore.architecture show.explore name
IsWritten name (Fences audit) = IsFencesFile audit.fences name
IsWritten name _ = ⊥

-- no file but the journal, the scripts and traces, or the program with other orderings, of what the words name is another than before
abbrev pub Spares : List Text → Contents → Contents → Type 0
Spares words held left = (name : Text) → left name ≢ held name → HasNamed words (IsWritten name)
