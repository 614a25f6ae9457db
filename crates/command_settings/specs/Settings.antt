-- What the program's words ask for, as the kit reads the words for the program's usage.
use Rattle.std.specs.Prelude.{ℕ, ◌≡◌, ◌≢◌, ◌==◌, ◌<◌, ◌≤◌, ◌∷◌, ◌&&◌, ◌||◌, ◌⊎◌, [], Bool, true, false, IsSomeAnd, List, None, Option, Some, codes, if◌then◌else◌, is_some, map, nat_lt, not, option_map, unwrap_or}
use Rattle.std.specs.Borrow.{Bor}
use Rattle.std.specs.List.{list_all, list_any, slice_split}
use Rattle.std.specs.Str.{bytes_eq}
use Rattle.std.specs.Str.Parse.{IsNumeral, digits_value, without_leading_plus}
use Rattle.clap.specs.Values.{IsUnsignedIn}
use Rattle.clap.specs.Words.{App, Row, Text, all_of, first_of, one_of, subcommand_of}
use Rattle.command_settings.specs.Usage.{Argument, IsUsage, Subcommand, least_limit, least_window, most_limit, most_size, most_threads, most_window, subcommands}
use Rattle.command_settings.specs.declared.wanted.Audit.{Audit}
use Rattle.command_settings.specs.declared.wanted.Breaches.{Breaches}
use Rattle.command_settings.specs.declared.wanted.Breaches.TheVariants.{All, First}
use Rattle.command_settings.specs.declared.wanted.Chart.{Chart}
use Rattle.command_settings.specs.declared.wanted.Check.{Check}
use Rattle.command_settings.specs.declared.wanted.Explain.{Explain}
use Rattle.command_settings.specs.declared.wanted.Explore.{Explore}
use Rattle.command_settings.specs.declared.wanted.Fences.{Fences}
use Rattle.command_settings.specs.declared.wanted.MachineOptions.{MachineOptions}
use Rattle.command_settings.specs.declared.wanted.OtherOpcodes.{OtherOpcodes}
use Rattle.command_settings.specs.declared.wanted.OtherOpcodes.TheVariants.{Refused, Skipped}
use Rattle.command_settings.specs.declared.wanted.Replay.{Replay}
use Rattle.command_settings.specs.declared.wanted.Run.{Run}
use Rattle.command_settings.specs.declared.wanted.Settings.{Settings}
use Rattle.command_settings.specs.declared.wanted.Show.{Show}
use Rattle.command_settings.specs.declared.wanted.Settings.TheVariants as settings
use Rattle.command_settings.specs.declared.wanted.Subject.{Subject}
use Rattle.command_settings.specs.declared.wanted.Subject.TheVariants.{Machine, Model}
use Rattle.message_pattern.specs.Reading.{pattern_in}
use Rattle.message_pattern.specs.declared.pattern.MessagePattern.{MessagePattern}
use Rattle.machine_types.specs.declared.model.MemoryModel.{MemoryModel}
use Rattle.machine_types.specs.declared.model.MemoryModel.TheVariants.{Rvwmo, Ztso}

-- ---- the settings

abbrev pub name_of : MemoryModel → Text
name_of Rvwmo = codes "rvwmo"
name_of Ztso = codes "ztso"

abbrev pub flag_text : Bool → Text
flag_text true = codes "true"
flag_text false = codes "false"

-- the flag was given, or not
abbrev pub IsFlag : Text → List Row → Bool → Type 0
IsFlag id rows given = one_of id rows ≡ Some (flag_text given)

abbrev pub IsText : Text → List Row → Text → Type 0
IsText id rows text = first_of id rows ≡ Some text

abbrev pub IsModel : List Row → MemoryModel → Type 0
IsModel rows model = IsText (codes "model") rows (name_of model)

-- the text is the number in decimal digits, before which a plus may stand
abbrev pub SpellsNumber : Text → ℕ → Type 0
SpellsNumber text n = IsNumeral 10 (without_leading_plus text) × (digits_value 10 (without_leading_plus text) ≡ n)

-- the argument has this number
abbrev pub IsNumber : Text → List Row → ℕ → Type 0
IsNumber id rows n = (text : Text) × (one_of id rows ≡ Some text) × SpellsNumber text n

-- the argument has this number, which is in the range
abbrev pub IsNumberIn : Text → (low high : ℕ) → List Row → ℕ → Type 0
IsNumberIn id low high rows n = IsNumber id rows n × (low ≤ n) × (n ≤ high)

-- the argument has this text, or wasn't given
abbrev pub IsOptional : Text → List Row → Option (Bor Text) → Type 0
IsOptional id rows given = first_of id rows ≡ option_map (λ text. text.now) given

-- the arguments of `replay` have these texts
pub record IsReplayMeant (rows : List Row) (replay : Replay) : Type 0 where
  pub raw : IsFlag (codes "raw") rows replay.raw
  pub model : IsModel rows replay.model
  pub image : IsText (codes "IMAGE") rows replay.image.now
  pub script : IsText (codes "SCRIPT") rows replay.script.now

-- the arguments of `explain` have these texts
pub record IsExplainMeant (rows : List Row) (explain : Explain) : Type 0 where
  pub replay : IsReplayMeant rows explain.replay
  pub strict : IsFlag (codes "strict") rows explain.strict
  pub state : IsFlag (codes "state") rows explain.state
  pub vcd : IsFlag (codes "vcd") rows explain.vcd

-- the arguments of `chart` have these texts
pub record IsChartMeant (rows : List Row) (chart : Chart) : Type 0 where
  pub replay : IsReplayMeant rows chart.replay
  pub line : IsOptional (codes "line") rows chart.line

-- the arguments of a machine have these numbers, and its model this name
pub record IsMachineMeant (rows : List Row) (machine : MachineOptions) : Type 0 where
  pub harts : IsNumber (codes "harts") rows machine.harts
  pub memory : IsNumber (codes "memory") rows machine.memory
  pub sets : IsNumber (codes "sets") rows machine.sets
  pub ways : IsNumber (codes "ways") rows machine.ways
  pub line : IsNumber (codes "line") rows machine.line
  pub model : IsModel rows machine.model

-- the arguments of `run` have these texts and numbers, and the limit is in its range
pub record IsRunMeant (rows : List Row) (run : Run) : Type 0 where
  pub raw : IsFlag (codes "raw") rows run.raw
  pub machine : IsMachineMeant rows run.machine
  pub limit : IsNumber (codes "limit") rows run.limit
  pub least : least_limit ≤ run.limit
  pub most : run.limit ≤ most_limit
  pub journal : IsText (codes "journal") rows run.journal.now
  pub fail_on : IsOptional (codes "fail-on") rows run.fail_on
  pub image : IsText (codes "IMAGE") rows run.image.now

-- the arguments of `explore` have these texts, and these numbers in their ranges
pub record IsExploreMeant (rows : List Row) (explore : Explore) : Type 0 where
  pub raw : IsFlag (codes "raw") rows explore.raw
  pub machine : IsMachineMeant rows explore.machine
  pub states : IsNumberIn (codes "states") least_limit most_limit rows explore.states
  pub scripts : IsOptional (codes "scripts") rows explore.scripts
  pub whole : IsFlag (codes "whole") rows explore.whole
  pub allow : IsOptional (codes "allow") rows explore.allow
  pub fail_on : IsOptional (codes "fail-on") rows explore.fail_on
  pub first : IsFlag (codes "first") rows explore.first
  pub seconds : IsNumberIn (codes "seconds") 0 most_limit rows explore.seconds
  pub sample : IsNumberIn (codes "sample") 0 most_limit rows explore.sample
  pub seed : IsNumberIn (codes "seed") 0 most_size rows explore.seed
  pub until : IsOptional (codes "until") rows explore.until
  pub architecture : IsFlag (codes "architecture") rows explore.architecture
  pub window : IsNumberIn (codes "window") least_window most_window rows explore.window
  pub image : IsText (codes "IMAGE") rows explore.image.now

-- this machine is asked in place of the memory model, by the flag `--machine`
abbrev pub is_machine : Subject → Bool
is_machine Model = false
is_machine Machine = true

-- the arguments of `fences` have these texts, and these numbers in their ranges
pub record IsFencesMeant (rows : List Row) (fences : Fences) : Type 0 where
  pub raw : IsFlag (codes "raw") rows fences.raw
  pub machine : IsMachineMeant rows fences.machine
  pub states : IsNumberIn (codes "states") least_limit most_limit rows fences.states
  pub window : IsNumberIn (codes "window") least_window most_window rows fences.window
  pub threads : IsNumberIn (codes "threads") 0 most_threads rows fences.threads
  pub allow : IsOptional (codes "allow") rows fences.allow
  pub subject : IsFlag (codes "machine") rows (is_machine fences.subject)
  pub scripts : IsOptional (codes "scripts") rows fences.scripts
  pub write : IsOptional (codes "write") rows fences.write
  pub image : IsText (codes "IMAGE") rows fences.image.now

-- every breach is to be told, by the flag `--all`
abbrev pub are_all : Breaches → Bool
are_all First = false
are_all All = true

-- messages of other opcodes are to be passed over, by the flag `--skip`
abbrev pub are_skipped : OtherOpcodes → Bool
are_skipped Refused = false
are_skipped Skipped = true

-- the arguments of `check` have these texts
pub record IsCheckMeant (rows : List Row) (check : Check) : Type 0 where
  pub messages : IsFlag (codes "messages") rows check.messages
  pub ended : IsFlag (codes "ended") rows check.ended
  pub profile : IsOptional (codes "profile") rows check.profile
  pub breaches : IsFlag (codes "all") rows (are_all check.breaches)
  pub other_opcodes : IsFlag (codes "skip") rows (are_skipped check.other_opcodes)
  pub model : IsModel rows check.model
  pub trace : IsText (codes "TRACE") rows check.trace.now

-- the settings are those of the subcommand of this name, whose arguments have these texts, whichever words an end is to show
abbrev pub IsMeant : Text → List Row → Settings → Type 0
IsMeant name rows (settings.Replay replay) = (name ≡ codes "replay") × IsReplayMeant rows replay
IsMeant name rows (settings.Explain explain) = (name ≡ codes "explain") × IsExplainMeant rows explain
IsMeant name rows (settings.Chart chart) = (name ≡ codes "chart") × IsChartMeant rows chart
IsMeant name rows (settings.Page replay) = (name ≡ codes "page") × IsReplayMeant rows replay
IsMeant name rows (settings.Run run) = (name ≡ codes "run") × IsRunMeant rows run
IsMeant name rows (settings.Explore explore) = (name ≡ codes "explore") × IsExploreMeant rows explore
IsMeant name rows (settings.Fences audit) = (name ≡ codes "fences") × IsFencesMeant rows audit.fences
IsMeant name rows (settings.Check check) = (name ≡ codes "check") × IsCheckMeant rows check
IsMeant name rows (settings.Show show) = ⊥

-- the words that an end is to show, in the order of their asking
abbrev pub shown_in : List Row → List Text
shown_in rows = unwrap_or (all_of (codes "show") rows) []

-- the arguments of `explore` have these texts and numbers, and these words are to be shown, one at least
pub record IsShowMeant (rows : List Row) (show : Show) : Type 0 where
  pub explore : IsExploreMeant rows show.explore
  pub words : map (λ (word : Bor Text). word.now) show.words.items ≡ shown_in rows
  pub some : show.words.items ≢ []

-- the arguments of `fences` have these texts and numbers, and these words are to be shown, if any
pub record IsAuditMeant (rows : List Row) (audit : Audit) : Type 0 where
  pub fences : IsFencesMeant rows audit.fences
  pub words : map (λ (word : Bor Text). word.now) audit.words.items ≡ shown_in rows

-- and the words that are to be shown are those that were given
abbrev pub IsAsked : Text → List Row → Settings → Type 0
IsAsked name rows (settings.Replay replay) = IsMeant name rows (settings.Replay replay)
IsAsked name rows (settings.Explain explain) = IsMeant name rows (settings.Explain explain)
IsAsked name rows (settings.Chart chart) = IsMeant name rows (settings.Chart chart)
IsAsked name rows (settings.Page replay) = IsMeant name rows (settings.Page replay)
IsAsked name rows (settings.Run run) = IsMeant name rows (settings.Run run)
IsAsked name rows (settings.Explore explore) = IsMeant name rows (settings.Explore explore) × (shown_in rows ≡ [])
IsAsked name rows (settings.Show show) = (name ≡ codes "explore") × IsShowMeant rows show
IsAsked name rows (settings.Fences audit) = (name ≡ codes "fences") × IsAuditMeant rows audit
IsAsked name rows (settings.Check check) = IsMeant name rows (settings.Check check)

-- ---- what doesn't go together

-- the words of a list with a comma between each two
abbrev pub words_in : Text → List Text
words_in list = slice_split (λ b. b == 44) list

-- one of them is this one
abbrev pub has_word : (word list : Text) → Bool
has_word word list = list_any (λ each. bytes_eq each word) (words_in list)

-- a list was given, and has the word
abbrev pub lists : (word : Text) → Option (Bor Text) → Bool
lists word None = false
lists word (Some list) = has_word word list.now

-- what a search may come to
abbrev pub is_condition : Text → Bool
is_condition word = bytes_eq word (codes "failure") || (bytes_eq word (codes "stuck") || bytes_eq word (codes "incomplete"))

abbrev pub are_conditions : Text → Bool
are_conditions list = list_all is_condition (words_in list)

-- scripts are to be written, and what their outcomes don't need is to be left out of them
abbrev pub shortens : Explore → Bool
shortens explore = is_some explore.scripts && not explore.whole

-- random runs of the machine are asked for, and what the memory model allows: one of them has to be left out
abbrev pub IsTwofold : Explore → Type 0
IsTwofold explore = (explore.architecture ≡ true) × (0 < explore.sample)

-- a search is to end at the first of what it finds, and random runs are asked for in its place
abbrev pub IsUnsearched : Explore → Type 0
IsUnsearched explore = (explore.first ≡ true) × (0 < explore.sample)

-- the search is to fail on states from which no schedule ends, which random runs and a search of the memory model don't look for
abbrev pub IsBlind : Explore → Type 0
IsBlind explore = (lists (codes "stuck") explore.fail_on ≡ true) × ((explore.architecture ≡ true) ⊎ (0 < explore.sample))

-- a list was given of what the search is to fail on, and has another word
abbrev pub IsUnknown : Explore → Type 0
IsUnknown explore = IsSomeAnd explore.fail_on (λ list. are_conditions list.now ≡ false)

-- random runs of the machine are asked for, and a search to end by the clock: one of them has to be left out
abbrev pub IsUntimed : Explore → Type 0
IsUntimed explore = (0 < explore.seconds) × (0 < explore.sample)

-- what is asked of a program's ends: what the memory model allows, which of them are wanted, where they are kept, how long they are looked for
abbrev pub asks_of_ends : Explore → Bool
asks_of_ends explore =
    explore.architecture || (explore.first || (is_some explore.scripts || (is_some explore.allow || (is_some explore.fail_on || nat_lt 0 explore.seconds))))

-- a message is looked for, and not a program's ends, of which something is asked
abbrev pub IsMixed : Explore → Type 0
IsMixed explore = (is_some explore.until ≡ true) × (asks_of_ends explore ≡ true)

-- the message that is looked for, where the text that was given spells one: a name, a hart and an address, or `*` for any
abbrev pub message_in : Option (Bor Text) → Option MessagePattern
message_in None = None
message_in (Some text) = pattern_in text.now

-- a message is looked for, and its text spells none
abbrev pub IsUnread : Explore → Type 0
IsUnread explore = (is_some explore.until ≡ true) × (message_in explore.until ≡ None)

abbrev pub HasConflict : Explore → Type 0
HasConflict explore = IsTwofold explore ⊎ (IsUnsearched explore ⊎ (IsUnknown explore ⊎ (IsBlind explore ⊎ (IsUntimed explore ⊎ (IsMixed explore ⊎ IsUnread explore)))))

-- words of memory are to be shown at a program's ends, and a message is looked for
abbrev pub ShowsNoEnd : Explore → Type 0
ShowsNoEnd explore = is_some explore.until ≡ true

-- a run is to fail on what there isn't: what it may fail on is a hart that stops
abbrev pub is_stop : Text → Bool
is_stop word = bytes_eq word (codes "stop")

-- it is to fail on that
abbrev pub fails_on_stop : Option (Bor Text) → Bool
fails_on_stop None = false
fails_on_stop (Some word) = is_stop word.now

abbrev pub IsUnstopping : Run → Type 0
IsUnstopping run = IsSomeAnd run.fail_on (λ word. is_stop word.now ≡ false)

-- whose rules messages are judged by: this machine's, or TileLink's
abbrev pub is_profile : Text → Bool
is_profile name = bytes_eq name (codes "machine") || bytes_eq name (codes "tilelink")

-- TileLink's were asked for
abbrev pub asks_tilelink : Option (Bor Text) → Bool
asks_tilelink None = false
asks_tilelink (Some name) = bytes_eq name.now (codes "tilelink")

-- rules were asked for that there aren't
abbrev pub HasNoRules : Check → Type 0
HasNoRules check = IsSomeAnd check.profile (λ name. is_profile name.now ≡ false)

-- what is asked of messages alone: that questions have their answers, whose rules they keep, that all breaches are told, that other opcodes are passed over
abbrev pub asks_of_messages : Check → Bool
asks_of_messages check = check.ended || (is_some check.profile || (are_all check.breaches || are_skipped check.other_opcodes))

-- that was asked, and the messages aren't judged
abbrev pub IsBesideMessages : Check → Type 0
IsBesideMessages check = (check.messages ≡ false) × (asks_of_messages check ≡ true)

abbrev pub AreConflicting : Settings → Type 0
AreConflicting (settings.Explore explore) = HasConflict explore
AreConflicting (settings.Show show) = ShowsNoEnd show.explore ⊎ HasConflict show.explore
AreConflicting (settings.Run run) = IsUnstopping run
AreConflicting (settings.Check check) = IsBesideMessages check ⊎ HasNoRules check
AreConflicting _ = ⊥

-- the settings are what the words, the first of which is the program's name, say by the usage
abbrev pub IsNamed : List Text → Settings → Type 0
IsNamed words wanted = (app : App) × IsUsage app × (name : Text) × (rows : List Row)
    × (subcommand_of app words ≡ Some (name, rows)) × IsAsked name rows wanted

-- ---- what words without a fault have given

-- the argument has a text that is a number in the range
abbrev pub HasNumber : Text → (low high : ℕ) → List Row → Type 0
HasNumber id low high rows = (text : Text) × (one_of id rows ≡ Some text) × IsUnsignedIn low high text

-- the argument has such a text as it takes
abbrev pub Has : List Row → Argument → Type 0
Has rows (Argument.flag id) = (given : Bool) × IsFlag id rows given
Has rows Argument.model = (meant : MemoryModel) × IsModel rows meant
Has rows (Argument.number id default low high) = HasNumber id low high rows
Has rows (Argument.required_option id) = (text : Text) × IsText id rows text
Has rows (Argument.optional id) = Unit {0}
Has rows (Argument.repeated id) = Unit {0}
Has rows (Argument.file id) = (text : Text) × IsText id rows text

abbrev pub HasAll : List Row → List Argument → Type 0
HasAll rows [] = Unit {0}
HasAll rows (argument ∷ rest) = Has rows argument × HasAll rows rest

-- the arguments of the subcommand of this name
abbrev pub arguments_of : List Subcommand → Text → Option (List Argument)
arguments_of [] name = None
arguments_of (s ∷ rest) name = if bytes_eq s.name name then Some s.arguments else arguments_of rest name

abbrev pub HasAllOf : List Row → Option (List Argument) → Type 0
HasAllOf rows None = ⊥
HasAllOf rows (Some arguments) = HasAll rows arguments

-- the subcommand of this name has each argument that it asks for
abbrev pub IsComplete : Text → List Row → Type 0
IsComplete name rows = HasAllOf rows (arguments_of subcommands name)
