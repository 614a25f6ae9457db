-- The program's usage: its subcommands, each with its arguments, as the kit takes a usage.
use Rattle.std.specs.Prelude.{ℕ, ◌≡◌, ◌∷◌, ◌++◌, [], true, List, Some, codes, fold, map}
use Rattle.std.specs.Borrow.{Bor}
use Rattle.clap.specs.Words.{App, Rule, Text, new_app, new_rule, with_rule, with_subcommand}
use Rattle.clap.specs.declared.builder.action.ArgAction.TheVariants.{Append, SetTrue}
use Rattle.clap.specs.declared.builder.value_parser.ValueParser.TheVariants.{Names, Unsigned}

-- ---- arguments

pub data Argument : Type 0 where
  -- `--ID`
  flag : (id : Text) → Argument
  -- `--model NAME`, and `rvwmo` where none is given
  model : Argument
  -- `--ID N`: a whole number in this range, and the default where none is given
  number : (id default : Text) (low high : ℕ) → Argument
  -- `--ID TEXT`, which has to be given
  required_option : (id : Text) → Argument
  -- `--ID TEXT`, or nothing
  optional : (id : Text) → Argument
  -- `--ID TEXT`, as often as one likes
  repeated : (id : Text) → Argument
  -- a file that has to be named
  file : (id : Text) → Argument

-- the names of the memory models, which a usage borrows
abbrev pub ModelNames : Type 0
ModelNames = Bor (List (Bor Text))

abbrev pub AreModelNames : ModelNames → Type 0
AreModelNames names = map (λ name. name.now) names.now ≡ codes "rvwmo" ∷ codes "ztso" ∷ []

-- the name alone: `--ID`
abbrev pub named_rule : Text → Rule
named_rule id = record (new_rule id) { long = Some id }

abbrev pub flag_rule : Text → Rule
flag_rule id = record (new_rule id) { long = Some id; action = Some SetTrue }

abbrev pub model_rule : ModelNames → Rule
model_rule names = record (new_rule (codes "model")) {
  long = Some (codes "model");
  defaults = codes "rvwmo" ∷ [];
  parser = Some (Names names);
}

abbrev pub number_rule : Text → Text → (low high : ℕ) → Rule
number_rule id default low high = record (new_rule id) {
  long = Some id;
  value_names = 1;
  defaults = default ∷ [];
  parser = Some (Unsigned low high);
}

abbrev pub required_rule : Text → Rule
required_rule id = record (new_rule id) { long = Some id; value_names = 1; required = true }

abbrev pub optional_rule : Text → Rule
optional_rule id = record (new_rule id) { long = Some id; value_names = 1 }

abbrev pub repeated_rule : Text → Rule
repeated_rule id = record (optional_rule id) { action = Some Append }

abbrev pub file_rule : Text → Rule
file_rule id = record (new_rule id) { required = true }

-- as the kit takes an argument
abbrev pub rule_for : ModelNames → Argument → Rule
rule_for names (flag id) = flag_rule id
rule_for names model = model_rule names
rule_for names (number id default low high) = number_rule id default low high
rule_for names (required_option id) = required_rule id
rule_for names (optional id) = optional_rule id
rule_for names (repeated id) = repeated_rule id
rule_for names (file id) = file_rule id

abbrev pub with_argument : ModelNames → App → Argument → App
with_argument names app argument = with_rule app (rule_for names argument)

abbrev pub with_arguments : ModelNames → App → List Argument → App
with_arguments names = fold (with_argument names)

-- ---- the arguments of each subcommand

-- the greatest number of a machine's size that the words may give
abbrev pub most_size : ℕ
most_size = 4294967295

-- the range of `--limit` and `--states`
abbrev pub least_limit : ℕ
least_limit = 1

abbrev pub most_limit : ℕ
most_limit = 1000000000

-- `[--raw] [--model NAME] IMAGE SCRIPT`
abbrev pub replay_arguments : List Argument
replay_arguments = flag (codes "raw") ∷ model ∷ file (codes "IMAGE") ∷ file (codes "SCRIPT") ∷ []

-- `[--strict] [--state] [--vcd]` and those of a replay
abbrev pub explain_arguments : List Argument
explain_arguments = flag (codes "strict") ∷ flag (codes "state") ∷ flag (codes "vcd") ∷ replay_arguments

-- `[--line ADDRESS]` and those of a replay
abbrev pub chart_arguments : List Argument
chart_arguments = optional (codes "line") ∷ replay_arguments

-- `[--harts N] [--memory KIB] [--sets N] [--ways N] [--line N] [--model NAME]`
abbrev pub machine_arguments : List Argument
machine_arguments =
    number (codes "harts") (codes "1") 0 most_size
    ∷ number (codes "memory") (codes "64") 0 most_size
    ∷ number (codes "sets") (codes "4") 0 most_size
    ∷ number (codes "ways") (codes "2") 0 most_size
    ∷ number (codes "line") (codes "16") 0 most_size
    ∷ model
    ∷ []

-- `[--raw]`, those of a machine, and `[--limit N] --journal FILE [--fail-on stop] IMAGE`
abbrev pub run_arguments : List Argument
run_arguments =
    flag (codes "raw")
    ∷ machine_arguments
    ++ number (codes "limit") (codes "1000000") least_limit most_limit
    ∷ required_option (codes "journal")
    ∷ optional (codes "fail-on")
    ∷ file (codes "IMAGE")
    ∷ []

-- `[--states LIMIT] [--scripts FOLDER] [--whole] [--allow FILE] [--fail-on LIST] [--first] [--seconds N]`
abbrev pub search_arguments : List Argument
search_arguments =
    number (codes "states") (codes "4000000") least_limit most_limit
    ∷ optional (codes "scripts")
    ∷ flag (codes "whole")
    ∷ optional (codes "allow")
    ∷ optional (codes "fail-on")
    ∷ flag (codes "first")
    ∷ number (codes "seconds") (codes "0") 0 most_limit
    ∷ []

-- `[--sample RUNS] [--seed S] [--until MESSAGE]`
abbrev pub sample_arguments : List Argument
sample_arguments = number (codes "sample") (codes "0") 0 most_limit ∷ number (codes "seed") (codes "1") 0 most_size ∷ optional (codes "until") ∷ []

-- the range of `--window`
abbrev pub least_window : ℕ
least_window = 1

abbrev pub most_window : ℕ
most_window = 64

-- the greatest number of `--threads`
abbrev pub most_threads : ℕ
most_threads = 64

-- `[--architecture] [--window N]`
abbrev pub window_arguments : List Argument
window_arguments = flag (codes "architecture") ∷ number (codes "window") (codes "16") least_window most_window ∷ []

-- `[--raw]`, those of a machine, of a search, of random runs and of a window, `[--show ADDRESS|SYMBOL]..` and `IMAGE`
abbrev pub explore_arguments : List Argument
explore_arguments =
    flag (codes "raw") ∷ machine_arguments ++ search_arguments ++ sample_arguments ++ window_arguments ++ repeated (codes "show") ∷ file (codes "IMAGE") ∷ []

-- `[--raw]`, those of a machine, and `[--states LIMIT] [--window N] [--threads N] [--allow FILE] [--machine] [--scripts FOLDER] [--write FILE] [--show ADDRESS|SYMBOL].. IMAGE`
abbrev pub fences_arguments : List Argument
fences_arguments =
    flag (codes "raw")
    ∷ machine_arguments
    ++ number (codes "states") (codes "4000000") least_limit most_limit
    ∷ number (codes "window") (codes "16") least_window most_window
    ∷ number (codes "threads") (codes "0") 0 most_threads
    ∷ optional (codes "allow")
    ∷ flag (codes "machine")
    ∷ optional (codes "scripts")
    ∷ optional (codes "write")
    ∷ repeated (codes "show")
    ∷ file (codes "IMAGE")
    ∷ []

-- `[--messages] [--ended] [--profile NAME] [--all] [--skip] [--model NAME] TRACE`
abbrev pub check_arguments : List Argument
check_arguments =
    flag (codes "messages")
    ∷ flag (codes "ended")
    ∷ optional (codes "profile")
    ∷ flag (codes "all")
    ∷ flag (codes "skip")
    ∷ model
    ∷ file (codes "TRACE")
    ∷ []

-- ---- the subcommands

pub record Subcommand : Type 0 where
  pub name : Text
  pub arguments : List Argument

abbrev pub replay : Subcommand
replay = record { name = codes "replay"; arguments = replay_arguments }

abbrev pub explain : Subcommand
explain = record { name = codes "explain"; arguments = explain_arguments }

abbrev pub chart : Subcommand
chart = record { name = codes "chart"; arguments = chart_arguments }

abbrev pub page : Subcommand
page = record { name = codes "page"; arguments = replay_arguments }

abbrev pub run : Subcommand
run = record { name = codes "run"; arguments = run_arguments }

abbrev pub explore : Subcommand
explore = record { name = codes "explore"; arguments = explore_arguments }

abbrev pub fences : Subcommand
fences = record { name = codes "fences"; arguments = fences_arguments }

abbrev pub check : Subcommand
check = record { name = codes "check"; arguments = check_arguments }

abbrev pub subcommands : List Subcommand
subcommands = replay ∷ explain ∷ chart ∷ page ∷ run ∷ explore ∷ fences ∷ check ∷ []

abbrev pub app_for : ModelNames → Subcommand → App
app_for names subcommand = with_arguments names (new_app subcommand.name) subcommand.arguments

-- `rvtl`, which tells its version and has to be given a subcommand
abbrev pub bare_usage : App
bare_usage = record {
  top = record (new_app (codes "rvtl")).top { has_version = true; subcommand_required = true };
  subs = [];
}

abbrev pub usage : ModelNames → App
usage names = fold (λ app subcommand. with_subcommand app (app_for names subcommand).top) bare_usage subcommands

-- the usage, whatever texts have the models' names
abbrev pub IsUsage : App → Type 0
IsUsage app = (names : ModelNames) × AreModelNames names × (app ≡ usage names)
