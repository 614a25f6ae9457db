-- What words without a fault have given, where a subcommand's rules are built of its arguments.
use Rattle.std.proofs.Common.{◌≡◌, ◌∙◌, ◌⊎◌, ◌&&◌, ◌||◌, ℕ, fold, Bor, Bool, true, false, cond, codes, List, [], ◌∷◌, ◌++◌, Option, Some, None, ap, inl, inr, not, refl, subst, sym}
use Rattle.std.specs.Prelude.{find}
use Rattle.std.specs.List.{list_any}
use Rattle.std.specs.Option.{option_map_or}
use Rattle.std.specs.Str.{bytes_eq}
use Rattle.std.proofs.lemmas.Bool.{false≢true}
use Rattle.std.proofs.lemmas.Slice.Eq.{bytes_eq-Decides}
use Rattle.clap.proofs.ValueTestLemmas.{accepts-Accepts}
use Rattle.clap.proofs.WalkLemmas.{list_any-map}
use Rattle.clap.specs.Facts.{explicit_source, parser_of_value}
use Rattle.clap.specs.Faults.{check_fault, defaults_fault, level_fault, repeat_fault, set_fault, settle_fault, use_fault, values_fault, walk_fault}
use Rattle.clap.specs.Kinds.{Kinds, check_kinds, or_else, value_kinds, values_kinds}
use Rattle.clap.specs.Simple.{Shape, filled, help_rule, with_index}
use Rattle.clap.specs.Takes.{is_given}
use Rattle.clap.specs.ValueTests.{accepts}
use Rattle.clap.specs.Values.{IsUnsignedIn, read_as, same_text}
use Rattle.clap.specs.Walk.{Row, Rule, Text, default_rows, finished, first_of, has_row, more_values, nothing_held, one_of, reading_by, rows_after, settled, used, walk, walk_from, with_default, with_values, without}
use Rattle.clap.specs.declared.builder.value_parser.Reading.{Reading}
use Rattle.clap.specs.declared.builder.value_parser.Reading.TheVariants.{AsWritten}
use Rattle.clap.specs.declared.builder.value_parser.ValueParser.TheVariants as parser
use Rattle.clap.specs.declared.error.kind.ErrorKind.{ErrorKind}
use Rattle.clap.specs.declared.error.kind.ErrorKind.TheVariants as kind
use Rattle.clap.specs.declared.parser.matches.ValueSource.{ValueSource}
use Rattle.command_settings.specs.Settings.{Has, HasAll, IsModel, IsText}
use Rattle.command_settings.specs.Usage.{AreModelNames, Argument, ModelNames, rule_for}
use Rattle.machine_types.specs.declared.model.MemoryModel.{MemoryModel}
use Rattle.machine_types.specs.declared.model.MemoryModel.TheVariants.{Rvwmo, Ztso}
use Rattle.command_settings.proofs.Walked.{Among, no_kinds, settles, walks}

-- ---- tests

pub either_true : (a b : Bool) → (a || b) ≡ true → (a ≡ true) ⊎ (b ≡ true)
either_true true b is = inl refl
either_true false b is = inr is

neither : (a b : Bool) → (a || b) ≡ false → (a ≡ false) × (b ≡ false)
neither true b is = absurd (false≢true (sym is))
neither false b is = (refl, is)

not_not : (b : Bool) → not b ≡ false → b ≡ true
not_not true is = refl
not_not false is = absurd (false≢true (sym is))

passed : (b : Bool) (k : ErrorKind) → cond b [] (k ∷ []) ≡ [] → b ≡ true
passed true k none = refl
passed false k none = cc

no_kind : (b : Bool) (k : ErrorKind) → cond b (k ∷ []) [] ≡ [] → b ≡ false
no_kind true k none = cc
no_kind false k none = refl

pub same_bytes : (a b : Text) → bytes_eq a b ≡ true → a ≡ b
same_bytes a b = (bytes_eq-Decides a b).0

-- ---- values that an argument takes

abbrev IsModelName : Text → Type 0
IsModelName v = (v ≡ codes "rvwmo") ⊎ (v ≡ codes "ztso")

abbrev IsTruth : Text → Type 0
IsTruth v = (v ≡ codes "true") ⊎ (v ≡ codes "false")

abbrev IsNumeric : ℕ → ℕ → Reading → Text → Type 0
IsNumeric low high how v = (how ≡ AsWritten) × IsUnsignedIn low high v

abbrev Takes : Argument → Reading → Text → Type 0
Takes (Argument.flag id) how v = (how ≡ AsWritten) × IsTruth v
Takes Argument.model how v = IsModelName v
Takes (Argument.number id default low high) how v = IsNumeric low high how v
Takes (Argument.required_option id) how v = Unit {0}
Takes (Argument.optional id) how v = Unit {0}
Takes (Argument.repeated id) how v = Unit {0}
Takes (Argument.file id) how v = Unit {0}

abbrev pub id_of : Argument → Text
id_of (Argument.flag id) = id
id_of Argument.model = codes "model"
id_of (Argument.number id default low high) = id
id_of (Argument.required_option id) = id
id_of (Argument.optional id) = id
id_of (Argument.repeated id) = id
id_of (Argument.file id) = id

abbrev TakesAny : Option Argument → Reading → Text → Type 0
TakesAny None how v = Unit {0}
TakesAny (Some x) how v = Takes x how v

-- an argument takes its default
abbrev pub TakesDefault : Argument → Type 0
TakesDefault (Argument.number id default low high) = accepts false (parser.Unsigned low high) default ≡ true
TakesDefault _ = Unit {0}

abbrev pub Each : {A : Type 0} → (A → Type 0) → List A → Type 0
Each P [] = Unit {0}
Each P (a ∷ rest) = P a × Each P rest

of_each : (P : Rule → Type 0) (rules : List Rule) → Each P rules → (a : Rule) → Among rules a → P a
of_each P [] each a among = absurd among
of_each P (x ∷ rest) each a (inl is) = subst P is each.0
of_each P (x ∷ rest) each a (inr later) = of_each P rest each.1 a later

-- the first of the values passed the parser
first_passes : (a : Rule) (v : Text) (vs : List Text) (rows : List Row) (range : Kinds) → or_else range (set_fault false a (v ∷ vs) rows) ≡ []
    → value_kinds a.ignore_case (parser_of_value a.parser) v ≡ []
first_passes a v vs rows range none =
    let first = no_kinds range (set_fault false a (v ∷ vs) rows) none in
    let second = no_kinds (repeat_fault false a.id rows) (values_fault a (v ∷ vs)) first.1 in
    (no_kinds (value_kinds a.ignore_case (parser_of_value a.parser) v) (values_kinds a.ignore_case (parser_of_value a.parser) vs) second.1).0

named_model : (names : Bor (List (Bor Text))) (v : Text) → AreModelNames names → accepts false (parser.Names names) v ≡ true → IsModelName v
named_model names v are accepted =
    let test : Text → Bool = λ t. same_text false t v in
    let any : list_any test (codes "rvwmo" ∷ codes "ztso" ∷ []) ≡ true = ap (list_any test) (sym are) ∙ (sym (list_any-map test (λ name. name.now) names.now) ∙ accepted) in
    elim (either_true (bytes_eq (codes "rvwmo") v) (bytes_eq (codes "ztso") v || false) any) [
      | inl is ↦ inl (sym (same_bytes (codes "rvwmo") v is))
      | inr or ↦ elim (either_true (bytes_eq (codes "ztso") v) false or) [
        | inl is ↦ inr (sym (same_bytes (codes "ztso") v is))
        | inr never ↦ absurd (false≢true never)
      ]
    ]

-- ---- rows that are there

values_add : (id : Text) (how : Reading) (s : ValueSource) (values : List Text) (rows : List Row) → has_row id (with_values id how s values rows) ≡ true
values_add id how s values [] = rw ((bytes_eq-Decides id id).1 refl) refl
values_add id how s values (r ∷ rs) = go (bytes_eq r.id id) refl (values_add id how s values rs)
  where
    go : (b : Bool) → bytes_eq r.id id ≡ b → has_row id (with_values id how s values rs) ≡ true → has_row id (cond b (more_values s values r ++ rs) (r ∷ with_values id how s values rs)) ≡ true
    go true is rest = rw is refl
    go false is rest = rw is rest

values_keep : (other id : Text) (how : Reading) (s : ValueSource) (values : List Text) (rows : List Row) → has_row other rows ≡ true → has_row other (with_values id how s values rows) ≡ true
values_keep other id how s values [] has = absurd (false≢true has)
values_keep other id how s values (r ∷ rs) has = go (bytes_eq r.id id) (bytes_eq r.id other) refl has (λ later. values_keep other id how s values rs later)
  where
    go : (b o : Bool) → bytes_eq r.id other ≡ o → (o || has_row other rs) ≡ true → (has_row other rs ≡ true → has_row other (with_values id how s values rs) ≡ true)
        → has_row other (cond b (more_values s values r ++ rs) (r ∷ with_values id how s values rs)) ≡ true
    go true true is has rest = rw is refl
    go true false is has rest = rw is has
    go false true is has rest = rw is refl
    go false false is has rest = rw is (rest has)

default_keeps : (other : Text) (rows : List Row) (a : Rule) → has_row other rows ≡ true → has_row other (with_default rows a) ≡ true
default_keeps other rows a has = go (has_row a.id rows) a.defaults
  where
    go : (b : Bool) (values : List Text) → has_row other (cond b rows (default_rows a.id (reading_by a) values rows)) ≡ true
    go true values = has
    go false [] = has
    go false (v ∷ vs) = values_keep other a.id (reading_by a) _ (v ∷ vs) rows has

default_adds : (rows : List Row) (a : Rule) (v : Text) (vs : List Text) → a.defaults ≡ v ∷ vs → has_row a.id (with_default rows a) ≡ true
default_adds rows a v vs is = go (has_row a.id rows) refl a.defaults is
  where
    go : (b : Bool) → has_row a.id rows ≡ b → (values : List Text) → values ≡ v ∷ vs → has_row a.id (cond b rows (default_rows a.id (reading_by a) values rows)) ≡ true
    go true has values is = has
    go false has [] is = cc
    go false has (x ∷ xs) is = values_add a.id (reading_by a) _ (x ∷ xs) rows

defaults_keep : (other : Text) (rules : List Rule) (rows : List Row) → has_row other rows ≡ true → has_row other (fold with_default rows rules) ≡ true
defaults_keep other [] rows has = has
defaults_keep other (a ∷ rest) rows has = defaults_keep other rest (with_default rows a) (default_keeps other rows a has)

defaults_add : (rules : List Rule) (rows : List Row) (a : Rule) (v : Text) (vs : List Text) → Among rules a → a.defaults ≡ v ∷ vs → has_row a.id (fold with_default rows rules) ≡ true
defaults_add [] rows a v vs among is = absurd among
defaults_add (x ∷ rest) rows a v vs (inl same) is =
    defaults_keep a.id rest (with_default rows x) (subst (λ (y : Rule). has_row a.id (with_default rows y) ≡ true) (sym same) (default_adds rows a v vs is))
defaults_add (x ∷ rest) rows a v vs (inr later) is = defaults_add rest (with_default rows x) a v vs later is

given_has : (id : Text) (rows : List Row) → is_given id rows ≡ true → has_row id rows ≡ true
given_has id [] given = given
given_has id (r ∷ rs) given = go (bytes_eq r.id id) given (λ later. given_has id rs later)
  where
    go : (b : Bool) → option_map_or (λ x. explicit_source x.source) (cond b (Some r) (find (λ x. bytes_eq x.id id) rs)) false ≡ true → (is_given id rs ≡ true → has_row id rs ≡ true)
        → (b || has_row id rs) ≡ true
    go true given rest = refl
    go false given rest = rest given

as_written : (id : Text) (rows : List Row) (how : Reading) (v : Text) → one_of id rows ≡ Some (read_as how v) → how ≡ AsWritten → one_of id rows ≡ Some v
as_written id rows how v is written = is ∙ ap (λ h. Some (read_as h v)) written

no_argument_wanted : (a b c : Bool) → check_kinds a b c ≡ [] → c ≡ false
no_argument_wanted true b c none = cc
no_argument_wanted false true c none = cc
no_argument_wanted false false true none = cc
no_argument_wanted false false false none = refl

all_given : (rules : List Rule) (rows : List Row) → list_any (λ a. a.required && not (is_given a.id rows)) rules ≡ false
    → (a : Rule) → Among rules a → a.required ≡ true → is_given a.id rows ≡ true
all_given [] rows none a among wanted = absurd among
all_given (x ∷ rest) rows none a (inl same) wanted =
    let first = (neither (x.required && not (is_given x.id rows)) (list_any (λ r. r.required && not (is_given r.id rows)) rest) none).0 in
    let at_a : (a.required && not (is_given a.id rows)) ≡ false = subst (λ (r : Rule). (r.required && not (is_given r.id rows)) ≡ false) same first in
    not_not (is_given a.id rows) (ap (λ b. b && not (is_given a.id rows)) (sym wanted) ∙ at_a)
all_given (x ∷ rest) rows none a (inr later) wanted =
    all_given rest rows (neither (x.required && not (is_given x.id rows)) (list_any (λ r. r.required && not (is_given r.id rows)) rest) none).1 a later wanted

-- ---- rows whose first value is one that their argument takes

abbrev pub built_of : ModelNames → ℕ → Argument → Rule
built_of names i x = with_index i (filled (rule_for names x))

abbrev pub help_built : ℕ → Rule
help_built i = with_index i (filled help_rule)

-- the rules are those of the arguments, and that of the help behind them
abbrev pub IsBuilt : ModelNames → List Argument → List Rule → Type 0
IsBuilt names [] rules = (i : ℕ) × (rules ≡ help_built i ∷ [])
IsBuilt names (x ∷ xs) [] = ⊥
IsBuilt names (x ∷ xs) (a ∷ rules) = (i : ℕ) × (a ≡ built_of names i x) × IsBuilt names xs rules

module _ (all : List Argument) where
  abbrev Fine : Text → Reading → Text → Type 0
  Fine id how v = TakesAny (find (λ x. bytes_eq (id_of x) id) all) how v

  abbrev FineFirst : Text → Reading → List Text → Type 0
  FineFirst id how [] = Unit {0}
  FineFirst id how (v ∷ vs) = Fine id how v

  abbrev Right : Row → Type 0
  Right r = (v : Text) × (vs : List Text) × (r.values ≡ v ∷ vs) × Fine r.id r.reading v

  abbrev Good : List Row → Type 0
  Good [] = Unit {0}
  Good (r ∷ rs) = Right r × Good rs

  fine_id : (a b : Text) (how : Reading) (v : Text) → Fine a how v → bytes_eq b a ≡ true → Fine b how v
  fine_id a b how v fine is = subst (λ id. Fine id how v) (sym (same_bytes b a is)) fine

  values_good : (id : Text) (how : Reading) (s : ValueSource) (v : Text) (vs : List Text) (rows : List Row) → Fine id how v → Good rows → Good (with_values id how s (v ∷ vs) rows)
  values_good id how s v vs [] fine good = ((v, vs, refl, fine), tt)
  values_good id how s v vs (r ∷ rs) fine good = go (bytes_eq r.id id) (values_good id how s v vs rs fine good.1)
    where
      go : (b : Bool) → Good (with_values id how s (v ∷ vs) rs)
          → Good (cond b (more_values s (v ∷ vs) r ++ rs) (r ∷ with_values id how s (v ∷ vs) rs))
      go true rest = ((good.0.0, good.0.1 ++ v ∷ vs, ap (λ xs. xs ++ v ∷ vs) good.0.2, good.0.3), good.1)
      go false rest = (good.0, rest)

  without_good : (id : Text) (rows : List Row) → Good rows → Good (without id rows)
  without_good id [] good = tt
  without_good id (r ∷ rs) good = go (bytes_eq r.id id) (without_good id rs good.1)
    where
      go : (b : Bool) → Good (without id rs) → Good (cond b ([] ++ rs) (r ∷ without id rs))
      go true rest = good.1
      go false rest = (good.0, rest)

  default_good : (rows : List Row) (a : Rule) → FineFirst a.id (reading_by a) a.defaults → Good rows → Good (with_default rows a)
  default_good rows a fine good = go (has_row a.id rows) a.defaults fine
    where
      go : (b : Bool) (values : List Text) → FineFirst a.id (reading_by a) values → Good (cond b rows (default_rows a.id (reading_by a) values rows))
      go true values fine = good
      go false [] fine = good
      go false (v ∷ vs) fine = values_good a.id (reading_by a) _ v vs rows fine good

  -- each rule's default is fine
  abbrev FineDefaults : List Rule → Type 0
  FineDefaults [] = Unit {0}
  FineDefaults (a ∷ rest) = FineFirst a.id (reading_by a) a.defaults × FineDefaults rest

  defaults_good : (rules : List Rule) (rows : List Row) → FineDefaults rules → Good rows → Good (fold with_default rows rules)
  defaults_good [] rows fine good = good
  defaults_good (a ∷ rest) rows fine good = defaults_good rest (with_default rows a) fine.1 (default_good rows a fine.0 good)

  -- the row of an argument, whose first value is fine
  chosen : (id : Text) (rows : List Row) → Good rows → has_row id rows ≡ true → (r : Row) × (find (λ x. bytes_eq x.id id) rows ≡ Some r) × (bytes_eq r.id id ≡ true) × Right r
  chosen id [] good has = absurd (false≢true has)
  chosen id (r ∷ rs) good has = go (bytes_eq r.id id) refl has (λ later. chosen id rs good.1 later)
    where
      go : (b : Bool) → bytes_eq r.id id ≡ b → (b || has_row id rs) ≡ true
          → (has_row id rs ≡ true → (x : Row) × (find (λ y. bytes_eq y.id id) rs ≡ Some x) × (bytes_eq x.id id ≡ true) × Right x)
          → (x : Row) × (cond b (Some r) (find (λ y. bytes_eq y.id id) rs) ≡ Some x) × (bytes_eq x.id id ≡ true) × Right x
      go true is has rest = (r, refl, is, good.0)
      go false is has rest = rest has

  fine_at : (id : Text) (rows : List Row) → Good rows → has_row id rows ≡ true
      → (v : Text) × (how : Reading) × (first_of id rows ≡ Some v) × (one_of id rows ≡ Some (read_as how v)) × Fine id how v
  fine_at id rows good has =
      let it = chosen id rows good has in
      let right = it.3 in (
        right.0,
        it.0.reading,
        rw (it.1, right.2) refl,
        rw (it.1, right.2) refl,
        fine_id it.0.id id it.0.reading right.0 right.3 (rw (same_bytes it.0.id id it.2) ((bytes_eq-Decides id id).1 refl)),
      )

  -- no other argument has its name
  abbrev pub IsKnown : Argument → Type 0
  IsKnown x = find (λ y. bytes_eq (id_of y) (id_of x)) all ≡ Some x

  -- it takes its own default
  abbrev pub IsSound : Argument → Type 0
  IsSound x = IsKnown x × TakesDefault x

  fine_of : (x : Argument) (how : Reading) (v : Text) → IsKnown x → Takes x how v → Fine (id_of x) how v
  fine_of x how v known takes = subst (λ o. TakesAny o how v) (sym known) takes

  -- ---- a use without a fault

  abbrev Keeps : Rule → Type 0
  Keeps a = (values : List Text) (rows : List Row) → use_fault false a values rows ≡ [] → Good rows → Good (used a values rows)

  keeps_of : (names : ModelNames) → AreModelNames names → (i : ℕ) (x : Argument) → IsKnown x → Keeps (built_of names i x)
  keeps_of names are i (Argument.flag id) known [] rows none good =
      values_good _ _ _ (codes "true") [] _ (fine_of (Argument.flag id) _ _ known (refl, inl refl)) (without_good _ rows good)
  keeps_of names are i (Argument.flag id) known (v ∷ vs) rows none good =
      let accepted = passed (bytes_eq v (codes "true") || bytes_eq v (codes "false")) _ (first_passes (built_of names i (Argument.flag id)) v vs rows _ none) in
      let is : IsTruth v = elim (either_true (bytes_eq v (codes "true")) (bytes_eq v (codes "false")) accepted) [
        | inl is ↦ inl (same_bytes v (codes "true") is)
        | inr is ↦ inr (same_bytes v (codes "false") is)
      ] in
      values_good _ _ _ v vs _ (fine_of (Argument.flag id) _ v known (refl, is)) (without_good _ rows good)
  keeps_of names are i Argument.model known [] rows none good =
      let bad : kind.InvalidValue ∷ [] ≡ [] = none in cc
  keeps_of names are i Argument.model known (v ∷ vs) rows none good =
      let accepted = passed (accepts false (parser.Names names) v) _ (first_passes (built_of names i Argument.model) v vs rows _ none) in
      values_good _ _ _ v vs _ (fine_of Argument.model _ v known (named_model names v are accepted)) (without_good _ rows good)
  keeps_of names are i (Argument.number id default low high) known [] rows none good =
      let bad : kind.InvalidValue ∷ [] ≡ [] = none in cc
  keeps_of names are i (Argument.number id default low high) known (v ∷ vs) rows none good =
      let accepted = passed (accepts false (parser.Unsigned low high) v) _ (first_passes (built_of names i (Argument.number id default low high)) v vs rows _ none) in
      values_good _ _ _ v vs _ (fine_of (Argument.number id default low high) _ v known (refl, accepts-Accepts false (parser.Unsigned low high) v accepted)) (without_good _ rows good)
  keeps_of names are i (Argument.required_option id) known [] rows none good =
      let bad : kind.InvalidValue ∷ [] ≡ [] = none in cc
  keeps_of names are i (Argument.required_option id) known (v ∷ vs) rows none good =
      values_good _ _ _ v vs _ (fine_of (Argument.required_option id) _ v known tt) (without_good _ rows good)
  keeps_of names are i (Argument.optional id) known [] rows none good =
      let bad : kind.InvalidValue ∷ [] ≡ [] = none in cc
  keeps_of names are i (Argument.optional id) known (v ∷ vs) rows none good =
      values_good _ _ _ v vs _ (fine_of (Argument.optional id) _ v known tt) (without_good _ rows good)
  keeps_of names are i (Argument.repeated id) known [] rows none good =
      let bad : kind.InvalidValue ∷ [] ≡ [] = none in cc
  keeps_of names are i (Argument.repeated id) known (v ∷ vs) rows none good =
      values_good _ _ _ v vs rows (fine_of (Argument.repeated id) _ v known tt) good
  keeps_of names are i (Argument.file id) known [] rows none good =
      let bad : kind.InvalidValue ∷ [] ≡ [] = none in cc
  keeps_of names are i (Argument.file id) known (v ∷ vs) rows none good =
      values_good _ _ _ v vs _ (fine_of (Argument.file id) _ v known tt) (without_good _ rows good)

  help_keeps : (i : ℕ) → Keeps (help_built i)
  help_keeps i values rows none good = good

  each_keeps : (names : ModelNames) → AreModelNames names → (xs : List Argument) (rules : List Rule) → Each IsSound xs → IsBuilt names xs rules → Each Keeps rules
  each_keeps names are [] rules sound built = subst (Each Keeps) (sym built.1) (help_keeps built.0, tt)
  each_keeps names are (x ∷ xs) [] sound built = absurd built
  each_keeps names are (x ∷ xs) (a ∷ rules) sound built =
      (subst Keeps (sym built.1) (keeps_of names are built.0 x sound.0.0), each_keeps names are xs rules sound.1 built.2)

  -- ---- the defaults

  fine_default : (names : ModelNames) (i : ℕ) (x : Argument) → IsSound x → FineFirst (built_of names i x).id (reading_by (built_of names i x)) (built_of names i x).defaults
  fine_default names i (Argument.flag id) sound = fine_of (Argument.flag id) _ _ sound.0 (refl, inr refl)
  fine_default names i Argument.model sound = fine_of Argument.model _ _ sound.0 (inl refl)
  fine_default names i (Argument.number id default low high) sound =
      fine_of (Argument.number id default low high) _ _ sound.0 (refl, accepts-Accepts false (parser.Unsigned low high) default sound.1)
  fine_default names i (Argument.required_option id) sound = tt
  fine_default names i (Argument.optional id) sound = tt
  fine_default names i (Argument.repeated id) sound = tt
  fine_default names i (Argument.file id) sound = tt

  fine_defaults : (names : ModelNames) (xs : List Argument) (rules : List Rule) → Each IsSound xs → IsBuilt names xs rules → FineDefaults rules
  fine_defaults names [] rules sound built = subst FineDefaults (sym built.1) (tt, tt)
  fine_defaults names (x ∷ xs) [] sound built = absurd built
  fine_defaults names (x ∷ xs) (a ∷ rules) sound built = (
    subst (λ (r : Rule). FineFirst r.id (reading_by r) r.defaults) (sym built.1) (fine_default names built.0 x sound.0),
    fine_defaults names xs rules sound.1 built.2,
  )

  -- ---- what each argument has

  abbrev IsChosen : List Row → Rule → Type 0
  IsChosen rows a = (v : Text) (vs : List Text) → a.defaults ≡ v ∷ vs → has_row a.id rows ≡ true

  abbrev IsGiven : List Row → Rule → Type 0
  IsGiven rows a = a.required ≡ true → is_given a.id rows ≡ true

  -- there is a row for each argument that has to be given or has a default
  abbrev HasRow : Argument → List Row → Type 0
  HasRow (Argument.optional id) rows = Unit {0}
  HasRow (Argument.repeated id) rows = Unit {0}
  HasRow x rows = has_row (id_of x) rows ≡ true

  row_of : (names : ModelNames) (i : ℕ) (x : Argument) (rows : List Row) → IsChosen rows (built_of names i x) → IsGiven rows (built_of names i x) → HasRow x rows
  row_of names i (Argument.flag id) rows chosen given = chosen (codes "false") [] refl
  row_of names i Argument.model rows chosen given = chosen (codes "rvwmo") [] refl
  row_of names i (Argument.number id default low high) rows chosen given = chosen default [] refl
  row_of names i (Argument.required_option id) rows chosen given = given_has id rows (given refl)
  row_of names i (Argument.optional id) rows chosen given = tt
  row_of names i (Argument.repeated id) rows chosen given = tt
  row_of names i (Argument.file id) rows chosen given = given_has id rows (given refl)

  taken : (x : Argument) (rows : List Row) → IsKnown x → Good rows → has_row (id_of x) rows ≡ true
      → (v : Text) × (how : Reading) × (first_of (id_of x) rows ≡ Some v) × (one_of (id_of x) rows ≡ Some (read_as how v)) × Takes x how v
  taken x rows known good has =
      let it = fine_at (id_of x) rows good has in (it.0, it.1, it.2, it.3, subst (λ o. TakesAny o it.1 it.0) known it.4)

  names_model : (rows : List Row) (v : Text) → IsText (codes "model") rows v → IsModelName v → (meant : MemoryModel) × IsModel rows meant
  names_model rows v is named = elim named [
    | inl rvwmo ↦ (Rvwmo, is ∙ ap (λ t. Some t) rvwmo)
    | inr ztso ↦ (Ztso, is ∙ ap (λ t. Some t) ztso)
  ]

  has_of : (x : Argument) (rows : List Row) → IsKnown x → Good rows → HasRow x rows → Has rows x
  has_of (Argument.flag id) rows known good has =
      let it = taken (Argument.flag id) rows known good has in
      let is = as_written id rows it.1 it.0 it.3 it.4.0 in
      elim it.4.1 [
        | inl on ↦ (true, is ∙ ap (λ t. Some t) on)
        | inr off ↦ (false, is ∙ ap (λ t. Some t) off)
      ]
  has_of Argument.model rows known good has =
      let it = taken Argument.model rows known good has in names_model rows it.0 it.2 it.4
  has_of (Argument.number id default low high) rows known good has =
      let it = taken (Argument.number id default low high) rows known good has in
      (it.0, as_written id rows it.1 it.0 it.3 it.4.0, it.4.1)
  has_of (Argument.required_option id) rows known good has =
      let it = taken (Argument.required_option id) rows known good has in (it.0, it.2)
  has_of (Argument.optional id) rows known good has = tt
  has_of (Argument.repeated id) rows known good has = tt
  has_of (Argument.file id) rows known good has =
      let it = taken (Argument.file id) rows known good has in (it.0, it.2)

  has_all : (names : ModelNames) (xs : List Argument) (rules : List Rule) (rows : List Row) → Each IsSound xs → IsBuilt names xs rules → Good rows
      → ((a : Rule) → Among rules a → IsChosen rows a) → ((a : Rule) → Among rules a → IsGiven rows a) → HasAll rows xs
  has_all names [] rules rows sound built good chosen given = tt
  has_all names (x ∷ xs) [] rows sound built good chosen given = absurd built
  has_all names (x ∷ xs) (a ∷ rules) rows sound built good chosen given = (
    has_of x rows sound.0.0 good (row_of names built.0 x rows (chosen _ (inl built.1)) (given _ (inl built.1))),
    has_all names xs rules rows sound.1 built.2 good (λ b among. chosen b (inr among)) (λ b among. given b (inr among)),
  )

  -- words that give a subcommand no fault have given it all that it asks for
  pub whole : (names : ModelNames) (s : Shape) (words : List Text) → AreModelNames names → Each IsSound all → IsBuilt names all s.rules → s.args_override_self ≡ false → s.subcommand_negates_reqs ≡ false
      → level_fault s [] nothing_held words false [] ≡ [] → HasAll (rows_after s.rules [] words) all
  whole names s words are sound built no_override no_negation none =
      let each = each_keeps names are all s.rules sound built in
      let keeps : (a : Rule) (values : List Text) (rows : List Row) → Among s.rules a → use_fault s.args_override_self a values rows ≡ [] → Good rows → Good (used a values rows) =
      λ a values rows among faultless. of_each Keeps s.rules each a among values rows (subst (λ b. use_fault b a values rows ≡ []) no_override faultless) in
      let end = (walk s.rules [] nothing_held words).held in
      let rows = finished s.rules end in
      let checks = or_else (defaults_fault (settled s.rules end).rows s.rules) (check_fault s rows false) in
      let first = no_kinds (walk_fault s [] (walk_from nothing_held) words) (or_else (settle_fault s.rules s.args_override_self end) checks) none in
      let second = no_kinds (settle_fault s.rules s.args_override_self end) checks first.1 in
      let third = no_kinds (defaults_fault (settled s.rules end).rows s.rules) (check_fault s rows false) second.1 in
      let wanted = list_any (λ a. a.required && not (is_given a.id rows)) s.rules in
      let none_wanted : wanted ≡ false =
      ap (λ b. not (b && false) && wanted) (sym no_negation) ∙ no_argument_wanted _ _ (not (s.subcommand_negates_reqs && false) && wanted) third.1 in
      let good = settles s Good keeps end second.0 (walks s Good keeps [] (walk_from nothing_held) words first.0 tt) in
      has_all names all s.rules rows sound built (defaults_good s.rules (settled s.rules end).rows (fine_defaults names all s.rules sound built) good)
      (λ a among v vs is. defaults_add s.rules (settled s.rules end).rows a v vs among is) (λ a among wants. all_given s.rules rows none_wanted a among wants)
