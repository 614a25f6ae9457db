-- Words that have no fault name a subcommand with all that it asks for.
use Rattle.std.proofs.Common.{◌≡◌, ◌∙◌, ◌&&◌, ◌||◌, Bool, true, false, cond, codes, List, [], ◌∷◌, ◌++◌, Option, Some, None, ap, drop, inl, inr, is_some, map, option_map, refl, subst, sym}
use Rattle.std.specs.Prelude.{find}
use Rattle.std.specs.Option.{option_map_or}
use Rattle.std.specs.Str.{bytes_eq}
use Rattle.std.proofs.lemmas.Bool.{false≢true}
use Rattle.clap.specs.Faults.{check_fault, defaults_fault, entered_fault, fault_of, level_fault, settle_fault, walk_fault}
use Rattle.clap.specs.Kinds.{or_else}
use Rattle.clap.specs.Simple.{App, Shape, built, built_leaf, entered, help_shape, inherited, label_of, marked_built, names_of, rows_at, subcommand_of, with_leaf_noted}
use Rattle.clap.specs.Words.{is_simple, is_simple_and_free}
use Rattle.clap.specs.Walk.{Row, Text, answers_to, finished, nothing_held, rows_after, settled, walk, walk_from}
use Rattle.clap.specs.declared.error.kind.ErrorKind.TheVariants as kind
use Rattle.command_settings.specs.Settings.{HasAllOf, IsComplete, arguments_of}
use Rattle.command_settings.specs.Usage.{AreModelNames, IsUsage, ModelNames, Subcommand, app_for, chart, check, explain, explore, fences, page, replay, run, subcommands, usage}
use Rattle.command_settings.proofs.Built.{Each, IsBuilt, IsSound, either_true, same_bytes, whole}
use Rattle.command_settings.proofs.Walked.{IsNoHelp, no_kinds, walk_is_none}

abbrev above : ModelNames → Shape
above names = with_leaf_noted (marked_built (usage names).top)

abbrev shape_for : ModelNames → Subcommand → Shape
shape_for names s = built_leaf (inherited (above names) (app_for names s).top)

-- the kit builds the subcommand as its arguments say
record IsReady (names : ModelNames) (s : Subcommand) : Type 0 where
  sound : Each (IsSound s.arguments) s.arguments
  built : IsBuilt names s.arguments (shape_for names s).rules
  named : (shape_for names s).name ≡ s.name
  alone : label_of (shape_for names s) ≡ (s.name, [])
  no_override : (shape_for names s).args_override_self ≡ false
  no_negation : (shape_for names s).subcommand_negates_reqs ≡ false

replay_ready : (names : ModelNames) → IsReady names replay
replay_ready names = record {
  sound = ((refl, tt), ((refl, tt), ((refl, tt), ((refl, tt), tt))));
  built = (1, refl, (1, refl, (1, refl, (2, refl, (3, refl)))));
  named = refl;
  alone = refl;
  no_override = refl;
  no_negation = refl;
}

explain_ready : (names : ModelNames) → IsReady names explain
explain_ready names = record {
  sound = ((refl, tt), ((refl, tt), ((refl, tt), ((refl, tt), ((refl, tt), ((refl, tt), ((refl, tt), tt)))))));
  built = (1, refl, (1, refl, (1, refl, (1, refl, (1, refl, (1, refl, (2, refl, (3, refl))))))));
  named = refl;
  alone = refl;
  no_override = refl;
  no_negation = refl;
}

chart_ready : (names : ModelNames) → IsReady names chart
chart_ready names = record {
  sound = ((refl, tt), ((refl, tt), ((refl, tt), ((refl, tt), ((refl, tt), tt)))));
  built = (1, refl, (1, refl, (1, refl, (1, refl, (2, refl, (3, refl))))));
  named = refl;
  alone = refl;
  no_override = refl;
  no_negation = refl;
}

page_ready : (names : ModelNames) → IsReady names page
page_ready names = record {
  sound = ((refl, tt), ((refl, tt), ((refl, tt), ((refl, tt), tt))));
  built = (1, refl, (1, refl, (1, refl, (2, refl, (3, refl)))));
  named = refl;
  alone = refl;
  no_override = refl;
  no_negation = refl;
}

run_ready : (names : ModelNames) → IsReady names run
run_ready names = record {
  sound = ((refl, tt), ((refl, refl), ((refl, refl), ((refl, refl), ((refl, refl), ((refl, refl), ((refl, tt), ((refl, refl), ((refl, tt), ((refl, tt), ((refl, tt), tt)))))))))));
  built = (1, refl, (1, refl, (1, refl, (1, refl, (1, refl, (1, refl, (1, refl, (1, refl, (1, refl, (1, refl, (1, refl, (2, refl))))))))))));
  named = refl;
  alone = refl;
  no_override = refl;
  no_negation = refl;
}

explore_ready : (names : ModelNames) → IsReady names explore
explore_ready names = record {
  sound = (
    (refl, tt),
    ((refl, refl), ((refl, refl), ((refl, refl), ((refl, refl), ((refl, refl), ((refl, tt), ((refl, refl), ((refl, tt), ((refl, tt), ((refl, tt), ((refl, tt), ((refl, tt), ((refl, refl), ((refl, refl), ((refl, refl), ((refl, tt), ((refl, tt), ((refl, refl), ((refl, tt), ((refl, tt), tt)))))))))))))))))))),
  );
  built = (1, refl, (1, refl, (1, refl, (1, refl, (1, refl, (1, refl, (1, refl, (1, refl, (1, refl, (1, refl, (1, refl, (1, refl, (1, refl, (1, refl, (1, refl, (1, refl, (1, refl, (1, refl, (1, refl, (1, refl, (1, refl, (2, refl))))))))))))))))))))));
  named = refl;
  alone = refl;
  no_override = refl;
  no_negation = refl;
}

fences_ready : (names : ModelNames) → IsReady names fences
fences_ready names = record {
  sound = ((refl, tt), ((refl, refl), ((refl, refl), ((refl, refl), ((refl, refl), ((refl, refl), ((refl, tt), ((refl, refl), ((refl, refl), ((refl, refl), ((refl, tt), ((refl, tt), ((refl, tt), ((refl, tt), ((refl, tt), ((refl, tt), tt))))))))))))))));
  built = (1, refl, (1, refl, (1, refl, (1, refl, (1, refl, (1, refl, (1, refl, (1, refl, (1, refl, (1, refl, (1, refl, (1, refl, (1, refl, (1, refl, (1, refl, (1, refl, (2, refl)))))))))))))))));
  named = refl;
  alone = refl;
  no_override = refl;
  no_negation = refl;
}

check_ready : (names : ModelNames) → IsReady names check
check_ready names = record {
  sound = ((refl, tt), ((refl, tt), ((refl, tt), ((refl, tt), ((refl, tt), ((refl, tt), ((refl, tt), tt)))))));
  built = (1, refl, (1, refl, (1, refl, (1, refl, (1, refl, (1, refl, (1, refl, (2, refl))))))));
  named = refl;
  alone = refl;
  no_override = refl;
  no_negation = refl;
}

ready : (names : ModelNames) → Each (IsReady names) subcommands
ready names = (replay_ready names, (explain_ready names, (chart_ready names, (page_ready names, (run_ready names, (explore_ready names, (fences_ready names, (check_ready names, tt))))))))

-- ---- the subcommand that the words enter

abbrev asked : ModelNames → List Subcommand → Text → Option Shape
asked names list name = find (λ s. answers_to name (label_of s)) (map (shape_for names) list ++ built_leaf help_shape ∷ [])

abbrev IsEntered : Option (Text × List Row) → Text → List Subcommand → Type 0
IsEntered entry name list = (rows : List Row) × (entry ≡ Some (name, rows)) × HasAllOf rows (arguments_of list name)

no_call : (name : Text) → (bytes_eq name (codes "help") && true) ≡ false → (bytes_eq (codes "help") name || false) ≡ true → ⊥
no_call name not_help asks = elim (either_true (bytes_eq (codes "help") name) false asks) [
  | inl is ↦
      let bad : true ≡ false = subst (λ n. (bytes_eq n (codes "help") && true) ≡ false) (sym (same_bytes (codes "help") name is)) not_help in false≢true (sym bad)
  | inr never ↦ false≢true never
]

enters : (names : ModelNames) → AreModelNames names → (list : List Subcommand) → Each (IsReady names) list → (name : Text) (words : List Text)
    → (bytes_eq name (codes "help") && true) ≡ false
    → option_map_or (λ s. level_fault s [] nothing_held words false []) (asked names list name) [] ≡ []
    → is_some (asked names list name) ≡ true
    → IsEntered (option_map (λ s. rows_at s words) (asked names list name)) name list
enters names are [] each name words not_help none some = go (bytes_eq (codes "help") name || false) refl some
  where
    go : (b : Bool) → (bytes_eq (codes "help") name || false) ≡ b → is_some (cond b (Some (built_leaf help_shape)) None) ≡ true
        → IsEntered (option_map (λ s. rows_at s words) (cond b (Some (built_leaf help_shape)) None)) name []
    go true is some = absurd (no_call name not_help is)
    go false is some = absurd (false≢true some)
enters names are (s ∷ list) each name words not_help none some =
    go (answers_to name (label_of (shape_for names s))) (ap (answers_to name) each.0.alone) none some
    (λ none some. enters names are list each.1 name words not_help none some)
  where
    go : (b : Bool) → b ≡ (bytes_eq s.name name || false)
        → option_map_or (λ s. level_fault s [] nothing_held words false []) (cond b (Some (shape_for names s)) (asked names list name)) [] ≡ []
        → is_some (cond b (Some (shape_for names s)) (asked names list name)) ≡ true
        → (option_map_or (λ s. level_fault s [] nothing_held words false []) (asked names list name) [] ≡ [] → is_some (asked names list name) ≡ true
        → IsEntered (option_map (λ s. rows_at s words) (asked names list name)) name list)
        → IsEntered (option_map (λ s. rows_at s words) (cond b (Some (shape_for names s)) (asked names list name))) name (s ∷ list)
    go true is none some later =
        let same : bytes_eq s.name name ≡ true = elim (either_true (bytes_eq s.name name) false (sym is)) [
          | inl is ↦ is
          | inr never ↦ absurd (false≢true never)
        ] in
        let has = whole s.arguments names (shape_for names s) words are each.0.sound each.0.built each.0.no_override each.0.no_negation none in (
          rows_after (shape_for names s).rules [] words,
          ap (λ n. Some (n, rows_after (shape_for names s).rules [] words)) (each.0.named ∙ same_bytes s.name name same),
          rw same has,
        )
    go false is none some later =
        let other : bytes_eq s.name name ≡ false = differs (bytes_eq s.name name) is in
        let rest = later none some in (rest.0, rest.1, rw other rest.2)
      where
        differs : (b : Bool) → false ≡ (b || false) → b ≡ false
        differs true is = absurd (false≢true is)
        differs false is = refl

-- ---- the whole usage

entered_whole : (names : ModelNames) → AreModelNames names → (given : List Row) (stop : Option (Text × List Text)) → IsNoHelp (built (usage names)).top stop
    → entered_fault (built (usage names)) stop ≡ []
    → check_fault (built (usage names)).top given (is_some (entered (built (usage names)) stop)) ≡ []
    → (name : Text) × (rows : List Row) × (entered (built (usage names)) stop ≡ Some (name, rows)) × IsComplete name rows
entered_whole names are given None no_help none checked =
    let bad : kind.MissingSubcommand ∷ [] ≡ [] = checked in cc
entered_whole names are given (Some p) no_help none checked =
    let it = enters names are subcommands (ready names) p.0 p.1 no_help none (found (asked names subcommands p.0) checked) in (p.0, it.0, it.1, it.2)
  where
    found : (o : Option Shape) → check_fault (built (usage names)).top given (is_some (option_map (λ s. rows_at s p.1) o)) ≡ [] → is_some o ≡ true
    found None checked =
        let bad : kind.MissingSubcommand ∷ [] ≡ [] = checked in cc
    found (Some s) checked = refl

fits : (names : ModelNames) (words : List Text) → AreModelNames names → fault_of (usage names) words ≡ []
    → (name : Text) × (rows : List Row) × (subcommand_of (usage names) words ≡ Some (name, rows)) × IsComplete name rows
fits names words are none =
    let a = built (usage names) in
    let args = drop 1 words in
    let end = walk a.top.rules (names_of a) nothing_held args in
    let rows = finished a.top.rules end.held in
    let checks = check_fault a.top rows (is_some (entered a end.stopped)) in
    let defaults = defaults_fault (settled a.top.rules end.held).rows a.top.rules in
    let settling = settle_fault a.top.rules a.top.args_override_self end.held in
    let below = entered_fault a end.stopped in
    let first = no_kinds (walk_fault a.top (names_of a) (walk_from nothing_held) args) (or_else below (or_else settling (or_else defaults checks))) none in
    let second = no_kinds below (or_else settling (or_else defaults checks)) first.1 in
    let third = no_kinds settling (or_else defaults checks) second.1 in
    let fourth = no_kinds defaults checks third.1 in
    entered_whole names are rows end.stopped (walk_is_none a.top (names_of a) (walk_from nothing_held) args first.0 tt) second.0 fourth.1

-- ---- whatever texts have the models' names

is_simple_usage : (names : ModelNames) → is_simple_and_free (usage names) ≡ true
is_simple_usage names = refl

pub free : (app : App) → IsUsage app → is_simple_and_free app ≡ true
free app u = ap is_simple_and_free u.2 ∙ is_simple_usage u.0

pub simple : (app : App) → IsUsage app → is_simple app ≡ true
simple app u = ap is_simple u.2 ∙ refl

pub fitting : (app : App) (words : List Text) → IsUsage app → fault_of app words ≡ [] → (name : Text) × (rows : List Row) × (subcommand_of app words ≡ Some (name, rows)) × IsComplete name rows
fitting app words u none =
    subst (λ a. (name : Text) × (rows : List Row) × (subcommand_of a words ≡ Some (name, rows)) × IsComplete name rows) (sym u.2)
    (fits u.0 words u.1 (subst (λ a. fault_of a words ≡ []) u.2 none))
