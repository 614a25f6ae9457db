-- What a walk over words that have no fault keeps, and that it stops at no call for help.
use Rattle.std.proofs.Common.{◌≡◌, ◌⊎◌, ◌&&◌, ℕ, suc, zero, Bool, true, false, cond, codes, List, [], ◌∷◌, Option, Some, None, drop, fold, inl, inr, is_some, length, not, refl, ap}
use Rattle.std.specs.Prelude.{encode_utf8, find, slice_get, unwrap_or}
use Rattle.std.specs.Option.{option_map_or}
use Rattle.std.specs.Str.{bytes_eq, chars}
use Rattle.clap.specs.Kinds.{Kinds, or_else}
use Rattle.clap.specs.Lexer.{long_of, short_of}
use Rattle.clap.specs.Faults.{bundle_fault, bundle_step_fault, flag_word_fault, flags_fault, long_fault, option_fault, positional_fault, react_fault, settle_fault, short_fault, step_fault, stray_fault, turn_fault, use_fault, walk_fault, word_fault, other_fault}
use Rattle.clap.specs.Simple.{Shape}
use Rattle.clap.specs.Walk.{Held, Names, Outcome, Row, Rule, Step, Text, Waiting, Walk, after_flag, after_step, arg_by_id, arg_by_index, arg_by_long, arg_by_short, attached_value, bundle_met, bundle_step, done, flag_met, idle, is_pending, long_met, long_or_other, next, option, option_met, option_word, plain, plain_word, positional, reacted, refused, settled, settled_rows, short_met, short_or_plain, subcommand, subcommand_met, subcommand_or_other, takes_several, takes_values, to_positional, trailing, used, used_by_id, value, waits, walked, walked_from, word_met}
use Rattle.clap.specs.declared.error.kind.ErrorKind.TheVariants as kind

-- one of the rules
abbrev pub Among : List Rule → Rule → Type 0
Among [] a = ⊥
Among (x ∷ xs) a = (x ≡ a) ⊎ Among xs a

pub found : (test : Rule → Bool) (xs : List Rule) (a : Rule) → find test xs ≡ Some a → Among xs a
found test [] a is = cc
found test (x ∷ xs) a is = go (test x) (λ later. found test xs a later) is
  where
    go : (b : Bool) → (find test xs ≡ Some a → Among xs a) → cond b (Some x) (find test xs) ≡ Some a → (x ≡ a) ⊎ Among xs a
    go true rest is = inl (ap (λ o. unwrap_or o x) is)
    go false rest is = inr (rest is)

pub no_kinds : (a b : Kinds) → or_else a b ≡ [] → (a ≡ []) × (b ≡ [])
no_kinds [] b none = (refl, none)
no_kinds (k ∷ ks) b none = cc

-- the rows keep what each use without a fault keeps
module _ (s : Shape) (Good : List Row → Type 0)
    (keeps : (a : Rule) (values : List Text) (rows : List Row) → Among s.rules a → use_fault s.args_override_self a values rows ≡ [] → Good rows → Good (used a values rows)) where
  settles_by : (by : Option Rule) (values : List Text) (rows : List Row) → ((a : Rule) → by ≡ Some a → Among s.rules a)
      → option_map_or (λ a. use_fault s.args_override_self a values rows) by [] ≡ [] → Good rows → Good (used_by_id by values rows)
  settles_by None values rows of none good = good
  settles_by (Some a) values rows of none good = keeps a values rows (of a refl) none good

  settles_pending : (pending : Option (Text × List Text)) (rows : List Row)
      → option_map_or (λ p. option_map_or (λ a. use_fault s.args_override_self a p.1 rows) (arg_by_id s.rules p.0) []) pending [] ≡ [] → Good rows → Good (settled_rows s.rules pending rows)
  settles_pending None rows none good = good
  settles_pending (Some p) rows none good = settles_by (arg_by_id s.rules p.0) p.1 rows (λ a. found _ s.rules a) none good

  pub settles : (h : Held) → settle_fault s.rules s.args_override_self h ≡ [] → Good h.rows → Good (settled s.rules h).rows
  settles h none good = settles_pending h.pending h.rows none good

  reacts : (a : Rule) (values : List Text) (h : Held) → Among s.rules a → react_fault s.rules s.args_override_self a values h ≡ [] → Good h.rows → Good (reacted s.rules a values h).rows
  reacts a values h of none good =
      let both = no_kinds (settle_fault s.rules s.args_override_self h) (use_fault s.args_override_self a values (settled s.rules h).rows) none in
      keeps a values (settled s.rules h).rows of both.1 (settles h both.0 good)

  options : (a : Rule) (v : Option Text) (h : Held) → Among s.rules a → option_fault s.rules s.args_override_self a v h ≡ [] → Good h.rows → Good (option_met s.rules a v h).0.rows
  options a (Some v) h of none good = reacts a (v ∷ []) h of none good
  options a None h of none good = settles h none good

  flags : (a : Rule) (v : Option Text) (h : Held) → Among s.rules a → cond (is_some v) (kind.TooManyValues ∷ []) (react_fault s.rules s.args_override_self a [] h) ≡ [] → Good h.rows
      → Good (flag_met s.rules a v h).0.rows
  flags a (Some v) h of none good = good
  flags a None h of none good = reacts a [] h of none good

  longs : (by : Option Rule) (v : Option Text) (h : Held) → ((a : Rule) → by ≡ Some a → Among s.rules a) → long_fault s.rules s.args_override_self by v h ≡ [] → Good h.rows
      → Good (long_met s.rules by v h).0.rows
  longs None v h of none good = good
  longs (Some a) v h of none good = go (takes_values a) none
    where
      go : (b : Bool) → cond b (option_fault s.rules s.args_override_self a v h) (cond (is_some v) (kind.TooManyValues ∷ []) (react_fault s.rules s.args_override_self a [] h)) ≡ []
          → Good (cond b (option_met s.rules a v h) (flag_met s.rules a v h)).0.rows
      go true none = options a v h (of a refl) none good
      go false none = flags a v h (of a refl) none good

  shorts : (by : Option Rule) (rest : Text) (h : Held) (faults : Held → Kinds) (then : Held → Held × Outcome) → ((a : Rule) → by ≡ Some a → Among s.rules a)
      → ((after : Held) → faults after ≡ [] → Good after.rows → Good (then after).0.rows) → short_fault s.rules s.args_override_self by rest h faults ≡ [] → Good h.rows
      → Good (short_met s.rules by rest h then).0.rows
  shorts None rest h faults then of on none good = good
  shorts (Some a) rest h faults then of on none good = go (takes_values a) none
    where
      go : (b : Bool) → cond b (option_fault s.rules s.args_override_self a (attached_value rest) h) (or_else (react_fault s.rules s.args_override_self a [] h) (faults (reacted s.rules a [] h))) ≡ []
          → Good (cond b (option_met s.rules a (attached_value rest) h) (then (reacted s.rules a [] h))).0.rows
      go true none = options a (attached_value rest) h (of a refl) none good
      go false none =
          let both = no_kinds (react_fault s.rules s.args_override_self a [] h) (faults (reacted s.rules a [] h)) none in
          on (reacted s.rules a [] h) both.1 (reacts a [] h (of a refl) both.0 good)

  bundles_by : (x : Option ℕ) (word : Text) (skip : ℕ) (so_far : Outcome) (h : Held) (faults : Text → ℕ → Held → Kinds) (then : Text → ℕ → Outcome → Held → Held × Outcome)
      → ((rest : Text) (less : ℕ) (sofar : Outcome) (after : Held) → faults rest less after ≡ [] → Good after.rows → Good (then rest less sofar after).0.rows)
      → bundle_step_fault s.rules s.args_override_self x word skip h faults ≡ [] → Good h.rows → Good (bundle_step s.rules x word skip so_far h then).0.rows
  bundles_by None word skip so_far h faults then on none good = good
  bundles_by (Some x) word zero so_far h faults then on none good =
      let rest = drop (length (encode_utf8 x)) word in
      shorts (arg_by_short s.rules x) rest h (faults rest 0) (then rest 0 done) (λ a. found _ s.rules a) (λ after n g. on rest 0 done after n g) none good
  bundles_by (Some x) word (suc less) so_far h faults then on none good = on (drop (length (encode_utf8 x)) word) less so_far h none good

  bundles : (k : ℕ) (word : Text) (skip : ℕ) (so_far : Outcome) (h : Held) → flags_fault s.rules s.args_override_self k word skip h ≡ [] → Good h.rows
      → Good (bundle_met s.rules k word skip so_far h).0.rows
  unfolding flags_fault bundle_met
  bundles zero word skip so_far h none good = good
  bundles (suc k) word skip so_far h none good =
      bundles_by (slice_get (chars word) 0) word skip so_far h (flags_fault s.rules s.args_override_self k) (bundle_met s.rules k)
      (λ rest less sofar after n g. bundles k rest less sofar after n g) none good

  options_words : (by : Option Rule) (id word : Text) (h : Held) → Good h.rows → Good (option_word by id word h).0.rows
  options_words None id word h good = good
  options_words (Some a) id word h good = good

  plains : (waiting : Waiting) (word : Text) (h : Held) → Good h.rows → Good (plain_word s.rules waiting word h).0.rows
  plains idle word h good = good
  plains (option id) word h good = options_words (arg_by_id s.rules id) id word h good
  plains positional word h good = good

  afters : (waiting : Waiting) (word : Text) (h : Held) (outcome : Outcome) → Good h.rows → Good (after_flag s.rules waiting word h outcome).0.rows
  afters waiting word h done good = good
  afters waiting word h (waits id) good = good
  afters waiting word h plain good = plains waiting word h good
  afters waiting word h refused good = plains waiting word h good

  flag_words : (by : Option (Text × Option Text)) (waiting : Waiting) (word : Text) (h : Held) → flag_word_fault s.rules s.args_override_self by word h ≡ [] → Good h.rows
      → Good (long_or_other s.rules waiting word by h).0.rows
  flag_words (Some p) waiting word h none good = afters waiting word _ _ (longs (arg_by_long s.rules p.0) p.1 h (λ a. found _ s.rules a) none good)
  flag_words None waiting word h none good = go (short_of word) none
    where
      go : (o : Option Text) → option_map_or (λ flags. bundle_fault s.rules s.args_override_self flags h) o [] ≡ [] → Good (short_or_plain s.rules waiting word o h).0.rows
      go None none = plains waiting word h good
      go (Some flags) none = afters waiting word _ _ (bundles (length flags) flags h.skip plain (record h { skip = 0 }) none good)

  others : (met : Option Text) (waiting : Waiting) (position : ℕ) (word : Text) (h : Held) → other_fault s met word h ≡ [] → Good h.rows
      → Good (subcommand_or_other s.rules met waiting position word h).0.rows
  others (Some name) waiting position word h none good = good
  others None waiting position word h none good = go (bytes_eq word (45 ∷ 45 ∷ [])) none
    where
      go : (b : Bool) → cond b [] (flag_word_fault s.rules s.args_override_self (long_of word) word h) ≡ []
          → Good (cond b (h, trailing position) (long_or_other s.rules waiting word (long_of word) h)).0.rows
      go true none = good
      go false none = flag_words (long_of word) waiting word h none good

  words_met : (names : Names) (is_trailing : Bool) (waiting : Waiting) (position : ℕ) (word : Text) (h : Held) → word_fault s names is_trailing waiting word h ≡ [] → Good h.rows
      → Good (word_met s.rules names is_trailing waiting position word h).0.rows
  words_met names true waiting position word h none good = good
  words_met names false waiting position word h none good = others (subcommand_met names waiting word) waiting position word h none good

  steps : (w : Walk) (word : Text) (h : Held) (step : Step) → step_fault s w.position h step ≡ [] → Good h.rows → Good (after_step s.rules word w h step).held.rows
  steps w word h (next waiting) none good = good
  steps w word h (trailing position) none good = good
  steps w word h (subcommand name) none good = good
  steps w word h value none good = go (arg_by_index s.rules w.position) none
    where
      pends : (a : Rule) (b : Bool) → cond b [] (settle_fault s.rules s.args_override_self h) ≡ [] → Good (cond b h (settled s.rules h)).rows
      pends a true none = good
      pends a false none = settles h none good

      go : (by : Option Rule) → option_map_or (λ a. positional_fault s.rules s.args_override_self a h) by (stray_fault s) ≡ [] → Good (to_positional s.rules by word w h).held.rows
      go None none = good
      go (Some a) none = pends a (is_pending a h.pending && takes_several a) none

  turns : (names : Names) (w : Walk) (word : Text) → turn_fault s names w word ≡ [] → Good w.held.rows → Good (walked s.rules names w word).held.rows
  unfolding walked
  turns names w word none good = go w.stopped none
    where
      met : Held × Step
      met = word_met s.rules names w.is_trailing w.waiting w.position word w.held

      go : (o : Option (Text × List Text)) → cond (is_some o) [] (or_else (word_fault s names w.is_trailing w.waiting word w.held) (step_fault s w.position met.0 met.1)) ≡ []
          → Good (walked_from s.rules names o w word).held.rows
      go (Some p) none = good
      go None none =
          let both = no_kinds (word_fault s names w.is_trailing w.waiting word w.held) (step_fault s w.position met.0 met.1) none in
          steps w word met.0 met.1 both.1 (words_met names w.is_trailing w.waiting w.position word w.held both.0 good)

  pub walks : (names : Names) (w : Walk) (words : List Text) → walk_fault s names w words ≡ [] → Good w.held.rows → Good (fold (walked s.rules names) w words).held.rows
  unfolding walk_fault
  walks names w [] none good = good
  walks names w (word ∷ rest) none good =
      let both = no_kinds (turn_fault s names w word) (walk_fault s names (walked s.rules names w word) rest) none in
      walks names (walked s.rules names w word) rest both.1 (turns names w word both.0 good)

-- a walk stops at no call for help
module _ (s : Shape) where
  abbrev pub IsNoHelp : Option (Text × List Text) → Type 0
  IsNoHelp None = Unit {0}
  IsNoHelp (Some p) = (bytes_eq p.0 (codes "help") && not s.disable_help_subcommand) ≡ false

  abbrev IsNoHelpStep : Step → Type 0
  IsNoHelpStep (subcommand name) = (bytes_eq name (codes "help") && not s.disable_help_subcommand) ≡ false
  IsNoHelpStep _ = Unit {0}

  plain_is_none : (waiting : Waiting) (word : Text) (h : Held) → IsNoHelpStep (plain_word s.rules waiting word h).1
  plain_is_none idle word h = tt
  plain_is_none (option id) word h = tt
  plain_is_none positional word h = tt

  flag_is_none : (waiting : Waiting) (word : Text) (h : Held) (outcome : Outcome) → IsNoHelpStep (after_flag s.rules waiting word h outcome).1
  flag_is_none waiting word h done = tt
  flag_is_none waiting word h (waits id) = tt
  flag_is_none waiting word h plain = plain_is_none waiting word h
  flag_is_none waiting word h refused = plain_is_none waiting word h

  short_is_none : (waiting : Waiting) (word : Text) (by : Option Text) (h : Held) → IsNoHelpStep (short_or_plain s.rules waiting word by h).1
  short_is_none waiting word None h = plain_is_none waiting word h
  short_is_none waiting word (Some flags) h = flag_is_none waiting word _ _

  long_is_none : (waiting : Waiting) (word : Text) (by : Option (Text × Option Text)) (h : Held) → IsNoHelpStep (long_or_other s.rules waiting word by h).1
  long_is_none waiting word None h = short_is_none waiting word (short_of word) h
  long_is_none waiting word (Some p) h = flag_is_none waiting word _ _

  not_asked : (b : Bool) → cond b (kind.DisplayHelp ∷ kind.InvalidSubcommand ∷ []) [] ≡ [] → b ≡ false
  not_asked true none = cc
  not_asked false none = refl

  other_is_none : (met : Option Text) (waiting : Waiting) (position : ℕ) (word : Text) (h : Held) → other_fault s met word h ≡ [] → IsNoHelpStep (subcommand_or_other s.rules met waiting position word h).1
  other_is_none (Some name) waiting position word h none = not_asked (bytes_eq name (codes "help") && not s.disable_help_subcommand) none
  other_is_none None waiting position word h none = go (bytes_eq word (45 ∷ 45 ∷ []))
    where
      go : (b : Bool) → IsNoHelpStep (cond b (h, trailing position) (long_or_other s.rules waiting word (long_of word) h)).1
      go true = tt
      go false = long_is_none waiting word (long_of word) h

  word_is_none : (names : Names) (is_trailing : Bool) (waiting : Waiting) (position : ℕ) (word : Text) (h : Held) → word_fault s names is_trailing waiting word h ≡ []
      → IsNoHelpStep (word_met s.rules names is_trailing waiting position word h).1
  word_is_none names true waiting position word h none = tt
  word_is_none names false waiting position word h none = other_is_none (subcommand_met names waiting word) waiting position word h none

  stops_at : (w : Walk) (word : Text) (h : Held) (step : Step) → IsNoHelp w.stopped → IsNoHelpStep step → IsNoHelp (after_step s.rules word w h step).stopped
  stops_at w word h (next waiting) so here = so
  stops_at w word h (trailing position) so here = so
  stops_at w word h (subcommand name) so here = here
  stops_at w word h value so here = go (arg_by_index s.rules w.position)
    where
      go : (by : Option Rule) → IsNoHelp (to_positional s.rules by word w h).stopped
      go None = so
      go (Some a) = tt

  turn_is_none : (names : Names) (w : Walk) (word : Text) → turn_fault s names w word ≡ [] → IsNoHelp w.stopped → IsNoHelp (walked s.rules names w word).stopped
  unfolding walked
  turn_is_none names w word none so = go w.stopped none so
    where
      met : Held × Step
      met = word_met s.rules names w.is_trailing w.waiting w.position word w.held

      go : (o : Option (Text × List Text)) → cond (is_some o) [] (or_else (word_fault s names w.is_trailing w.waiting word w.held) (step_fault s w.position met.0 met.1)) ≡ []
          → IsNoHelp o → IsNoHelp (walked_from s.rules names o w word).stopped
      go (Some p) none here = here
      go None none here =
          stops_at w word met.0 met.1 so
          (word_is_none names w.is_trailing w.waiting w.position word w.held
          (no_kinds (word_fault s names w.is_trailing w.waiting word w.held) (step_fault s w.position met.0 met.1) none).0)

  pub walk_is_none : (names : Names) (w : Walk) (words : List Text) → walk_fault s names w words ≡ [] → IsNoHelp w.stopped → IsNoHelp (fold (walked s.rules names) w words).stopped
  unfolding walk_fault
  walk_is_none names w [] none so = so
  walk_is_none names w (word ∷ rest) none so =
      let both = no_kinds (turn_fault s names w word) (walk_fault s names (walked s.rules names w word) rest) none in
      walk_is_none names (walked s.rules names w word) rest both.1 (turn_is_none names w word both.0 so)
