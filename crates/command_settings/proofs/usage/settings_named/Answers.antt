use Rattle.std.proofs.Common.{◌≡◌, Bool, List, codes, false, refl, rules, subst, sym, true}
use Rattle.std.specs.Str.{bytes_eq}
use Rattle.std.proofs.lemmas.Slice.Eq.{bytes_eq-Decides}
use Rattle.clap.specs.Words.{Row, Text, found_of, rows_of}
use Rattle.command_settings.specs.Settings.{IsComplete}
use Rattle.command_settings.proofs.usage.settings_named.Goals as goal

no_match : (a b : Text) → (a ≡ b → ⊥) → bytes_eq b a ≡ false
no_match a b other = go (bytes_eq b a) refl
  where
    go : (x : Bool) → bytes_eq b a ≡ x → x ≡ false
    go true same = absurd (other (sym ((bytes_eq-Decides b a).0 same)))
    go false same = refl

-- no other name is one of a subcommand
unknown : (name : Text) (rows : List Row) → (name ≡ codes "replay" → ⊥) → (name ≡ codes "explain" → ⊥) → (name ≡ codes "chart" → ⊥) → (name ≡ codes "page" → ⊥) → (name ≡ codes "run" → ⊥)
    → (name ≡ codes "explore" → ⊥) → (name ≡ codes "fences" → ⊥) → (name ≡ codes "check" → ⊥) → IsComplete name rows → ⊥
unknown name rows no_replay no_explain no_chart no_page no_run no_explore no_fences no_check whole = rw (no_match name (codes "replay") no_replay, no_match name (codes "explain") no_explain, no_match name (codes "chart") no_chart, no_match name (codes "page") no_page, no_match name (codes "run") no_run, no_match name (codes "explore") no_explore, no_match name (codes "fences") no_fences, no_match name (codes "check") no_check) at whole

complete : (name other : Text) (rows : List Row) → name ≡ other → IsComplete name rows → IsComplete other rows
complete name other rows is whole = subst (λ n. IsComplete n rows) is whole

pub returns-in_ok-replay_of-in-replay-clause-meant : goal.returns-in_ok-replay_of-in-replay-clause-meant
returns-in_ok-replay_of-in-replay-clause-meant c = λ whole.
    let is : c.args.name.now ≡ codes "replay" = search rules in
    (is, c.in_ok-replay_of-in-replay.ensures.meant (complete c.args.name.now (codes "replay") (rows_of (found_of c.args.given.now)) is whole))

pub returns-in_err-replay_of-in-replay-clause-missing : goal.returns-in_err-replay_of-in-replay-clause-missing
returns-in_err-replay_of-in-replay-clause-missing c = λ none whole. c.in_err-replay_of-in-replay.ensures.missing refl (complete c.args.name.now (codes "replay") (rows_of (found_of c.args.given.now)) (search rules) whole)

pub returns-in_ok-explain_of-in-explain-clause-meant : goal.returns-in_ok-explain_of-in-explain-clause-meant
returns-in_ok-explain_of-in-explain-clause-meant c = λ whole.
    let is : c.args.name.now ≡ codes "explain" = search rules in
    (is, c.in_ok-explain_of-in-explain.ensures.meant (complete c.args.name.now (codes "explain") (rows_of (found_of c.args.given.now)) is whole))

pub returns-in_err-explain_of-in-explain-clause-missing : goal.returns-in_err-explain_of-in-explain-clause-missing
returns-in_err-explain_of-in-explain-clause-missing c = λ none whole. c.in_err-explain_of-in-explain.ensures.missing refl (complete c.args.name.now (codes "explain") (rows_of (found_of c.args.given.now)) (search rules) whole)

pub returns-in_ok-chart_of-in-chart-clause-meant : goal.returns-in_ok-chart_of-in-chart-clause-meant
returns-in_ok-chart_of-in-chart-clause-meant c = λ whole.
    let is : c.args.name.now ≡ codes "chart" = search rules in
    (is, c.in_ok-chart_of-in-chart.ensures.meant (complete c.args.name.now (codes "chart") (rows_of (found_of c.args.given.now)) is whole))

pub returns-in_err-chart_of-in-chart-clause-missing : goal.returns-in_err-chart_of-in-chart-clause-missing
returns-in_err-chart_of-in-chart-clause-missing c = λ none whole. c.in_err-chart_of-in-chart.ensures.missing refl (complete c.args.name.now (codes "chart") (rows_of (found_of c.args.given.now)) (search rules) whole)

pub returns-in_ok-replay_of-in-page-clause-meant : goal.returns-in_ok-replay_of-in-page-clause-meant
returns-in_ok-replay_of-in-page-clause-meant c = λ whole.
    let is : c.args.name.now ≡ codes "page" = search rules in
    (is, c.in_ok-replay_of-in-page.ensures.meant (complete c.args.name.now (codes "page") (rows_of (found_of c.args.given.now)) is whole))

pub returns-in_err-replay_of-in-page-clause-missing : goal.returns-in_err-replay_of-in-page-clause-missing
returns-in_err-replay_of-in-page-clause-missing c = λ none whole. c.in_err-replay_of-in-page.ensures.missing refl (complete c.args.name.now (codes "page") (rows_of (found_of c.args.given.now)) (search rules) whole)

pub returns-in_ok-run_of-in-run-clause-meant : goal.returns-in_ok-run_of-in-run-clause-meant
returns-in_ok-run_of-in-run-clause-meant c = λ whole.
    let is : c.args.name.now ≡ codes "run" = search rules in
    (is, c.in_ok-run_of-in-run.ensures.meant (complete c.args.name.now (codes "run") (rows_of (found_of c.args.given.now)) is whole))

pub returns-in_err-run_of-in-run-clause-missing : goal.returns-in_err-run_of-in-run-clause-missing
returns-in_err-run_of-in-run-clause-missing c = λ none whole. c.in_err-run_of-in-run.ensures.missing refl (complete c.args.name.now (codes "run") (rows_of (found_of c.args.given.now)) (search rules) whole)

pub returns-in_ok-explore_of-in-explore-clause-meant : goal.returns-in_ok-explore_of-in-explore-clause-meant
returns-in_ok-explore_of-in-explore-clause-meant c = λ whole.
    let is : c.args.name.now ≡ codes "explore" = search rules in
    (is, c.in_ok-explore_of-in-explore.ensures.meant (complete c.args.name.now (codes "explore") (rows_of (found_of c.args.given.now)) is whole))

pub returns-in_err-explore_of-in-explore-clause-missing : goal.returns-in_err-explore_of-in-explore-clause-missing
returns-in_err-explore_of-in-explore-clause-missing c = λ none whole. c.in_err-explore_of-in-explore.ensures.missing refl (complete c.args.name.now (codes "explore") (rows_of (found_of c.args.given.now)) (search rules) whole)

pub returns-in_ok-audit_of-in-fences-clause-meant : goal.returns-in_ok-audit_of-in-fences-clause-meant
returns-in_ok-audit_of-in-fences-clause-meant c = λ whole.
    let is : c.args.name.now ≡ codes "fences" = search rules in
    (is, c.in_ok-audit_of-in-fences.ensures.meant (complete c.args.name.now (codes "fences") (rows_of (found_of c.args.given.now)) is whole))

pub returns-in_err-audit_of-in-fences-clause-missing : goal.returns-in_err-audit_of-in-fences-clause-missing
returns-in_err-audit_of-in-fences-clause-missing c = λ none whole. c.in_err-audit_of-in-fences.ensures.missing refl (complete c.args.name.now (codes "fences") (rows_of (found_of c.args.given.now)) (search rules) whole)

pub returns-in_ok-check_of-in-check-clause-meant : goal.returns-in_ok-check_of-in-check-clause-meant
returns-in_ok-check_of-in-check-clause-meant c = λ whole.
    let is : c.args.name.now ≡ codes "check" = search rules in
    (is, c.in_ok-check_of-in-check.ensures.meant (complete c.args.name.now (codes "check") (rows_of (found_of c.args.given.now)) is whole))

pub returns-in_err-check_of-in-check-clause-missing : goal.returns-in_err-check_of-in-check-clause-missing
returns-in_err-check_of-in-check-clause-missing c = λ none whole. c.in_err-check_of-in-check.ensures.missing refl (complete c.args.name.now (codes "check") (rows_of (found_of c.args.given.now)) (search rules) whole)

pub returns-in_default-clause-missing : goal.returns-in_default-clause-missing
returns-in_default-clause-missing c = λ none whole.
    unknown c.args.name.now (rows_of (found_of c.args.given.now)) (λ at. search rules) (λ at. search rules) (λ at. search rules) (λ at. search rules) (λ at. search rules) (λ at. search rules) (λ at. search rules) (λ at. search rules) whole
