use Rattle.std.proofs.Common.{◌≡◌, ◌∙◌, Err, IfErr, IfOk, IsErrAnd, List, Ok, OnOk, Result, inl, inr, refl, subst, sym}
use Rattle.clap.specs.Kinds.{HasKind}
use Rattle.clap.specs.Words.{App, IsAmong, Text, app_of, fault_of, kind_of}
use Rattle.clap.specs.declared.error.Error.{Error}
use Rattle.command_settings.specs.Refusals.{IsFitting, IsRefused, TellsConflict, TellsError}
use Rattle.command_settings.specs.Settings.{IsNamed}
use Rattle.command_settings.specs.declared.wanted.Settings.{Settings}
use Rattle.command_settings.specs.declared.wanted.SettingsError.{SettingsError}
use Rattle.command_settings.specs.declared.wanted.SettingsError.TheVariants.{NoMemory, Usage}
use Rattle.command_settings.specs.Usage.{IsUsage}
use Rattle.command_settings.proofs.Fitting.{fitting, free, simple}
use Rattle.command_settings.proofs.Missing.{same_complete}
use Rattle.command_settings.proofs.usage.settings_by.Goals as goal

refused : {X : Type 0} (words : List Text) (r : Result X SettingsError) (error : Error) (app : App) → IsUsage app → IsErrAnd r (TellsError error) → HasKind (fault_of app words) error
    → IfErr r (IsRefused words)
refused words (Ok x) error app is told kind = tt
refused words (Err NoMemory) error app is told kind = tt
refused words (Err (Usage e)) error app is told kind = inl (
  app,
  is,
  elim kind [
    | inl memory ↦ absurd (told.0 memory)
    | inr among ↦ subst (λ x. IsAmong (kind_of x) (fault_of app words)) (sym told.1) among
  ],
)

-- what holds of the settings holds of those that are answered
of_same : (P : Settings → Type 0) (r : Result Settings SettingsError) (settings : Settings) → IfOk r (λ agreed. agreed ≡ settings) → P settings → IfOk r P
of_same P (Ok agreed) settings same so = subst P (sym same) so
of_same P (Err error) settings same so = tt

always_ok : (P : Type 0) (r : Result Settings SettingsError) → P → OnOk r P
always_ok P (Ok agreed) so = so
always_ok P (Err error) so = tt

conflicting : (words : List Text) (r : Result Settings SettingsError) (settings : Settings) → IfErr r (TellsConflict settings) → IsNamed words settings → IsFitting words → IfErr r (IsRefused words)
conflicting words (Ok agreed) settings told named fits = tt
conflicting words (Err NoMemory) settings told named fits = tt
conflicting words (Err (Usage e)) settings told named fits = inr (told.0, (settings, named, fits, told.1))

pub returns-in-Some-clause-agreeing : goal.returns-in-Some-clause-agreeing
returns-in-Some-clause-agreeing g c = c.agreeing.ensures.agreeing

pub returns-in-Some-clause-refused : goal.returns-in-Some-clause-refused
returns-in-Some-clause-refused g c = λ is_usage.
    let app = app_of c.args.command.now in
    let read = (c.in_ok-matches.ensures.ok.2 (simple app is_usage)).1 in
    let meant = c.in-Some.ensures.meant in
    let whole = fitting app _ is_usage (c.in_ok-matches.ensures.kinds (free _ is_usage)) in
    conflicting _ c.agreeing.result _ c.agreeing.ensures.told
    (app, is_usage, meant.0, meant.1, sym read ∙ meant.2, c.in_ok-settings-in-Some.ensures meant.0 meant.1 meant.2 (meant.3 (same_complete _ _ _ _ _ whole.2 (sym read ∙ meant.2) whole.3)))
    (app, is_usage, c.in_ok-matches.ensures.kinds (free _ is_usage))

pub returns-in_err-matches-clause-refused : goal.returns-in_err-matches-clause-refused
returns-in_err-matches-clause-refused g c = λ is_usage.
    refused _ c.from_residual.result _ (app_of c.args.command.now) is_usage c.from_residual.ensures.1
    (c.in_err-matches.ensures.kinds (free _ is_usage))

pub returns-in-Some-clause-named : goal.returns-in-Some-clause-named
returns-in-Some-clause-named g c = λ is_usage.
    let app = app_of c.args.command.now in
    let read = (c.in_ok-matches.ensures.ok.2 (simple app is_usage)).1 in
    let meant = c.in-Some.ensures.meant in
    let whole = fitting app _ is_usage (c.in_ok-matches.ensures.kinds (free _ is_usage)) in
    of_same (IsNamed _) c.agreeing.result _ c.agreeing.ensures.same
    (app, is_usage, meant.0, meant.1, sym read ∙ meant.2, c.in_ok-settings-in-Some.ensures meant.0 meant.1 meant.2 (meant.3 (same_complete _ _ _ _ _ whole.2 (sym read ∙ meant.2) whole.3)))

pub returns-in-Some-clause-fitting : goal.returns-in-Some-clause-fitting
returns-in-Some-clause-fitting g c = λ is_usage.
    always_ok _ c.agreeing.result (app_of c.args.command.now, is_usage, c.in_ok-matches.ensures.kinds (free _ is_usage))

pub returns-clause-refused : goal.returns-clause-refused
returns-clause-refused g c = λ is_usage.
    let app = app_of c.args.command.now in
    let read = (c.in_ok-matches.ensures.ok.2 (simple app is_usage)).1 in
    let whole = fitting app _ is_usage (c.in_ok-matches.ensures.kinds (free _ is_usage)) in
    absurd (c.in-None.ensures.missing refl whole.0 whole.1 (read ∙ whole.2) whole.3)
