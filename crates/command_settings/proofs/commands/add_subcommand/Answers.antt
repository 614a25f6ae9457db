use Rattle.std.proofs.Common.{◌≡◌, ◌∙◌, ap, ap₂}
use Rattle.std.proofs.lemmas.Result.{IfOk-at_ok, IfOk-weaker}
use Rattle.clap.proofs.SimpleLemmas.{plain_fields}
use Rattle.clap.specs.Words.{App, app_of, with_subcommand}
use Rattle.command_settings.proofs.commands.add_subcommand.Goals as goal

pub returns : goal.returns
returns c = λ app added old_is added_is plain.
    let app_is = IfOk-at_ok (λ old. app_of old ≡ app) c.in_ok-command.was old_is in
    let sub_is = IfOk-at_ok (λ old. app_of old ≡ added) c.in_ok-subcommand.was added_is in
    let local = (plain_fields c.in_ok-subcommand.field-0 (ap (λ (a : App). a.top.is_plain) sub_is ∙ plain)).globals in
    IfOk-weaker c.subcommand.result _ _ (λ made it. it.shape local ∙ ap₂ with_subcommand app_is (ap (λ (a : App). a.top) sub_is)) c.subcommand.ensures
