use Rattle.std.proofs.Common.{◌≡◌, ◌∙◌, ap₂}
use Rattle.std.proofs.lemmas.Result.{IfOk-at_ok, IfOk-weaker}
use Rattle.clap.specs.Words.{app_of, with_rule}
use Rattle.command_settings.proofs.commands.add_arg.Goals as goal

pub returns : goal.returns
returns c = λ app rule old_is rule_is local.
    let app_is = IfOk-at_ok (λ old. app_of old ≡ app) c.in_ok-command.was old_is in
    IfOk-weaker c.arg.result _ _ (λ made added. added.shape local ∙ ap₂ with_rule app_is rule_is) c.arg.ensures
