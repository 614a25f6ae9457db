use Rattle.std.proofs.Common.{◌≡◌, ◌∙◌, ap, refl, true}
use Rattle.std.proofs.lemmas.Result.{IfOk-weaker}
use Rattle.clap.specs.Simple.{app_of_fields}
use Rattle.clap.specs.Words.{App, app_of}
use Rattle.command_settings.specs.Usage.{bare_usage}
use Rattle.command_settings.proofs.commands.command_over.Goals as goal

pub returns : goal.returns
returns c =
    let version_is = ap app_of_fields c.version.ensures ∙ ap (λ (a : App). record { top = record a.top { has_version = true }; subs = a.subs }) c.described.ensures in
    let bare_is : app_of c.subcommand_required-command.result ≡ bare_usage =
    ap app_of_fields c.subcommand_required-command.ensures ∙ ap (λ (a : App). record { top = record a.top { subcommand_required = true }; subs = a.subs }) version_is in
    let replay_is = c.add_subcommand-command.ensures bare_usage _ bare_is c.replay_command.ensures refl in
    let explain_is = c.add_subcommand-command-2.ensures _ _ replay_is c.explain_command.ensures refl in
    let chart_is = c.add_subcommand-command-3.ensures _ _ explain_is c.chart_command.ensures refl in
    let page_is = c.add_subcommand-command-4.ensures _ _ chart_is c.page_command.ensures refl in
    let run_is = c.add_subcommand-command-5.ensures _ _ page_is c.run_command.ensures refl in
    let explore_is = c.add_subcommand-command-6.ensures _ _ run_is c.explore_command.ensures refl in
    let fences_is = c.add_subcommand-command-7.ensures _ _ explore_is c.fences_command.ensures refl in
    IfOk-weaker c.add_subcommand.result _ _ (λ made is. (c.args.models, c.requires, is)) (c.add_subcommand.ensures _ _ fences_is c.check_command.ensures refl)
