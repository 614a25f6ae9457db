use Rattle.std.proofs.Common.{◌∙◌, Some, ap}
use Rattle.clap.specs.declared.builder.value_parser.ValueParser.{ValueParser}
use Rattle.command_settings.proofs.Rules.{parsed, parsed_local}
use Rattle.command_settings.proofs.commands.model.Goals as goal

pub returns-clause-rule : goal.returns-clause-rule
returns-clause-rule c =
    let given = c.value_parser.ensures.given in
    let parser_is = given.1 ∙ ap (λ (p : ValueParser). Some p) given.2 in
    parsed c.named.result c.value_parser.result c.default_value.result _ _ _ c.named.ensures.rule c.value_parser.ensures.others parser_is c.default_value.ensures

pub returns-clause-local : goal.returns-clause-local
returns-clause-local c = parsed_local c.named.result c.value_parser.result c.default_value.result _ c.named.ensures.local c.value_parser.ensures.others c.default_value.ensures
