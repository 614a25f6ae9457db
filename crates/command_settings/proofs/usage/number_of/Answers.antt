use Rattle.std.proofs.Common.{◌∙◌}
use Rattle.std.specs.contracts.prelude.U32FromStr.TheImpl.{ghosts}
use Rattle.clap.proofs.WalkLemmas.{one_text-rows}
use Rattle.clap.specs.Words.{found_of, rows_of}
use Rattle.command_settings.proofs.Numbers.{number_meant, number_missing}
use Rattle.command_settings.proofs.usage.number_of.Goals as goal

pub returns-clause-meant : goal.returns-clause-meant
returns-clause-meant c =
    let f = found_of c.args.matches.now in
    number_meant _ ghosts.from_str_gives c.args.id.now (rows_of f) c.get_one.result (λ t is. c.get_one.ensures.value t (one_text-rows f c.args.id.now ∙ is)) (λ t p gives. gives.0)

pub returns-clause-missing : goal.returns-clause-missing
returns-clause-missing c =
    let f = found_of c.args.matches.now in
    number_missing _ ghosts.from_str_gives c.args.id.now (rows_of f) c.get_one.result (λ t is. c.get_one.ensures.value t (one_text-rows f c.args.id.now ∙ is)) (λ t p gives. gives.0)
