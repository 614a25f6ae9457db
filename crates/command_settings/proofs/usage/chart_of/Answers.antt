use Rattle.std.proofs.Common.{◌∙◌, codes, refl, sym}
use Rattle.clap.proofs.WalkLemmas.{first_value-rows}
use Rattle.clap.specs.Words.{found_of}
use Rattle.command_settings.proofs.usage.chart_of.Goals as goal

pub returns-clause-meant : goal.returns-clause-meant
returns-clause-meant c = λ whole. record {
  replay = c.in_ok-replay.ensures.meant whole.1;
  line = sym (c.get_str.ensures ∙ first_value-rows (found_of c.args.matches.now) (codes "line"));
}

pub returns-in_err-replay-clause-missing : goal.returns-in_err-replay-clause-missing
returns-in_err-replay-clause-missing c = λ none whole. c.in_err-replay.ensures.missing refl whole.1
