use Rattle.std.proofs.Common.{◌∙◌, Some, ap, codes, refl, sym}
use Rattle.clap.proofs.WalkLemmas.{first_value-rows}
use Rattle.clap.specs.Words.{found_of}
use Rattle.command_settings.specs.Usage.{most_size}
use Rattle.command_settings.proofs.Missing.{known_name, none_some}
use Rattle.command_settings.proofs.Ranges.{small_size}
use Rattle.command_settings.proofs.usage.machine_of.Goals as goal

pub returns-clause-meant : goal.returns-clause-meant
returns-clause-meant c = λ whole. record {
  harts = (c.in_ok-number_of.ensures.meant 0 most_size whole.0).0;
  memory = (c.in_ok-number_of-2.ensures.meant 0 most_size whole.1.0).0;
  sets = (c.in_ok-number_of-3.ensures.meant 0 most_size whole.1.1.0).0;
  ways = (c.in_ok-number_of-4.ensures.meant 0 most_size whole.1.1.1.0).0;
  line = (c.in_ok-number_of-5.ensures.meant 0 most_size whole.1.1.1.1.0).0;
  model = sym (c.in_ok-get_str.ensures ∙ first_value-rows (found_of c.args.matches.now) (codes "model")) ∙ ap Some c.in_ok-model_of.ensures.known;
}

pub returns-in_err-number_of-clause-missing : goal.returns-in_err-number_of-clause-missing
returns-in_err-number_of-clause-missing c = λ none whole. c.in_err-number_of.ensures.missing refl 0 most_size small_size whole.0

pub returns-in_err-number_of-2-clause-missing : goal.returns-in_err-number_of-2-clause-missing
returns-in_err-number_of-2-clause-missing c = λ none whole. c.in_err-number_of-2.ensures.missing refl 0 most_size small_size whole.1.0

pub returns-in_err-number_of-3-clause-missing : goal.returns-in_err-number_of-3-clause-missing
returns-in_err-number_of-3-clause-missing c = λ none whole. c.in_err-number_of-3.ensures.missing refl 0 most_size small_size whole.1.1.0

pub returns-in_err-number_of-4-clause-missing : goal.returns-in_err-number_of-4-clause-missing
returns-in_err-number_of-4-clause-missing c = λ none whole. c.in_err-number_of-4.ensures.missing refl 0 most_size small_size whole.1.1.1.0

pub returns-in_err-number_of-5-clause-missing : goal.returns-in_err-number_of-5-clause-missing
returns-in_err-number_of-5-clause-missing c = λ none whole. c.in_err-number_of-5.ensures.missing refl 0 most_size small_size whole.1.1.1.1.0

pub returns-in_err-get_str-clause-missing : goal.returns-in_err-get_str-clause-missing
returns-in_err-get_str-clause-missing c = λ none whole. none_some _ _ (c.in_err-get_str.ensures ∙ first_value-rows (found_of c.args.matches.now) (codes "model")) whole.1.1.1.1.1.0.1

pub returns-in_err-model_of-clause-missing : goal.returns-in_err-model_of-clause-missing
returns-in_err-model_of-clause-missing c = λ none whole.
    c.in_err-model_of.ensures.unknown refl whole.1.1.1.1.1.0.0 (known_name _ _ _ (c.in_ok-get_str.ensures ∙ first_value-rows (found_of c.args.matches.now) (codes "model")) whole.1.1.1.1.1.0.1)
