use Rattle.std.proofs.Common.{◌∙◌, Some, ap, codes, refl, sym}
use Rattle.clap.proofs.WalkLemmas.{first_value-rows, one_text-rows}
use Rattle.clap.specs.Words.{found_of}
use Rattle.command_settings.proofs.Missing.{flag_read, known_name, none_some}
use Rattle.command_settings.proofs.usage.replay_of.Goals as goal

pub returns-clause-meant : goal.returns-clause-meant
returns-clause-meant c = λ whole.
    let f = found_of c.args.matches.now in
    let flag = one_text-rows f (codes "raw") in
    record {
      raw = flag_read _ whole.0.0 _ whole.0.1 (λ h. c.get_flag.ensures.value (flag ∙ h)) (λ h. c.get_flag.ensures.other (flag ∙ h));
      model = sym (c.in_ok-get_str.ensures ∙ first_value-rows f (codes "model")) ∙ ap Some c.in_ok-model_of.ensures.known;
      image = sym (c.in_ok-get_str-2.ensures ∙ first_value-rows f (codes "IMAGE"));
      script = sym (c.in_ok-get_str-3.ensures ∙ first_value-rows f (codes "SCRIPT"));
    }

pub returns-in_err-get_str-clause-missing : goal.returns-in_err-get_str-clause-missing
returns-in_err-get_str-clause-missing c = λ none whole. none_some _ _ (c.in_err-get_str.ensures ∙ first_value-rows (found_of c.args.matches.now) (codes "model")) whole.1.0.1

pub returns-in_err-model_of-clause-missing : goal.returns-in_err-model_of-clause-missing
returns-in_err-model_of-clause-missing c = λ none whole.
    c.in_err-model_of.ensures.unknown refl whole.1.0.0 (known_name _ _ _ (c.in_ok-get_str.ensures ∙ first_value-rows (found_of c.args.matches.now) (codes "model")) whole.1.0.1)

pub returns-in_err-get_str-2-clause-missing : goal.returns-in_err-get_str-2-clause-missing
returns-in_err-get_str-2-clause-missing c = λ none whole. none_some _ _ (c.in_err-get_str-2.ensures ∙ first_value-rows (found_of c.args.matches.now) (codes "IMAGE")) whole.1.1.0.1

pub returns-in_err-get_str-3-clause-missing : goal.returns-in_err-get_str-3-clause-missing
returns-in_err-get_str-3-clause-missing c = λ none whole. none_some _ _ (c.in_err-get_str-3.ensures ∙ first_value-rows (found_of c.args.matches.now) (codes "SCRIPT")) whole.1.1.1.0.1
