use Rattle.std.proofs.Common.{◌∙◌, Some, ap, codes, refl, sym}
use Rattle.clap.proofs.WalkLemmas.{first_value-rows, one_text-rows}
use Rattle.clap.specs.Words.{found_of}
use Rattle.command_settings.proofs.Missing.{flag_read, known_name, none_some}
use Rattle.command_settings.proofs.usage.check_of.Goals as goal

pub returns-clause-meant : goal.returns-clause-meant
returns-clause-meant c = λ whole.
    let f = found_of c.args.matches.now in
    let flag = one_text-rows f (codes "messages") in
    let ended = one_text-rows f (codes "ended") in
    record {
      messages = flag_read _ whole.0.0 _ whole.0.1 (λ h. c.get_flag.ensures.value (flag ∙ h)) (λ h. c.get_flag.ensures.other (flag ∙ h));
      ended = flag_read _ whole.1.0.0 _ whole.1.0.1 (λ h. c.get_flag-2.ensures.value (ended ∙ h)) (λ h. c.get_flag-2.ensures.other (ended ∙ h));
      profile = sym (c.get_str-3.ensures ∙ first_value-rows f (codes "profile"));
      breaches = c.breaches_of.ensures whole.1.1.1.0.0 whole.1.1.1.0.1;
      other_opcodes = c.other_opcodes_of.ensures whole.1.1.1.1.0.0 whole.1.1.1.1.0.1;
      model = sym (c.in_ok-get_str.ensures ∙ first_value-rows f (codes "model")) ∙ ap Some c.in_ok-model.ensures.known;
      trace = sym (c.in_ok-trace.ensures ∙ first_value-rows f (codes "TRACE"));
    }

pub returns-in_err-get_str-clause-missing : goal.returns-in_err-get_str-clause-missing
returns-in_err-get_str-clause-missing c = λ none whole. none_some _ _ (c.in_err-get_str.ensures ∙ first_value-rows (found_of c.args.matches.now) (codes "model")) whole.1.1.1.1.1.0.1

pub returns-in_err-model-clause-missing : goal.returns-in_err-model-clause-missing
returns-in_err-model-clause-missing c = λ none whole.
    c.in_err-model.ensures.unknown refl whole.1.1.1.1.1.0.0 (known_name _ _ _ (c.in_ok-get_str.ensures ∙ first_value-rows (found_of c.args.matches.now) (codes "model")) whole.1.1.1.1.1.0.1)

pub returns-in_err-trace-clause-missing : goal.returns-in_err-trace-clause-missing
returns-in_err-trace-clause-missing c = λ none whole. none_some _ _ (c.in_err-trace.ensures ∙ first_value-rows (found_of c.args.matches.now) (codes "TRACE")) whole.1.1.1.1.1.1.0.1
