use Rattle.std.proofs.Common.{◌∙◌, codes, drop, refl, sym}
use Rattle.clap.proofs.WalkLemmas.{first_value-rows, one_text-rows}
use Rattle.clap.specs.Words.{found_of, rows_of}
use Rattle.command_settings.specs.Usage.{least_limit, machine_arguments, most_limit, run_arguments}
use Rattle.command_settings.proofs.Fronts.{has_front}
use Rattle.command_settings.proofs.Missing.{flag_read, none_some}
use Rattle.command_settings.proofs.Ranges.{small_limit}
use Rattle.command_settings.proofs.usage.run_of.Goals as goal

-- behind the flag and the six arguments of a machine stand the limit, the journal, what it may not come to and the image
pub returns-clause-meant : goal.returns-clause-meant
returns-clause-meant c = λ whole.
    let f = found_of c.args.matches.now in
    let flag = one_text-rows f (codes "raw") in
    let limit = c.in_ok-number_of.ensures.meant least_limit most_limit whole.1.1.1.1.1.1.1.0 in
    record {
      raw = flag_read _ whole.0.0 _ whole.0.1 (λ h. c.get_flag.ensures.value (flag ∙ h)) (λ h. c.get_flag.ensures.other (flag ∙ h));
      machine = c.in_ok-machine_of.ensures.meant (has_front (rows_of f) machine_arguments (drop 7 run_arguments) whole.1);
      limit = limit.0;
      least = limit.1;
      most = limit.2;
      journal = sym (c.in_ok-get_str.ensures ∙ first_value-rows f (codes "journal"));
      fail_on = sym (c.get_str-2.ensures ∙ first_value-rows f (codes "fail-on"));
      image = sym (c.in_ok-get_str-2.ensures ∙ first_value-rows f (codes "IMAGE"));
    }

pub returns-in_err-machine_of-clause-missing : goal.returns-in_err-machine_of-clause-missing
returns-in_err-machine_of-clause-missing c = λ none whole. c.in_err-machine_of.ensures.missing refl (has_front (rows_of (found_of c.args.matches.now)) machine_arguments (drop 7 run_arguments) whole.1)

pub returns-in_err-number_of-clause-missing : goal.returns-in_err-number_of-clause-missing
returns-in_err-number_of-clause-missing c = λ none whole. c.in_err-number_of.ensures.missing refl least_limit most_limit small_limit whole.1.1.1.1.1.1.1.0

pub returns-in_err-get_str-clause-missing : goal.returns-in_err-get_str-clause-missing
returns-in_err-get_str-clause-missing c = λ none whole. none_some _ _ (c.in_err-get_str.ensures ∙ first_value-rows (found_of c.args.matches.now) (codes "journal")) whole.1.1.1.1.1.1.1.1.0.1

pub returns-in_err-get_str-2-clause-missing : goal.returns-in_err-get_str-2-clause-missing
returns-in_err-get_str-2-clause-missing c = λ none whole. none_some _ _ (c.in_err-get_str-2.ensures ∙ first_value-rows (found_of c.args.matches.now) (codes "IMAGE")) whole.1.1.1.1.1.1.1.1.1.1.0.1
