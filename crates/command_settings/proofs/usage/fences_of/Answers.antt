use Rattle.std.proofs.Common.{◌∙◌, codes, drop, refl, sym}
use Rattle.clap.proofs.WalkLemmas.{first_value-rows, one_text-rows}
use Rattle.clap.specs.Words.{found_of, rows_of}
use Rattle.command_settings.specs.Usage.{fences_arguments, least_limit, least_window, machine_arguments, most_limit, most_threads, most_window}
use Rattle.command_settings.proofs.Fronts.{has_front}
use Rattle.command_settings.proofs.Missing.{flag_read, none_some}
use Rattle.command_settings.proofs.Ranges.{small_limit, small_threads, small_window}
use Rattle.command_settings.proofs.usage.fences_of.Goals as goal

-- behind the flag and the six arguments of a machine stand the states, the window and the image
pub returns-clause-meant : goal.returns-clause-meant
returns-clause-meant c = λ whole.
    let f = found_of c.args.matches.now in
    let flag = one_text-rows f (codes "raw") in
    record {
      raw = flag_read _ whole.0.0 _ whole.0.1 (λ h. c.get_flag.ensures.value (flag ∙ h)) (λ h. c.get_flag.ensures.other (flag ∙ h));
      machine = c.in_ok-machine_of.ensures.meant (has_front (rows_of f) machine_arguments (drop 7 fences_arguments) whole.1);
      states = c.in_ok-number_of.ensures.meant least_limit most_limit whole.1.1.1.1.1.1.1.0;
      window = c.in_ok-number_of-2.ensures.meant least_window most_window whole.1.1.1.1.1.1.1.1.0;
      threads = c.in_ok-number_of-3.ensures.meant 0 most_threads whole.1.1.1.1.1.1.1.1.1.0;
      allow = sym (c.get_str.ensures ∙ first_value-rows f (codes "allow"));
      subject = c.subject_of.ensures whole.1.1.1.1.1.1.1.1.1.1.1.0.0 whole.1.1.1.1.1.1.1.1.1.1.1.0.1;
      scripts = sym (c.get_str-2.ensures ∙ first_value-rows f (codes "scripts"));
      write = sym (c.get_str-3.ensures ∙ first_value-rows f (codes "write"));
      image = sym (c.in_ok-get_str.ensures ∙ first_value-rows f (codes "IMAGE"));
    }

pub returns-in_err-machine_of-clause-missing : goal.returns-in_err-machine_of-clause-missing
returns-in_err-machine_of-clause-missing c = λ none whole. c.in_err-machine_of.ensures.missing refl (has_front (rows_of (found_of c.args.matches.now)) machine_arguments (drop 7 fences_arguments) whole.1)

pub returns-in_err-number_of-clause-missing : goal.returns-in_err-number_of-clause-missing
returns-in_err-number_of-clause-missing c = λ none whole. c.in_err-number_of.ensures.missing refl least_limit most_limit small_limit whole.1.1.1.1.1.1.1.0

pub returns-in_err-number_of-2-clause-missing : goal.returns-in_err-number_of-2-clause-missing
returns-in_err-number_of-2-clause-missing c = λ none whole. c.in_err-number_of-2.ensures.missing refl least_window most_window small_window whole.1.1.1.1.1.1.1.1.0

pub returns-in_err-number_of-3-clause-missing : goal.returns-in_err-number_of-3-clause-missing
returns-in_err-number_of-3-clause-missing c = λ none whole. c.in_err-number_of-3.ensures.missing refl 0 most_threads small_threads whole.1.1.1.1.1.1.1.1.1.0

pub returns-in_err-get_str-clause-missing : goal.returns-in_err-get_str-clause-missing
returns-in_err-get_str-clause-missing c = λ none whole. none_some _ _ (c.in_err-get_str.ensures ∙ first_value-rows (found_of c.args.matches.now) (codes "IMAGE")) whole.1.1.1.1.1.1.1.1.1.1.1.1.1.1.1.0.1
