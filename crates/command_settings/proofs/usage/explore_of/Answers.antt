use Rattle.std.proofs.Common.{◌∙◌, codes, drop, refl, sym}
use Rattle.clap.proofs.WalkLemmas.{first_value-rows, one_text-rows}
use Rattle.clap.specs.Words.{found_of, rows_of}
use Rattle.command_settings.specs.Usage.{explore_arguments, least_limit, least_window, machine_arguments, most_limit, most_size, most_window}
use Rattle.command_settings.proofs.Fronts.{has_front, has_rest}
use Rattle.command_settings.proofs.Missing.{flag_read, none_some}
use Rattle.command_settings.proofs.Ranges.{small_limit, small_size, small_window}
use Rattle.command_settings.proofs.usage.explore_of.Goals as goal

-- behind the flag and the six arguments of a machine stand those of the search and the image
pub returns-clause-meant : goal.returns-clause-meant
returns-clause-meant c = λ whole.
    let f = found_of c.args.matches.now in
    let raw = one_text-rows f (codes "raw") in
    let kept = one_text-rows f (codes "whole") in
    let early = one_text-rows f (codes "first") in
    let flag = one_text-rows f (codes "architecture") in
    let rest = has_rest (rows_of f) machine_arguments (drop 7 explore_arguments) whole.1 in
    record {
      raw = flag_read _ whole.0.0 _ whole.0.1 (λ h. c.get_flag.ensures.value (raw ∙ h)) (λ h. c.get_flag.ensures.other (raw ∙ h));
      machine = c.in_ok-machine_of.ensures.meant (has_front (rows_of f) machine_arguments (drop 7 explore_arguments) whole.1);
      states = c.in_ok-number_of.ensures.meant least_limit most_limit rest.0;
      scripts = sym (c.get_str.ensures ∙ first_value-rows f (codes "scripts"));
      whole = flag_read _ rest.1.1.0.0 _ rest.1.1.0.1 (λ h. c.get_flag-2.ensures.value (kept ∙ h)) (λ h. c.get_flag-2.ensures.other (kept ∙ h));
      allow = sym (c.get_str-2.ensures ∙ first_value-rows f (codes "allow"));
      fail_on = sym (c.get_str-3.ensures ∙ first_value-rows f (codes "fail-on"));
      first = flag_read _ rest.1.1.1.1.1.0.0 _ rest.1.1.1.1.1.0.1 (λ h. c.get_flag-3.ensures.value (early ∙ h)) (λ h. c.get_flag-3.ensures.other (early ∙ h));
      seconds = c.in_ok-number_of-2.ensures.meant 0 most_limit rest.1.1.1.1.1.1.0;
      sample = c.in_ok-number_of-3.ensures.meant 0 most_limit rest.1.1.1.1.1.1.1.0;
      seed = c.in_ok-number_of-4.ensures.meant 0 most_size rest.1.1.1.1.1.1.1.1.0;
      until = sym (c.get_str-4.ensures ∙ first_value-rows f (codes "until"));
      architecture = flag_read _ rest.1.1.1.1.1.1.1.1.1.1.0.0 _ rest.1.1.1.1.1.1.1.1.1.1.0.1 (λ h. c.get_flag-4.ensures.value (flag ∙ h)) (λ h. c.get_flag-4.ensures.other (flag ∙ h));
      window = c.in_ok-number_of-5.ensures.meant least_window most_window rest.1.1.1.1.1.1.1.1.1.1.1.0;
      image = sym (c.in_ok-get_str.ensures ∙ first_value-rows f (codes "IMAGE"));
    }

pub returns-in_err-machine_of-clause-missing : goal.returns-in_err-machine_of-clause-missing
returns-in_err-machine_of-clause-missing c = λ none whole. c.in_err-machine_of.ensures.missing refl (has_front (rows_of (found_of c.args.matches.now)) machine_arguments (drop 7 explore_arguments) whole.1)

pub returns-in_err-number_of-clause-missing : goal.returns-in_err-number_of-clause-missing
returns-in_err-number_of-clause-missing c = λ none whole. c.in_err-number_of.ensures.missing refl least_limit most_limit small_limit (has_rest (rows_of (found_of c.args.matches.now)) machine_arguments (drop 7 explore_arguments) whole.1).0

pub returns-in_err-get_str-clause-missing : goal.returns-in_err-get_str-clause-missing
returns-in_err-get_str-clause-missing c = λ none whole. none_some _ _ (c.in_err-get_str.ensures ∙ first_value-rows (found_of c.args.matches.now) (codes "IMAGE")) (has_rest (rows_of (found_of c.args.matches.now)) machine_arguments (drop 7 explore_arguments) whole.1).1.1.1.1.1.1.1.1.1.1.1.1.1.0.1

pub returns-in_err-number_of-2-clause-missing : goal.returns-in_err-number_of-2-clause-missing
returns-in_err-number_of-2-clause-missing c = λ none whole.
    c.in_err-number_of-2.ensures.missing refl 0 most_limit small_limit (has_rest (rows_of (found_of c.args.matches.now)) machine_arguments (drop 7 explore_arguments) whole.1).1.1.1.1.1.1.0

pub returns-in_err-number_of-3-clause-missing : goal.returns-in_err-number_of-3-clause-missing
returns-in_err-number_of-3-clause-missing c = λ none whole.
    c.in_err-number_of-3.ensures.missing refl 0 most_limit small_limit (has_rest (rows_of (found_of c.args.matches.now)) machine_arguments (drop 7 explore_arguments) whole.1).1.1.1.1.1.1.1.0

pub returns-in_err-number_of-4-clause-missing : goal.returns-in_err-number_of-4-clause-missing
returns-in_err-number_of-4-clause-missing c = λ none whole.
    c.in_err-number_of-4.ensures.missing refl 0 most_size small_size (has_rest (rows_of (found_of c.args.matches.now)) machine_arguments (drop 7 explore_arguments) whole.1).1.1.1.1.1.1.1.1.0

pub returns-in_err-number_of-5-clause-missing : goal.returns-in_err-number_of-5-clause-missing
returns-in_err-number_of-5-clause-missing c = λ none whole.
    c.in_err-number_of-5.ensures.missing refl least_window most_window small_window (has_rest (rows_of (found_of c.args.matches.now)) machine_arguments (drop 7 explore_arguments) whole.1).1.1.1.1.1.1.1.1.1.1.1.0
