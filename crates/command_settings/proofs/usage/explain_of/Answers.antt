use Rattle.std.proofs.Common.{◌∙◌, codes, refl}
use Rattle.clap.proofs.WalkLemmas.{one_text-rows}
use Rattle.clap.specs.Words.{found_of}
use Rattle.command_settings.proofs.Missing.{flag_read}
use Rattle.command_settings.proofs.usage.explain_of.Goals as goal

pub returns-clause-meant : goal.returns-clause-meant
returns-clause-meant c = λ whole.
    let f = found_of c.args.matches.now in
    let strict = one_text-rows f (codes "strict") in
    let state = one_text-rows f (codes "state") in
    let vcd = one_text-rows f (codes "vcd") in
    record {
      replay = c.in_ok-replay.ensures.meant whole.1.1.1;
      strict = flag_read _ whole.0.0 _ whole.0.1 (λ h. c.get_flag.ensures.value (strict ∙ h)) (λ h. c.get_flag.ensures.other (strict ∙ h));
      state = flag_read _ whole.1.0.0 _ whole.1.0.1 (λ h. c.get_flag-2.ensures.value (state ∙ h)) (λ h. c.get_flag-2.ensures.other (state ∙ h));
      vcd = flag_read _ whole.1.1.0.0 _ whole.1.1.0.1 (λ h. c.get_flag-3.ensures.value (vcd ∙ h)) (λ h. c.get_flag-3.ensures.other (vcd ∙ h));
    }

pub returns-in_err-replay-clause-missing : goal.returns-in_err-replay-clause-missing
returns-in_err-replay-clause-missing c = λ none whole. c.in_err-replay.ensures.missing refl whole.1.1.1
