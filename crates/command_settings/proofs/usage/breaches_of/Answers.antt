use Rattle.std.proofs.Common.{◌∙◌, codes}
use Rattle.clap.proofs.WalkLemmas.{one_text-rows}
use Rattle.clap.specs.Words.{found_of}
use Rattle.command_settings.proofs.Missing.{flag_off, flag_on}
use Rattle.command_settings.proofs.usage.breaches_of.Goals as goal

pub returns-then-get_flag : goal.returns-then-get_flag
returns-then-get_flag c = λ given is.
    let text = one_text-rows (found_of c.args.matches.now) (codes "all") in flag_on _ given _ is (λ h. c.get_flag.ensures.other (text ∙ h)) c.if-get_flag.true

pub returns-else-get_flag : goal.returns-else-get_flag
returns-else-get_flag c = λ given is.
    let text = one_text-rows (found_of c.args.matches.now) (codes "all") in flag_off _ given _ is (λ h. c.get_flag.ensures.value (text ∙ h)) c.if-get_flag.false
