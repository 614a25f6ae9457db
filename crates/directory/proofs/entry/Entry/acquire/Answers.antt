use Rattle.std.proofs.Common.{◌∙◌, sym}
use Rattle.directory.proofs.Calls.{acquired-idle, acquired-busy}
use Rattle.directory.proofs.entry.Entry.acquire.Goals as goal

pub returns-in-Idle-clause-meaning : goal.returns-in-Idle-clause-meaning
returns-in-Idle-clause-meaning c = λ harts l few sound. c.begin.ensures.meaning harts l few sound ∙ sym (acquired-idle harts c.args.self c.args.requester c.args.grow c.in-Idle.is)

pub returns-in_default : goal.returns-in_default
returns-in_default c = record {
  meaning = λ harts l few sound. sym (acquired-busy harts c.args.self c.args.requester c.args.grow c.in_default.not-Idle);
  harts = λ harts l few sound. tt;
  sound = λ harts l few sound. sound;
}
