use Rattle.std.proofs.Common.{◌∙◌, ap, sym}
use Rattle.directory.specs.Lines.{answered_in}
use Rattle.directory.specs.Entries.{notes_of_entry}
use Rattle.directory.proofs.Calls.{acked, not_probing}
use Rattle.directory.proofs.Sound.{requester-below}
use Rattle.directory.proofs.entry.Entry.probe_ack.Goals as goal

pub returns-in-Probing-clause-meaning : goal.returns-in-Probing-clause-meaning
returns-in-Probing-clause-meaning c = λ harts l few sound.
    let later_sound = c.acknowledge-acknowledged.ensures.sound harts l few sound in
    let below = requester-below harts c.acknowledge-acknowledged.result c.in-Probing.requester c.in-Probing.grow later_sound c.in-Probing.is in
    c.answer.ensures.meaning harts below.0 few later_sound
    ∙ ap (λ t. answered_in t (notes_of_entry harts c.acknowledge-acknowledged.result)) (sym c.in-Probing.is)
    ∙ sym (acked harts c.args.self c.acknowledge-acknowledged.result c.args.hart c.args.change (c.acknowledge-acknowledged.ensures.line harts l few))

pub returns-in_default : goal.returns-in_default
returns-in_default c = record {
  meaning = λ harts l few sound.
      sym (not_probing c.acknowledge-acknowledged.result.transaction (notes_of_entry harts c.acknowledge-acknowledged.result) c.in_default.not-Probing)
      ∙ sym (acked harts c.args.self c.acknowledge-acknowledged.result c.args.hart c.args.change (c.acknowledge-acknowledged.ensures.line harts l few));
  harts = λ harts l few sound. tt;
  sound = λ harts l few sound. c.acknowledge-acknowledged.ensures.sound harts l few sound;
}

pub returns-in-Probing-clause-harts : goal.returns-in-Probing-clause-harts
returns-in-Probing-clause-harts c = λ harts l few sound.
    let later_sound = c.acknowledge-acknowledged.ensures.sound harts l few sound in
    let below = requester-below harts c.acknowledge-acknowledged.result c.in-Probing.requester c.in-Probing.grow later_sound c.in-Probing.is in
    c.answer.ensures.harts harts below.0 few later_sound
