use Rattle.std.proofs.Common.{◌≡◌, ◌≢◌, ◌∙◌, ap, sym, [], List, ℕ}
use Rattle.directory.specs.Lines.{acquired_by, probed}
use Rattle.directory.specs.Entries.{is_asked_back, notes_of_entry}
use Rattle.directory.proofs.Calls.{probed-line_of, begun_by_probes}
use Rattle.directory.proofs.Sound.{alone, asked-in_the_way, sound-probing}
use Rattle.directory.proofs.Calls.{in_the_way-below}
use Rattle.directory.proofs.entry.Entry.begin.Goals as goal

pub grant-entry-requires-clause-alone : goal.grant-entry-requires-clause-alone
grant-entry-requires-clause-alone c =
    alone c.args.self.owner c.probes-probes.result c.args.requester
    (ap (λ (s : List ℕ). is_asked_back c.args.self.owner s c.args.requester) c.probes-probes.ensures ∙ asked-in_the_way c.args.self c.args.requester c.args.grow c.requires.sound.owner)
    (c.is_empty.ensures.0 c.if-is_empty.true)

pub returns-then-is_empty-clause-meaning : goal.returns-then-is_empty-clause-meaning
returns-then-is_empty-clause-meaning c = λ harts l few sound.
    let none : probed (notes_of_entry harts c.args.self) c.args.requester c.args.grow ≡ [] = probed-line_of harts c.args.self c.args.requester c.args.grow sound few ∙ sym c.probes-probes.ensures ∙ c.is_empty.ensures.0 c.if-is_empty.true in
    rw (c.grant-entry.ensures.grant harts l, c.grant-entry.ensures.line harts l few)
    (sym (ap (λ (hs : List ℕ). acquired_by (notes_of_entry harts c.args.self) c.args.requester c.args.grow hs) none))

pub returns-clause-meaning : goal.returns-clause-meaning
returns-clause-meaning c = λ harts l few sound.
    let some : c.probes-probes.result ≢ [] = λ none. (let yes_is = c.is_empty.ensures.1 none in let no_is = c.if-is_empty.false in cc) in
    rw c.probe_cap.ensures (begun_by_probes harts c.args.self c.args.requester c.args.grow c.probes-probes.result c.probes-probes.ensures some sound few)

pub returns-clause-sound : goal.returns-clause-sound
returns-clause-sound c = λ harts l few sound. sound-probing harts c.args.self c.args.requester c.args.grow c.probes-probes.result c.probes-probes.ensures l few sound

pub returns-then-is_empty-clause-harts : goal.returns-then-is_empty-clause-harts
returns-then-is_empty-clause-harts c = λ harts l few sound. rw (c.grant-entry.ensures.grant harts l) l

pub returns-clause-harts : goal.returns-clause-harts
returns-clause-harts c = λ harts l few sound. in_the_way-below harts c.args.self c.args.requester c.args.grow c.probes-probes.result c.probes-probes.ensures sound few
