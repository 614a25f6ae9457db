use Rattle.std.proofs.Common.{◌≡◌, ◌≢◌, true, false, [], refl}
use Rattle.directory.specs.Lines.{is_any_awaited}
use Rattle.directory.specs.Entries.{notes_of_entry}
use Rattle.directory.proofs.Calls.{none-awaited, some-awaited}
use Rattle.directory.proofs.entry.Entry.answer.Goals as goal

pub returns-then-is_empty-clause-meaning : goal.returns-then-is_empty-clause-meaning
returns-then-is_empty-clause-meaning c = λ harts l few sound.
    let none : is_any_awaited (notes_of_entry harts c.args.self) ≡ false = none-awaited harts c.args.self (c.is_empty.ensures.0 c.if-is_empty.true) in
    rw (c.grant.ensures.grant harts l, c.grant.ensures.line harts l few, none) refl

pub returns-clause-meaning : goal.returns-clause-meaning
returns-clause-meaning c = λ harts l few sound.
    let some : c.args.self.awaited ≢ [] = λ none. (let yes_is = c.is_empty.ensures.1 none in let no_is = c.if-is_empty.false in cc) in
    let any : is_any_awaited (notes_of_entry harts c.args.self) ≡ true = some-awaited harts c.args.self sound some in
    rw any refl

pub returns-then-is_empty-clause-harts : goal.returns-then-is_empty-clause-harts
returns-then-is_empty-clause-harts c = λ harts l few sound. rw (c.grant.ensures.grant harts l) l
