use Rattle.std.proofs.Common.{◌≡◌, ◌∙◌, ap, sym}
use Rattle.tl_types.specs.Permission.{named_by, granted_for}
use Rattle.directory.specs.declared.answer.Known.{Known}
use Rattle.directory.specs.Lines.{needs_data}
use Rattle.directory.proofs.Entries.{line_of-granting, known_at-line_of}
use Rattle.directory.proofs.entry.Entry.grant.Goals as goal

pub returns-clause-grant : goal.returns-clause-grant
returns-clause-grant c = λ harts l.
    rw (c.granted-cap.ensures, c.needs_data-with_data.ensures, c.perm.ensures)
    (ap (λ (k : Known). record { hart = c.args.requester; cap = granted_for c.args.grow; with_data = needs_data c.args.grow k.perm }) (sym (known_at-line_of harts c.args.self c.args.requester l)))

pub returns-clause-line : goal.returns-clause-line
returns-clause-line c = λ harts l few.
    let perm_is : c.perm-2.result ≡ named_by (granted_for c.args.grow) = c.perm-2.ensures ∙ ap named_by c.granted-cap.ensures in
    line_of-granting harts c.args.self c.note-noted.result c.args.requester c.args.grow (rw perm_is at c.note-noted.ensures) l few
