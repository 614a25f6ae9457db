use Rattle.std.proofs.Common.{subst, ℕ, Option, sym}
use Rattle.directory.specs.declared.answer.Transaction.{Transaction}
use Rattle.text_fields.specs.Pages.{Spells}
use Rattle.event_stream.specs.Stalls.{busy, until_idle}
use Rattle.event_stream.proofs.stalls.put_busy.Goals as goal

pub returns-in-Some : goal.returns-in-Some
returns-in-Some g c =
    let W = g.W.Write.contents in
    subst (λ (l : Option ℕ). Spells (W c.args.out.now) (W c.put_until_idle.new.out) c.args.page.now c.put_until_idle.new.page (busy c.args.machine.now l) c.put_until_idle.result)
    (sym c.in-Some.is)
    (subst (λ (t : Transaction). Spells (W c.args.out.now) (W c.put_until_idle.new.out) c.args.page.now c.put_until_idle.new.page (until_idle c.args.machine.now c.in-Some.line t) c.put_until_idle.result)
    c.transaction_of-transaction.ensures c.put_until_idle.ensures)
