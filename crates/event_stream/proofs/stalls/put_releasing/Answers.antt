use Rattle.std.proofs.Common.{subst, ℕ, Option, sym}
use Rattle.directory.specs.declared.answer.Transaction.{Transaction}
use Rattle.text_fields.specs.Pages.{Spells}
use Rattle.event_stream.specs.Stalls.{releasing, until_answered}
use Rattle.event_stream.proofs.stalls.put_releasing.Goals as goal

pub returns-in-Some : goal.returns-in-Some
returns-in-Some g c =
    let W = g.W.Write.contents in
    subst (λ (l : Option ℕ). Spells (W c.args.out.now) (W c.put_until_answered.new.out) c.args.page.now c.put_until_answered.new.page (releasing c.args.machine.now c.args.hart l) c.put_until_answered.result)
    (sym c.in-Some.is)
    (subst (λ (t : Transaction). Spells (W c.args.out.now) (W c.put_until_answered.new.out) c.args.page.now c.put_until_answered.new.page (until_answered c.args.hart c.in-Some.line t) c.put_until_answered.result)
    c.transaction_of-transaction.ensures c.put_until_answered.ensures)
