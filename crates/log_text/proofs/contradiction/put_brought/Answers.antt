use Rattle.std.proofs.Common.{◌≡◌, Option, Some, subst, sym}
use Rattle.log_text.specs.Words.{brought_text}
use Rattle.log_text.specs.declared.place.Place.{Place}
use Rattle.text_fields.specs.Writing.{Writes}
use Rattle.log_text.proofs.contradiction.put_brought.Goals as goal

pub returns-in-Some : goal.returns-in-Some
returns-in-Some g c =
    let is : c.args.cause ≡ Some c.in-Some.place = search (c.in-Some.is, c.in-Some.place-is) in
    subst (λ (o : Option Place). Writes (g.W.Write.contents c.args.out.now) (g.W.Write.contents c.put_bringing.new.out) (brought_text o) c.put_bringing.result) (sym is) c.put_bringing.ensures

pub returns-in-None : goal.returns-in-None
returns-in-None g c = subst (λ (o : Option Place). Writes (g.W.Write.contents c.args.out.now) (g.W.Write.contents c.put.new.out) (brought_text o) c.put.result) (sym c.in-None.is) c.put.ensures
