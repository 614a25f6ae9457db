use Rattle.std.proofs.Common.{◌≡◌, Option, Some, subst, sym}
use Rattle.coherent_log.specs.declared.clients.Probed.{Probed}
use Rattle.log_text.specs.Words.{answered_text}
use Rattle.log_text.specs.declared.place.Place.{Place}
use Rattle.text_fields.specs.Writing.{Writes}
use Rattle.log_text.proofs.contradiction.put_answer.Goals as goal

pub returns-in-Some-Some : goal.returns-in-Some-Some
returns-in-Some-Some g c =
    let probe : c.args.probe ≡ Some c.in-Some-Some.probe = search (c.in-Some-Some.is-0, c.in-Some-Some.probe-is) in
    let place : c.args.place ≡ Some c.in-Some-Some.place = search (c.in-Some-Some.is-1, c.in-Some-Some.place-is) in
    subst (λ (o : Option Probed). Writes (g.W.Write.contents c.args.out.now) (g.W.Write.contents c.put_answered.new.out) (answered_text c.args.perm o c.args.place) c.put_answered.result) (sym probe)
    (subst (λ (o : Option Place). Writes (g.W.Write.contents c.args.out.now) (g.W.Write.contents c.put_answered.new.out) (answered_text c.args.perm (Some c.in-Some-Some.probe) o) c.put_answered.result) (sym place) c.put_answered.ensures)
