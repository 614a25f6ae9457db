use Rattle.std.proofs.Common.{◌++◌, subst}
use Rattle.std.specs.Io.KnownBytes.{Appends}
use Rattle.log_text.specs.Words.{answered_text, holding_text}
use Rattle.text_fields.proofs.Written.{begins_first, stops, writes_then}
use Rattle.text_fields.specs.Writing.{Begins, Writes}
use Rattle.tl_types.specs.declared.permission.Perm.{Perm}
use Rattle.log_text.proofs.contradiction.put_obeying.Goals as goal

pub returns-in_err-put_held : goal.returns-in_err-put_held
returns-in_err-put_held g c = stops _ _ _ _ c.from_residual.ensures.0
    (begins_first _ _ _ _ (subst (λ (p : Perm). Begins (g.W.Write.contents c.args.out.now) (g.W.Write.contents c.put_held.new.out) (holding_text c.args.hart p c.args.cause)) c.perm_in-perm.ensures c.in_err-put_held.ensures))

pub returns : goal.returns
returns g c = writes_then _ _ _ _ _ _
    (subst (λ (p : Perm). Appends (g.W.Write.contents c.args.out.now) (g.W.Write.contents c.put_held.new.out) (holding_text c.args.hart p c.args.cause)) c.perm_in-perm.ensures c.in_ok-put_held.ensures)
    (subst (λ (p : Perm). Writes (g.W.Write.contents c.put_held.new.out) (g.W.Write.contents c.put_answer.new.out) (answered_text p c.args.probe c.args.place) c.put_answer.result) c.perm_in-perm.ensures c.put_answer.ensures)
