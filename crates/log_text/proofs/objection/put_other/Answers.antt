use Rattle.std.proofs.Common.{◌∙◌, ◌++◌, Bool, subst, sym}
use Rattle.std.specs.Prelude.{codes, if◌then◌else◌}
use Rattle.text_fields.specs.Writing.{Writes}
use Rattle.trace_text.specs.MessageParts.{heading}
use Rattle.log_text.proofs.objection.put_other.Goals as goal

pub returns-then-alike : goal.returns-then-alike
returns-then-alike g c = subst
    (λ (b : Bool). Writes (g.W.Write.contents c.args.out.now) (g.W.Write.contents c.put.new.out) (if b then codes "the message in front of its queue has other bytes" else heading c.args.front.now ++ codes " is in front of its queue") c.put.result)
    (sym c.if-alike.true ∙ c.is_spelt_alike-alike.ensures) c.put.ensures

pub returns-else-alike : goal.returns-else-alike
returns-else-alike g c = subst
    (λ (b : Bool). Writes (g.W.Write.contents c.args.out.now) (g.W.Write.contents c.put_foremost.new.out) (if b then codes "the message in front of its queue has other bytes" else heading c.args.front.now ++ codes " is in front of its queue") c.put_foremost.result)
    (sym c.if-alike.false ∙ c.is_spelt_alike-alike.ensures) c.put_foremost.ensures
