use Rattle.std.proofs.Common.{◌++◌, subst}
use Rattle.std.specs.Prelude.{decimal}
use Rattle.log_text.specs.Words.{way_text}
use Rattle.text_fields.proofs.Written.{begins_first, stops, writes_then}
use Rattle.text_fields.specs.Writing.{Writes}
use Rattle.tl_types.specs.declared.message.Channel.{Channel}
use Rattle.log_text.proofs.spelling.put_routed.Goals as goal

pub returns-in_err-put_heading : goal.returns-in_err-put_heading
returns-in_err-put_heading g c = stops _ _ _ _ c.from_residual.ensures.0 (begins_first _ _ _ _ c.in_err-put_heading.ensures)

pub returns : goal.returns
returns g c = writes_then _ _ _ _ _ _ c.in_ok-put_heading.ensures
    (subst (λ (ch : Channel). Writes (g.W.Write.contents c.put_heading.new.out) (g.W.Write.contents c.put_hart.new.out) (way_text ch ++ decimal c.args.entry.now.hart) c.put_hart.result) c.channel.ensures c.put_hart.ensures)
