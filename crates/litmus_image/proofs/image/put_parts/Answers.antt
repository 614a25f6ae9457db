use Rattle.std.proofs.Common.{◌+◌, ◌-◌, ◌*◌, length, sym, ap, ◌∙◌, arith}
use Rattle.litmus_image.specs.Code.{then_code}
use Rattle.litmus_image.specs.Image.{part_code}
use Rattle.litmus_image.specs.declared.part.Part.{Part}
use Rattle.litmus_image.proofs.Laying.{parts_more, entry_stops}
use Rattle.litmus_image.proofs.image.put_parts.Goals as goal

pub returns-in-Err : goal.returns-in-Err
returns-in-Err c =
    rw c.of_hart.ensures (entry_stops c.args.parts.now c.loop-hart.hart (2 * c.saturating_sub-first.result + c.len.result) (2 * (length c.args.parts.now - 1) + length c.loop-hart.code.items) c.loop-hart.entry.items c.loop-hart.code.items c.args.entry.now.items c.args.code.now.items c.in-Err.error _ c.loop-hart-test.true (omega arith) c.in-Err.ensures c.loop-hart.invariant)

pub loop-hart-preserved : goal.loop-hart-preserved
loop-hart-preserved c =
    parts_more c.args.parts.now c.loop-hart.hart (2 * (length c.args.parts.now - 1)) (2 * c.saturating_sub-first.result + c.len.result) c.index-parts-hart.result c.loop-hart.entry.items c.put_entry.new.out.items c.loop-hart.code.items c.put_part.new.out.items _ c.loop-hart-test.true (omega arith) c.in_default.ensures (ap (λ (p : Part). then_code c.loop-hart.code.items (part_code p)) (sym c.index-parts-hart.is) ∙ c.in_default-put_part.ensures) c.loop-hart.invariant
