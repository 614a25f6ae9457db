use Rattle.std.proofs.Common.{◌-◌, arith}
use Rattle.std.proofs.lemmas.List.{length-set}
use Rattle.rvwmo_order.proofs.Back.{flags_back, marks_back}
use Rattle.rvwmo_order.proofs.sweeping.mark_back.Goals as goal

pub loop-left-preserved : goal.loop-left-preserved
loop-left-preserved c =
    let kept = length-set c.loop-left.marks (c.loop-left.left - 1) c.replace_written.result in
    record {
      wanted = flags_back c.args.rule c.args.sources.now c.args.wanted.now c.args.stretch.now c.loop-left.left c.item-item.result c.instr.result c.loop-left.wanted c.replace_written.new.wanted c.want_asked.new.wanted c.loop-left-test.true c.item-item.ensures c.instr.ensures c.loop-left.invariant.wanted c.replace_written.ensures.before c.want_asked.ensures;
      marked = marks_back c.args.rule c.args.sources.now c.args.wanted.now c.args.stretch.now c.loop-left.left c.item-item.result c.instr.result c.loop-left.wanted c.loop-left.marks c.replace_written.result c.loop-left-test.true c.item-item.ensures c.instr.ensures c.loop-left.invariant.wanted c.replace_written.ensures.mark c.loop-left.invariant.long c.loop-left.invariant.marked;
      long = omega (arith, kept, c.loop-left.invariant.long);
      within = omega (arith, c.loop-left.invariant.within);
    }
