use Rattle.schedules.proofs.Shorter.{through, whole}
use Rattle.schedules.proofs.shortening.Script.shortened.Goals as goal

pub loop-size-init : goal.loop-size-init
loop-size-init g c = record { good = c.requires.good; sublist = whole c.args.events.items }

pub loop-size-preserved : goal.loop-size-preserved
loop-size-preserved g c = record {
  good = c.leave_out.ensures.good;
  sublist = through c.leave_out.new.short.items c.loop-size.short.items c.args.events.items c.leave_out.ensures.sublist c.loop-size.invariant.sublist;
}

pub loop-short-preserved : goal.loop-short-preserved
loop-short-preserved g c = record {
  good = c.leave_out-in-loop-short.ensures.good;
  sublist = through c.leave_out-in-loop-short.new.short.items c.loop-short.short.items c.args.events.items c.leave_out-in-loop-short.ensures.sublist c.loop-short.invariant.sublist;
}

pub returns-clause-sublist : goal.returns-clause-sublist
returns-clause-sublist g c = through c.leave_out-in-loop-short.new.short.items c.loop-short.short.items c.args.events.items c.leave_out-in-loop-short.ensures.sublist c.loop-short.invariant.sublist
