use Rattle.std.proofs.Common.{arith, rules, sym, true≢false}
use Rattle.schedules.proofs.Shorter.{through, whole}
use Rattle.schedules.proofs.shortening.Script.leave_out.Goals as goal

pub loop-start-init : goal.loop-start-init
loop-start-init g c = record { good = c.requires.good; sublist = whole c.args.short.now.items; left = omega arith; fewer = λ e. absurd (true≢false (sym e)) }

pub returns-in_err-try_without-clause-sublist : goal.returns-in_err-try_without-clause-sublist
returns-in_err-try_without-clause-sublist g c = through c.try_without.new.short.items c.loop-start.short.items c.args.short.now.items c.try_without.ensures.sublist c.loop-start.invariant.sublist

pub loop-start-preserved-then-branch : goal.loop-start-preserved-then-branch
loop-start-preserved-then-branch g c = record {
  good = c.try_without.ensures.good;
  sublist = through c.try_without.new.short.items c.loop-start.short.items c.args.short.now.items c.try_without.ensures.sublist c.loop-start.invariant.sublist;
  left = search rules;
  fewer = search rules;
}

pub loop-start-preserved : goal.loop-start-preserved
loop-start-preserved g c = record {
  good = c.try_without.ensures.good;
  sublist = through c.try_without.new.short.items c.loop-start.short.items c.args.short.now.items c.try_without.ensures.sublist c.loop-start.invariant.sublist;
  left = search rules;
  fewer = search rules;
}
