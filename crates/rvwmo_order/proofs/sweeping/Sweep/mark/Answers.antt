use Rattle.std.proofs.Common.{◌∙◌, arith, sym}
use Rattle.rvwmo_order.proofs.Marks.{tells_each, tells_none, written_back}
use Rattle.rvwmo_order.proofs.sweeping.Sweep.mark.Goals as goal

pub returns-then-not-is_swept-clause-told : goal.returns-then-not-is_swept-clause-told
returns-then-not-is_swept-clause-told c = tells_none c.args.self.now.rule c.args.items.now c.args.ranking.now c.args.b.now c.clear.new.self.items c.args.among.now (sym c.is_swept.ensures ∙ c.if-not-is_swept.true) c.clear.ensures.items

pub returns-clause-told : goal.returns-clause-told
returns-clause-told c = tells_each c.args.self.now.rule c.args.items.now c.args.ranking.now c.args.b.now c.lowest-self.result _ c.stretch-stretch.result c.wanted_at-wanted.result c.deref.result.now c.args.among.now c.stretch-stretch.ensures.placed c.requires.own (sym c.is_swept.ensures ∙ c.if-not-is_swept.false) c.lowest-self.ensures c.stretch-stretch.ensures.cut c.wanted_at-wanted.ensures (c.deref.ensures.value ∙ c.in_ok-find_sources.ensures) (written_back c.resize.new.self.len c.mark_back.new.marks _ _ (let a = c.mark_back.auto.marks in let l = c.in_ok-resize.ensures.len in let d = c.deref_mut.ensures.len in omega (arith, a, l, d)) c.mark_back.ensures)
