use Rattle.std.proofs.Common.{arith, rules}
use Rattle.std.proofs.lemmas.Grind.{common_steps}
use Rattle.coherent_machine.proofs.Refusals.{next_of, one_applied, refused_next, rest_place}
use Rattle.coherent_machine.proofs.machine.apply_all.Goals as goal

pub returns-in-Err-clause-refused : goal.returns-in-Err-clause-refused
returns-in-Err-clause-refused c =
    refused_next _ _ _ _ c.apply.new.self _ _ c.in-Err.error
    (next_of _ _ _ _ c.loop-rest.rest.now _ c.in-len1-up.len_at_least c.loop-rest.invariant.applied)
    c.in-Err.ensures.answers

pub loop-rest-preserved : goal.loop-rest-preserved
loop-rest-preserved c = record {
  applied = one_applied _ _ _ _ _ _ _ _
      (next_of _ _ _ _ c.loop-rest.rest.now _ c.in-len1-up.len_at_least c.loop-rest.invariant.applied)
      c.in_default-apply.ensures.answers
      c.in_default-apply.ensures.ok;
  place = rest_place c.loop-rest.rest.now _ _ c.in-len1-up.len_at_least c.loop-rest.invariant.place;
  reached = c.apply.ensures.reached;
  headline = c.apply.ensures.headline;
  log = c.apply.ensures.log;
}

pub returns-in-Err-clause-ok : goal.returns-in-Err-clause-ok
returns-in-Err-clause-ok c = search rules

pub returns-in-Err-clause-reached : goal.returns-in-Err-clause-reached
returns-in-Err-clause-reached c = search rules

pub returns-in-Err-clause-headline : goal.returns-in-Err-clause-headline
returns-in-Err-clause-headline c = search rules

pub returns-in-Err-clause-log : goal.returns-in-Err-clause-log
returns-in-Err-clause-log c = search rules

pub returns-clause-refused : goal.returns-clause-refused
returns-clause-refused c = search rules

pub returns-clause-reached : goal.returns-clause-reached
returns-clause-reached c = search rules

pub returns-clause-headline : goal.returns-clause-headline
returns-clause-headline c = search rules

pub returns-clause-log : goal.returns-clause-log
returns-clause-log c = search rules

pub loop-rest-init : goal.loop-rest-init
loop-rest-init c = search rules

pub slice_bounds-tail-count : goal.slice_bounds-tail-count
slice_bounds-tail-count c = search rules

pub bounds-rest-0 : goal.bounds-rest-0
bounds-rest-0 c = search rules

pub slice_bounds-tail-start : goal.slice_bounds-tail-start
slice_bounds-tail-start c = search rules

pub slice_bounds-tail-end : goal.slice_bounds-tail-end
slice_bounds-tail-end c = search rules

pub loop-rest-smaller : goal.loop-rest-smaller
loop-rest-smaller c = search rules

pub returns-clause-ok : goal.returns-clause-ok
returns-clause-ok c = grind (arith, common_steps)
