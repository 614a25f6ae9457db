use Rattle.std.proofs.Common.{◌≡◌, ◌∙◌, IfSome, ap, arith, length, rules, subst, sym}
use Rattle.std.proofs.lemmas.List.Elements.{All-pop, All-push}
use Rattle.std.specs.List.{All}
use Rattle.std.specs.declared.thread.PromisedHandle.{PromisedHandle}
use Rattle.host_threads.proofs.Joining.{joined}
use Rattle.host_threads.specs.Workers.{HandsBack, common_of}
use Rattle.host_threads.specs.declared.crew.Shared.{Shared}
use Rattle.host_threads.specs.declared.common.Common.{Common}
use Rattle.host_threads.proofs.crew.fn.run_all.scope.Goals as goal

pub spawn_with-requires-clause-keeps : goal.spawn_with-requires-clause-keeps
spawn_with-requires-clause-keeps g c = λ lifetimes outlives done kept.
    let common = c.captures.common.now in
    let popped = (All-pop (λ worker. common_of worker ≡ common) _ _ _ c.pop.ensures.items c.loop-worker.invariant.common).1 in
    let own : common_of c.in-Some.worker ≡ common = subst (λ one. IfSome one (λ worker. common_of worker ≡ common)) c.in-Some.is popped in
    subst (λ (shared : Common). HandsBack shared done) (own ∙ sym c.of.ensures) kept

pub loop-worker-preserved : goal.loop-worker-preserved
loop-worker-preserved g c = record {
  left = omega (arith, c.in-Some.ensures.len);
  common = (All-pop (λ worker. common_of worker ≡ c.captures.common.now) _ _ _ c.pop.ensures.items c.loop-worker.invariant.common).0;
  running = omega arith;
  promised = subst (All (λ (thread : PromisedHandle _ Shared). thread.promise.0.value ≡ c.captures.common.now)) (sym c.push_reserved.ensures.items)
      (All-push (λ (thread : PromisedHandle _ Shared). thread.promise.0.value ≡ c.captures.common.now) _ _ c.loop-worker.invariant.promised (ap (λ (shared : Shared). shared.0.value) c.in-Ok.ensures.ok ∙ c.of.ensures));
  room = omega arith;
  none = c.loop-worker.invariant.none;
  done_room = c.loop-worker.invariant.done_room;
  started = c.loop-worker.invariant.started;
}

pub loop-thread-preserved : goal.loop-thread-preserved
loop-thread-preserved g c = record {
  next = tt;
  finite = tt;
  all = omega (arith, ap length c.in-Some-thread.ensures.steps.0);
  room = omega (arith, ap length c.in-Some-thread.ensures.steps.0);
  back = λ common all.
      joined (λ (thread : PromisedHandle _ Shared). thread.promise.0.value) HandsBack common _ _ _ _ _ _ c.in-Some-thread.ensures.steps.0 c.push_reserved-in-loop-thread.ensures.items c.join.ensures
      (c.loop-thread.invariant.back common all);
}

pub returns : goal.returns
returns g c = record {
  done = search rules;
  back = (c.loop-thread.invariant.back c.captures.common.now
      (subst (All (λ (thread : PromisedHandle _ Shared). thread.promise.0.value ≡ c.captures.common.now)) (sym c.into_iter-thread-iterator.ensures.into_iter_gives.0) c.loop-worker.invariant.promised)).1;
  refused = search rules;
}
