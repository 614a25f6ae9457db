use Rattle.std.proofs.Common.{ℕ, ◌≡◌, ◌∙◌, ap, refl, subst, sym}
use Rattle.machine_model.specs.declared.act.Deed.{Deed}
use Rattle.machine_model.specs.Changing.{does}
use Rattle.machine_model.specs.Ready.{IsReadyDeed}
use Rattle.machine_model.specs.Views.{State}
use Rattle.machine_types.specs.declared.model.MemoryModel.{MemoryModel}
use Rattle.machine_parts.proofs.perform.deed.carry_out.Goals as goal

-- what is said of a deed that is this one
done_of : (model : MemoryModel) (h : ℕ) (d is : Deed) (s new : State) → d ≡ is → new ≡ does model h is s → new ≡ does model h d s
done_of model h d is s new e done = done ∙ sym (ap (λ (b : Deed). does model h b s) e)

ready_of : (h : ℕ) (d is : Deed) (s : State) → d ≡ is → IsReadyDeed h d s → IsReadyDeed h is s
ready_of h d is s e = subst (λ (b : Deed). IsReadyDeed h b s) e

pub put-requires-clause-fits : goal.put-requires-clause-fits
put-requires-clause-fits c = ready_of c.args.hart c.args.deed.now _ c.args.parts.now.state c.in-Store.is c.requires.ready

pub store_conditional-requires-clause-writable : goal.store_conditional-requires-clause-writable
store_conditional-requires-clause-writable c = ready_of c.args.hart c.args.deed.now _ c.args.parts.now.state c.in-Sc.is c.requires.ready

pub update-requires-clause-writable : goal.update-requires-clause-writable
update-requires-clause-writable c = ready_of c.args.hart c.args.deed.now _ c.args.parts.now.state c.in-Amo.is c.requires.ready

pub returns-in-Output : goal.returns-in-Output
returns-in-Output c = rw c.in-Output.is c.put_out.ensures

pub returns-in-Store : goal.returns-in-Store
returns-in-Store c = rw c.in-Store.is c.put.ensures

pub returns-in-Private-clause-ok : goal.returns-in-Private-clause-ok
returns-in-Private-clause-ok c = done_of c.args.parts.now.state.views.config.model c.args.hart c.args.deed.now _ c.args.parts.now.state c.args.parts.now.state c.in-Private.is refl

pub returns-in-Load-clause-ok : goal.returns-in-Load-clause-ok
returns-in-Load-clause-ok c = done_of c.args.parts.now.state.views.config.model c.args.hart c.args.deed.now _ c.args.parts.now.state c.perform_own.new.parts.state c.in-Load.is c.perform_own.ensures.state

pub returns-in-Seal-clause-ok : goal.returns-in-Seal-clause-ok
returns-in-Seal-clause-ok c = done_of c.args.parts.now.state.views.config.model c.args.hart c.args.deed.now _ c.args.parts.now.state c.seal.new.parts.state c.in-Seal.is c.seal.ensures.state

pub returns-in-Lr-clause-ok : goal.returns-in-Lr-clause-ok
returns-in-Lr-clause-ok c = done_of c.args.parts.now.state.views.config.model c.args.hart c.args.deed.now _ c.args.parts.now.state c.reserve_word.new.parts.state c.in-Lr.is c.reserve_word.ensures.state

pub returns-in-Fail-clause-ok : goal.returns-in-Fail-clause-ok
returns-in-Fail-clause-ok c = done_of c.args.parts.now.state.views.config.model c.args.hart c.args.deed.now _ c.args.parts.now.state c.end_reservation.new.parts.state c.in-Fail.is c.end_reservation.ensures.state

pub returns-in-Sc-clause-ok : goal.returns-in-Sc-clause-ok
returns-in-Sc-clause-ok c = done_of c.args.parts.now.state.views.config.model c.args.hart c.args.deed.now _ c.args.parts.now.state c.store_conditional.new.parts.state c.in-Sc.is c.store_conditional.ensures.state

pub returns-in-Amo-clause-ok : goal.returns-in-Amo-clause-ok
returns-in-Amo-clause-ok c = done_of c.args.parts.now.state.views.config.model c.args.hart c.args.deed.now _ c.args.parts.now.state c.update.new.parts.state c.in-Amo.is c.update.ensures.state
