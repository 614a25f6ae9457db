use Rattle.std.proofs.Common.{ℕ, ◌≡◌, ◌∙◌, ◌+◌, ◌≤◌, ap, arith, subst, sym}
use Rattle.machine_model.specs.declared.act.Act.{Act}
use Rattle.machine_types.specs.declared.limits.TheConstants.{MAX_ENTRIES}
use Rattle.machine_model.specs.Changing.{acted, next_place}
use Rattle.machine_model.specs.Events.{entries_by}
use Rattle.machine_model.specs.Laws.{QueuesFit}
use Rattle.machine_model.specs.Ready.{IsReadyAct}
use Rattle.machine_model.specs.Views.{State}
use Rattle.machine_parts.specs.Needs.{HasNeeded, needs_of}
use Rattle.machine_parts.specs.Unstalled.{IsUnstalled}
use Rattle.trace_recorder.specs.History.{Room}
use Rattle.machine_parts.proofs.perform.perform.Goals as goal

-- what is said of an act that is this one
needed_of : (h : ℕ) (a is : Act) (s : State) (room : Room) → a ≡ is → HasNeeded h (needs_of s h a) room → HasNeeded h (needs_of s h is) room
needed_of h a is s room e = subst (λ (b : Act). HasNeeded h (needs_of s h b) room) e

few_of : (h : ℕ) (a is : Act) (s : State) → a ≡ is → next_place s h + entries_by a ≤ MAX_ENTRIES → next_place s h + entries_by is ≤ MAX_ENTRIES
few_of h a is s e = subst (λ (b : Act). next_place s h + entries_by b ≤ MAX_ENTRIES) e

ready_of : (h : ℕ) (a is : Act) (s : State) → a ≡ is → IsReadyAct h a s → IsReadyAct h is s
ready_of h a is s e = subst (λ (b : Act). IsReadyAct h b s) e

acted_of : (h : ℕ) (a is : Act) (s new : State) → a ≡ is → new ≡ acted h is s → new ≡ acted h a s
acted_of h a is s new e done = done ∙ sym (ap (λ (b : Act). acted h b s) e)

pub stop-requires-clause-room : goal.stop-requires-clause-room
stop-requires-clause-room c = needed_of c.args.hart c.args.act.now _ c.args.parts.now.state c.args.parts.now.room c.in-Stop.is c.requires.room

pub retire-requires-clause-room : goal.retire-requires-clause-room
retire-requires-clause-room c = needed_of c.args.hart c.args.act.now _ c.args.parts.now.state c.args.parts.now.room c.in-Retire.is c.requires.room

pub miss-requires-clause-room : goal.miss-requires-clause-room
miss-requires-clause-room c = needed_of c.args.hart c.args.act.now _ c.args.parts.now.state c.args.parts.now.room c.in-Miss.is c.requires.room

pub drain-requires-clause-room : goal.drain-requires-clause-room
drain-requires-clause-room c = needed_of c.args.hart c.args.act.now _ c.args.parts.now.state c.args.parts.now.room c.in-Drain.is c.requires.room

pub give_up-requires-clause-room : goal.give_up-requires-clause-room
give_up-requires-clause-room c = needed_of c.args.hart c.args.act.now _ c.args.parts.now.state c.args.parts.now.room c.in-Evict.is c.requires.room

pub deliver-requires-clause-room : goal.deliver-requires-clause-room
deliver-requires-clause-room c = needed_of c.args.hart c.args.act.now _ c.args.parts.now.state c.args.parts.now.room c.in-Deliver.is c.requires.room

pub go_alone-requires-clause-room : goal.go_alone-requires-clause-room
go_alone-requires-clause-room c = needed_of c.args.hart c.args.act.now _ c.args.parts.now.state c.args.parts.now.room c.in-Local.is c.requires.room

pub retire-requires-clause-ready : goal.retire-requires-clause-ready
retire-requires-clause-ready c = ready_of c.args.hart c.args.act.now _ c.args.parts.now.state c.in-Retire.is c.requires.ready.act

pub drain-requires-clause-ready : goal.drain-requires-clause-ready
drain-requires-clause-ready c = ready_of c.args.hart c.args.act.now _ c.args.parts.now.state c.in-Drain.is c.requires.ready.act

pub deliver-requires-clause-ready : goal.deliver-requires-clause-ready
deliver-requires-clause-ready c = ready_of c.args.hart c.args.act.now _ c.args.parts.now.state c.in-Deliver.is c.requires.ready.act

pub give_up-requires-clause-unstalled : goal.give_up-requires-clause-unstalled
give_up-requires-clause-unstalled c = subst (λ (a : Act). IsUnstalled c.args.hart a c.args.parts.now.state) c.in-Evict.is c.requires.unstalled

pub deliver-requires-clause-unstalled : goal.deliver-requires-clause-unstalled
deliver-requires-clause-unstalled c = subst (λ (a : Act). IsUnstalled c.args.hart a c.args.parts.now.state) c.in-Deliver.is c.requires.unstalled

pub retire-requires-clause-few : goal.retire-requires-clause-few
retire-requires-clause-few c =
    let few : next_place c.args.parts.now.state c.args.hart + 1 ≤ MAX_ENTRIES = few_of c.args.hart c.args.act.now _ c.args.parts.now.state c.in-Retire.is c.requires.fits in
    omega (arith, few)

pub go_alone-requires-clause-few : goal.go_alone-requires-clause-few
go_alone-requires-clause-few c = few_of c.args.hart c.args.act.now _ c.args.parts.now.state c.in-Local.is c.requires.fits

pub miss-requires-clause-room_in_queue : goal.miss-requires-clause-room_in_queue
miss-requires-clause-room_in_queue c = subst (λ (a : Act). QueuesFit (acted c.args.hart a c.args.parts.now.state)) c.in-Miss.is c.requires.ready.room

pub give_up-requires-clause-room_in_queue : goal.give_up-requires-clause-room_in_queue
give_up-requires-clause-room_in_queue c = subst (λ (a : Act). QueuesFit (acted c.args.hart a c.args.parts.now.state)) c.in-Evict.is c.requires.ready.room

pub deliver-requires-clause-queues : goal.deliver-requires-clause-queues
deliver-requires-clause-queues c = subst (λ (a : Act). QueuesFit (acted c.args.hart a c.args.parts.now.state)) c.in-Deliver.is c.requires.ready.room

pub returns-in-Stop-clause-ok : goal.returns-in-Stop-clause-ok
returns-in-Stop-clause-ok c = acted_of c.args.hart c.args.act.now _ c.args.parts.now.state c.stop.new.parts.state c.in-Stop.is c.stop.ensures

pub returns-in-Miss-clause-ok : goal.returns-in-Miss-clause-ok
returns-in-Miss-clause-ok c = acted_of c.args.hart c.args.act.now _ c.args.parts.now.state c.miss.new.parts.state c.in-Miss.is c.miss.ensures

pub returns-in-Drain-clause-ok : goal.returns-in-Drain-clause-ok
returns-in-Drain-clause-ok c = acted_of c.args.hart c.args.act.now _ c.args.parts.now.state c.drain.new.parts.state c.in-Drain.is c.drain.ensures

pub returns-in-Evict-clause-ok : goal.returns-in-Evict-clause-ok
returns-in-Evict-clause-ok c = acted_of c.args.hart c.args.act.now _ c.args.parts.now.state c.give_up.new.parts.state c.in-Evict.is c.give_up.ensures

pub returns-in-Deliver-clause-ok : goal.returns-in-Deliver-clause-ok
returns-in-Deliver-clause-ok c = acted_of c.args.hart c.args.act.now _ c.args.parts.now.state c.deliver.new.parts.state c.in-Deliver.is c.deliver.ensures

pub returns-in-Local-clause-ok : goal.returns-in-Local-clause-ok
returns-in-Local-clause-ok c = acted_of c.args.hart c.args.act.now _ c.args.parts.now.state c.go_alone.new.parts.state c.in-Local.is c.go_alone.ensures

pub returns-in_ok-retire-in-Retire-clause-ok : goal.returns-in_ok-retire-in-Retire-clause-ok
returns-in_ok-retire-in-Retire-clause-ok c = acted_of c.args.hart c.args.act.now _ c.args.parts.now.state c.retire.new.parts.state c.in-Retire.is c.in_ok-retire-in-Retire.ensures.ok
