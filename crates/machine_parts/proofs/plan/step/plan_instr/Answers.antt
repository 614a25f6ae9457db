use Rattle.std.proofs.Common.{◌∙◌, ap, slice_index}
use Rattle.machine_model.specs.Views.{Node}
use Rattle.machine_parts.specs.Accesses.{fetched_of}
use Rattle.hart.specs.Meaning.{Fences, Loads, Private, DoesLr, Stores, DoesSc, DoesAmo, Calls, access_of, stop_of}
use Rattle.hart.specs.Width.{byte_count}
use Rattle.hart.specs.ActionVariants as action
use Rattle.machine_parts.proofs.FoundPlans.{fit_found, found, goes_on, seen, stops}
use Rattle.machine_parts.proofs.plan.step.plan_instr.Goals as goal

pub plan_load-requires-clause-aligned : goal.plan_load-requires-clause-aligned
plan_load-requires-clause-aligned c = fit_found c.args.fetched.now.instr c.node.inside.hart.pc c.node.inside.hart.regs c.args.size c.plan.result (action.Load c.in-Load.addr c.in-Load.size) c.plan.ensures.value c.in-Load.is

pub plan_store-requires-clause-aligned : goal.plan_store-requires-clause-aligned
plan_store-requires-clause-aligned c = (fit_found c.args.fetched.now.instr c.node.inside.hart.pc c.node.inside.hart.regs c.args.size c.plan.result (action.Store c.in-Store.addr c.in-Store.size c.in-Store.value) c.plan.ensures.value c.in-Store.is).0

pub plan_store-requires-clause-fits : goal.plan_store-requires-clause-fits
plan_store-requires-clause-fits c = (fit_found c.args.fetched.now.instr c.node.inside.hart.pc c.node.inside.hart.regs c.args.size c.plan.result (action.Store c.in-Store.addr c.in-Store.size c.in-Store.value) c.plan.ensures.value c.in-Store.is).1

pub plan_lr-requires-clause-aligned : goal.plan_lr-requires-clause-aligned
plan_lr-requires-clause-aligned c = fit_found c.args.fetched.now.instr c.node.inside.hart.pc c.node.inside.hart.regs c.args.size c.plan.result (action.Lr c.in-Lr.addr) c.plan.ensures.value c.in-Lr.is

pub plan_amo-requires-clause-aligned : goal.plan_amo-requires-clause-aligned
plan_amo-requires-clause-aligned c = fit_found c.args.fetched.now.instr c.node.inside.hart.pc c.node.inside.hart.regs c.args.size c.plan.result (action.Amo c.in-Amo.addr c.in-Amo.op c.in-Amo.operand) c.plan.ensures.value c.in-Amo.is

pub returns-in-Load : goal.returns-in-Load
returns-in-Load c =
    let hart = c.args.node.now.hart in
    let i = c.args.fetched.now.instr in
    let f = found i hart.pc hart.regs c.args.size c.plan.result (action.Load c.in-Load.addr c.in-Load.size) (seen c.plan.result i c.args.size c.node.inside.hart hart (ap (λ (n : Node). n.hart) c.node.view_is) c.plan.ensures.value) c.in-Load.is in
    c.plan_load.ensures ∙ goes_on c.args.config.now.model c.args.node.now (fetched_of c.args.fetched.now) (stop_of i hart.pc hart.regs c.args.size) (access_of i hart.regs) (Loads c.in-Load.addr (byte_count c.in-Load.size)) f

pub returns-in-Store : goal.returns-in-Store
returns-in-Store c =
    let hart = c.args.node.now.hart in
    let i = c.args.fetched.now.instr in
    let f = found i hart.pc hart.regs c.args.size c.plan.result (action.Store c.in-Store.addr c.in-Store.size c.in-Store.value) (seen c.plan.result i c.args.size c.node.inside.hart hart (ap (λ (n : Node). n.hart) c.node.view_is) c.plan.ensures.value) c.in-Store.is in
    c.plan_store.ensures ∙ goes_on c.args.config.now.model c.args.node.now (fetched_of c.args.fetched.now) (stop_of i hart.pc hart.regs c.args.size) (access_of i hart.regs) (Stores c.in-Store.addr (byte_count c.in-Store.size) c.in-Store.value) f

pub returns-in-Lr : goal.returns-in-Lr
returns-in-Lr c =
    let hart = c.args.node.now.hart in
    let i = c.args.fetched.now.instr in
    let f = found i hart.pc hart.regs c.args.size c.plan.result (action.Lr c.in-Lr.addr) (seen c.plan.result i c.args.size c.node.inside.hart hart (ap (λ (n : Node). n.hart) c.node.view_is) c.plan.ensures.value) c.in-Lr.is in
    c.plan_lr.ensures ∙ goes_on c.args.config.now.model c.args.node.now (fetched_of c.args.fetched.now) (stop_of i hart.pc hart.regs c.args.size) (access_of i hart.regs) (DoesLr c.in-Lr.addr) f

pub returns-in-Sc : goal.returns-in-Sc
returns-in-Sc c =
    let hart = c.args.node.now.hart in
    let i = c.args.fetched.now.instr in
    let f = found i hart.pc hart.regs c.args.size c.plan.result (action.Sc c.in-Sc.addr c.in-Sc.value) (seen c.plan.result i c.args.size c.node.inside.hart hart (ap (λ (n : Node). n.hart) c.node.view_is) c.plan.ensures.value) c.in-Sc.is in
    c.plan_sc.ensures ∙ goes_on c.args.config.now.model c.args.node.now (fetched_of c.args.fetched.now) (stop_of i hart.pc hart.regs c.args.size) (access_of i hart.regs) (DoesSc c.in-Sc.addr c.in-Sc.value) f

pub returns-in-Amo : goal.returns-in-Amo
returns-in-Amo c =
    let hart = c.args.node.now.hart in
    let i = c.args.fetched.now.instr in
    let f = found i hart.pc hart.regs c.args.size c.plan.result (action.Amo c.in-Amo.addr c.in-Amo.op c.in-Amo.operand) (seen c.plan.result i c.args.size c.node.inside.hart hart (ap (λ (n : Node). n.hart) c.node.view_is) c.plan.ensures.value) c.in-Amo.is in
    c.plan_amo.ensures ∙ goes_on c.args.config.now.model c.args.node.now (fetched_of c.args.fetched.now) (stop_of i hart.pc hart.regs c.args.size) (access_of i hart.regs) (DoesAmo c.in-Amo.addr c.in-Amo.op c.in-Amo.operand) f

pub returns-in-Fence : goal.returns-in-Fence
returns-in-Fence c =
    let hart = c.args.node.now.hart in
    let i = c.args.fetched.now.instr in
    let f = found i hart.pc hart.regs c.args.size c.plan.result action.Fence (seen c.plan.result i c.args.size c.node.inside.hart hart (ap (λ (n : Node). n.hart) c.node.view_is) c.plan.ensures.value) c.in-Fence.is in
    c.plan_fence.ensures ∙ goes_on c.args.config.now.model c.args.node.now (fetched_of c.args.fetched.now) (stop_of i hart.pc hart.regs c.args.size) (access_of i hart.regs) Fences f

pub returns-in-Private : goal.returns-in-Private
returns-in-Private c =
    let hart = c.args.node.now.hart in
    let i = c.args.fetched.now.instr in
    let f = found i hart.pc hart.regs c.args.size c.plan.result action.Private (seen c.plan.result i c.args.size c.node.inside.hart hart (ap (λ (n : Node). n.hart) c.node.view_is) c.plan.ensures.value) c.in-Private.is in
    c.retires.ensures ∙ goes_on c.args.config.now.model c.args.node.now (fetched_of c.args.fetched.now) (stop_of i hart.pc hart.regs c.args.size) (access_of i hart.regs) Private f

pub returns-in-Call : goal.returns-in-Call
returns-in-Call c =
    let hart = c.args.node.now.hart in
    let i = c.args.fetched.now.instr in
    let f = found i hart.pc hart.regs c.args.size c.plan.result action.Call (seen c.plan.result i c.args.size c.node.inside.hart hart (ap (λ (n : Node). n.hart) c.node.view_is) c.plan.ensures.value) c.in-Call.is in
    c.plan_call.ensures ∙ goes_on c.args.config.now.model c.args.node.now (fetched_of c.args.fetched.now) (stop_of i hart.pc hart.regs c.args.size) (access_of i hart.regs) (Calls (slice_index hart.regs 17) (slice_index hart.regs 10)) f

pub returns-in-Stop : goal.returns-in-Stop
returns-in-Stop c =
    let hart = c.args.node.now.hart in
    let i = c.args.fetched.now.instr in
    let f = found i hart.pc hart.regs c.args.size c.plan.result (action.Stop c.in-Stop.code) (seen c.plan.result i c.args.size c.node.inside.hart hart (ap (λ (n : Node). n.hart) c.node.view_is) c.plan.ensures.value) c.in-Stop.is in
    stops c.args.config.now.model c.args.node.now (fetched_of c.args.fetched.now) (stop_of i hart.pc hart.regs c.args.size) (access_of i hart.regs) c.in-Stop.code f
