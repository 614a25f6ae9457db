use Rattle.std.proofs.Common.{◌∙◌, ap, sym}
use Rattle.flat_machine.specs.Accesses.{fetched_of}
use Rattle.flat_machine.specs.Memories as memory
use Rattle.flat_model.specs.Flat.{FlatNode}
use Rattle.flat_model.specs.Steps.{plan_access, plan_unless}
use Rattle.rv32_exec.specs.Meaning.{Private, Loads, DoesLr, DoesSc, Stores, DoesAmo, Fences, access_of, stop_of}
use Rattle.rv32_exec.specs.Width.{byte_count}
use Rattle.rv32_exec.specs.declared.actions.Action.TheVariants as action
use Rattle.flat_machine.proofs.FoundPlans.{found, goes_on, seen}
use Rattle.flat_machine.proofs.stepping.plan_instr.Goals as goal

pub returns-in-Load : goal.returns-in-Load
returns-in-Load c =
    let hart = c.args.node.now.hart in
    let i = c.args.fetched.now.instr in
    let f = found i hart.pc hart.regs c.args.size c.plan.result (action.Load c.in-Load.addr c.in-Load.size) (seen c.plan.result i c.args.size c.node.inside.hart hart (ap (λ (n : FlatNode). n.hart) c.node.view_is) c.plan.ensures.value) c.in-Load.is in
    c.plan_load.ensures ∙ goes_on c.args.model (memory.bytes_of c.args.memory.now) c.args.node.now (fetched_of c.args.fetched.now) (stop_of i hart.pc hart.regs c.args.size) (access_of i hart.regs) (Loads c.in-Load.addr (byte_count c.in-Load.size)) f

pub returns-in-Store : goal.returns-in-Store
returns-in-Store c =
    let hart = c.args.node.now.hart in
    let i = c.args.fetched.now.instr in
    let f = found i hart.pc hart.regs c.args.size c.plan.result (action.Store c.in-Store.addr c.in-Store.size c.in-Store.value) (seen c.plan.result i c.args.size c.node.inside.hart hart (ap (λ (n : FlatNode). n.hart) c.node.view_is) c.plan.ensures.value) c.in-Store.is in
    c.plan_store.ensures ∙ goes_on c.args.model (memory.bytes_of c.args.memory.now) c.args.node.now (fetched_of c.args.fetched.now) (stop_of i hart.pc hart.regs c.args.size) (access_of i hart.regs) (Stores c.in-Store.addr (byte_count c.in-Store.size) c.in-Store.value) f

pub returns-in-Lr : goal.returns-in-Lr
returns-in-Lr c =
    let hart = c.args.node.now.hart in
    let i = c.args.fetched.now.instr in
    let f = found i hart.pc hart.regs c.args.size c.plan.result (action.Lr c.in-Lr.addr) (seen c.plan.result i c.args.size c.node.inside.hart hart (ap (λ (n : FlatNode). n.hart) c.node.view_is) c.plan.ensures.value) c.in-Lr.is in
    c.plan_lr.ensures ∙ goes_on c.args.model (memory.bytes_of c.args.memory.now) c.args.node.now (fetched_of c.args.fetched.now) (stop_of i hart.pc hart.regs c.args.size) (access_of i hart.regs) (DoesLr c.in-Lr.addr) f

pub returns-in-Amo : goal.returns-in-Amo
returns-in-Amo c =
    let hart = c.args.node.now.hart in
    let i = c.args.fetched.now.instr in
    let f = found i hart.pc hart.regs c.args.size c.plan.result (action.Amo c.in-Amo.addr c.in-Amo.op c.in-Amo.operand) (seen c.plan.result i c.args.size c.node.inside.hart hart (ap (λ (n : FlatNode). n.hart) c.node.view_is) c.plan.ensures.value) c.in-Amo.is in
    c.plan_amo.ensures ∙ goes_on c.args.model (memory.bytes_of c.args.memory.now) c.args.node.now (fetched_of c.args.fetched.now) (stop_of i hart.pc hart.regs c.args.size) (access_of i hart.regs) (DoesAmo c.in-Amo.addr c.in-Amo.op c.in-Amo.operand) f

pub returns-in-Private : goal.returns-in-Private
returns-in-Private c =
    let hart = c.args.node.now.hart in
    let i = c.args.fetched.now.instr in
    let f = found i hart.pc hart.regs c.args.size c.plan.result action.Private (seen c.plan.result i c.args.size c.node.inside.hart hart (ap (λ (n : FlatNode). n.hart) c.node.view_is) c.plan.ensures.value) c.in-Private.is in
    c.retires.ensures ∙ goes_on c.args.model (memory.bytes_of c.args.memory.now) c.args.node.now (fetched_of c.args.fetched.now) (stop_of i hart.pc hart.regs c.args.size) (access_of i hart.regs) Private f

pub returns-in-Sc : goal.returns-in-Sc
returns-in-Sc c =
    let hart = c.args.node.now.hart in
    let i = c.args.fetched.now.instr in
    let f = found i hart.pc hart.regs c.args.size c.plan.result (action.Sc c.in-Sc.addr c.in-Sc.value) (seen c.plan.result i c.args.size c.node.inside.hart hart (ap (λ (n : FlatNode). n.hart) c.node.view_is) c.plan.ensures.value) c.in-Sc.is in
    c.plan_sc.ensures ∙ goes_on c.args.model (memory.bytes_of c.args.memory.now) c.args.node.now (fetched_of c.args.fetched.now) (stop_of i hart.pc hart.regs c.args.size) (access_of i hart.regs) (DoesSc c.in-Sc.addr c.in-Sc.value) f

pub returns-in-Fence : goal.returns-in-Fence
returns-in-Fence c =
    let hart = c.args.node.now.hart in
    let i = c.args.fetched.now.instr in
    let f = found i hart.pc hart.regs c.args.size c.plan.result action.Fence (seen c.plan.result i c.args.size c.node.inside.hart hart (ap (λ (n : FlatNode). n.hart) c.node.view_is) c.plan.ensures.value) c.in-Fence.is in
    c.plan_fence.ensures ∙ goes_on c.args.model (memory.bytes_of c.args.memory.now) c.args.node.now (fetched_of c.args.fetched.now) (stop_of i hart.pc hart.regs c.args.size) (access_of i hart.regs) Fences f

pub returns-in-Stop : goal.returns-in-Stop
returns-in-Stop c =
    let hart = c.args.node.now.hart in
    let i = c.args.fetched.now.instr in
    let f = found i hart.pc hart.regs c.args.size c.plan.result (action.Stop c.in-Stop.code) (seen c.plan.result i c.args.size c.node.inside.hart hart (ap (λ (n : FlatNode). n.hart) c.node.view_is) c.plan.ensures.value) c.in-Stop.is in
    ap (λ stop. plan_unless stop (plan_access c.args.model (memory.bytes_of c.args.memory.now) c.args.node.now (fetched_of c.args.fetched.now) (access_of i hart.regs))) (sym f)
