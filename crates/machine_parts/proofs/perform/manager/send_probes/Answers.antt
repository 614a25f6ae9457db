use Rattle.std.proofs.Common.{◌<◌, ℕ, List, All, ap, sym, subst, ◌∙◌, length}
use Rattle.std.proofs.lemmas.List.{length-set}
use Rattle.std.proofs.lemmas.List.Elements.{All-head, All-rest}
use native.Mathlib.Omega.{arith}
use Rattle.machine_model.specs.Deliveries.{sent_probes}
use Rattle.machine_model.specs.Laws.{QueuesFit}
use Rattle.machine_model.specs.Views.{State}
use Rattle.machine_parts.proofs.Probes.{had_room_for_probe}
use Rattle.machine_parts.proofs.perform.manager.send_probes.Goals as goal

pub send-requires-clause-queue : goal.send-requires-clause-queue
send-requires-clause-queue c =
    let s = c.loop-hart.parts.state in
    let steps = c.in-Some.ensures.steps in
    let fit = subst QueuesFit (sym c.loop-hart.invariant.so_far ∙ ap (λ (harts : List ℕ). sent_probes harts c.args.line c.args.cap s) steps) c.requires.queues in
    let in_nodes = All-head (λ (h : ℕ). h < length s.views.nodes) c.in-Some.hart c.next.new.self (subst (All (λ (h : ℕ). h < length s.views.nodes)) steps c.loop-hart.invariant.harts) in
    had_room_for_probe c.in-Some.hart c.next.new.self c.args.line c.args.cap s in_nodes fit

pub loop-hart-preserved : goal.loop-hart-preserved
loop-hart-preserved c =
    let s = c.loop-hart.parts.state in
    let steps = c.in-Some.ensures.steps in
    let count = ap (λ (t : State). length t.views.nodes) c.send.ensures.state ∙ length-set s.views.nodes c.in-Some.hart _ in
    record {
      so_far = rw c.send.ensures.state (sym (ap (λ (harts : List ℕ). sent_probes harts c.args.line c.args.cap s) steps) ∙ c.loop-hart.invariant.so_far);
      harts = subst (λ (k : ℕ). All (λ (h : ℕ). h < k) c.next.new.self) (sym count) (All-rest (λ (h : ℕ). h < length s.views.nodes) c.in-Some.hart c.next.new.self c.loop-hart.hart-iterator steps c.loop-hart.invariant.harts);
      log = omega (arith, c.loop-hart.invariant.log, ap (λ (harts : List ℕ). length harts) steps, c.send.ensures.room);
    }
