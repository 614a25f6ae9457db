use Rattle.std.proofs.Common.{◌≡◌, ◌∙◌, ap}
use Rattle.memory_model.specs.Traces.{instructions, operations_at}
use Rattle.rvwmo_order.proofs.Verdicts.{same_judged}
use Rattle.gate_plain_checker.proofs.checking.verdict_on.Goals as goal

pub returns : goal.returns
returns c =
    let t = c.args.trace.now.history in
    let listed : c.deref.result.now ≡ operations_at (instructions t) c.args.order.now = c.deref.ensures.value ∙ (c.in_ok-operations.ensures ∙ ap (λ hs. operations_at hs c.args.order.now) c.in_ok-harts.ensures) in
    c.judge.ensures ∙ same_judged c.args.model c.image.result.now t.image c.in_ok-harts.harts (instructions t) c.deref.result.now (operations_at (instructions t) c.args.order.now) c.image.ensures c.in_ok-harts.ensures listed
