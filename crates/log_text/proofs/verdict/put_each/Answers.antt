use Rattle.log_text.specs.Verdicts.{broken_text}
use Rattle.text_fields.proofs.Written.{begins_at, stops}
use Rattle.log_text.proofs.verdict.put_each.Goals as goal

pub returns-in_err-put_broken : goal.returns-in_err-put_broken
returns-in_err-put_broken g c = stops _ _ _ _ c.from_residual.ensures.0 (begins_at _ _ _ broken_text c.args.listed.now c.loop-broken.broken-index _ c.loop-broken-test.true c.loop-broken.invariant c.in_err-put_broken.ensures)
