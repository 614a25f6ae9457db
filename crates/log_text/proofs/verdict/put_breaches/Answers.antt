use Rattle.std.proofs.Common.{ℕ, ◌-◌, ◌∙◌, List, ap, length, subst, sym}
use Rattle.std.specs.List.{flat_map}
use Rattle.log_text.specs.Verdicts.{broken_text, more_text}
use Rattle.message_judge.specs.declared.breaches.Broken.{Broken}
use Rattle.text_fields.proofs.Written.{begins_first, stops, writes_then}
use Rattle.text_fields.specs.Writing.{Begins, Writes}
use Rattle.std.specs.Io.KnownBytes.{Appends}
use Rattle.log_text.proofs.verdict.put_breaches.Goals as goal

pub returns-in_err-put_each : goal.returns-in_err-put_each
returns-in_err-put_each g c = stops _ _ _ _ c.from_residual.ensures.0
    (begins_first _ _ _ _ (subst (λ (l : List Broken). Begins (g.W.Write.contents c.args.out.now) (g.W.Write.contents c.put_each.new.out) (flat_map broken_text l)) c.as_slice-listed.ensures.value c.in_err-put_each.ensures))

pub returns : goal.returns
returns g c = writes_then _ _ _ _ _ _
    (subst (λ (l : List Broken). Appends (g.W.Write.contents c.args.out.now) (g.W.Write.contents c.put_each.new.out) (flat_map broken_text l)) c.as_slice-listed.ensures.value c.in_ok-put_each.ensures)
    (subst (λ (n : ℕ). Writes (g.W.Write.contents c.put_each.new.out) (g.W.Write.contents c.put_more.new.out) (more_text n) c.put_more.result) (c.saturating_sub.ensures ∙ ap (λ (n : ℕ). c.args.breaches.now.count - n) (ap length c.as_slice-listed.ensures.value)) c.put_more.ensures)
