use Rattle.std.proofs.Common.{◌≡◌, ◌∙◌, Ok, ap, map, subst, sym, true}
use Rattle.std.specs.Cmp.Lexicographic.{pointwise_decides}
use Rattle.std.proofs.lemmas.Bool.Decides.{Decides-eqb}
use Rattle.flat_exploration.specs.Outcomes.{HasEnded, performed_word}
use Rattle.explorer.proofs.end.EndGoal.is_met.Goals as goal

pub returns : goal.returns
returns c e =
    let passes : c.eq.result ≡ true = cc in
    let ended : c.has_ended.result ≡ true = cc in
    let met : c.is_met.result ≡ Ok true = c.in_ok-is_met.was ∙ ap Ok c.if-not-branch.false in
    let addresses = c.args.self.now.addresses.now in
    let outcome = c.is_met.ensures met in
    let words = sym (ap (λ t. map (performed_word t) addresses) c.trace.ensures) ∙ (sym c.in_ok-shown.ensures ∙ (sym c.as_slice.ensures.value ∙ (pointwise_decides Decides-eqb c.as_slice.result.now c.args.self.now.words.now).0 (sym c.eq.ensures ∙ passes))) in
    record {
      ended = subst (HasEnded addresses) c.views.ensures (c.has_ended.ensures.0 ended);
      same = λ i. record { results = outcome i; words = words i };
    }
