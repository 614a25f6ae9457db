use Rattle.std.proofs.Common.{◌≡◌, ◌∙◌, Global, List, Vec, ap, rules, sym, ℕ}
use Rattle.std.proofs.lemmas.List.{append-nil}
use Rattle.allowed_outcomes.specs.Allowing.{is_allowed_line, without_number}
use Rattle.explore_command.proofs.Refused.{one_told}
use Rattle.explore_command.proofs.judging.refusals_of.Goals as goal
use Rattle.explore_command.proofs.judging.refusals_of.Goals.{else-not-has, then-not-has+in_ok-add_refusal}

abbrev items : Vec ℕ Global → List ℕ
items bytes = bytes.items

pub loop-rest-preserved : goal.loop-rest-preserved
loop-rest-preserved g c =
    let line = g.T.Findings.line c.args.found.now in
    let text = c.args.text.now in
    let rest = c.loop-rest.rest.now in
    let here : is_allowed_line text (without_number (line c.first-item.result)) ≡ c.has.result =
    sym (c.has.ensures ∙ (c.in_ok-allowed.ensures _ ∙ ap (is_allowed_line text) (c.without_number.ensures ∙ ap without_number (c.deref.ensures.value ∙ c.in_ok-line.ensures)))) in
    record {
      told = elim c.if-not-has.branch [
        | then-not-has+in_ok-add_refusal w ↦ one_told line text _ rest c.first-item.result _ c.loop-rest.lines.items _ _ _ c.in-len1-up.len_at_least c.first-item.is (here ∙ w.if-not-has.true)
            (ap items w.lines-is ∙ w.in_ok-add_refusal.ensures) c.loop-rest.invariant.told
        | else-not-has w ↦ one_told line text _ rest c.first-item.result _ c.loop-rest.lines.items _ _ _ c.in-len1-up.len_at_least c.first-item.is (here ∙ w.if-not-has.false)
            (ap items w.lines-is ∙ sym (append-nil c.loop-rest.lines.items)) c.loop-rest.invariant.told
      ];
      count = search rules;
    }
