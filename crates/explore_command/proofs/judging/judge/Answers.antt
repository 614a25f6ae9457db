use Rattle.std.proofs.Common.{◌≡◌, ◌∙◌, ◌||◌, Global, List, Vec, length, map, option_map, rules, subst, sym, vec_len, ℕ}
use Rattle.explore_command.proofs.Refused.{allowed_by, begun, refused_by}
use Rattle.explore_command.specs.Judging.{fail_lines, have_failure}
use Rattle.text_fields.specs.Writing.{Begins}
use Rattle.explore_command.proofs.judging.judge.Goals as goal

abbrev items : Vec ℕ Global → List ℕ
items bytes = bytes.items

pub returns-then-not-is_empty-clause-judged : goal.returns-then-not-is_empty-clause-judged
returns-then-not-is_empty-clause-judged g c =
    let found = c.args.found.now in
    let counted : vec_len c.in-Ok.lines ≡ length c.in-Ok.lines.items = search rules in
    refused_by (option_map items c.args.allowed.now) (map (g.T.Findings.line found) (g.T.Findings.outcomes found))
    (fail_lines c.args.wanted.fail_on (g.T.Findings.has_failures found || have_failure (map g.T.Findings.harts (g.T.Findings.outcomes found))) (g.T.Findings.is_stuck found) (g.T.Findings.is_incomplete found))
    c.in-Ok.lines.items (vec_len c.in-Ok.lines) c.in-Ok.ensures counted (sym c.is_empty.ensures ∙ c.if-not-is_empty.true)

pub returns-then-is_whole-clause-judged : goal.returns-then-is_whole-clause-judged
returns-then-is_whole-clause-judged g c =
    let found = c.args.found.now in
    let counted : vec_len c.in-Ok.lines ≡ length c.in-Ok.lines.items = search rules in
    allowed_by (option_map items c.args.allowed.now) (map (g.T.Findings.line found) (g.T.Findings.outcomes found))
    (fail_lines c.args.wanted.fail_on (g.T.Findings.has_failures found || have_failure (map g.T.Findings.harts (g.T.Findings.outcomes found))) (g.T.Findings.is_stuck found) (g.T.Findings.is_incomplete found))
    c.in-Ok.lines.items (vec_len c.in-Ok.lines) c.in-Ok.ensures counted (sym c.is_empty.ensures ∙ c.if-not-is_empty.false)

-- a beginning of what there is to be told went out
pub returns-then-not-is_empty-clause-noted : goal.returns-then-not-is_empty-clause-noted
returns-then-not-is_empty-clause-noted g c =
    subst (Begins (g.E.Write.contents c.args.err.now) (g.E.Write.contents c.put.new.out)) (c.deref.ensures.value ∙ c.in-Ok.ensures) (begun _ _ c.deref.result.now c.put.result c.put.ensures)
