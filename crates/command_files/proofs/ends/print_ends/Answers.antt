use Rattle.std.proofs.Common.{◌≡◌, ◌+◌, ◌-◌, ◌∙◌, List, ℕ, Vec, Global, ap, drop, get_or, length, map, rules, subst, take}
use Rattle.command_files.specs.Ends.{hart_line, hart_lines}
use Rattle.command_files.proofs.Ended.{first_line}
use Rattle.text_fields.proofs.Written.{going_as, going_fails, going_more, stops}
use Rattle.text_fields.specs.Writing.{Begins}
use Rattle.std.specs.Io.KnownBytes.{Appends}
use Rattle.command_files.proofs.ends.print_ends.Goals as goal

abbrev items : Vec ℕ Global → List ℕ
items output = output.items

pub returns-in_err-print_end : goal.returns-in_err-print_end
returns-in_err-print_end g c =
    let hart = c.loop-left.hart in
    let left = c.loop-left.left.now in
    let others = c.loop-left.others.now in
    let output = c.output-item.result in
    let text = hart_lines 0 c.args.statuses.now (map items c.args.outputs.now) in
    let later = hart_lines (hart + 1) (take (length left - 1) (drop 1 left)) (map items (take (length others - 1) (drop 1 others))) in
    let same : c.deref.result.now ≡ items (get_or others 0 output) = c.deref.ensures.value ∙ ap items c.output-item.is in
    stops _ _ _ _ c.from_residual.ensures.0
    (going_fails _ _ _ (hart_line hart (get_or left 0 _) (items (get_or others 0 output))) later text
    (going_as _ _ _ _ text (first_line items hart left others _ output c.in-len1-up.len_at_least c.in-len1-up-others.len_at_least) c.loop-left.invariant.told)
    (subst (λ (o : List ℕ). Begins (g.E.Write.contents c.loop-left.err) (g.E.Write.contents c.print_end.new.err) (hart_line hart (get_or left 0 _) o)) same c.in_err-print_end.ensures))

pub loop-left-preserved : goal.loop-left-preserved
loop-left-preserved g c =
    let hart = c.loop-left.hart in
    let left = c.loop-left.left.now in
    let others = c.loop-left.others.now in
    let output = c.output-item.result in
    let text = hart_lines 0 c.args.statuses.now (map items c.args.outputs.now) in
    let later = hart_lines (hart + 1) (take (length left - 1) (drop 1 left)) (map items (take (length others - 1) (drop 1 others))) in
    let same : c.deref.result.now ≡ items (get_or others 0 output) = c.deref.ensures.value ∙ ap items c.output-item.is in
    record {
      told = going_more _ _ _ (hart_line hart (get_or left 0 _) (items (get_or others 0 output))) later text
          (going_as _ _ _ _ text (first_line items hart left others _ output c.in-len1-up.len_at_least c.in-len1-up-others.len_at_least) c.loop-left.invariant.told)
          (subst (λ (o : List ℕ). Appends (g.E.Write.contents c.loop-left.err) (g.E.Write.contents c.print_end.new.err) (hart_line hart (get_or left 0 _) o)) same c.in_ok-print_end.ensures);
      count = search rules;
    }
