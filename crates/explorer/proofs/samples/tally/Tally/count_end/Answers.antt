use Rattle.std.proofs.Common.{◌≡◌, ◌+◌, ◌<◌, ◌∙◌, ℕ, ap, arith, subst, sym, All, unwrap_or}
use Rattle.std.specs.Map.{keys_of, values_of}
use Rattle.std.specs.Ordering.{on}
use Rattle.std.proofs.lemmas.Map.Views.{All-keys-insert_entry, All-values-insert_entry}
use Rattle.explorer.specs.Ends.{outcome_of}
use Rattle.explorer.specs.Ranks.{outcome_cmp}
use Rattle.explorer.specs.Sampled.{IsRealEnd, times_of}
use Rattle.explorer.proofs.Counting.{end_counted, on_ok, room}
use Rattle.explorer.proofs.samples.tally.Tally.count_end.Goals as goal

pub overflow_add-times : goal.overflow_add-times
overflow_add-times c =
    let before = c.requires.tally.counted in
    let times : c.unwrap_or-times.result ≡ times_of c.args.end c.args.self.now.ends.entries = c.unwrap_or-times.ensures ∙ ap (λ o. unwrap_or o 0) (c.copied.ensures ∙ c.get.ensures.value) in
    let most = room c.args.program.now.image.now c.args.program.now.config _ _ _ before c.args.end in
    omega (arith, times, most, c.requires.room)

pub returns-clause-tally : goal.returns-clause-tally
returns-clause-tally c =
    let image = c.args.program.now.image.now in
    let config = c.args.program.now.config in
    let before = c.args.self.now.ends.entries in
    let end = c.kept-end.result in
    let times : c.unwrap_or-times.result ≡ times_of c.args.end before = c.unwrap_or-times.ensures ∙ ap (λ o. unwrap_or o 0) (c.copied.ensures ∙ c.get.ensures.value) in
    let ok = sym c.is_err.ensures.value ∙ c.if-is_err.false in
    let updates = on_ok _ c.insert.result ok c.insert.ensures.updates in
    let entries = on_ok _ c.insert.result ok c.insert.ensures.entries in
    record {
      counted = end_counted image config before c.insert.new.self.entries _ _ c.unwrap_or-times.result c.args.end end c.requires.tally.counted c.requires.reached c.requires.short c.kept-end.ensures.outcome times updates.0;
      reached = subst (λ es. All (IsRealEnd image config) (keys_of es)) (sym entries) (All-keys-insert_entry (on outcome_of outcome_cmp) end (c.unwrap_or-times.result + 1) (IsRealEnd image config) before c.requires.tally.reached c.kept-end.ensures.reached);
      some = subst (λ es. All (λ (n : ℕ). 0 < n) (values_of es)) (sym entries) (All-values-insert_entry (on outcome_of outcome_cmp) end (c.unwrap_or-times.result + 1) (λ (n : ℕ). 0 < n) before c.requires.tally.some (omega arith));
    }
