use Rattle.std.proofs.Common.{◌∙◌, ap, sym}
use Rattle.flat_model.specs.Shown.{results, told}
use Rattle.explorer.specs.Sampled.{all_ended}
use Rattle.explorer.proofs.Counting.{one_unended}
use Rattle.explorer.proofs.samples.tally.Tally.count.Goals as goal

pub returns-then-not-all_ended-clause-tally : goal.returns-then-not-all_ended-clause-tally
returns-then-not-all_ended-clause-tally c =
    let image = c.args.program.now.image.now in
    let config = c.args.program.now.config in
    let shown = c.requires.results ∙ ap results c.requires.real in
    let is = ap all_ended (sym shown) ∙ (ap (λ rs. all_ended (told rs)) (sym c.deref.ensures.value) ∙ (sym c.all_ended.ensures ∙ c.if-not-all_ended.true)) in
    record {
      counted = one_unended image config c.args.schedule.events.items (record { replays = c.requires.replays; moves = c.requires.moves; within = c.requires.within }) _ _ _ c.requires.tally.counted is;
      reached = c.requires.tally.reached;
      some = c.requires.tally.some;
    }
