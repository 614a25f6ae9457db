use Rattle.std.proofs.Common.{ℕ, List, subst}
use Rattle.std.specs.Io.KnownBytes.{Appends}
use Rattle.text_fields.specs.Writing.{Begins}
use Rattle.run_chart.proofs.writing.write_chart.Goals as goal

pub returns-in-Ok-clause-drawn : goal.returns-in-Ok-clause-drawn
returns-in-Ok-clause-drawn g c = record {
  text = c.in_ok-bytes.bytes.items;
  chart = record { story = c.in_ok-story.story; told = c.in_ok-story.ensures.told; picture = c.in_ok-bytes.ensures };
  sent = subst (λ (t : List ℕ). Appends (g.W.Write.contents c.args.out.now) (g.W.Write.contents c.put.new.out) t) c.as_slice.ensures.value c.in-Ok.ensures;
}

pub returns-clause-undrawn : goal.returns-clause-undrawn
returns-clause-undrawn g c = record {
  text = c.in_ok-bytes.bytes.items;
  chart = record { story = c.in_ok-story.story; told = c.in_ok-story.ensures.told; picture = c.in_ok-bytes.ensures };
  begun = subst (λ (t : List ℕ). Begins (g.W.Write.contents c.args.out.now) (g.W.Write.contents c.put.new.out) t) c.as_slice.ensures.value c.in-Err.ensures;
}
