use Rattle.std.proofs.Common.{◌∙◌, ◌<◌, arith, sym}
use Rattle.image_writing.proofs.Walked.{passed_over}
use Rattle.image_writing.proofs.places.first_place.Goals as goal

pub loop-entry-preserved : goal.loop-entry-preserved
loop-entry-preserved c =
    let was = c.loop-entry.invariant in
    let below : c.loop-entry.entry < c.from-count.result = omega arith in
    record {
      same = passed_over c.args.file.now c.args.address c.loop-entry.entry c.from-count.result c.long-table.result below was.table (sym c.place_by.ensures ∙ c.in_default.is) ∙ was.same;
      within = omega (arith, below);
      count = was.count;
      table = was.table;
    }
