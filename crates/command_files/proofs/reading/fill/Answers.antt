use Rattle.std.proofs.Common.{◌+◌, ◌-◌, ◌++◌, ap, arith, le_refl, length, rules, subst, sym, ◌∙◌, take}
use Rattle.std.proofs.lemmas.Slice.{take-put_mid_below}
use Rattle.std.specs.Io.KnownBytes.{Consumes}
use Rattle.std.proofs.KnownBytes.{Consumes-trans}
use Rattle.command_files.proofs.Filled.{read_part, take_split}
use borrow.Rule.Slice.PartMut.{put_mid}
use Rattle.command_files.proofs.reading.fill.Goals as goal

pub loop-count-preserved : goal.loop-count-preserved
loop-count-preserved g c =
    let from = c.loop-count.count in
    let room = length c.loop-count.buffer - from in
    let within = c.loop-count.invariant.within in
    let part = read_part from room c.in-Ok.more c.loop-count.buffer c.read.new.buf within c.in-Ok.ensures.bound.0 in
    let joined = take_split from (from + c.in-Ok.more) c.loop-count.buffer (put_mid from room c.loop-count.buffer c.read.new.buf) (omega arith) (take-put_mid_below _ _ _ _ _ (le_refl _) within) in
    record {
      room = search rules;
      within = search rules;
      read = subst (Consumes _ _) (ap (λ l. take from c.loop-count.buffer ++ l) (sym part) ∙ joined) (Consumes-trans _ _ _ _ _ c.loop-count.invariant.read c.in-Ok.ensures.bytes.0);
    }
