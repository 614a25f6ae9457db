use Rattle.std.proofs.Common.{◌≡◌, ◌+◌, List, [], ◌∷◌, ◌++◌, ap, sym, ◌∙◌, arith}
use Rattle.arrayvec.specs.ArrayVec.{array_vec_len}
use Rattle.elf_loader.proofs.Table.{segments_below-load, segments_below-other}
use Rattle.elf_loader.proofs.segment.segments.Goals as goal
use Rattle.elf_loader.proofs.segment.segments.Goals.{then-header-eq-PT_LOAD, else-header-eq-PT_LOAD}

pub loop-k-preserved : goal.loop-k-preserved
loop-k-preserved c =
    elim c.if-header-eq-PT_LOAD.branch [
      | then-header-eq-PT_LOAD w ↦ record {
        room = let len = ap array_vec_len w.segments-is in omega (arith, w.push.ensures.len);
        read =
            ap (λ v. v.items) w.segments-is ∙ w.push.ensures.items ∙ ap (λ xs. xs ++ c.read-header.result ∷ []) c.loop-k.invariant.read
            ∙ sym (segments_below-load c.args.file.now c.loop-k.k c.long-table.result c.read-header.result c.long-table.ensures c.read-header.ensures w.if-header-eq-PT_LOAD.true);
      }
      | else-header-eq-PT_LOAD w ↦ record {
        room = let len = ap array_vec_len w.segments-is in omega arith;
        read =
            ap (λ v. v.items) w.segments-is ∙ c.loop-k.invariant.read
            ∙ sym (segments_below-other c.args.file.now c.loop-k.k c.long-table.result c.read-header.result c.long-table.ensures c.read-header.ensures w.if-header-eq-PT_LOAD.false);
      }
    ]
