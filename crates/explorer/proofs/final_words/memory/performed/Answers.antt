use Rattle.std.proofs.Common.{◌∙◌, ◌+◌, ◌<◌, arith, length}
use Rattle.elf_loader.specs.Size.{base}
use Rattle.explorer.proofs.Performed.{performed_more}
use Rattle.explorer.proofs.final_words.memory.performed.Goals as goal

pub loop-rest-preserved : goal.loop-rest-preserved
loop-rest-preserved c =
    let was = c.loop-rest.memory.items in
    record {
      size = c.perform.ensures.len ∙ c.loop-rest.invariant.size;
      bytes = λ x low high.
          let inside : x < base + length was = omega (arith, high, c.loop-rest.invariant.size) in
          performed_more was c.perform.new.memory.items c.loop-rest.rest.now _ x c.in-len1-up.len_at_least (c.perform.ensures.written x low inside) (c.perform.ensures.others x low) ∙ c.loop-rest.invariant.bytes x low high;
    }
