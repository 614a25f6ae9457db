use Rattle.std.proofs.Common.{◌≡◌, ℕ, ◌+◌, ◌<◌, List, length, take, drop, map, get_or, ap, sym, ◌∙◌, add-one, refl, arith}
use Rattle.std.proofs.lemmas.List.{ext_get_or, take_all, take_at}
use Rattle.std.proofs.lemmas.List.FromFn.{get_or-map-range_with_len, length-map-range_with_len}
use Rattle.std.specs.List.{range_with_len}
use Rattle.elf_loader.proofs.Loaded.{byte_after-loaded}
use Rattle.elf_loader.specs.Load.{loaded_byte}
use Rattle.elf_loader.specs.Size.{base}
use Rattle.elf_loader.proofs.loader.place.Goals as goal

pub loop-segment-preserved : goal.loop-segment-preserved
loop-segment-preserved c =
    let new = c.copy_into.new.memory in
    let old = c.loop-segment.bytes.items in
    let kept = take_at new (drop (length new) old) c.loop-segment.bytes.len (omega arith) in
    rw kept record {
      size = omega arith;
      placed = λ k h.
          c.copy_into.ensures k
          ∙ rw add-one (byte_after-loaded c.args.file.now c.deref_mut.result.now c.args.size k c.args.segments.now c.loop-segment.segment-index _
          c.loop-segment-test.true c.requires.inside c.requires.apart
          (ap (λ (xs : List ℕ). get_or xs k 0) c.deref_mut.ensures.value ∙ c.loop-segment.invariant.placed k h));
    }

pub returns : goal.returns
returns c =
    let f = loaded_byte c.args.file.now c.args.segments.now in
    let bytes = c.loop-segment.bytes.items in
    let all = take_all c.loop-segment.segment-index c.args.segments.now c.loop-segment-test.false in
    let long = length-map-range_with_len f base c.args.size in
    ext_get_or 0 bytes (map f (range_with_len base c.args.size)) (omega arith)
    (λ k h.
    let within : k < c.args.size = omega arith in
    rw all at (c.loop-segment.invariant.placed k within)
    ∙ sym (get_or-map-range_with_len f base c.args.size k (base + k) 0 within refl))
