use Rattle.std.proofs.Common.{◌≡◌, ◌+◌, ◌-◌, length, arith, sym, ap, ◌∙◌}
use Rattle.std.specs.Prelude.{replicate}
use Rattle.trace_text.proofs.ImageLoops.{placed, memory_more, memory_fails, memory_ends, written_back}
use Rattle.trace_text.proofs.ImageStops.{memory_starts, memory_goes_on, memory_stops_there}
use Rattle.trace_text.proofs.trace_reading.image_of.Goals as goal

pub loop-start-init : goal.loop-start-init
loop-start-init c =
    let zeros : c.in-Ok.image.items ≡ replicate c.args.size 0 = c.in-Ok.ensures.items_if_clones_equal (λ y h. h) in
    memory_starts c.args.width c.args.size c.in-Ok.image.items c.args.bytes.now c.requires.width zeros

pub returns-in-None-clause-value : goal.returns-in-None-clause-value
returns-in-None-clause-value c =
    let width : c.loop-start.start + c.args.width - c.loop-start.start ≡ c.args.width = omega arith in
    memory_fails c.args.width c.args.size c.loop-start.start c.loop-start.image.items c.loop-start.rest.now c.args.bytes.now c.requires.width c.requires.size c.loop-start-test.true (rw (c.deref_mut.ensures.value, width) at c.in-None.ensures) c.loop-start.invariant.0

pub returns-in-None-clause-stop : goal.returns-in-None-clause-stop
returns-in-None-clause-stop c =
    let width : c.loop-start.start + c.args.width - c.loop-start.start ≡ c.args.width = omega arith in
    memory_stops_there c.args.width c.args.size c.loop-start.start c.loop-start.image.items c.loop-start.rest.now c.args.bytes.now c.requires.width c.requires.size c.loop-start-test.true (rw (c.deref_mut.ensures.value, width) at c.in-None.ensures) c.loop-start.invariant.0 c.loop-start.invariant.1

pub loop-start-preserved : goal.loop-start-preserved
loop-start-preserved c =
    let width : c.loop-start.start + c.args.width - c.loop-start.start ≡ c.args.width = omega arith in
    let more =
    memory_more c.args.width c.args.size c.loop-start.start c.loop-start.image.items c.image_line_into.new.line c.loop-start.rest.now c.in-Some.later.now c.args.bytes.now c.requires.width c.requires.size c.loop-start-test.true (rw (c.deref_mut.ensures.value, width) at c.in-Some.ensures) c.loop-start.invariant.0 in
    let passed =
    memory_goes_on c.args.width c.args.size c.loop-start.start c.loop-start.image.items c.image_line_into.new.line c.loop-start.rest.now c.in-Some.later.now c.args.bytes.now c.requires.width c.requires.size c.loop-start-test.true (rw (c.deref_mut.ensures.value, width) at c.in-Some.ensures) c.loop-start.invariant.0 c.loop-start.invariant.1 in
    let len : length c.loop-start.image.items ≡ c.loop-start.image.len = ap length (sym c.deref_mut.ensures.value) ∙ c.deref_mut.ensures.len in
    rw (c.deref_mut.ensures.value, width)
    (rw (written_back c.loop-start.image.len (placed c.loop-start.start c.args.width c.loop-start.image.items c.image_line_into.new.line) c.loop-start.image.items (more.len ∙ sym c.loop-start.invariant.0.len ∙ len) len) (more, passed))

pub returns-clause-value : goal.returns-clause-value
returns-clause-value c = memory_ends c.args.width c.args.size c.loop-start.start c.loop-start.image.items c.loop-start.rest.now c.args.bytes.now c.requires.width c.loop-start-test.false c.loop-start.invariant.0
