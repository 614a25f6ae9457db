use Rattle.std.proofs.Common.{List, ℕ, ◌≡◌, ◌≤◌, ◌<◌, [], ◌++◌, length, arith, subst}
use Rattle.text_fields.proofs.Pages.{page_stops, page_fails, page_more, page_as, page_spelled, page_ends}
use Rattle.trace_text.specs.Traces.{image_line}
use Rattle.trace_text.proofs.TraceWriting.{image_step, image_end}
use Rattle.trace_text.proofs.trace_writing.put_image.Goals as goal

pub returns-in_err-make_room : goal.returns-in_err-make_room
returns-in_err-make_room g c = page_stops _ _ _ _ _ _ c.from_residual.ensures.0 (page_fails _ _ _ _ [] _ _ c.loop-rest.invariant.1 c.in_err-make_room.ensures.sent)

pub loop-rest-preserved : goal.loop-rest-preserved
loop-rest-preserved g c =
    let some : c.args.width ≤ length c.loop-rest.rest.now = omega (arith, c.loop-rest-test.true) in (
      omega (arith, c.loop-rest.invariant.0, c.split_at.ensures.back_len, some),
      rw c.split_at.ensures.back
          (page_spelled _ _ _ _ _ _ _ (page_as _ _ _ _ _ _ (image_step c.args.width c.loop-rest.address c.loop-rest.rest.now c.requires.width some) (page_more _ _ _ _ _ [] _ _ c.loop-rest.invariant.1 c.in_ok-make_room.ensures.sent))
          (subst (λ (t : List ℕ). c.spell_image_line.new.page ≡ c.make_room.new.self ++ image_line c.loop-rest.address t) c.split_at.ensures.front c.spell_image_line.ensures)),
    )

pub returns : goal.returns
returns g c =
    let none : length c.loop-rest.rest.now < c.args.width = omega (arith, c.loop-rest-test.false) in
    page_ends _ _ _ _ _ (page_as _ _ _ _ _ _ (image_end c.args.width c.loop-rest.address c.loop-rest.rest.now c.requires.width none) c.loop-rest.invariant.1)
