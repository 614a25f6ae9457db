use Rattle.std.proofs.Common.{[], ap, arith, ◌∙◌}
use Rattle.text_fields.proofs.Pages.{page_as, page_ends, page_fails, page_more, page_spelled, page_stops}
use Rattle.event_stream.specs.Stalls.{notes_at, probed_hart}
use Rattle.event_stream.proofs.Counting.{numbered_next, numbered_none}
use Rattle.event_stream.proofs.stalls.put_probed.Goals as goal

pub returns-in_err-make_room : goal.returns-in_err-make_room
returns-in_err-make_room g c = page_stops _ _ _ _ _ _ c.from_residual.ensures.0 (page_fails _ _ _ _ [] _ _ c.loop-hart.invariant c.in_err-make_room.ensures.sent)

pub loop-hart-preserved : goal.loop-hart-preserved
loop-hart-preserved g c =
    let s = c.args.machine.now in
    let f = probed_hart (notes_at s c.args.line) in
    page_spelled _ _ _ _ _ _ _
    (page_as _ _ _ _ _ _ (numbered_next f s.views.notes.harts c.loop-hart.hart (omega (arith, c.loop-hart-test.true, c.harts-count.ensures ∙ ap (λ d. d.harts) (c.directory.ensures ∙ ap (λ v. v.views.notes) c.views.ensures))))
    (page_more _ _ _ _ _ [] _ _ c.loop-hart.invariant c.in_ok-make_room.ensures.sent))
    c.spell_probed_hart.ensures

pub returns : goal.returns
returns g c =
    let s = c.args.machine.now in
    let f = probed_hart (notes_at s c.args.line) in
    page_ends _ _ _ _ _ (page_as _ _ _ _ _ _ (numbered_none f s.views.notes.harts c.loop-hart.hart (omega (arith, c.loop-hart-test.false, c.harts-count.ensures ∙ ap (λ d. d.harts) (c.directory.ensures ∙ ap (λ v. v.views.notes) c.views.ensures)))) c.loop-hart.invariant)
