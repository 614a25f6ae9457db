use Rattle.std.proofs.Common.{List, ◌++◌, sym, subst}
use Rattle.std.proofs.lemmas.List.{append-nil}
use Rattle.std.specs.List.{flat_map}
use Rattle.machine_types.specs.declared.event.Event.{Event}
use Rattle.text_fields.specs.Pages.{Paged}
use Rattle.text_fields.specs.Writing.{Begins}
use Rattle.text_fields.proofs.Pages.{page_first, page_as, page_more, page_fails, page_out}
use Rattle.text_fields.proofs.Written.{stops}
use Rattle.trace_text.specs.Scripts.{event}
use Rattle.trace_text.proofs.script_writing.write_script.Goals as goal

pub returns-in_err-put_events : goal.returns-in_err-put_events
returns-in_err-put_events g c =
    let g1 = page_first (g.W.Write.contents c.args.out.now) _ _ _ (flat_map event c.args.script.now.events) c.new-page.ensures c.spell_head.ensures in
    stops _ _ _ _ c.from_residual.ensures.0 (page_fails _ _ _ _ _ _ _ (page_as _ _ _ _ _ _ (sym (append-nil (flat_map event c.args.script.now.events))) g1) (subst (λ (es : List Event). Begins (g.W.Write.contents c.args.out.now) (g.W.Write.contents c.put_events.new.out) (c.spell_head.new.page ++ flat_map event es)) c.as_slice.ensures c.in_err-put_events.ensures))

pub returns : goal.returns
returns g c =
    let g1 = page_first (g.W.Write.contents c.args.out.now) _ _ _ (flat_map event c.args.script.now.events) c.new-page.ensures c.spell_head.ensures in
    let g2 = page_more _ _ _ _ _ _ _ _ (page_as _ _ _ _ _ _ (sym (append-nil (flat_map event c.args.script.now.events))) g1)
    (subst (λ (es : List Event). Paged (g.W.Write.contents c.args.out.now) (g.W.Write.contents c.put_events.new.out) c.spell_head.new.page c.put_events.new.page (flat_map event es)) c.as_slice.ensures c.in_ok-put_events.ensures) in
    page_out _ _ _ _ _ _ g2 c.hand_on.ensures.sent
