use Rattle.std.proofs.Common.{List, ℕ, ◌≡◌, ◌++◌, sym, ap, subst, ◌∙◌}
use Rattle.std.proofs.lemmas.List.{append-nil}
use Rattle.std.specs.List.{flat_map}
use Rattle.elf_loader.specs.Image.{Initial}
use Rattle.hart.specs.declared.status.Status.{Status}
use Rattle.text_fields.specs.Fields.{numbered}
use Rattle.text_fields.specs.Pages.{Paged}
use Rattle.text_fields.specs.Writing.{Begins}
use Rattle.text_fields.proofs.Pages.{page_first, page_as, page_more, page_fails, page_out}
use Rattle.text_fields.proofs.Written.{stops}
use Rattle.tl_types.specs.Line.{length_of}
use Rattle.trace_recorder.specs.declared.operation.OpId.{OpId}
use Rattle.trace_recorder.specs.declared.logged.Logged.{Logged}
use Rattle.trace_text.specs.declared.head.TraceHead.{TraceHead}
use Rattle.trace_text.specs.Traces.{head, head_of, image, entries, operation, logged, status}
use Rattle.trace_text.proofs.TraceWriting.{image_is}
use Rattle.trace_text.proofs.trace_writing.write_trace.Goals as goal

pub returns-in_err-put_image : goal.returns-in_err-put_image
returns-in_err-put_image g c =
    let W = g.W.Write.contents in
    let t = c.args.trace.now.history in
    let g1 = page_first (W c.args.out.now) _ _ (head (head_of t)) (image t.line t.image.bytes ++ (numbered entries 0 t.entries ++ (flat_map operation t.performed ++ (flat_map logged t.log ++ numbered status 0 t.statuses)))) c.new-page.ensures (subst (λ (x : TraceHead). c.spell_head.new.page ≡ c.new-page.result ++ head x) c.of.ensures c.spell_head.ensures) in
    stops _ _ _ _ c.from_residual.ensures.0 (page_fails _ _ _ _ _ _ _ g1 (subst (λ (x : List ℕ). Begins (W c.args.out.now) (W c.put_image.new.out) (c.spell_head.new.page ++ x)) (image_is _ _ c.args.trace.now.history.line c.args.trace.now.history.image.bytes (c.bytes-width.ensures ∙ ap length_of c.line_size.ensures) (c.bytes-memory.ensures.exact ∙ ap (λ (i : Initial). i.bytes) c.image.ensures)) c.in_err-put_image.ensures))

pub returns-in_err-put_entries : goal.returns-in_err-put_entries
returns-in_err-put_entries g c =
    let W = g.W.Write.contents in
    let t = c.args.trace.now.history in
    let g1 = page_first (W c.args.out.now) _ _ (head (head_of t)) (image t.line t.image.bytes ++ (numbered entries 0 t.entries ++ (flat_map operation t.performed ++ (flat_map logged t.log ++ numbered status 0 t.statuses)))) c.new-page.ensures (subst (λ (x : TraceHead). c.spell_head.new.page ≡ c.new-page.result ++ head x) c.of.ensures c.spell_head.ensures) in
    let g2 = page_more _ _ _ _ _ _ _ _ g1 (subst (λ (x : List ℕ). Paged (W c.args.out.now) (W c.put_image.new.out) c.spell_head.new.page c.put_image.new.page (x)) (image_is _ _ c.args.trace.now.history.line c.args.trace.now.history.image.bytes (c.bytes-width.ensures ∙ ap length_of c.line_size.ensures) (c.bytes-memory.ensures.exact ∙ ap (λ (i : Initial). i.bytes) c.image.ensures)) c.in_ok-put_image.ensures) in
    stops _ _ _ _ c.from_residual-in_err-put_entries.ensures.0 (page_fails _ _ _ _ _ _ _ g2 c.in_err-put_entries.ensures)

pub returns-in_err-put_performed : goal.returns-in_err-put_performed
returns-in_err-put_performed g c =
    let W = g.W.Write.contents in
    let t = c.args.trace.now.history in
    let g1 = page_first (W c.args.out.now) _ _ (head (head_of t)) (image t.line t.image.bytes ++ (numbered entries 0 t.entries ++ (flat_map operation t.performed ++ (flat_map logged t.log ++ numbered status 0 t.statuses)))) c.new-page.ensures (subst (λ (x : TraceHead). c.spell_head.new.page ≡ c.new-page.result ++ head x) c.of.ensures c.spell_head.ensures) in
    let g2 = page_more _ _ _ _ _ _ _ _ g1 (subst (λ (x : List ℕ). Paged (W c.args.out.now) (W c.put_image.new.out) c.spell_head.new.page c.put_image.new.page (x)) (image_is _ _ c.args.trace.now.history.line c.args.trace.now.history.image.bytes (c.bytes-width.ensures ∙ ap length_of c.line_size.ensures) (c.bytes-memory.ensures.exact ∙ ap (λ (i : Initial). i.bytes) c.image.ensures)) c.in_ok-put_image.ensures) in
    let g3 = page_more _ _ _ _ _ _ _ _ g2 c.in_ok-put_entries.ensures in
    stops _ _ _ _ c.from_residual-in_err-put_performed.ensures.0 (page_fails _ _ _ _ _ _ _ g3 (subst (λ (x : List OpId). Begins (W c.put_entries.new.out) (W c.put_performed.new.out) (c.put_entries.new.page ++ flat_map operation x)) c.performed.ensures c.in_err-put_performed.ensures))

pub returns-in_err-put_log : goal.returns-in_err-put_log
returns-in_err-put_log g c =
    let W = g.W.Write.contents in
    let t = c.args.trace.now.history in
    let g1 = page_first (W c.args.out.now) _ _ (head (head_of t)) (image t.line t.image.bytes ++ (numbered entries 0 t.entries ++ (flat_map operation t.performed ++ (flat_map logged t.log ++ numbered status 0 t.statuses)))) c.new-page.ensures (subst (λ (x : TraceHead). c.spell_head.new.page ≡ c.new-page.result ++ head x) c.of.ensures c.spell_head.ensures) in
    let g2 = page_more _ _ _ _ _ _ _ _ g1 (subst (λ (x : List ℕ). Paged (W c.args.out.now) (W c.put_image.new.out) c.spell_head.new.page c.put_image.new.page (x)) (image_is _ _ c.args.trace.now.history.line c.args.trace.now.history.image.bytes (c.bytes-width.ensures ∙ ap length_of c.line_size.ensures) (c.bytes-memory.ensures.exact ∙ ap (λ (i : Initial). i.bytes) c.image.ensures)) c.in_ok-put_image.ensures) in
    let g3 = page_more _ _ _ _ _ _ _ _ g2 c.in_ok-put_entries.ensures in
    let g4 = page_more _ _ _ _ _ _ _ _ g3 (subst (λ (x : List OpId). Paged (W c.put_entries.new.out) (W c.put_performed.new.out) c.put_entries.new.page c.put_performed.new.page (flat_map operation x)) c.performed.ensures c.in_ok-put_performed.ensures) in
    stops _ _ _ _ c.from_residual-in_err-put_log.ensures.0 (page_fails _ _ _ _ _ _ _ g4 (subst (λ (x : List Logged). Begins (W c.put_performed.new.out) (W c.put_log.new.out) (c.put_performed.new.page ++ flat_map logged x)) c.log.ensures c.in_err-put_log.ensures))

pub returns-in_err-put_statuses : goal.returns-in_err-put_statuses
returns-in_err-put_statuses g c =
    let W = g.W.Write.contents in
    let t = c.args.trace.now.history in
    let g1 = page_first (W c.args.out.now) _ _ (head (head_of t)) (image t.line t.image.bytes ++ (numbered entries 0 t.entries ++ (flat_map operation t.performed ++ (flat_map logged t.log ++ numbered status 0 t.statuses)))) c.new-page.ensures (subst (λ (x : TraceHead). c.spell_head.new.page ≡ c.new-page.result ++ head x) c.of.ensures c.spell_head.ensures) in
    let g2 = page_more _ _ _ _ _ _ _ _ g1 (subst (λ (x : List ℕ). Paged (W c.args.out.now) (W c.put_image.new.out) c.spell_head.new.page c.put_image.new.page (x)) (image_is _ _ c.args.trace.now.history.line c.args.trace.now.history.image.bytes (c.bytes-width.ensures ∙ ap length_of c.line_size.ensures) (c.bytes-memory.ensures.exact ∙ ap (λ (i : Initial). i.bytes) c.image.ensures)) c.in_ok-put_image.ensures) in
    let g3 = page_more _ _ _ _ _ _ _ _ g2 c.in_ok-put_entries.ensures in
    let g4 = page_more _ _ _ _ _ _ _ _ g3 (subst (λ (x : List OpId). Paged (W c.put_entries.new.out) (W c.put_performed.new.out) c.put_entries.new.page c.put_performed.new.page (flat_map operation x)) c.performed.ensures c.in_ok-put_performed.ensures) in
    let g5 = page_more _ _ _ _ _ _ _ _ g4 (subst (λ (x : List Logged). Paged (W c.put_performed.new.out) (W c.put_log.new.out) c.put_performed.new.page c.put_log.new.page (flat_map logged x)) c.log.ensures c.in_ok-put_log.ensures) in
    stops _ _ _ _ c.from_residual-in_err-put_statuses.ensures.0 (page_fails _ _ _ _ _ _ _ (page_as _ _ _ _ _ _ (sym (append-nil (numbered status 0 t.statuses))) g5) (subst (λ (x : List Status). Begins (W c.put_log.new.out) (W c.put_statuses.new.out) (c.put_log.new.page ++ numbered status 0 x)) c.statuses.ensures c.in_err-put_statuses.ensures))

pub returns : goal.returns
returns g c =
    let W = g.W.Write.contents in
    let t = c.args.trace.now.history in
    let g1 = page_first (W c.args.out.now) _ _ (head (head_of t)) (image t.line t.image.bytes ++ (numbered entries 0 t.entries ++ (flat_map operation t.performed ++ (flat_map logged t.log ++ numbered status 0 t.statuses)))) c.new-page.ensures (subst (λ (x : TraceHead). c.spell_head.new.page ≡ c.new-page.result ++ head x) c.of.ensures c.spell_head.ensures) in
    let g2 = page_more _ _ _ _ _ _ _ _ g1 (subst (λ (x : List ℕ). Paged (W c.args.out.now) (W c.put_image.new.out) c.spell_head.new.page c.put_image.new.page (x)) (image_is _ _ c.args.trace.now.history.line c.args.trace.now.history.image.bytes (c.bytes-width.ensures ∙ ap length_of c.line_size.ensures) (c.bytes-memory.ensures.exact ∙ ap (λ (i : Initial). i.bytes) c.image.ensures)) c.in_ok-put_image.ensures) in
    let g3 = page_more _ _ _ _ _ _ _ _ g2 c.in_ok-put_entries.ensures in
    let g4 = page_more _ _ _ _ _ _ _ _ g3 (subst (λ (x : List OpId). Paged (W c.put_entries.new.out) (W c.put_performed.new.out) c.put_entries.new.page c.put_performed.new.page (flat_map operation x)) c.performed.ensures c.in_ok-put_performed.ensures) in
    let g5 = page_more _ _ _ _ _ _ _ _ g4 (subst (λ (x : List Logged). Paged (W c.put_performed.new.out) (W c.put_log.new.out) c.put_performed.new.page c.put_log.new.page (flat_map logged x)) c.log.ensures c.in_ok-put_log.ensures) in
    let g6 = page_more _ _ _ _ _ _ _ _ (page_as _ _ _ _ _ _ (sym (append-nil (numbered status 0 t.statuses))) g5) (subst (λ (x : List Status). Paged (W c.put_log.new.out) (W c.put_statuses.new.out) c.put_log.new.page c.put_statuses.new.page (numbered status 0 x)) c.statuses.ensures c.in_ok-put_statuses.ensures) in
    page_out _ _ _ _ _ _ g6 c.hand_on.ensures.sent
