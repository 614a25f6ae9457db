use Rattle.std.proofs.Common.{◌++◌, ℕ, subst}
use Rattle.std.specs.List.{flat_map}
use Rattle.text_fields.specs.Pages.{Paged, Spells}
use Rattle.text_fields.specs.Writing.{Begins}
use Rattle.text_fields.proofs.Pages.{page_starts, page_stops, page_fails, page_more}
use Rattle.event_stream.specs.Lines.{report_lines, retired_line, output_line}
use Rattle.event_stream.specs.Telling.{report_of}
use Rattle.event_stream.proofs.Paging.{page_last}
use Rattle.event_stream.proofs.report_writing.put_report.Goals as goal

pub returns-in_err-put_event_line-clause-lines : goal.returns-in_err-put_event_line-clause-lines
returns-in_err-put_event_line-clause-lines g c =
    let g0 = page_starts (g.W.Write.contents c.args.out.now) c.args.page.now (report_lines c.args.names.now (report_of c.args.report.now)) in
    page_stops _ _ _ _ _ _ c.from_residual.ensures.0 (page_fails _ _ _ _ _ _ _ g0 c.in_err-put_event_line.ensures)

pub returns-in_err-put_entries-clause-lines : goal.returns-in_err-put_entries-clause-lines
returns-in_err-put_entries-clause-lines g c =
    let W = g.W.Write.contents in
    let g0 = page_starts (W c.args.out.now) c.args.page.now (report_lines c.args.names.now (report_of c.args.report.now)) in
    let g1 = page_more _ _ _ _ _ _ _ _ g0 c.in_ok-put_event_line.ensures in
    page_stops _ _ _ _ _ _ c.from_residual-in_err-put_entries.ensures.0
    (page_fails _ _ _ _ _ _ _ g1 (subst (λ (h : ℕ). Begins (W c.put_event_line.new.out) (W c.put_entries.new.out) (c.put_event_line.new.page ++ flat_map (retired_line c.args.names.now h c.args.report.now.action) c.args.report.now.entries.now)) c.hart_of-hart.ensures c.in_err-put_entries.ensures.lines))

pub returns-in_err-put_performed-clause-lines : goal.returns-in_err-put_performed-clause-lines
returns-in_err-put_performed-clause-lines g c =
    let W = g.W.Write.contents in
    let g0 = page_starts (W c.args.out.now) c.args.page.now (report_lines c.args.names.now (report_of c.args.report.now)) in
    let g1 = page_more _ _ _ _ _ _ _ _ g0 c.in_ok-put_event_line.ensures in
    let g2 = page_more _ _ _ _ _ _ _ _ g1 (subst (λ (h : ℕ). Paged (W c.put_event_line.new.out) (W c.put_entries.new.out) c.put_event_line.new.page c.put_entries.new.page (flat_map (retired_line c.args.names.now h c.args.report.now.action) c.args.report.now.entries.now)) c.hart_of-hart.ensures c.in_ok-put_entries.ensures.lines) in
    page_stops _ _ _ _ _ _ c.from_residual-in_err-put_performed.ensures.0 (page_fails _ _ _ _ _ _ _ g2 c.in_err-put_performed.ensures)

pub returns-in_err-put_log-clause-lines : goal.returns-in_err-put_log-clause-lines
returns-in_err-put_log-clause-lines g c =
    let W = g.W.Write.contents in
    let g0 = page_starts (W c.args.out.now) c.args.page.now (report_lines c.args.names.now (report_of c.args.report.now)) in
    let g1 = page_more _ _ _ _ _ _ _ _ g0 c.in_ok-put_event_line.ensures in
    let g2 = page_more _ _ _ _ _ _ _ _ g1 (subst (λ (h : ℕ). Paged (W c.put_event_line.new.out) (W c.put_entries.new.out) c.put_event_line.new.page c.put_entries.new.page (flat_map (retired_line c.args.names.now h c.args.report.now.action) c.args.report.now.entries.now)) c.hart_of-hart.ensures c.in_ok-put_entries.ensures.lines) in
    let g3 = page_more _ _ _ _ _ _ _ _ g2 c.in_ok-put_performed.ensures in
    page_stops _ _ _ _ _ _ c.from_residual-in_err-put_log.ensures.0 (page_fails _ _ _ _ _ _ _ g3 c.in_err-put_log.ensures)

pub returns-clause-lines : goal.returns-clause-lines
returns-clause-lines g c =
    let W = g.W.Write.contents in
    let g0 = page_starts (W c.args.out.now) c.args.page.now (report_lines c.args.names.now (report_of c.args.report.now)) in
    let g1 = page_more _ _ _ _ _ _ _ _ g0 c.in_ok-put_event_line.ensures in
    let g2 = page_more _ _ _ _ _ _ _ _ g1 (subst (λ (h : ℕ). Paged (W c.put_event_line.new.out) (W c.put_entries.new.out) c.put_event_line.new.page c.put_entries.new.page (flat_map (retired_line c.args.names.now h c.args.report.now.action) c.args.report.now.entries.now)) c.hart_of-hart.ensures c.in_ok-put_entries.ensures.lines) in
    let g3 = page_more _ _ _ _ _ _ _ _ g2 c.in_ok-put_performed.ensures in
    let g4 = page_more _ _ _ _ _ _ _ _ g3 c.in_ok-put_log.ensures in
    page_last _ _ _ _ _ _ _ _ _ g4
    (subst (λ (h : ℕ). Spells (W c.put_log.new.out) (W c.put_output.new.out) c.put_log.new.page c.put_output.new.page (flat_map (output_line h) c.args.report.now.output.now) c.put_output.result) c.hart_of-hart.ensures c.put_output.ensures)
