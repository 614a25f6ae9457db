use Rattle.std.proofs.Common.{◌≡◌, ◌<◌, [], length, get_or, arith, true, false, sym, ◌∙◌}
use Rattle.hart.specs.declared.status.Status.TheVariants.{Running}
use Rattle.hart.specs.Run.{is_run}
use Rattle.trace_operations.proofs.HartRuns.{run_goes, run_fails, run_is}
use Rattle.trace_operations.proofs.runs.are_runs.Goals as goal

pub loop-id-preserved : goal.loop-id-preserved
loop-id-preserved c =
    let t = c.args.trace.now.history in
    let h : c.loop-id.id < length t.entries = omega arith in
    let k : c.loop-id.id < length t.statuses = omega arith in
    let e : is_run t.image c.loop-id.id (length t.entries) (get_or t.entries c.loop-id.id []) (get_or t.statuses c.loop-id.id Running) ≡ true =
    sym (run_is t.image c.image-in-loop-id.result.now c.image.result.now c.loop-id.id c.harts-harts.result (length t.entries) c.entry.result c.at_reset-reset.result c.entries.result.now (get_or t.entries c.loop-id.id []) c.statuses.result.now t.statuses c.image-in-loop-id.ensures c.at_reset-reset.ensures c.entry.ensures.exact c.image.ensures c.harts-harts.ensures.entries c.entries.ensures.list c.statuses.ensures)
    ∙ (sym c.is_run.ensures ∙ c.if-not-is_run.false) in
    c.loop-id.invariant ∙ run_goes t.image (length t.entries) c.loop-id.id t.entries t.statuses h k e

pub returns-then-not-is_run : goal.returns-then-not-is_run
returns-then-not-is_run c =
    let t = c.args.trace.now.history in
    let h : c.loop-id.id < length t.entries = omega arith in
    let k : c.loop-id.id < length t.statuses = omega arith in
    let e : is_run t.image c.loop-id.id (length t.entries) (get_or t.entries c.loop-id.id []) (get_or t.statuses c.loop-id.id Running) ≡ false =
    sym (run_is t.image c.image-in-loop-id.result.now c.image.result.now c.loop-id.id c.harts-harts.result (length t.entries) c.entry.result c.at_reset-reset.result c.entries.result.now (get_or t.entries c.loop-id.id []) c.statuses.result.now t.statuses c.image-in-loop-id.ensures c.at_reset-reset.ensures c.entry.ensures.exact c.image.ensures c.harts-harts.ensures.entries c.entries.ensures.list c.statuses.ensures)
    ∙ (sym c.is_run.ensures ∙ c.if-not-is_run.true) in
    sym (c.loop-id.invariant ∙ run_fails t.image (length t.entries) c.loop-id.id t.entries t.statuses h k e)
