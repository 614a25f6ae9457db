use Rattle.std.proofs.lemmas.Grind.{common_steps}
use Rattle.std.proofs.Common.{◌≡◌, ◌<◌, [], ap, length, get_or, arith, true, false, sym, ◌∙◌}
use Rattle.std.specs.Prelude.{is_some}
use Rattle.hart.specs.declared.status.Status.TheVariants.{Running}
use Rattle.hart.specs.Run.{is_run}
use Rattle.trace_operations.proofs.HartRuns.{run_goes, run_fails, run_is}
use Rattle.trace_operations.proofs.Placed.{hart_pushed}
use Rattle.trace_operations.proofs.items.run_lists.Goals as goal

pub loop-id-preserved : goal.loop-id-preserved
loop-id-preserved c =
    let t = c.args.trace.now.history in
    let h : c.loop-id.id < length t.entries = omega arith in
    let k : c.loop-id.id < length t.statuses = omega arith in
    let e : is_run t.image c.loop-id.id (length t.entries) (get_or t.entries c.loop-id.id []) (get_or t.statuses c.loop-id.id Running) ≡ true =
    sym (run_is t.image c.image-in-loop-id.result.now c.image.result.now c.loop-id.id c.harts-count.result (length t.entries) c.entry.result c.at_reset-reset.result c.entries.result.now (get_or t.entries c.loop-id.id []) c.statuses.result.now t.statuses c.image-in-loop-id.ensures c.at_reset-reset.ensures c.entry.ensures.exact c.image.ensures c.harts-count.ensures.entries c.entries.ensures.list c.statuses.ensures)
    ∙ (sym c.in_ok-items.ensures.runs ∙ ap is_some c.in-Some.is) in
    let own = rw c.in-Some.is at c.in_ok-items.ensures.items in
    record {
      runs = c.loop-id.invariant.runs ∙ run_goes t.image (length t.entries) c.loop-id.id t.entries t.statuses h k e;
      listed = hart_pushed t.image c.image.result.now c.loop-id.id c.harts-count.result c.entry.result c.at_reset-reset.result c.entries.result.now t.entries c.loop-id.lists.items c.push.new.self.items c.in-Some.items h
          c.image.ensures c.at_reset-reset.ensures c.entry.ensures.exact c.harts-count.ensures.entries c.entries.ensures.list own c.in_ok-push.ensures.items c.loop-id.invariant.listed;
    }

pub returns-in_default-clause-runs : goal.returns-in_default-clause-runs
returns-in_default-clause-runs c =
    let t = c.args.trace.now.history in
    let h : c.loop-id.id < length t.entries = omega arith in
    let k : c.loop-id.id < length t.statuses = omega arith in
    let e : is_run t.image c.loop-id.id (length t.entries) (get_or t.entries c.loop-id.id []) (get_or t.statuses c.loop-id.id Running) ≡ false =
    sym (run_is t.image c.image-in-loop-id.result.now c.image.result.now c.loop-id.id c.harts-count.result (length t.entries) c.entry.result c.at_reset-reset.result c.entries.result.now (get_or t.entries c.loop-id.id []) c.statuses.result.now t.statuses c.image-in-loop-id.ensures c.at_reset-reset.ensures c.entry.ensures.exact c.image.ensures c.harts-count.ensures.entries c.entries.ensures.list c.statuses.ensures)
    ∙ (sym c.in_ok-items.ensures.runs ∙ ap is_some c.in_default.is) in
    sym (c.loop-id.invariant.runs ∙ run_fails t.image (length t.entries) c.loop-id.id t.entries t.statuses h k e)

pub returns-clause-runs : goal.returns-clause-runs
returns-clause-runs c = grind (arith, common_steps)

pub returns-clause-all : goal.returns-clause-all
returns-clause-all c = grind (arith, common_steps)
