use Rattle.std.proofs.Common.{◌∙◌, ap, arith, length, sum, sym, ℕ, List}
use Rattle.host_threads.proofs.Reported.{run_of}
use Rattle.machine_model.specs.Views.{State}
use Rattle.host_threads.proofs.reporting.report_of.Goals as goal

pub returns-clause-run : goal.returns-clause-run
returns-clause-run g c =
    let common = c.args.common.now in
    let same = c.is_of.ensures.same.0 c.if-not-is_of.false in
    let parts = c.parts_of.ensures in
    run_of common.image common.config common.limit c.args.fabric c.parts_of.result c.is_of.ensures.image
    (ap (λ (s : State). s.trace.image) (sym c.machine.ensures.machine) ∙ same.0)
    (ap (λ (s : State). s.views.config) (sym c.machine.ensures.machine) ∙ same.1)
    (record { trace = parts.trace; outputs = parts.outputs; journal = parts.journal; total = parts.total; kept = parts.kept })
    (ap (λ (counts : List ℕ). length counts) parts.receipts ∙ c.requires.harts)
    (omega (arith, c.requires.limit, ap (λ (counts : List ℕ). sum counts) parts.receipts))
