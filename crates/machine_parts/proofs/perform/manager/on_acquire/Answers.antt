use Rattle.std.proofs.Common.{◌≡◌, ◌<◌, ◌≤◌, ℕ, ap, sym, subst, ◌∙◌, length}
use native.Mathlib.Omega.{arith}
use Rattle.directory.specs.Directory.{Notes, SendsToHarts, acquired}
use Rattle.directory.specs.declared.answer.Acquired.{Acquired}
use Rattle.machine_model.specs.Deliveries.{on_acquire}
use Rattle.machine_model.specs.Laws.{QueuesFit}
use Rattle.machine_model.specs.Views.{line_size, place_of}
use Rattle.machine_parts.specs.Parts.{standing_of}
use Rattle.machine_parts.specs.Standing.{Standing}
use Rattle.machine_parts.specs.Unstalled.{IsHandled}
use Rattle.machine_parts.proofs.Probes.{few_sent, fit_handled}
use Rattle.machine_parts.proofs.perform.manager.on_acquire.Goals as goal

abbrev pair : Notes → Acquired → Acquired × Notes
pair notes answer = (answer, notes)

pub send_any-requires-clause-queues : goal.send_any-requires-clause-queues
send_any-requires-clause-queues c =
    let s = (standing_of c.parts.inside).state in
    fit_handled c.args.hart c.args.line c.args.grow s c.in-Handled.sent c.on_acquire.new.self
    (ap (pair c.on_acquire.new.self) (sym c.in-Handled.is) ∙ c.on_acquire.ensures.meaning ∙ ap (λ (place : ℕ). acquired s.views.notes place c.args.hart c.args.grow) c.place_of-place.ensures)
    (subst (λ (p : Standing). QueuesFit (on_acquire c.args.hart c.args.line c.args.grow p.state)) (sym c.parts.view_is) c.requires.queues)

pub send_any-requires-clause-log : goal.send_any-requires-clause-log
send_any-requires-clause-log c =
    let s = (standing_of c.parts.inside).state in
    let harts = subst (λ (p : Standing). p.state.views.notes.harts ≡ length p.state.views.nodes) (sym c.parts.view_is) c.requires.harts in
    let hart = subst (λ (p : Standing). c.args.hart < p.state.views.notes.harts) (sym c.parts.view_is) c.requires.hart in
    let log = subst (λ (p : Standing). length p.state.views.nodes ≤ p.room.log) (sym c.parts.view_is) c.requires.log in
    let answer = sym c.in-Handled.is ∙ ap (λ (a : Acquired × Notes). a.0) c.on_acquire.ensures.meaning in
    let all = subst (λ (k : ℕ). SendsToHarts k c.in-Handled.sent) harts c.in-Handled.ensures.harts in
    let few = few_sent s.views.notes c.place_of-place.result c.args.hart c.args.grow c.in-Handled.sent (length s.views.nodes) answer (omega (arith, hart, harts)) all in
    omega (arith, few, log)

pub unreachable-requires : goal.unreachable-requires
unreachable-requires c =
    let s = (standing_of c.parts.inside).state in
    let there = subst (λ (p : Standing). IsHandled (acquired p.state.views.notes (place_of (line_size p.state) c.args.line) c.args.hart c.args.grow).0) (sym c.parts.view_is) c.requires.unstalled in
    let answer = ap (λ (a : Acquired × Notes). a.0) c.on_acquire.ensures.meaning ∙ ap (λ (place : ℕ). (acquired s.views.notes place c.args.hart c.args.grow).0) c.place_of-place.ensures in
    subst IsHandled (sym answer ∙ c.in_default.is) there
