use Rattle.std.proofs.Common.{ℕ, ◌<◌, ◌≡◌, ◌∙◌, ap, length, subst, sym}
use Rattle.hart.specs.Local.{private_row_from}
use Rattle.machine_model.specs.Views.{State, node_at}
use Rattle.machine_parts.specs.Parts.{standing_of}
use Rattle.machine_parts.specs.Standing.{Standing}
use Rattle.machine_parts.proofs.Committed.{committed, limited, wanting}
use Rattle.machine_parts.proofs.parts.Parts.commit.Goals as goal

pub returns-then-is_limited : goal.returns-then-is_limited
returns-then-is_limited c =
    limited c.args.hart c.args.batch.now c.args.self.now.state c.entries.result.now c.is_limited.result
    (record { there = c.requires.hart; few = c.entries.ensures.row.few; some = c.requires.some; next = c.requires.row })
    c.entries.ensures.entries c.is_limited.ensures.exact c.if-is_limited.true

pub returns-in_err-reserve : goal.returns-in_err-reserve
returns-in_err-reserve c =
    wanting c.args.hart c.args.batch.now c.args.self.now.state c.reserve.new.parts.state c.from_residual.result c.entries.result.now c.is_limited.result
    (record { there = c.requires.hart; few = c.entries.ensures.row.few; some = c.requires.some; next = c.requires.row })
    c.entries.ensures.entries c.is_limited.ensures.exact c.if-is_limited.false c.from_residual.ensures.1 c.reserve.ensures.same

pub returns : goal.returns
returns c =
    committed c.args.hart c.args.batch.now c.args.self.now.state c.reserve.new.parts.state (standing_of c.self.inside).state c.entries.result.now c.is_limited.result
    (record { there = c.requires.hart; few = c.entries.ensures.row.few; some = c.requires.some; next = c.requires.row })
    c.entries.ensures.entries c.is_limited.ensures.exact c.if-is_limited.false c.reserve.ensures.same (ap (λ (p : Standing). p.state) c.self.view_is ∙ c.take_over.ensures)

pub take_over-requires-clause-hart : goal.take_over-requires-clause-hart
take_over-requires-clause-hart c = subst (λ (s : State). c.args.hart < length s.views.nodes) (sym c.reserve.ensures.same) c.requires.hart

pub take_over-requires-clause-entries : goal.take_over-requires-clause-entries
take_over-requires-clause-entries c =
    subst (λ (s : State). c.args.hart < length s.trace.entries) (sym c.reserve.ensures.same) (subst (λ (n : ℕ). c.args.hart < n) (c.requires.sound.nodes ∙ sym c.requires.sound.entries) c.requires.hart)

pub take_over-requires-clause-row : goal.take_over-requires-clause-row
take_over-requires-clause-row c =
    subst (λ (s : State). c.args.batch.now ≡ private_row_from s.trace.image (node_at s c.args.hart).hart (length c.args.batch.now.entries)) (sym c.reserve.ensures.same) c.requires.row
