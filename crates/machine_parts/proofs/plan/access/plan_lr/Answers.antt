use Rattle.std.proofs.Common.{ℕ, List, ◌∙◌, ap, sym, Some, None}
use Rattle.machine_model.specs.Steps.{retires}
use Rattle.machine_model.specs.Views.{Node}
use Rattle.machine_model.specs.Words.{read_from}
use Rattle.machine_model.specs.declared.act.Deed.TheVariants as deed
use Rattle.machine_parts.specs.Accesses.{fetched_of}
use Rattle.tl_types.specs.Line.{line_of}
use Rattle.tl_types.specs.declared.line.LineSize.{LineSize}
use Rattle.machine_parts.proofs.FoundAccesses.{lr_waiting, lr_writing}
use Rattle.machine_parts.proofs.plan.access.plan_lr.Goals as goal

pub returns-then-waits_for_stores : goal.returns-then-waits_for_stores
returns-then-waits_for_stores c = lr_waiting c.args.node.now (fetched_of c.args.fetched.now) c.args.address c.node.inside.buffer (ap (λ (k : Node). k.buffer) c.node.view_is) (sym c.if-waits_for_stores.ensures)

pub returns-in-Ok : goal.returns-in-Ok
returns-in-Ok c =
    c.retires.ensures
    ∙ (ap (λ (old : ℕ). retires c.args.node.now (fetched_of c.args.fetched.now) (Some old) None (deed.Lr c.args.address)) (c.read_from-old.ensures ∙ ap (λ (bytes : List ℕ). read_from bytes c.args.address 4) c.word_in.ensures)
    ∙ lr_writing c.args.node.now (fetched_of c.args.fetched.now) c.args.address c.line_of.result c.node.inside.buffer c.node.inside.cache c.writing.result _ (ap (λ (k : Node). k.buffer) c.node.view_is)
    (sym c.if-waits_for_stores.ensures) (c.line_of.ensures ∙ ap (λ (size : LineSize). line_of size c.args.address) (sym c.requires.line)) (ap (λ (k : Node). k.cache) c.node.view_is) c.writing.ensures c.in-Ok.is)

pub returns-in-Err : goal.returns-in-Err
returns-in-Err c =
    lr_writing c.args.node.now (fetched_of c.args.fetched.now) c.args.address c.line_of.result c.node.inside.buffer c.node.inside.cache c.writing.result _ (ap (λ (k : Node). k.buffer) c.node.view_is)
    (sym c.if-waits_for_stores.ensures) (c.line_of.ensures ∙ ap (λ (size : LineSize). line_of size c.args.address) (sym c.requires.line)) (ap (λ (k : Node). k.cache) c.node.view_is) c.writing.ensures c.in-Err.is
