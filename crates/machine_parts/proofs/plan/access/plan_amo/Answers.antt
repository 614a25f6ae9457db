use Rattle.std.proofs.Common.{ℕ, ◌≡◌, ◌∙◌, ap, sym, false, List}
use Rattle.machine_model.specs.Steps.{update, write_waits}
use Rattle.machine_model.specs.Views.{Node}
use Rattle.machine_model.specs.Words.{read_from}
use Rattle.machine_parts.specs.Accesses.{fetched_of}
use Rattle.tl_types.specs.Line.{line_of}
use Rattle.tl_types.specs.declared.line.LineSize.{LineSize}
use Rattle.machine_parts.proofs.FoundAccesses.{amo_writing}
use Rattle.machine_parts.proofs.plan.access.plan_amo.Goals as goal

pub returns-in-Ok : goal.returns-in-Ok
returns-in-Ok c =
    let free : write_waits c.args.config.now.model c.node.inside.buffer c.args.fetched.now.instr c.args.address ≡ false = cc in
    c.update.ensures
    ∙ (ap (update c.args.node.now (fetched_of c.args.fetched.now) c.args.address c.args.op c.args.operand) (c.read_from-old.ensures ∙ ap (λ (bytes : List ℕ). read_from bytes c.args.address 4) c.word_in.ensures)
    ∙ amo_writing c.args.config.now.model c.args.node.now (fetched_of c.args.fetched.now) c.args.address c.args.op c.args.operand c.line_of.result c.node.inside.buffer c.node.inside.cache c.writing.result _ (ap (λ (k : Node). k.buffer) c.node.view_is)
    free (c.line_of.ensures ∙ ap (λ (size : LineSize). line_of size c.args.address) (sym c.requires.line)) (ap (λ (k : Node). k.cache) c.node.view_is) c.writing.ensures c.in-Ok.is)

pub returns-in-Err : goal.returns-in-Err
returns-in-Err c =
    let free : write_waits c.args.config.now.model c.node.inside.buffer c.args.fetched.now.instr c.args.address ≡ false = cc in
    amo_writing c.args.config.now.model c.args.node.now (fetched_of c.args.fetched.now) c.args.address c.args.op c.args.operand c.line_of.result c.node.inside.buffer c.node.inside.cache c.writing.result _ (ap (λ (k : Node). k.buffer) c.node.view_is)
    free (c.line_of.ensures ∙ ap (λ (size : LineSize). line_of size c.args.address) (sym c.requires.line)) (ap (λ (k : Node). k.cache) c.node.view_is) c.writing.ensures c.in-Err.is
