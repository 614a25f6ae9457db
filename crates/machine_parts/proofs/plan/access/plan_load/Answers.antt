use Rattle.std.proofs.Common.{ℕ, List, ◌∙◌, ap, sym, Some, None}
use Rattle.machine_model.specs.Steps.{retires}
use Rattle.machine_model.specs.Views.{Node}
use Rattle.machine_model.specs.Words.{read_from}
use Rattle.machine_model.specs.declared.act.Deed.TheVariants as deed
use Rattle.machine_parts.specs.Accesses.{fetched_of}
use Rattle.hart.specs.Width.{byte_count}
use Rattle.store_buffer.specs.ByteMask.{laid_over}
use Rattle.tl_types.specs.Line.{line_of}
use Rattle.tl_types.specs.declared.line.LineSize.{LineSize}
use Rattle.machine_parts.proofs.FoundAccesses.{load_reading, load_waiting}
use Rattle.machine_parts.proofs.plan.access.plan_load.Goals as goal

pub returns-then-covers : goal.returns-then-covers
returns-then-covers c =
    let n = c.args.node.now in
    c.load_of.ensures
    ∙ load_waiting n (fetched_of c.args.fetched.now) c.args.address (byte_count c.args.width) c.word_of-word.result c.forward-marks.result c.marks_of.result c.node.inside.buffer
    c.word_of-word.ensures c.forward-marks.ensures c.marks_of.ensures (ap (λ (k : Node). k.buffer) c.node.view_is) (sym c.if-covers.ensures)

pub returns-in-Err : goal.returns-in-Err
returns-in-Err c =
    load_reading c.args.node.now (fetched_of c.args.fetched.now) c.args.address (byte_count c.args.width) c.word_of-word.result c.line_of.result c.forward-marks.result c.marks_of.result c.node.inside.buffer c.node.inside.cache c.reading.result _
    c.word_of-word.ensures c.forward-marks.ensures c.marks_of.ensures (ap (λ (k : Node). k.buffer) c.node.view_is) (sym c.if-covers.ensures)
    (c.line_of.ensures ∙ ap (λ (size : LineSize). line_of size c.args.address) (sym c.requires.line)) (ap (λ (k : Node). k.cache) c.node.view_is) c.reading.ensures c.in-Err.is

pub returns : goal.returns
returns c =
    c.load_of-2.ensures
    ∙ (ap (λ (bytes : List ℕ). retires c.args.node.now (fetched_of c.args.fetched.now) (Some (read_from bytes c.args.address (byte_count c.args.width))) None deed.Load)
    (c.lay_over-bytes.ensures ∙ ap (laid_over c.forward-marks.result.0 c.forward-marks.result.1) c.word_in.ensures)
    ∙ load_reading c.args.node.now (fetched_of c.args.fetched.now) c.args.address (byte_count c.args.width) c.word_of-word.result c.line_of.result c.forward-marks.result c.marks_of.result c.node.inside.buffer c.node.inside.cache c.reading.result _
    c.word_of-word.ensures c.forward-marks.ensures c.marks_of.ensures (ap (λ (k : Node). k.buffer) c.node.view_is) (sym c.if-covers.ensures)
    (c.line_of.ensures ∙ ap (λ (size : LineSize). line_of size c.args.address) (sym c.requires.line)) (ap (λ (k : Node). k.cache) c.node.view_is) c.reading.ensures c.in-Ok.is)
