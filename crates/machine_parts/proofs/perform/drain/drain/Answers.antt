use Rattle.std.proofs.Common.{ℕ, ◌<◌, List, length, ap, subst, sym, ◌∙◌}
use Rattle.machine_model.specs.Changing.{performs}
use Rattle.store_buffer.specs.Entry.{entry_of}
use Rattle.store_buffer.specs.Groups.{oldest}
use Rattle.store_buffer.specs.declared.entry.Entry.{Entry}
use Rattle.machine_model.specs.Views.{State, node_at}
use Rattle.machine_parts.proofs.Drains.{drained_is, performs_nodes}
use Rattle.machine_parts.proofs.Nodes.{count_same}
use Rattle.machine_parts.specs.Drains.{emptied}
use Rattle.machine_parts.proofs.perform.drain.drain.Goals as goal

pub keep_list-requires : goal.keep_list-requires
keep_list-requires c =
    let h = c.args.hart in
    let s = c.args.parts.now.state in
    let count = λ (t : State). length t.views.nodes in
    let same = ap count c.perform_all.ensures ∙ (ap length (performs_nodes h c.as_slice.result.now c.take_out-entry.new.parts.state) ∙ (ap count c.take_out-entry.ensures.state ∙ count_same h (emptied c.args.word (node_at s h)) s)) in
    subst (λ (n : ℕ). h < n) (sym same) c.requires.hart

pub returns : goal.returns
returns c =
    let h = c.args.hart in
    let s = c.args.parts.now.state in
    let ops = (entry_of c.args.word (oldest (node_at s h).buffer)).ops in
    c.keep_list.ensures
    ∙ (c.perform_all.ensures
    ∙ (ap (λ (places : List ℕ). performs h places c.take_out-entry.new.parts.state) (c.as_slice.ensures ∙ ap (λ (e : Entry). e.ops) c.take_out-entry.ensures.entry)
    ∙ (ap (λ (t : State). performs h ops t) c.take_out-entry.ensures.state ∙ drained_is h c.args.word s c.requires.hart)))
