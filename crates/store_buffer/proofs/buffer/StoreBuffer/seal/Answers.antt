use Rattle.std.proofs.Common.{◌≡◌, ◌-◌, ap, ◌∙◌, subst, sym, arith, lit<}
use Rattle.std.specs.Prelude.{sum}
use Rattle.store_buffer.specs.Groups.{after_seal}
use Rattle.store_buffer.specs.Layout.{groups_in, AreGroupsLaidOut}
use Rattle.store_buffer.proofs.Layouts.{few_groups, seal_groups, seal_keeps}
use Rattle.store_buffer.proofs.buffer.StoreBuffer.seal.Goals as goal

pub push-requires : goal.push-requires
push-requires c =
    let b = c.self.inside in
    let at : c.total-start.result ≡ sum b.sealed.items = c.total-start.ensures ∙ ap sum c.deref.ensures.0 in
    let count = c.len.ensures.value in
    let some = c.if-count-gt0.true in
    (lit< tt, few_groups b.sealed.items b.entries.items c.self.invariant (omega arith))

pub invariant_of-self : goal.invariant_of-self
invariant_of-self c =
    let b = c.self.inside in
    let at : c.total-start.result ≡ sum b.sealed.items = c.total-start.ensures ∙ ap sum c.deref.ensures.0 in
    let count = c.len.ensures.value in
    subst (λ ns. AreGroupsLaidOut ns b.entries.items) (sym c.push.ensures.items) (seal_keeps b.sealed.items (c.len.result - c.total-start.result) b.entries.items (omega arith) c.if-count-gt0.true c.self.invariant)

pub returns-then-count-gt0 : goal.returns-then-count-gt0
returns-then-count-gt0 c =
    let b = c.self.inside in
    let at : c.total-start.result ≡ sum b.sealed.items = c.total-start.ensures ∙ ap sum c.deref.ensures.0 in
    let count = c.len.ensures.value in
    ap (λ ns. groups_in ns b.entries.items) c.push.ensures.items ∙ seal_groups b.sealed.items (c.len.result - c.total-start.result) b.entries.items (omega arith) c.if-count-gt0.true
    ∙ ap after_seal c.self.view_is
