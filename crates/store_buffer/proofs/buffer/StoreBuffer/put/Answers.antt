use Rattle.std.proofs.Common.{◌≡◌, ap, ◌∙◌, subst, sym}
use Rattle.std.specs.Prelude.{sum}
use Rattle.std.proofs.lemmas.Result.{err_from_is_err_and}
use Rattle.store_buffer.specs.declared.entry.Store.{Store}
use Rattle.store_buffer.specs.Groups.{after_put}
use Rattle.store_buffer.specs.Layout.{groups_in, AreGroupsLaidOut}
use Rattle.store_buffer.proofs.Layouts.{put_groups, put_keeps}
use Rattle.store_buffer.proofs.Puts.{room, new_list, full_answer}
use Rattle.store_buffer.proofs.buffer.StoreBuffer.put.Goals as goal

pub returns-in_err-put_behind-clause-full : goal.returns-in_err-put_behind-clause-full
returns-in_err-put_behind-clause-full c =
    let b = c.self.inside in
    let at : c.total-start.result ≡ sum b.sealed.items = c.total-start.ensures ∙ ap sum c.deref.ensures.0 in
    let p = err_from_is_err_and c.from_residual.result c.from_residual.ensures.1 in
    rw (p.1, p.2) (full_answer _ c.args.word c.total-start.result b.sealed.items b.entries.items c.args.self.now at c.self.view_is c.self.invariant c.in_err-put_behind.ensures.full)

pub invariant_of-self-2 : goal.invariant_of-self-2
invariant_of-self-2 c =
    let b = c.self.inside in
    let s : Store = record { word = c.args.word; mask = c.args.mask; value = c.args.value; op = c.args.op } in
    let at : c.total-start.result ≡ sum b.sealed.items = c.total-start.ensures ∙ ap sum c.deref.ensures.0 in
    let fits = room s c.total-start.result b.sealed.items b.entries.items c.in_ok-put_behind.field-0 at c.in_ok-put_behind.ensures.full.1 in
    let new = new_list s c.total-start.result b.sealed.items b.entries.items c.put_behind.new.entries.items at c.in_ok-put_behind.ensures.ok in
    subst (AreGroupsLaidOut b.sealed.items) (sym new) (put_keeps s b.sealed.items b.entries.items c.self.invariant fits)

pub returns-clause-ok : goal.returns-clause-ok
returns-clause-ok c =
    let b = c.self.inside in
    let s : Store = record { word = c.args.word; mask = c.args.mask; value = c.args.value; op = c.args.op } in
    let at : c.total-start.result ≡ sum b.sealed.items = c.total-start.ensures ∙ ap sum c.deref.ensures.0 in
    let new = new_list s c.total-start.result b.sealed.items b.entries.items c.put_behind.new.entries.items at c.in_ok-put_behind.ensures.ok in
    ap (groups_in b.sealed.items) new ∙ put_groups s b.sealed.items b.entries.items c.self.invariant.within ∙ ap (after_put s) c.self.view_is

pub returns-clause-full : goal.returns-clause-full
returns-clause-full c =
    let b = c.self.inside in
    let at : c.total-start.result ≡ sum b.sealed.items = c.total-start.ensures ∙ ap sum c.deref.ensures.0 in
    full_answer _ c.args.word c.total-start.result b.sealed.items b.entries.items c.args.self.now at c.self.view_is c.self.invariant c.in_ok-put_behind.ensures.full
