use Rattle.std.proofs.Common.{◌≡◌, ◌-◌, ◌<◌, ◌≤◌, length, ap, ◌∙◌, subst, sym, arith, lit<}
use Rattle.std.specs.Prelude.{sum}
use Rattle.std.proofs.lemmas.Result.{err_from_is_err_and}
use Rattle.store_buffer.specs.declared.entry.Store.{Store}
use Rattle.store_buffer.specs.Groups.{after_put_single}
use Rattle.store_buffer.specs.Layout.{groups_in, AreGroupsLaidOut}
use Rattle.store_buffer.proofs.Layouts.{put_list, put_keeps, few_groups, single_old, single_first, single_new, single_keeps}
use Rattle.store_buffer.proofs.Puts.{room, new_list, full_answer}
use Rattle.store_buffer.proofs.buffer.StoreBuffer.put_single.Goals as goal
use Rattle.store_buffer.proofs.buffer.StoreBuffer.put_single.Goals.{else-is_new-via-then-is_new+else-count-start, else-is_new-via-else-is_new}

pub returns-in_err-put_behind-clause-full : goal.returns-in_err-put_behind-clause-full
returns-in_err-put_behind-clause-full c =
    let b = c.self.inside in
    let at : c.total-start.result ≡ sum b.sealed.items = c.total-start.ensures ∙ ap sum c.deref.ensures.0 in
    let p = err_from_is_err_and c.from_residual.result c.from_residual.ensures.1 in
    rw (p.1, p.2) (full_answer _ c.args.word c.total-start.result b.sealed.items b.entries.items c.args.self.now at c.self.view_is c.self.invariant c.in_err-put_behind.ensures.full)

pub push-requires : goal.push-requires
push-requires c =
    let b = c.self.inside in
    let at : c.total-start.result ≡ sum b.sealed.items = c.total-start.ensures ∙ ap sum c.deref.ensures.0 in
    let count = c.len-count.ensures.value in
    let more = c.if-count-start.true in
    (lit< tt, few_groups b.sealed.items b.entries.items c.self.invariant (omega arith))

pub invariant_of-self-then-count-start : goal.invariant_of-self-then-count-start
invariant_of-self-then-count-start c =
    let b = c.self.inside in
    let s : Store = record { word = c.args.word; mask = c.args.mask; value = c.args.value; op = c.args.op } in
    let at : c.total-start.result ≡ sum b.sealed.items = c.total-start.ensures ∙ ap sum c.deref.ensures.0 in
    let fits = room s c.total-start.result b.sealed.items b.entries.items c.in_ok-put_behind.field-0 at c.in_ok-put_behind.ensures.full.1 in
    let new = new_list s c.total-start.result b.sealed.items b.entries.items c.put_behind.new.entries.items at c.in_ok-put_behind.ensures.ok in
    let count = c.len-count.ensures.value in
    let grown : length b.entries.items < length (put_list s (sum b.sealed.items) b.entries.items) = let is_new = c.if-is_new.true in omega (arith, c.len.ensures.value, ap length new) in
    let some : 0 < c.len-count.result - c.total-start.result = let more = c.if-count-start.true in omega arith in
    subst (λ ns. AreGroupsLaidOut ns c.put_behind.new.entries.items) (sym c.push.ensures.items)
    (subst (AreGroupsLaidOut _) (sym new) (single_keeps s b.sealed.items (c.len-count.result - c.total-start.result) b.entries.items c.self.invariant fits (omega arith) some grown))

pub invariant_of-self-else-count-start : goal.invariant_of-self-else-count-start
invariant_of-self-else-count-start c =
    let b = c.self.inside in
    let s : Store = record { word = c.args.word; mask = c.args.mask; value = c.args.value; op = c.args.op } in
    let at : c.total-start.result ≡ sum b.sealed.items = c.total-start.ensures ∙ ap sum c.deref.ensures.0 in
    let fits = room s c.total-start.result b.sealed.items b.entries.items c.in_ok-put_behind.field-0 at c.in_ok-put_behind.ensures.full.1 in
    let new = new_list s c.total-start.result b.sealed.items b.entries.items c.put_behind.new.entries.items at c.in_ok-put_behind.ensures.ok in
    subst (AreGroupsLaidOut b.sealed.items) (sym new) (put_keeps s b.sealed.items b.entries.items c.self.invariant fits)

pub invariant_of-self-else-is_new : goal.invariant_of-self-else-is_new
invariant_of-self-else-is_new c =
    let b = c.self.inside in
    let s : Store = record { word = c.args.word; mask = c.args.mask; value = c.args.value; op = c.args.op } in
    let at : c.total-start.result ≡ sum b.sealed.items = c.total-start.ensures ∙ ap sum c.deref.ensures.0 in
    let fits = room s c.total-start.result b.sealed.items b.entries.items c.in_ok-put_behind.field-0 at c.in_ok-put_behind.ensures.full.1 in
    let new = new_list s c.total-start.result b.sealed.items b.entries.items c.put_behind.new.entries.items at c.in_ok-put_behind.ensures.ok in
    subst (AreGroupsLaidOut b.sealed.items) (sym new) (put_keeps s b.sealed.items b.entries.items c.self.invariant fits)

pub returns-then-count-start-clause-ok : goal.returns-then-count-start-clause-ok
returns-then-count-start-clause-ok c =
    let b = c.self.inside in
    let s : Store = record { word = c.args.word; mask = c.args.mask; value = c.args.value; op = c.args.op } in
    let at : c.total-start.result ≡ sum b.sealed.items = c.total-start.ensures ∙ ap sum c.deref.ensures.0 in
    let new = new_list s c.total-start.result b.sealed.items b.entries.items c.put_behind.new.entries.items at c.in_ok-put_behind.ensures.ok in
    let count = c.len-count.ensures.value in
    let grown : length b.entries.items < length (put_list s (sum b.sealed.items) b.entries.items) = let is_new = c.if-is_new.true in omega (arith, c.len.ensures.value, ap length new) in
    let some : 0 < c.len-count.result - c.total-start.result = let more = c.if-count-start.true in omega arith in
    let pushed = c.push.ensures.items in
    (λ i. groups_in (pushed i) (new i)) ∙ single_new s b.sealed.items (c.len-count.result - c.total-start.result) b.entries.items c.self.invariant (omega arith) some grown
    ∙ ap (after_put_single s) c.self.view_is

pub returns-then-count-start-clause-full : goal.returns-then-count-start-clause-full
returns-then-count-start-clause-full c =
    let b = c.self.inside in
    let at : c.total-start.result ≡ sum b.sealed.items = c.total-start.ensures ∙ ap sum c.deref.ensures.0 in
    full_answer _ c.args.word c.total-start.result b.sealed.items b.entries.items c.args.self.now at c.self.view_is c.self.invariant c.in_ok-put_behind.ensures.full

pub returns-else-is_new-clause-ok : goal.returns-else-is_new-clause-ok
returns-else-is_new-clause-ok c =
    let b = c.self.inside in
    let s : Store = record { word = c.args.word; mask = c.args.mask; value = c.args.value; op = c.args.op } in
    let at : c.total-start.result ≡ sum b.sealed.items = c.total-start.ensures ∙ ap sum c.deref.ensures.0 in
    let new = new_list s c.total-start.result b.sealed.items b.entries.items c.put_behind.new.entries.items at c.in_ok-put_behind.ensures.ok in
    let count = c.len-count.ensures.value in
    elim c.else-is_new.branch [
      | else-is_new-via-then-is_new+else-count-start w ↦ (
          let none : length b.entries.items ≤ sum b.sealed.items = let same = w.if-count-start.false in omega arith in
          w.self-is ∙ ap (groups_in b.sealed.items) new ∙ single_first s b.sealed.items b.entries.items c.self.invariant none ∙ ap (after_put_single s) c.self.view_is
          )
      | else-is_new-via-else-is_new w ↦ (
          let same : length (put_list s (sum b.sealed.items) b.entries.items) ≤ length b.entries.items = let old = w.if-is_new.false in omega (arith, c.len.ensures.value, ap length new) in
          w.self-is ∙ ap (groups_in b.sealed.items) new ∙ single_old s b.sealed.items b.entries.items c.self.invariant same ∙ ap (after_put_single s) c.self.view_is
          )
    ]

pub returns-else-is_new-clause-full : goal.returns-else-is_new-clause-full
returns-else-is_new-clause-full c =
    let b = c.self.inside in
    let at : c.total-start.result ≡ sum b.sealed.items = c.total-start.ensures ∙ ap sum c.deref.ensures.0 in
    full_answer _ c.args.word c.total-start.result b.sealed.items b.entries.items c.args.self.now at c.self.view_is c.self.invariant c.in_ok-put_behind.ensures.full
