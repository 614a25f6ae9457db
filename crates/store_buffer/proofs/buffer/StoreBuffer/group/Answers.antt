use Rattle.std.proofs.Common.{◌≡◌, ◌+◌, ◌-◌, ◌<◌, ◌≤◌, [], length, get_or, take, drop, sym, ap, ◌∙◌, arith}
use Rattle.std.specs.Prelude.{sum}
use Rattle.std.proofs.lemmas.List.{length-take-le, take_all, take_rest}
use Rattle.store_buffer.specs.Groups.{Groups, groups_of}
use Rattle.store_buffer.proofs.Layouts.{length-groups_of, group_sealed, group_current, sum-take-at, sum-take-le}
use Rattle.store_buffer.proofs.buffer.StoreBuffer.group.Goals as goal

pub slice_bounds-total-end : goal.slice_bounds-total-end
slice_bounds-total-end c =
    let b = c.self.inside in
    let within : c.args.index ≤ length c.deref.result.now = omega (arith, c.requires, ap (λ (g : Groups). length (groups_of g)) c.self.view_is, length-groups_of b.sealed.items b.entries.items, ap length c.deref.ensures.0) in
    sym (length-take-le c.args.index c.deref.result.now within)

pub returns-then-index-len : goal.returns-then-index-len
returns-then-index-len c =
    let b = c.self.inside in
    let i = c.args.index in
    let start = c.total-start.result in
    let n = get_or c.deref-then-index-len-2.result.now i 0 in
    let at : start ≡ sum (take i b.sealed.items) = c.total-start.ensures ∙ ap (λ ns. sum (take i ns)) c.deref.ensures.0 in
    let is : n ≡ get_or b.sealed.items i 0 = ap (λ ns. get_or ns i 0) c.deref-then-index-len-2.ensures.0 in
    let size : start + n - start ≡ n = omega arith in
    let es = c.deref-then-index-len.ensures.0 in
    let below : i < length b.sealed.items = let t = c.if-index-len.true in omega (arith, c.len.ensures.value) in
    ap (λ k. take k (drop start c.deref-then-index-len.result.now)) size ∙ (λ j. take (is j) (drop (at j) (es j)))
    ∙ sym (group_sealed b.sealed.items i b.entries.items (drop (sum b.sealed.items) b.entries.items) below)
    ∙ ap (λ (g : Groups). get_or (groups_of g) i []) c.self.view_is

pub returns-else-index-len : goal.returns-else-index-len
returns-else-index-len c =
    let b = c.self.inside in
    let i = c.args.index in
    let start = c.total-start.result in
    let at : start ≡ sum (take i b.sealed.items) = c.total-start.ensures ∙ ap (λ ns. sum (take i ns)) c.deref.ensures.0 in
    let above : length b.sealed.items ≤ i = let f = c.if-index-len.false in omega (arith, c.len.ensures.value) in
    let last : i ≡ length b.sealed.items = omega (arith, c.requires, ap (λ (g : Groups). length (groups_of g)) c.self.view_is, length-groups_of b.sealed.items b.entries.items) in
    let all : start ≡ sum b.sealed.items = at ∙ ap sum (take_all i b.sealed.items above) in
    let es = c.deref-else-index-len.ensures.0 in
    take_rest c.deref-else-index-len.result.now start ∙ (λ j. drop (all j) (es j))
    ∙ sym (group_current b.sealed.items b.entries.items (drop (sum b.sealed.items) b.entries.items))
    ∙ ap (λ (g : Groups). get_or (groups_of g) (length b.sealed.items) []) c.self.view_is
    ∙ ap (λ k. get_or (groups_of c.args.self.now) k []) (sym last)

pub total-start-requires : goal.total-start-requires
total-start-requires c =
    let ns = c.self.inside.sealed.items in
    omega (arith, ap (λ xs. sum (take c.args.index xs)) c.deref.ensures.0, sum-take-le ns c.args.index)

pub overflow_add-result : goal.overflow_add-result
overflow_add-result c =
    let ns = c.self.inside.sealed.items in
    let i = c.args.index in
    let below : i < length ns = let t = c.if-index-len.true in omega (arith, c.len.ensures.value) in
    omega (arith, c.total-start.ensures, ap (λ xs. sum (take i xs)) c.deref.ensures.0, ap (λ xs. get_or xs i 0) c.deref-then-index-len-2.ensures.0, sum-take-at ns i below)

pub slice_bounds-result-end : goal.slice_bounds-result-end
slice_bounds-result-end c =
    let ns = c.self.inside.sealed.items in
    let i = c.args.index in
    let below : i < length ns = let t = c.if-index-len.true in omega (arith, c.len.ensures.value) in
    omega (arith, c.total-start.ensures, ap (λ xs. sum (take i xs)) c.deref.ensures.0, ap (λ xs. get_or xs i 0) c.deref-then-index-len-2.ensures.0, ap length c.deref-then-index-len.ensures.0, sum-take-at ns i below)

pub slice_bounds-result-count-else-index-len : goal.slice_bounds-result-count-else-index-len
slice_bounds-result-count-else-index-len c =
    let ns = c.self.inside.sealed.items in
    let i = c.args.index in
    omega (arith, c.total-start.ensures, ap (λ xs. sum (take i xs)) c.deref.ensures.0, ap length c.deref-else-index-len.ensures.0, sum-take-le ns i)
