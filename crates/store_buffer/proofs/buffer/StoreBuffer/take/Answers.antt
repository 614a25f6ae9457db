use Rattle.std.proofs.Common.{◌≡◌, true, ap, ◌∙◌, subst, sym}
use Rattle.std.proofs.lemmas.Bool.{false≢true}
use Rattle.store_buffer.specs.Entry.{has_word, entry_of}
use Rattle.store_buffer.specs.Groups.{Groups, oldest, drainable, after_take}
use Rattle.store_buffer.specs.Layout.{groups_in, AreGroupsLaidOut, place_of, one_less}
use Rattle.store_buffer.proofs.Places.{is_place, no_place}
use Rattle.store_buffer.proofs.Layouts.{oldest_in, oldest_has, oldest_entry, take_groups, take_keeps}
use Rattle.store_buffer.proofs.buffer.StoreBuffer.take.Goals as goal

pub unreachable-requires : goal.unreachable-requires
unreachable-requires c =
    let b = c.self.inside in
    let word = c.args.word in
    let h : has_word word (oldest_in b.sealed.items b.entries.items) ≡ true = ap (drainable word) c.self.view_is ∙ c.requires in
    let none = no_place word b.entries.items (ap (place_of word) (sym c.deref.ensures.0) ∙ sym c.place_of.ensures ∙ c.in_default.is) in
    false≢true (sym none ∙ oldest_has word b.sealed.items b.entries.items h)

pub invariant_of-self : goal.invariant_of-self
invariant_of-self c =
    let b = c.self.inside in
    let word = c.args.word in
    let h : has_word word (oldest_in b.sealed.items b.entries.items) ≡ true = ap (drainable word) c.self.view_is ∙ c.requires in
    let p = is_place word c.in-Some.place b.entries.items (ap (place_of word) (sym c.deref.ensures.0) ∙ sym c.place_of.ensures ∙ c.in-Some.is) in
    subst (λ ns. AreGroupsLaidOut ns c.remove.new.self.items) (sym c.forget_one.ensures)
    (subst (AreGroupsLaidOut (one_less b.sealed.items)) (sym (c.remove.ensures.items ∙ p.removed)) (take_keeps word b.sealed.items b.entries.items c.self.invariant h))

pub returns-clause-entry : goal.returns-clause-entry
returns-clause-entry c =
    let b = c.self.inside in
    let word = c.args.word in
    let h : has_word word (oldest_in b.sealed.items b.entries.items) ≡ true = ap (drainable word) c.self.view_is ∙ c.requires in
    let p = is_place word c.in-Some.place b.entries.items (ap (place_of word) (sym c.deref.ensures.0) ∙ sym c.place_of.ensures ∙ c.in-Some.is) in
    c.remove.ensures.value ∙ p.entry c.remove.result ∙ oldest_entry word b.sealed.items b.entries.items h
    ∙ ap (λ (g : Groups). entry_of word (oldest g)) c.self.view_is

pub returns-clause-rest : goal.returns-clause-rest
returns-clause-rest c =
    let b = c.self.inside in
    let word = c.args.word in
    let h : has_word word (oldest_in b.sealed.items b.entries.items) ≡ true = ap (drainable word) c.self.view_is ∙ c.requires in
    let p = is_place word c.in-Some.place b.entries.items (ap (place_of word) (sym c.deref.ensures.0) ∙ sym c.place_of.ensures ∙ c.in-Some.is) in
    let counts = c.forget_one.ensures in
    let left = c.remove.ensures.items ∙ p.removed in
    (λ i. groups_in (counts i) (left i)) ∙ take_groups word b.sealed.items b.entries.items c.self.invariant h ∙ ap (after_take word) c.self.view_is
