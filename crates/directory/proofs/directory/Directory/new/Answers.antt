use Rattle.std.proofs.Common.{◌≡◌, ◌∙◌, ap, sym, subst, List}
use Rattle.std.specs.Prelude.{replicate, All}
use Rattle.std.proofs.lemmas.List.Elements.{All-replicate}
use Rattle.directory.specs.declared.entry.Slot.{Slot}
use Rattle.directory.specs.Entries.{IsSoundEntry, notes_of_entry}
use Rattle.directory.proofs.Slots.{notes-opening}
use Rattle.directory.proofs.directory.Directory.new.Goals as goal

pub invariant_of-result : goal.invariant_of-result
invariant_of-result c =
    let all : c.in_ok-slots.slots.items ≡ replicate c.args.lines c.new-2.result = c.in_ok-slots.ensures.items_if_clones_equal (λ y h. h) in
    record {
      few = c.requires;
      each = subst (λ (xs : List Slot). All (λ (s : Slot). IsSoundEntry c.args.harts s.entry) xs) (sym all)
          (All-replicate (λ (s : Slot). IsSoundEntry c.args.harts s.entry) c.args.lines c.new-2.result (subst (IsSoundEntry c.args.harts) (sym c.new-2.ensures) (c.new.ensures.sound c.args.harts)));
    }

pub returns : goal.returns
returns c =
    let all : c.in_ok-slots.slots.items ≡ replicate c.args.lines c.new-2.result = c.in_ok-slots.ensures.items_if_clones_equal (λ y h. h) in
    notes-opening c.args.harts c.args.lines c.new-2.result c.in_ok-slots.slots.items all (ap (notes_of_entry c.args.harts) c.new-2.ensures ∙ c.new.ensures.line c.args.harts)
