-- One step of a sweep back over a part of a hart's list.
use Rattle.std.proofs.Common.{◌≡◌, ℕ, ◌+◌, ◌-◌, ◌<◌, List, ◌∷◌, Bool, true, Option, Some, sym, ap, ◌∙◌, arith, drop, length, refl, set}
use Rattle.std.specs.Prelude.{slice_get}
use Rattle.std.proofs.lemmas.Grind.{drop-set_at}
use Rattle.std.proofs.lemmas.List.{drop_more}
use Rattle.std.proofs.lemmas.Option.{get_or_from_slice_get, slice_get_within}
use Rattle.rv32_decode.specs.declared.instruction.Instr.{Instr}
use Rattle.memory_model.specs.declared.operation.Operation.{Operation}
use Rattle.memory_model.specs.Dependencies.{holds, uses_in, with_flags}
use Rattle.memory_model.specs.Items.{Item}
use Rattle.rvwmo_order.specs.Marks.{asked_before, flagged, flags_before, flags_from}
use Rattle.rvwmo_order.specs.declared.rule.Rule.{Rule}

one_back : (stretch : List Item) (left : ℕ) (m : Item) → 0 < left → slice_get stretch (left - 1) ≡ Some m → drop (left - 1) stretch ≡ m ∷ drop left stretch
one_back stretch left m h e =
    let within : left - 1 < length stretch = slice_get_within stretch (left - 1) m e in
    let next : left - 1 + 1 ≡ left = omega (arith, h) in
    drop_more stretch (left - 1) m within
    ∙ (ap (λ (x : Item). x ∷ drop (left - 1 + 1) stretch) (get_or_from_slice_get stretch (left - 1) m m e)
    ∙ ap (λ (n : ℕ). m ∷ drop n stretch) next)

pub flags_back : (rule : Rule) (stores : List (Option Operation)) (last : List Bool) (stretch : List Item) (left : ℕ) (m : Item) (i : Option Instr) (old mid new : List Bool) → 0 < left → slice_get stretch (left - 1) ≡ Some m → i ≡ m.instr
    → old ≡ flags_from rule stores last (drop left stretch) → mid ≡ flags_before old (uses_in i) → new ≡ with_flags mid true (asked_before rule stores m) → new ≡ flags_from rule stores last (drop (left - 1) stretch)
flags_back rule stores last stretch left m i old mid new h e is a b c =
    let before : mid ≡ flags_before (flags_from rule stores last (drop left stretch)) (uses_in m.instr) = b ∙ (ap (λ (fs : List Bool). flags_before fs (uses_in i)) a ∙ ap (λ (x : Option Instr). flags_before (flags_from rule stores last (drop left stretch)) (uses_in x)) is) in
    c ∙ (ap (λ (fs : List Bool). with_flags fs true (asked_before rule stores m)) before ∙ sym (ap (flags_from rule stores last) (one_back stretch left m h e)))

pub marks_back : (rule : Rule) (stores : List (Option Operation)) (last : List Bool) (stretch : List Item) (left : ℕ) (m : Item) (i : Option Instr) (old marks : List Bool) (mark : Bool) → 0 < left → slice_get stretch (left - 1) ≡ Some m → i ≡ m.instr
    → old ≡ flags_from rule stores last (drop left stretch) → mark ≡ holds old (uses_in i).written → length marks ≡ length stretch → drop left marks ≡ flagged rule stores last (drop left stretch)
    → drop (left - 1) (set marks (left - 1) mark) ≡ flagged rule stores last (drop (left - 1) stretch)
marks_back rule stores last stretch left m i old marks mark h e is a b long inv =
    let within : left - 1 < length stretch = slice_get_within stretch (left - 1) m e in
    let next : left - 1 + 1 ≡ left = omega (arith, h) in
    let is_mark : mark ≡ holds (flags_from rule stores last (drop left stretch)) (uses_in m.instr).written = b ∙ (ap (λ (fs : List Bool). holds fs (uses_in i).written) a ∙ ap (λ (x : Option Instr). holds (flags_from rule stores last (drop left stretch)) (uses_in x).written) is) in
    drop-set_at marks (left - 1) (left - 1) mark refl (omega (arith, within, long))
    ∙ (ap (λ (n : ℕ). mark ∷ drop n marks) next
    ∙ (ap (λ (bs : List Bool). mark ∷ bs) inv
    ∙ (ap (λ (x : Bool). x ∷ flagged rule stores last (drop left stretch)) is_mark
    ∙ sym (ap (flagged rule stores last) (one_back stretch left m h e)))))
