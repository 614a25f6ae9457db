use Rattle.std.proofs.Common.{◌≡◌, ℕ, List, ◌++◌, append_assoc, sym, ◌∙◌, true, false}
use Rattle.std.specs.Prelude.{codes}
use Rattle.text_fields.specs.Fields.{number}
use Rattle.tl_types.specs.Line.{length_of}
use Rattle.trace_text.specs.Scripts.{is_first_version}
use Rattle.trace_text.proofs.script_writing.spell_head.Goals as goal

four_numbers : (p v h k s w : List ℕ) → ((((p ++ v) ++ h) ++ k) ++ s) ++ w ≡ p ++ (v ++ (h ++ (k ++ (s ++ w))))
four_numbers p v h k s w = simp append_assoc

five_numbers : (p v h k s w l : List ℕ) → (((((p ++ v) ++ h) ++ k) ++ s) ++ w) ++ l ≡ p ++ (v ++ (h ++ (k ++ (s ++ (w ++ l)))))
five_numbers p v h k s w l = simp append_assoc

pub returns-then-is_first_version : goal.returns-then-is_first_version
returns-then-is_first_version c =
    let s = c.args.script.now in
    let first : is_first_version s.harts s.line ≡ true = sym c.is_first_version.ensures ∙ c.if-is_first_version.true in
    rw (first, c.number-then-is_first_version-3.ensures.value, c.number-then-is_first_version-2.ensures.value, c.number-then-is_first_version.ensures.value, c.number.ensures.value, c.text.ensures.value)
    (four_numbers c.args.page.now (codes "rvtl-script 1 ") (number 32 s.harts) (number 32 s.kib) (number 32 s.sets) (number 10 s.ways))

pub returns-else-is_first_version : goal.returns-else-is_first_version
returns-else-is_first_version c =
    let s = c.args.script.now in
    let first : is_first_version s.harts s.line ≡ false = sym c.is_first_version.ensures ∙ c.if-is_first_version.false in
    rw (first, c.number-else-is_first_version-5.ensures.value, c.number-else-is_first_version-4.ensures.value, c.number-else-is_first_version-3.ensures.value, c.number-else-is_first_version-2.ensures.value, c.number-else-is_first_version.ensures.value, c.text-else-is_first_version.ensures.value, c.bytes.ensures)
    (five_numbers c.args.page.now (codes "rvtl-script 2 ") (number 32 s.harts) (number 32 s.kib) (number 32 s.sets) (number 32 s.ways) (number 10 (length_of s.line)))
