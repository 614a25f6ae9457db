use Rattle.std.proofs.Common.{◌≡◌, ℕ, List, [], ◌∷◌, ◌++◌, append_assoc, sym, ◌∙◌, true, false}
use Rattle.std.specs.Prelude.{codes}
use Rattle.text_fields.specs.Fields.{number, word}
use Rattle.tl_types.specs.Line.{length_of}
use Rattle.trace_text.specs.Scripts.{is_first_version}
use Rattle.event_stream.proofs.writing.spell_head.Goals as goal

first_parts : (s v h k w : List ℕ) → ((((s ++ v) ++ h) ++ k) ++ w) ++ 10 ∷ [] ≡ s ++ (v ++ (h ++ (k ++ (w ++ 10 ∷ []))))
first_parts s v h k w = simp append_assoc

second_parts : (s v h k w n : List ℕ) → (((((s ++ v) ++ h) ++ k) ++ w) ++ 32 ∷ []) ++ n ≡ s ++ (v ++ (h ++ (k ++ ((w ++ 32 ∷ []) ++ n))))
second_parts s v h k w n = simp append_assoc

pub returns-then-is_first_version : goal.returns-then-is_first_version
returns-then-is_first_version c =
    let first : is_first_version c.args.harts c.args.line ≡ true = sym c.is_first_version.ensures ∙ c.if-is_first_version.true in
    rw (first, c.text-then-is_first_version.ensures.value, c.word.ensures.value, c.number-then-is_first_version.ensures.value, c.number.ensures.value, c.text.ensures.value)
    (first_parts c.args.page.now (codes "rvtl-stream 1\nT ") (number 32 c.args.harts) (number 32 c.args.kib) (word c.args.entry))

pub returns-else-is_first_version : goal.returns-else-is_first_version
returns-else-is_first_version c =
    let first : is_first_version c.args.harts c.args.line ≡ false = sym c.is_first_version.ensures ∙ c.if-is_first_version.false in
    rw (first, c.number-else-is_first_version-3.ensures.value, c.text-else-is_first_version-2.ensures.value, c.word-else-is_first_version.ensures.value, c.number-else-is_first_version-2.ensures.value, c.number-else-is_first_version.ensures.value, c.text-else-is_first_version.ensures.value, c.bytes.ensures)
    (second_parts c.args.page.now (codes "rvtl-stream 2\nT ") (number 32 c.args.harts) (number 32 c.args.kib) (word c.args.entry) (number 10 (length_of c.args.line)))
