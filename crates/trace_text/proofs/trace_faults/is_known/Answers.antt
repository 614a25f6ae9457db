use Rattle.std.proofs.Common.{◌≡◌, ℕ, List, Bool, ◌||◌, sym, ◌∙◌}
use Rattle.std.specs.Prelude.{codes}
use Rattle.trace_text.proofs.Refusals.{is_parted_word, or_then, or_else}
use Rattle.trace_text.proofs.TraceRefusals.{known}
use Rattle.trace_text.proofs.trace_faults.is_known.Goals.{then-is_word, else-is_word, then-is_word-2, else-is_word-2, then-is_word-3, else-is_word-3, then-is_word-4, else-is_word-4, then-is_word-5, else-is_word-5}
use Rattle.trace_text.proofs.trace_faults.is_known.Goals as goal

pub returns-then-is_word-6 : goal.returns-then-is_word-6
returns-then-is_word-6 c =
    let word : List ℕ → Bool = is_parted_word c.args.line.now in
    let two : c.if-is_word.value ≡ (word (codes "rvtl-trace") || word (codes "T")) = elim c.if-is_word.branch [
      | then-is_word w ↦ or_then _ _ _ (sym c.is_word.ensures ∙ w.if-is_word.true) (w.value-is ∙ w.if-is_word.true)
      | else-is_word w ↦ or_else _ _ _ (sym c.is_word.ensures ∙ w.if-is_word.false) (w.value-is ∙ w.is_word-else-is_word.ensures)
    ] in
    let three : c.if-is_word-2.value ≡ ((word (codes "rvtl-trace") || word (codes "T")) || word (codes "I")) = elim c.if-is_word-2.branch [
      | then-is_word-2 w ↦ or_then _ _ _ (sym two ∙ w.if-is_word-2.true) (w.value-is ∙ w.if-is_word-2.true)
      | else-is_word-2 w ↦ or_else _ _ _ (sym two ∙ w.if-is_word-2.false) (w.value-is ∙ w.is_word-else-is_word-2.ensures)
    ] in
    let four : c.if-is_word-3.value ≡ (((word (codes "rvtl-trace") || word (codes "T")) || word (codes "I")) || word (codes "R")) = elim c.if-is_word-3.branch [
      | then-is_word-3 w ↦ or_then _ _ _ (sym three ∙ w.if-is_word-3.true) (w.value-is ∙ w.if-is_word-3.true)
      | else-is_word-3 w ↦ or_else _ _ _ (sym three ∙ w.if-is_word-3.false) (w.value-is ∙ w.is_word-else-is_word-3.ensures)
    ] in
    let five : c.if-is_word-4.value ≡ ((((word (codes "rvtl-trace") || word (codes "T")) || word (codes "I")) || word (codes "R")) || word (codes "P")) = elim c.if-is_word-4.branch [
      | then-is_word-4 w ↦ or_then _ _ _ (sym four ∙ w.if-is_word-4.true) (w.value-is ∙ w.if-is_word-4.true)
      | else-is_word-4 w ↦ or_else _ _ _ (sym four ∙ w.if-is_word-4.false) (w.value-is ∙ w.is_word-else-is_word-4.ensures)
    ] in
    let six : c.if-is_word-5.value ≡ (((((word (codes "rvtl-trace") || word (codes "T")) || word (codes "I")) || word (codes "R")) || word (codes "P")) || word (codes "M")) = elim c.if-is_word-5.branch [
      | then-is_word-5 w ↦ or_then _ _ _ (sym five ∙ w.if-is_word-5.true) (w.value-is ∙ w.if-is_word-5.true)
      | else-is_word-5 w ↦ or_else _ _ _ (sym five ∙ w.if-is_word-5.false) (w.value-is ∙ w.is_word-else-is_word-5.ensures)
    ] in
    known c.args.line.now c.if-is_word-5.value c.requires (or_then _ _ _ (sym six ∙ c.if-is_word-6.true) c.if-is_word-6.true)

pub returns-else-is_word-6 : goal.returns-else-is_word-6
returns-else-is_word-6 c =
    let word : List ℕ → Bool = is_parted_word c.args.line.now in
    let two : c.if-is_word.value ≡ (word (codes "rvtl-trace") || word (codes "T")) = elim c.if-is_word.branch [
      | then-is_word w ↦ or_then _ _ _ (sym c.is_word.ensures ∙ w.if-is_word.true) (w.value-is ∙ w.if-is_word.true)
      | else-is_word w ↦ or_else _ _ _ (sym c.is_word.ensures ∙ w.if-is_word.false) (w.value-is ∙ w.is_word-else-is_word.ensures)
    ] in
    let three : c.if-is_word-2.value ≡ ((word (codes "rvtl-trace") || word (codes "T")) || word (codes "I")) = elim c.if-is_word-2.branch [
      | then-is_word-2 w ↦ or_then _ _ _ (sym two ∙ w.if-is_word-2.true) (w.value-is ∙ w.if-is_word-2.true)
      | else-is_word-2 w ↦ or_else _ _ _ (sym two ∙ w.if-is_word-2.false) (w.value-is ∙ w.is_word-else-is_word-2.ensures)
    ] in
    let four : c.if-is_word-3.value ≡ (((word (codes "rvtl-trace") || word (codes "T")) || word (codes "I")) || word (codes "R")) = elim c.if-is_word-3.branch [
      | then-is_word-3 w ↦ or_then _ _ _ (sym three ∙ w.if-is_word-3.true) (w.value-is ∙ w.if-is_word-3.true)
      | else-is_word-3 w ↦ or_else _ _ _ (sym three ∙ w.if-is_word-3.false) (w.value-is ∙ w.is_word-else-is_word-3.ensures)
    ] in
    let five : c.if-is_word-4.value ≡ ((((word (codes "rvtl-trace") || word (codes "T")) || word (codes "I")) || word (codes "R")) || word (codes "P")) = elim c.if-is_word-4.branch [
      | then-is_word-4 w ↦ or_then _ _ _ (sym four ∙ w.if-is_word-4.true) (w.value-is ∙ w.if-is_word-4.true)
      | else-is_word-4 w ↦ or_else _ _ _ (sym four ∙ w.if-is_word-4.false) (w.value-is ∙ w.is_word-else-is_word-4.ensures)
    ] in
    let six : c.if-is_word-5.value ≡ (((((word (codes "rvtl-trace") || word (codes "T")) || word (codes "I")) || word (codes "R")) || word (codes "P")) || word (codes "M")) = elim c.if-is_word-5.branch [
      | then-is_word-5 w ↦ or_then _ _ _ (sym five ∙ w.if-is_word-5.true) (w.value-is ∙ w.if-is_word-5.true)
      | else-is_word-5 w ↦ or_else _ _ _ (sym five ∙ w.if-is_word-5.false) (w.value-is ∙ w.is_word-else-is_word-5.ensures)
    ] in
    known c.args.line.now c.is_word-else-is_word-6.result c.requires (or_else _ _ _ (sym six ∙ c.if-is_word-6.false) c.is_word-else-is_word-6.ensures)
