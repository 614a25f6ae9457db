use Rattle.std.proofs.Common.{◌≡◌, ℕ, List, Option, Some, None, IfSome, IsTrue, ap, sym, ◌∙◌}
use Rattle.std.specs.List.{Any}
use Rattle.store_buffer.specs.declared.entry.Entry.{Entry}
use Rattle.store_buffer.specs.Entry.{has_word}
use Rattle.store_buffer.proofs.Places.{any_has}
use Rattle.store_buffer.proofs.buffer.StoreBuffer.lowest.Goals as goal

found_has : (o : Option ℕ) (xs ys : List Entry) → xs ≡ ys → IfSome o (λ word. Any (λ (e : Entry). e.word ≡ word) xs) → IfSome o (λ word. IsTrue (has_word word ys))
found_has None xs ys same h = tt
found_has (Some word) xs ys same h = ap (has_word word) (sym same) ∙ any_has word xs h

pub returns-clause-drainable : goal.returns-clause-drainable
returns-clause-drainable c = found_has c.lowest_word.result c.oldest.result.now _ c.oldest.ensures c.lowest_word.ensures.found
