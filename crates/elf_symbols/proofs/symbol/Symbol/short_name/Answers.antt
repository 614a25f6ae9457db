use Rattle.std.proofs.Common.{◌≤◌, ◌∙◌, List, ℕ, sym, subst, length}
use Rattle.elf_symbols.proofs.Shortened.{length-short_name}
use Rattle.elf_symbols.proofs.symbol.Symbol.short_name.Goals as goal

pub returns-clause-short : goal.returns-clause-short
returns-clause-short c = subst (λ (text : List ℕ). length text ≤ 56) (sym (c.deref.ensures.value ∙ c.self.invariant)) (length-short_name c.self.inside.name.items)
