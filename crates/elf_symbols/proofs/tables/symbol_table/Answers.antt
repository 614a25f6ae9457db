use Rattle.std.proofs.Common.{◌<◌, map, Some, ap, sym, ◌∙◌, arith}
use Rattle.std.proofs.lemmas.Bool.{cond-true, cond-false}
use Rattle.std.specs.List.{find}
use Rattle.elf_symbols.specs.Tables.{e_shnum, is_symbol_table, section}
use Rattle.elf_symbols.proofs.Walks.{range-from}
use Rattle.elf_symbols.proofs.tables.symbol_table.Goals as goal

pub returns-then-is_symbol_table : goal.returns-then-is_symbol_table
returns-then-is_symbol_table c =
    let file = c.args.file.now in
    let inside : c.loop-index.index < e_shnum file = omega arith in
    ap Some c.section-found.ensures
    ∙ sym (c.loop-index.invariant ∙ ap (λ l. find is_symbol_table (map (section file) l)) (range-from c.loop-index.index (e_shnum file) inside)
    ∙ cond-true _ _ _ (sym (ap is_symbol_table c.section-found.ensures) ∙ sym c.is_symbol_table.ensures ∙ c.if-is_symbol_table.true))

pub loop-index-preserved : goal.loop-index-preserved
loop-index-preserved c =
    let file = c.args.file.now in
    let inside : c.loop-index.index < e_shnum file = omega arith in
    c.loop-index.invariant ∙ ap (λ l. find is_symbol_table (map (section file) l)) (range-from c.loop-index.index (e_shnum file) inside)
    ∙ cond-false _ _ _ (sym (ap is_symbol_table c.section-found.ensures) ∙ sym c.is_symbol_table.ensures ∙ c.if-is_symbol_table.false)
