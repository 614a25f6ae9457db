use Rattle.std.proofs.Common.{ℕ, ◌/◌, ◌<◌, ap, sym, ◌∙◌, arith, length}
use Rattle.elf_symbols.specs.Entries.{entry_at, symbol_in}
use Rattle.elf_symbols.proofs.Walks.{names-more, names-same}
use Rattle.elf_symbols.proofs.symbols.table_symbols.Goals as goal
use Rattle.elf_symbols.proofs.symbols.table_symbols.Goals.{in-Some+in_ok-push, in_default}

pub loop-index-preserved : goal.loop-index-preserved
loop-index-preserved c =
    let entries = c.args.entries.now in
    let given = λ (index : ℕ). symbol_in (entry_at entries index) c.args.strings.now in
    let inside : c.loop-index.index < length entries / 16 = omega arith in
    let read = ap (λ e. symbol_in e c.args.strings.now) (sym c.entry_at.ensures.entry) ∙ sym c.in_ok-symbol.ensures in
    elim c.match-branch-2.branch [
      | in-Some+in_ok-push w ↦
          rw (w.list-is, w.in_ok-push.ensures.items)
          (names-more given _ _ c.loop-index.index (length entries / 16) inside c.loop-index.invariant w.in-Some.symbol (read ∙ w.in-Some.is))
      | in_default w ↦ rw w.list-is (names-same given _ _ c.loop-index.index (length entries / 16) inside c.loop-index.invariant (read ∙ w.in_default.is))
    ]
