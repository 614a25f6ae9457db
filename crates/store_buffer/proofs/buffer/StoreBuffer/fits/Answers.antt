use Rattle.std.proofs.Common.{◌≡◌, ℕ, ◌≤◌, false, ap, sym, ◌∙◌, not, arith, length}
use Rattle.std.specs.Prelude.{◌==◌, nat_lt}
use Rattle.std.proofs.lemmas.Bool.Decides.{nat_tests}
use Rattle.machine_types.specs.declared.limits.TheConstants.{BUFFER_ENTRIES}
use Rattle.store_buffer.specs.Entry.{has_word}
use Rattle.store_buffer.specs.Groups.{entry_count}
use Rattle.store_buffer.proofs.Layouts.{entry_count-groups_in}
use Rattle.store_buffer.proofs.buffer.StoreBuffer.fits.Goals as goal

not_full : (n : ℕ) → n ≤ BUFFER_ENTRIES → not (n == BUFFER_ENTRIES) ≡ nat_lt n BUFFER_ENTRIES
not_full n h = grind (arith, nat_tests)

pub returns-else-has_word : goal.returns-else-has_word
returns-else-has_word c =
    let b = c.self.inside in
    let none : has_word c.args.word c.args.self.now.current ≡ false = ap (has_word c.args.word) (sym c.current.ensures) ∙ sym c.has_word.ensures ∙ c.if-has_word.false in
    let count = sym (entry_count-groups_in b.sealed.items b.entries.items c.self.invariant.within) ∙ ap entry_count c.self.view_is in
    rw none (ap not c.is_full.ensures.value ∙ not_full (length b.entries.items) c.self.invariant.few ∙ ap (λ n. nat_lt n BUFFER_ENTRIES) count)
