use Rattle.std.proofs.Common.{ap, sym, subst, ◌∙◌}
use Rattle.store_buffer.specs.Groups.{entry_count, IsLawful}
use Rattle.store_buffer.proofs.Layouts.{entry_count-groups_in, lawful}
use Rattle.store_buffer.proofs.buffer.StoreBuffer.entry_count.Goals as goal

pub returns-clause-count : goal.returns-clause-count
returns-clause-count c =
    let b = c.self.inside in
    c.len.ensures.value ∙ sym (entry_count-groups_in b.sealed.items b.entries.items c.self.invariant.within) ∙ ap entry_count c.self.view_is

pub returns-clause-lawful : goal.returns-clause-lawful
returns-clause-lawful c =
    let b = c.self.inside in
    subst IsLawful c.self.view_is (lawful b.sealed.items b.entries.items c.self.invariant)
