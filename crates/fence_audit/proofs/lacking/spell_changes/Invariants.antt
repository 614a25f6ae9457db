use Rattle.std.proofs.Common.{◌≡◌, ◌++◌, length}
use Rattle.fence_audit.specs.Lacking.{changes_text}
use Rattle.fence_audit.proofs.lacking.spell_changes.Given as goal

abbrev pub invariant-loop-rest : goal.invariant-loop-rest
invariant-loop-rest l =
    l.into.items ++ changes_text l.symbols l.is_minimal l.missing.last.items l.rest
    ≡ l.initial.into.items ++ changes_text l.symbols l.is_minimal l.missing.last.items l.missing.own.items

abbrev pub decreases-loop-rest : goal.decreases-loop-rest
decreases-loop-rest l = length l.rest
