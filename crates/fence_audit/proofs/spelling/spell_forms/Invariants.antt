use Rattle.std.proofs.Common.{◌≡◌, ◌++◌, length}
use Rattle.fence_audit.specs.Text.{forms_text}
use Rattle.image_orderings.specs.Forms.{weaker_words}
use Rattle.fence_audit.proofs.spelling.spell_forms.Given as goal

abbrev pub invariant-loop-rest : goal.invariant-loop-rest
invariant-loop-rest l =
    l.into.items ++ forms_text l.audit.searches.items l.audit.own.items l.address l.rest
    ≡ l.initial.into.items ++ forms_text l.audit.searches.items l.audit.own.items l.address (weaker_words l.word)

abbrev pub decreases-loop-rest : goal.decreases-loop-rest
decreases-loop-rest l = length l.rest
