use Rattle.std.proofs.Common.{◌≡◌, ℕ, List, [], ◌∷◌, ◌++◌, append_assoc, arith}
use Rattle.std.specs.Prelude.{codes}
use Rattle.text_fields.specs.Fields.{number, word}
use Rattle.trace_text.specs.Words.{channel}
use Rattle.trace_text.proofs.script_writing.spell_event.Goals as goal

two_fields : (p l a b : List ℕ) → ((p ++ l) ++ a) ++ b ≡ p ++ (l ++ (a ++ b))
two_fields p l a b = simp append_assoc

pub number-requires : goal.number-requires
number-requires c = omega arith

pub spell_place-requires : goal.spell_place-requires
spell_place-requires c = omega arith

pub spell_place-requires-in-Evict : goal.spell_place-requires-in-Evict
spell_place-requires-in-Evict c = omega arith

pub spell_channel-requires : goal.spell_channel-requires
spell_channel-requires c = omega arith

pub number-requires-in-Deliver : goal.number-requires-in-Deliver
number-requires-in-Deliver c = omega arith

pub number-requires-in-Local : goal.number-requires-in-Local
number-requires-in-Local c = omega arith

pub number-requires-in-Local-2 : goal.number-requires-in-Local-2
number-requires-in-Local-2 c = omega arith

pub returns-in-Step-clause-value : goal.returns-in-Step-clause-value
returns-in-Step-clause-value c =
    rw (c.in-Step.is, c.number.ensures.value, c.text.ensures.value)
    (append_assoc c.args.page.now (codes "step ") (number c.args.end c.in-Step.hart))

pub returns-in-Step-clause-len : goal.returns-in-Step-clause-len
returns-in-Step-clause-len c = omega arith

pub returns-in-Drain-clause-value : goal.returns-in-Drain-clause-value
returns-in-Drain-clause-value c =
    rw (c.in-Drain.is, c.spell_place.ensures.value, c.text-in-Drain.ensures.value)
    (append_assoc c.args.page.now (codes "drain ") (number 32 c.in-Drain.hart ++ (word c.in-Drain.word ++ c.args.end ∷ [])))

pub returns-in-Drain-clause-len : goal.returns-in-Drain-clause-len
returns-in-Drain-clause-len c = omega arith

pub returns-in-Evict-clause-value : goal.returns-in-Evict-clause-value
returns-in-Evict-clause-value c =
    rw (c.in-Evict.is, c.spell_place-in-Evict.ensures.value, c.text-in-Evict.ensures.value)
    (append_assoc c.args.page.now (codes "evict ") (number 32 c.in-Evict.hart ++ (word c.in-Evict.line ++ c.args.end ∷ [])))

pub returns-in-Evict-clause-len : goal.returns-in-Evict-clause-len
returns-in-Evict-clause-len c = omega arith

pub returns-in-Deliver-clause-value : goal.returns-in-Deliver-clause-value
returns-in-Deliver-clause-value c =
    rw (c.in-Deliver.is, c.number-in-Deliver.ensures.value, c.spell_channel.ensures.value, c.text-in-Deliver.ensures.value)
    (two_fields c.args.page.now (codes "deliver ") (channel c.in-Deliver.channel) (number c.args.end c.in-Deliver.hart))

pub returns-in-Deliver-clause-len : goal.returns-in-Deliver-clause-len
returns-in-Deliver-clause-len c = omega arith

pub returns-in-Local-clause-value : goal.returns-in-Local-clause-value
returns-in-Local-clause-value c =
    rw (c.in-Local.is, c.number-in-Local-2.ensures.value, c.number-in-Local.ensures.value, c.text-in-Local.ensures.value)
    (two_fields c.args.page.now (codes "local ") (number 32 c.in-Local.hart) (number c.args.end c.in-Local.count))

pub returns-in-Local-clause-len : goal.returns-in-Local-clause-len
returns-in-Local-clause-len c = omega arith
