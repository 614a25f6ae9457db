use Rattle.std.specs.Prelude.{None, codes}
use Rattle.assembly.specs.Assembly.{assembly}
use Rattle.order_text.specs.Fence.{fence_between}
use Rattle.order_text.specs.Text.{bits, dependencies}
use Rattle.order_text.proofs.Spelled.{four_spelled}
use Rattle.order_text.proofs.spelling.spell_remedies.Goals as goal

pub returns-clause-value : goal.returns-clause-value
returns-clause-value c =
    rw (c.spell_dependencies.ensures.value, c.spell_bits.ensures.value, c.text.ensures.value, c.spell_assembly.ensures.value, c.fence_between.ensures.sets)
    (four_spelled c.args.page.now (assembly None (fence_between c.args.a c.args.b)) (codes " between them") (bits c.args.a c.args.b) (dependencies c.args.a c.args.b))
