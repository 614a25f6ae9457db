use Rattle.std.proofs.Common.{◌≡◌, ◌++◌, take}
use Rattle.std.specs.List.{flat_map}
use Rattle.run_chart.specs.Markup.{attribute}
use Rattle.run_chart.proofs.markup.Markup.attributes.Given as goal

abbrev pub invariant-loop-attribute : goal.invariant-loop-attribute
invariant-loop-attribute l = l.self ≡ l.initial.self ++ flat_map attribute (take l.attribute-index l.attributes)
