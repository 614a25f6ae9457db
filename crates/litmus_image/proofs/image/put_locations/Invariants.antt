use Rattle.std.proofs.Common.{◌≡◌, ◌++◌, drop}
use Rattle.std.specs.List.{flat_map}
use Rattle.litmus_image.specs.Image.{location}
use Rattle.litmus_image.proofs.image.put_locations.Given as goal

abbrev pub invariant-loop-number : goal.invariant-loop-number
invariant-loop-number l = l.words.items ++ flat_map location (drop l.number-index l.locations) ≡ l.fn.words.items ++ flat_map location l.locations
