-- Where a cache keeps a line.
use Rattle.std.specs.Prelude.{ℕ, ◌/◌, ◌%◌}
use Rattle.tl_types.specs.Line.{length_of}
use Rattle.client_cache.specs.declared.shape.Shape.{Shape}

-- the set that the line at this address belongs to
abbrev pub set_of : Shape → ℕ → ℕ
set_of shape line = line / length_of shape.size % shape.sets
