-- How memory keeps its lines.
use Rattle.std.specs.Prelude.{List, map}
use Rattle.backing_memory.specs.declared.memory.Lines.{Lines}
use Rattle.backing_memory.specs.declared.memory.Lines.TheVariants as kept
use Rattle.tl_types.specs.declared.line.LineData.{LineData}
use Rattle.tl_types.specs.declared.line.LineData.TheVariants as data_of

abbrev pub lines_in : Lines → List LineData
lines_in (kept.Bytes16 lines) = map data_of.Bytes16 lines.items
lines_in (kept.Bytes64 lines) = map data_of.Bytes64 lines.items
