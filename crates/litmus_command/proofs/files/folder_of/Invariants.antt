use Rattle.std.proofs.Common.{◌≡◌, length, reverse}
use Rattle.litmus_command.specs.Listing.{from_slash}
use Rattle.litmus_command.proofs.files.folder_of.Given as goal

abbrev pub invariant-loop-folder : goal.invariant-loop-folder
invariant-loop-folder l = from_slash (reverse l.folder) ≡ from_slash (reverse l.name)

abbrev pub decreases-loop-folder : goal.decreases-loop-folder
decreases-loop-folder l = length l.folder
