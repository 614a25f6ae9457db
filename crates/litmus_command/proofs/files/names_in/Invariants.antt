use Rattle.std.proofs.Common.{◌≡◌, ◌++◌, [], length}
use Rattle.litmus_command.specs.Listing.{names_from, texts_of}
use Rattle.litmus_command.proofs.files.names_in.Given as goal

abbrev pub invariant-loop-folder : goal.invariant-loop-folder
invariant-loop-folder l = texts_of l.names.items ++ names_from l.folder [] l.rest ≡ names_from l.folder [] l.text

abbrev pub decreases-loop-folder : goal.decreases-loop-folder
decreases-loop-folder l = length l.rest
