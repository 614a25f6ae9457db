use Rattle.std.proofs.Common.{◌≡◌, ◌+◌, length, map}
use Rattle.command_files.specs.Ends.{hart_lines}
use Rattle.text_fields.proofs.Written.{Going}
use Rattle.command_files.proofs.ends.print_ends.Given as goal

-- the lines of the harts from this one on are still to go
abbrev pub invariant-loop-left : goal.invariant-loop-left
invariant-loop-left g l = record {
  told : Going (g.E.Write.contents l.initial.err) (g.E.Write.contents l.err) (hart_lines l.hart l.left (map (λ output. output.items) l.others)) (hart_lines 0 l.statuses (map (λ output. output.items) l.outputs));
  count : l.hart + length l.left ≡ length l.statuses;
}

abbrev pub decreases-loop-left : goal.decreases-loop-left
decreases-loop-left g l = length l.left
