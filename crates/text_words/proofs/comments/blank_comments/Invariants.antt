use Rattle.std.proofs.Common.{◌≡◌, ◌+◌, ◌^◌, ◌<◌, ◌≤◌, length}
use Rattle.text_words.specs.Comments.{uncommented, behind, depth_of}
use Rattle.text_words.specs.declared.comments.Place.TheVariants.{Text}
use Rattle.text_words.proofs.comments.blank_comments.Given as goal

abbrev pub invariant-loop-rest : goal.invariant-loop-rest
invariant-loop-rest l = (behind l.out.items (uncommented l.place l.rest) ≡ uncommented Text l.bytes) × (depth_of l.place + length l.rest ≤ length l.bytes)

abbrev pub decreases-loop-rest : goal.decreases-loop-rest
decreases-loop-rest l = length l.rest
