use Rattle.std.proofs.Common.{◌≡◌, take}
use Rattle.store_buffer.specs.Layout.{overlaid}
use Rattle.store_buffer.proofs.buffer.overlaid.Given as goal

-- the bytes that the entries so far show
abbrev pub invariant-loop-entry : goal.invariant-loop-entry
invariant-loop-entry l =
    (l.mask ≡ (overlaid l.word (take l.entry-index l.entries)).0) × (l.bytes ≡ (overlaid l.word (take l.entry-index l.entries)).1)
