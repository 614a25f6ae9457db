use Rattle.std.proofs.Common.{◌∷◌, ◌++◌, []}
use Rattle.run_waves.specs.Watching.{notes_of, queues_on}
use Rattle.run_waves.specs.declared.groups.Group.TheVariants as part
use Rattle.tl_types.specs.declared.message.Channel.TheVariants.{A, B, D}
use Rattle.run_waves.proofs.Keeping.{kept_last, kept_then}
use Rattle.run_waves.proofs.watching.keep_acquire.Goals as goal

pub returns : goal.returns
returns c =
    let s = c.args.machine.now in
    let h = c.args.hart in
    kept_last c.keep_notes.result s _ _ _ ((part.Queue h A ∷ part.Queue h D ∷ []) ++ queues_on s B) (notes_of s c.args.line) (kept_then s _ _ _ (part.Queue h A ∷ part.Queue h D ∷ []) (queues_on s B) c.in_ok-keep.ensures c.in_ok-keep_queues.ensures) c.keep_notes.ensures
