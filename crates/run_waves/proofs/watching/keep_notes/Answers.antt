use Rattle.std.proofs.Common.{◌∷◌, []}
use Rattle.run_waves.proofs.Keeping.{kept_last}
use Rattle.run_waves.specs.Watching.{records_of}
use Rattle.run_waves.specs.declared.groups.Group.TheVariants as part
use Rattle.run_waves.proofs.watching.keep_notes.Goals as goal

pub returns : goal.returns
returns c =
    let s = c.args.machine.now in
    kept_last c.keep_records.result s _ _ _ (part.Transaction c.args.line ∷ []) (records_of s c.args.line) c.in_ok-keep.ensures c.keep_records.ensures
