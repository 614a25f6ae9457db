use Rattle.std.proofs.Common.{refl}
use Rattle.command_files.proofs.Unread.{answered, aside, no_image_told}
use Rattle.command_files.proofs.reading.image_of.Goals as goal

pub returns-in-Err-clause-fault : goal.returns-in-Err-clause-fault
returns-in-Err-clause-fault g c =
    no_image_told c.args.is_raw c.args.name c.args.kib c.args.bytes.now c.in-Err.error c.image.result
    (λ other. answered c.args.is_raw c.args.bytes.now c.args.bytes.now c.in-Some.size c.args.kib c.in-Err.error refl c.in-Some.ensures.exact.1 (c.in-Err.ensures.answer (aside c.in-Err.error other)))
    c.image.ensures.told c.image.ensures.memory
