use Rattle.std.proofs.Common.{ℕ, IfErr, List, subst}
use Rattle.command_files.specs.Faults.{IsLoadFault}
use Rattle.command_files.proofs.Unread.{all_of_bytes}
use Rattle.command_files.proofs.reading.image_in.Goals as goal

pub returns-clause-fault : goal.returns-clause-fault
returns-clause-fault g c =
    all_of_bytes (g.F.Files.held c.args.files.now) c.args.is_raw c.args.name c.args.kib c.in_ok-bytes.bytes.items c.image_of.result c.in_ok-bytes.ensures.bytes
    (subst (λ (bytes : List ℕ). IfErr c.image_of.result (IsLoadFault c.args.is_raw bytes c.args.name c.args.kib)) c.as_slice.ensures.value c.image_of.ensures.fault)
