use Rattle.std.proofs.Common.{◌≡◌, subst}
use Rattle.std.specs.Prelude.{IfOk, OnOk}
use Rattle.locked_fabric.specs.Adopting.{local_of}
use Rattle.hart.specs.Local.{PrivateRow, private_row_from}
use Rattle.machine_types.specs.declared.limits.TheConstants.{MAX_ROW}
use Rattle.host_threads.proofs.worker.Worker.commit.Goals as goal
use Rattle.host_threads.proofs.Telling.{committed_seen, same_of}
use Rattle.locked_fabric.specs.Port.{IsLast, Left, share_of}

pub returns-in-Ok-clause-row : goal.returns-in-Ok-clause-row
returns-in-Ok-clause-row g c =
    let row = private_row_from c.args.self.now.common.now.image c.args.self.now.turn.stood MAX_ROW in
    let is : c.in-Ok.batch ≡ row = subst (λ made. IfOk made (λ (batch : PrivateRow). batch ≡ row)) c.in-Ok.is c.run_local.ensures in
    subst (λ (it : PrivateRow). OnOk c.commit.result (Left (IsLast (local_of it.first.id it)))) is c.commit.ensures.journalled

pub returns-in-Ok-clause-came : goal.returns-in-Ok-clause-came
returns-in-Ok-clause-came g c =
    let answers = c.commit.ensures.answers in
    committed_seen c.in-Ok.batch c.commit.result (share_of c.args.self.now.port) (share_of c.commit.new.self) c.args.self.now.turn.hart c.args.self.now.hart c.commit.new.turn.seen c.commit.new.turn.is_spent c.args.self.now.own.1
    (answers.0, answers.1, (answers.2.0, same_of answers.2.1 (λ turn. turn.seen), same_of answers.2.1 (λ turn. turn.is_spent)))
