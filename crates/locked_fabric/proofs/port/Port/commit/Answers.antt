use Rattle.std.proofs.Common.{◌≡◌, ap, rules, subst}
use Rattle.std.proofs.lemmas.Result.{on_ok_weaker}
use Rattle.machine_model.specs.Views.{State}
use Rattle.locked_fabric.specs.FabricState.{FabricState}
use Rattle.locked_fabric.proofs.port.Port.commit.Goals as goal

pub returns-clause-answers : goal.returns-clause-answers
returns-clause-answers g c =
    let after = c.commit-committed.ensures in
    let seen : c.machine.result.now ≡ c.commit-committed.new.self.machine = search rules in (
      c.commit-committed.new.self,
      after.left,
      (
        record {
          old = c.deref_mut.result.now;
          kept = after.found;
          stale = after.stale;
          empty = after.empty;
          limit = after.limit;
          ok = after.ok;
          err = after.err;
          retired = after.retired;
          counted = after.share;
        },
        subst (λ (s : State). g.T.Visit.sees c.args.turn.now s c.see.new.self) seen c.see.ensures,
      ),
    )

pub returns-clause-journalled : goal.returns-clause-journalled
returns-clause-journalled g c =
    let after = c.commit-committed.ensures in
    on_ok_weaker c.commit-committed.result (λ is. (
      c.commit-committed.new.self,
      after.left,
      (c.deref_mut.result.now.journal, ap (λ (held : FabricState). held.journal) is),
    )) after.ok
