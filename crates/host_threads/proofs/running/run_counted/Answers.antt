use Rattle.std.proofs.Common.{◌≡◌, ℕ, All, List, arith, refl, sym, subst}
use Rattle.std.proofs.lemmas.Grind.{common_steps}
use Rattle.std.proofs.lemmas.List.Elements.{All-replicate}
use Rattle.std.specs.Prelude.{IfOk}
use Rattle.elf_loader.specs.Image.{Initial}
use Rattle.host_threads.specs.Replays.{IsRun}
use Rattle.host_threads.proofs.running.run_counted.Goals as goal

pub workers-requires-clause-opening : goal.workers-requires-clause-opening
workers-requires-clause-opening g c =
    subst (λ (counts : List ℕ). All (λ (count : ℕ). count ≡ 0) counts) (sym c.in_ok-fabric.ensures.shares) (All-replicate (λ (count : ℕ). count ≡ 0) c.args.common.now.config.harts 0 refl)

pub returns-clause-run : goal.returns-clause-run
returns-clause-run g c =
    subst (λ (i : Initial). IfOk c.report_of.result (λ left. IsRun i c.args.common.now.config c.args.common.now.limit left)) c.requires.image c.report_of.ensures.run

pub workers-requires-clause-few : goal.workers-requires-clause-few
workers-requires-clause-few g c = grind (arith, common_steps)

pub workers-requires-clause-seats : goal.workers-requires-clause-seats
workers-requires-clause-seats g c = grind (arith, common_steps)

pub workers-requires-clause-turns : goal.workers-requires-clause-turns
workers-requires-clause-turns g c = grind (arith, common_steps)

pub counted-requires-clause-made : goal.counted-requires-clause-made
counted-requires-clause-made g c = grind (arith, common_steps)
