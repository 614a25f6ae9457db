use Rattle.std.proofs.Common.{rules, ◌≡◌, ap}
use Rattle.elf_loader.specs.Image.{Initial}
use Rattle.machine_model.specs.Views.{opening}
use Rattle.run_waves.specs.Touched.{parts_of}
use Rattle.run_waves.specs.Waves.{waves_from}
use Rattle.run_waves.proofs.Unfinished.{begun_at_fault}
use Rattle.run_waves.proofs.writing.write_waves.Goals as goal

pub returns-in-Ok-clause-written : goal.returns-in-Ok-clause-written
returns-in-Ok-clause-written g c =
    let same : c.in_ok-reached.reached.trace.image ≡ c.args.image = search rules in
    record {
      text = waves_from (parts_of c.in_ok-reached.reached) (opening c.in_ok-reached.reached.trace.image c.args.config) c.args.events.now;
      waves = record {
        reached = c.in_ok-reached.reached;
        leads = c.in_ok-reached.ensures.ok;
        text_is = ap (λ (i : Initial). waves_from (parts_of c.in_ok-reached.reached) (opening i c.args.config) c.args.events.now) same;
      };
      sent = c.in-Ok.ensures;
    }

pub returns-in-Err-clause-unfinished : goal.returns-in-Err-clause-unfinished
returns-in-Err-clause-unfinished g c =
    let same : c.in_ok-reached.reached.trace.image ≡ c.args.image = search rules in
    begun_at_fault _ _ _ _ _ c.in-Err.error _ c.handed_on.ensures (record {
      text = waves_from (parts_of c.in_ok-reached.reached) (opening c.in_ok-reached.reached.trace.image c.args.config) c.args.events.now;
      waves = record {
        reached = c.in_ok-reached.reached;
        leads = c.in_ok-reached.ensures.ok;
        text_is = ap (λ (i : Initial). waves_from (parts_of c.in_ok-reached.reached) (opening i c.args.config) c.args.events.now) same;
      };
      begun = c.in-Err.ensures;
    })
