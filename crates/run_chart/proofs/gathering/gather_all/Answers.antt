use Rattle.std.proofs.Common.{rules, ◌≡◌, refl, subst}
use Rattle.elf_loader.specs.Image.{Initial}
use Rattle.machine_model.specs.Views.{opening}
use Rattle.run_chart.proofs.Limits.{given_up, overfull, overfull_bars, untold_is}
use Rattle.run_chart.specs.Rows.{rows_of}
use Rattle.run_chart.specs.Stories.{AreTooMany}
use Rattle.run_chart.proofs.gathering.gather_all.Goals as goal

pub returns-in_err-rows-clause-untold : goal.returns-in_err-rows-clause-untold
returns-in_err-rows-clause-untold c =
    let image_is : c.in_ok-image.image ≡ c.args.image = search rules in
    given_up _ c.from_residual-in_err-rows.result _ c.from_residual-in_err-rows.ensures.1
    (untold_is c.args.image c.args.config c.args.events.now c.args.address c.in_err-rows.field-0.0
    (λ why. overfull _ _ _ _ c.in_ok-machine.machine c.only_of-only.result c.as_slice.result.now (search rules) (search rules) (search rules) (subst (λ (i : Initial). AreTooMany 0 0 (rows_of c.args.config.line c.only_of-only.result c.as_slice.result.now 0 0 (opening i c.args.config) c.args.events.now)) image_is (c.in_err-rows.ensures.full why))))

pub returns-in_err-columns-clause-untold : goal.returns-in_err-columns-clause-untold
returns-in_err-columns-clause-untold c =
    given_up _ c.from_residual-in_err-columns.result _ c.from_residual-in_err-columns.ensures.1
    (untold_is c.args.image c.args.config c.args.events.now c.args.address c.in_err-columns.field-0.0
    (λ why. overfull_bars _ _ _ _ c.in_ok-machine.machine c.only_of-only.result (search rules) (search rules) (search rules)))

pub returns-clause-told : goal.returns-clause-told
returns-clause-told c = record {
  reached = c.in_ok-machine.machine;
  leads = c.in_ok-machine.ensures.ok;
  harts_are = search rules;
  size_is = refl;
  columns_are = search rules;
  rows_are = search rules;
  fits = search rules;
}
