use Rattle.run_chart.proofs.Opening.{sheet_is}
use Rattle.run_chart.proofs.sheet.open.Goals as goal

pub returns : goal.returns
returns c =
    sheet_is c.args.plan.now c.args.title.now c.args.description.now c.args.style.now c.width.result c.height.result c.new-svg.result c.put_beginning.new.svg c.put_legend.new.svg c.put_manager.new.svg
    c.width.ensures c.height.ensures c.new-svg.ensures c.in_ok-put_beginning.ensures c.in_ok-put_legend.ensures c.in_ok-put_manager.ensures
