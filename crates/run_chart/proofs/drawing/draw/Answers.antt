use Rattle.run_chart.proofs.Pictures.{picture_is}
use Rattle.run_chart.proofs.Written.{if_ok}
use Rattle.run_chart.proofs.drawing.draw.Goals as goal

pub returns : goal.returns
returns c =
    if_ok _ _ c.close.result
    (λ bytes is. picture_is c.args.story.now c.args.symbols.now c.args.style.now c.plan_of-plan.result c.as_slice.result.now c.as_slice-2.result.now c.in_ok-posts.posts.items c.as_slice-3.result.now _ _ _ _ _
    c.plan_of-plan.ensures.harts c.plan_of-plan.ensures.columns c.plan_of-plan.ensures.lines
    c.as_slice.ensures.value c.as_slice-2.ensures.value c.in_ok-posts.ensures c.as_slice-3.ensures.value
    c.in_ok-svg.ensures c.in_ok-put_harts.ensures c.in_ok-put_rows.ensures c.in_ok-put_posts.ensures is)
    c.close.ensures
