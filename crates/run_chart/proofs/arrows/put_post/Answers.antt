use Rattle.std.proofs.Common.{◌≡◌, ◌∙◌, ◌++◌, [], ℕ, Bool, List, OnOk, subst, sym}
use Rattle.std.specs.Prelude.{if◌then◌else◌}
use Rattle.run_chart.specs.Arrows.{arrow, message}
use Rattle.run_chart.specs.Shapes as shape
use Rattle.run_chart.specs.Texts.{heading}
use Rattle.run_chart.specs.declared.naming.Manner.TheVariants.{Short, Whole}
use Rattle.run_chart.specs.declared.shapes.Message.{Message}
use Rattle.run_chart.proofs.Appending.{both_told, spelt_alone}
use Rattle.run_chart.proofs.arrows.put_post.Goals as goal

pub returns : goal.returns
unfolding arrow
returns c =
    let plan = c.args.plan.now in
    let x : List ℕ = heading Short c.args.names.now.symbols.now c.args.names.now.size c.args.post.now.entry.message in
    let y : List ℕ = heading Whole c.args.names.now.symbols.now c.args.names.now.size c.args.post.now.entry.message in
    let told = both_told c.put_arrow.result (λ (a b : List ℕ). shape.arrow plan c.message_of-message.result a b) c.args.svg.now c.put_arrow.new.svg c.as_slice.result.now c.as_slice-2.result.now x y
    (spelt_alone c.new-short.result c.spell_heading.new.page c.as_slice.result.now x c.new-short.ensures c.spell_heading.ensures c.as_slice.ensures)
    (spelt_alone c.new-whole.result c.spell_heading-2.new.page c.as_slice-2.result.now y c.new-whole.ensures c.spell_heading-2.ensures c.as_slice-2.ensures)
    c.put_arrow.ensures in
    let of_message = subst (λ (m : Message). OnOk c.put_arrow.result (c.put_arrow.new.svg ≡ c.args.svg.now ++ shape.arrow plan m x y)) c.message_of-message.ensures.value told in
    subst (λ (sent : Bool). OnOk c.put_arrow.result (c.put_arrow.new.svg ≡ c.args.svg.now ++ (if sent then shape.arrow plan (message c.args.posts.now c.args.place c.args.post.now) x y else []))) (sym (sym c.is_sent.ensures ∙ c.if-not-is_sent.false)) of_message
