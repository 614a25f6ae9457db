use Rattle.std.proofs.Common.{◌≡◌, ◌++◌, ℕ, List, Option, OnOk, subst, sym}
use Rattle.run_chart.specs.Picture.{site}
use Rattle.run_chart.specs.Shapes as shape
use Rattle.run_chart.proofs.Appending.{both_told, spelt_alone}
use Rattle.run_chart.proofs.drawing.put_site_of.Goals as goal

pub returns : goal.returns
unfolding site
returns c = subst (λ (found : Option ℕ). OnOk c.put_site.result (c.put_site.new.svg ≡ c.args.svg.now ++ site c.args.names.now.symbols.now c.args.line found)) (sym c.in-Some.is)
    (both_told c.put_site.result (λ (a b : List ℕ). shape.site c.args.line a b) _ _ _ _ _ _
    (spelt_alone c.new-short.result c.spell_address.new.page c.as_slice.result.now _ c.new-short.ensures c.spell_address.ensures.value c.as_slice.ensures)
    (spelt_alone c.new-whole.result c.spell_address-2.new.page c.as_slice-2.result.now _ c.new-whole.ensures c.spell_address-2.ensures.value c.as_slice-2.ensures)
    c.put_site.ensures)
