-- A picture is what was drawn, piece by piece.
use Rattle.std.proofs.Common.{◌≡◌, ◌∙◌, ℕ, List, ◌++◌, ap, length}
use Rattle.std.specs.List.{flat_map}
use Rattle.elf_symbols.specs.Named.{Named}
use Rattle.run_chart.specs.Sheet as sheet
use Rattle.run_chart.specs.declared.plan.Plan.{Plan}
use Rattle.run_chart.specs.Arrows.{arrows}
use Rattle.run_chart.specs.Bars.{bottom}
use Rattle.run_chart.specs.Picture.{IsPicture, harts, opened, posts, row}
use Rattle.run_chart.specs.declared.rows.Posted.{Posted}
use Rattle.run_chart.specs.declared.rows.Row.{Row}
use Rattle.run_chart.specs.declared.rows.Story.{Story}

pub picture_is : (s : Story) (names : List Named) (style : List ℕ) (p : Plan) (rows again : List Row) (made sent : List Posted) (a b c d bytes : List ℕ)
    → p.harts ≡ s.harts → p.columns ≡ length s.columns.items → p.lines ≡ bottom 0 s.rows.items
    → rows ≡ s.rows.items → again ≡ s.rows.items → made ≡ posts again → sent ≡ made
    → a ≡ opened p s style → b ≡ a ++ harts p names s.size s s.harts → c ≡ b ++ flat_map (row p names s.size) rows → d ≡ c ++ arrows p names s.size sent 0 sent → bytes ≡ d ++ sheet.ending
    → IsPicture names s style bytes
picture_is s names style p rows again made sent a b c d bytes eh ec el er ea em es e0 e1 e2 e3 e4 = record {
  plan = p;
  harts_are = eh;
  columns_are = ec;
  lines_are = el;
  text_is =
      let all = s.rows.items in
      let ends : List ℕ → List ℕ = λ t. t ++ sheet.ending in
      e4 ∙ ap ends
      (e3 ∙ ap (λ (ps : List Posted). c ++ arrows p names s.size ps 0 ps) (es ∙ em ∙ ap posts ea)
      ∙ ap (λ (t : List ℕ). t ++ arrows p names s.size (posts all) 0 (posts all))
      (e2 ∙ ap (λ (rs : List Row). b ++ flat_map (row p names s.size) rs) er
      ∙ ap (λ (t : List ℕ). t ++ flat_map (row p names s.size) all)
      (e1 ∙ ap (λ (t : List ℕ). t ++ harts p names s.size s s.harts) e0)));
}
