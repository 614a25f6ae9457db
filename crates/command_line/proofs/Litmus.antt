-- Whether the words name `litmus`.
use Rattle.std.proofs.Common.{◌≡◌, ◌∙◌, ◌<◌, ◌≤◌, ℕ, true, false, List, [], ◌∷◌, Option, ap, arith, drop, get_or, length, map, refl, subst, sym}
use Rattle.std.specs.Prelude.{codes}
use Rattle.std.specs.List.{drop-map}
use Rattle.std.specs.Str.{bytes_eq}
use Rattle.command_files.specs.Contents.{Contents}
use Rattle.command_line.specs.Program.{names_litmus}
use Rattle.litmus_command.specs.Line.{IsLine}

module _ {X : Type 0} (text : X → List ℕ) where
  pub named : (words : List X) (command : X) → 2 ≤ length words → command ≡ get_or words 1 command → bytes_eq (text command) (codes "litmus") ≡ names_litmus (map text words)
  named [] command some is = absurd (omega arith)
  named (program ∷ []) command some is = absurd (omega arith)
  named (program ∷ other ∷ words) command some is = ap (λ (x : X). bytes_eq (text x) (codes "litmus")) is

  pub unnamed : (words : List X) → length words < 2 → false ≡ names_litmus (map text words)
  unnamed [] few = refl
  unnamed (program ∷ []) few = refl
  unnamed (program ∷ other ∷ words) few = absurd (omega arith)

  pub has_command : (words : List X) → names_litmus (map text words) ≡ true → 2 ≤ length words
  has_command [] is = absurd cc
  has_command (program ∷ []) is = absurd cc
  has_command (program ∷ other ∷ words) is = omega arith

  -- the words behind it were done
  pub of_litmus : (words others : List X) (held left : Contents) (old new before after : Option (List ℕ)) (status : ℕ) → others ≡ drop 2 words → IsLine (map text others) held left old new before after status
      → IsLine (drop 2 (map text words)) held left old new before after status
  of_litmus words others held left old new before after status behind done = subst (λ (l : List (List ℕ)). IsLine l held left old new before after status) (ap (map text) behind ∙ sym (drop-map text 2 words)) done
