use Rattle.std.proofs.Common.{◌≡◌, ◌∙◌, Option, None, Some, ap, ap₂, option_map, refl, sym}
use Rattle.std.specs.Prelude.{unwrap_or}
use Rattle.clap.specs.Words.{found_of, rows_of, subcommand_rows_of}
use Rattle.command_settings.proofs.Missing.{same_complete}
use Rattle.command_settings.proofs.usage.settings_of.Goals as goal

fused : {A B C : Type 0} (f : A → B) (g : B → C) (o : Option A) → option_map g (option_map f o) ≡ option_map (λ x. g (f x)) o
fused f g None = refl
fused f g (Some x) = refl

paired : {A B : Type 0} (o : Option (A × B)) (a : A) (b : B) → option_map (λ p. p.0) o ≡ Some a → option_map (λ p. p.1) o ≡ Some b → o ≡ Some (a, b)
paired None a b left right = cc
paired (Some p) a b left right =
    let first : p.0 ≡ a = ap (λ o. unwrap_or o a) left in
    let second : p.1 ≡ b = ap (λ o. unwrap_or o b) right in
    ap₂ (λ x y. Some (x, y)) first second

pub returns-clause-missing : goal.returns-clause-missing
returns-clause-missing c = λ none name rows is whole.
    let s = c.in_ok-name in
    let given = rows_of (found_of s.given.now) in
    let here = paired (subcommand_rows_of c.args.matches.now) s.name.now given (fused _ (λ p. p.0) _ ∙ sym s.ensures.name) (sym s.ensures.rows) in
    c.settings_named.ensures.missing none (same_complete _ name s.name.now rows given is here whole)
