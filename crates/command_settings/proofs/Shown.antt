-- Which words of memory are to be shown, as the kit's matches have them.
use Rattle.std.proofs.Common.{◌≡◌, ◌≢◌, ◌∙◌, ◌∷◌, arith, Bor, List, [], false, true, length, refl, None, Option, Some, ap, codes, map, option_map, sym}
use Rattle.std.specs.Prelude.{◌==◌, unwrap_or}
use Rattle.std.proofs.lemmas.Bool.{eqb-true, false≢true}
use Rattle.clap.proofs.WalkLemmas.{raw_values-rows}
use Rattle.clap.specs.Matches.{matched_of}
use Rattle.clap.specs.declared.parser.matches.Found.{Found}
use Rattle.clap.specs.Words.{Row, Text, all_of, raw_values, rows_of}
use Rattle.command_settings.specs.Settings.{shown_in}

-- the subcommand's own rows
pub rows_there : (o : Option (Text × List Row)) (mine : List Row) (name : Text) (rows : List Row) → Some mine ≡ option_map (λ p. p.1) o → o ≡ Some (name, rows) → mine ≡ rows
rows_there o mine name rows here there = ap (λ x. unwrap_or x mine) (here ∙ ap (option_map (λ p. p.1)) there)

module _ (result : Option (Bor (List (Bor Text)))) (f : Found) (rows : List Row) (own : rows_of f ≡ rows)
    (read : option_map (λ s. map (λ v. v.now) s.now) result ≡ option_map raw_values (matched_of f (codes "show"))) where
  all : option_map (λ s. map (λ v. v.now) s.now) result ≡ all_of (codes "show") rows
  all = read ∙ (raw_values-rows f (codes "show") ∙ ap (all_of (codes "show")) own)

  pub some_shown : (given : Bor (List (Bor Text))) → result ≡ Some given → map (λ v. v.now) given.now ≡ shown_in rows
  some_shown given is = ap (λ o. unwrap_or o []) (sym (ap (option_map (λ s. map (λ v. v.now) s.now)) is) ∙ all)

  pub none_shown : result ≡ None → [] ≡ shown_in rows
  none_shown is = ap (λ o. unwrap_or o []) (sym (ap (option_map (λ s. map (λ v. v.now) s.now)) is) ∙ all)

-- a list of no length is empty, and another isn't
pub none_of : {A : Type 0} (xs : List A) → (length xs == 0) ≡ true → xs ≡ []
none_of [] is = refl
none_of (x ∷ xs) is = let bad = eqb-true (length (x ∷ xs)) 0 is in absurd (omega (arith, bad))

pub some_of : {A : Type 0} (xs : List A) → (length xs == 0) ≡ false → xs ≢ []
some_of [] is none = absurd (false≢true (sym is))
some_of (x ∷ xs) is none = cc
