-- Whether a name is a list's.
use Rattle.std.proofs.Common.{◌≡◌, ◌≢◌, ◌∙◌, ◌==◌, ◌++◌, ℕ, Bool, true, false, List, [], ◌∷◌, MatchOption, Option, Some, None, ap, arith, drop, encode_utf8, refl, sym}
use Rattle.std.specs.Borrow.{Bor}
use Rattle.std.specs.Str.Pattern.{FindsCharPrefix, StripsPrefix}
use Rattle.std.proofs.lemmas.Bool.{eqb-true}
use Rattle.std.proofs.lemmas.Str.{encode_ascii}
use Rattle.litmus_command.specs.Line.{is_list}

stripped : (name list : List ℕ) → StripsPrefix (FindsCharPrefix 64) name list → name ≡ 64 ∷ list
stripped name list (n, found, is, long) = found.split ∙ ap (λ (front : List ℕ). front ++ drop n name) (encode_ascii 64 (omega arith)) ∙ ap (λ (rest : List ℕ). 64 ∷ rest) (sym is)

unlisted : (name : List ℕ) → ((rest : List ℕ) → name ≢ encode_utf8 64 ++ rest) → is_list name ≡ false
unlisted [] other = refl
unlisted (b ∷ rest) other = go (b == 64) refl
  where
    go : (test : Bool) → (b == 64) ≡ test → test ≡ false
    go true is = absurd (other rest (ap (λ (n : ℕ). n ∷ rest) (eqb-true b 64 is) ∙ sym (ap (λ (front : List ℕ). front ++ rest) (encode_ascii 64 (omega arith)))))
    go false is = refl

pub list_named : (name : List ℕ) (list : Option (Bor (List ℕ))) → MatchOption list (FindsCharPrefix 64 name None) (λ (text : Bor (List ℕ)). StripsPrefix (FindsCharPrefix 64) name text.now)
    → MatchOption list (is_list name ≡ false) (λ (text : Bor (List ℕ)). name ≡ 64 ∷ text.now)
list_named name None other = unlisted name other
list_named name (Some text) some = stripped name text.now some
