-- What a subcommand's rows have, where they have all that it asks for.
use Rattle.std.proofs.Common.{◌≡◌, ◌∙◌, Bool, List, None, Option, Some, ap, codes, false, subst, sym, true}
use Rattle.std.specs.Prelude.{unwrap_or}
use Rattle.std.proofs.lemmas.Bool.{false≢true}
use Rattle.clap.specs.Words.{Row, Text}
use Rattle.command_settings.specs.Settings.{IsComplete, flag_text}

pub none_some : {A : Type 0} (o : Option A) (x : A) → None ≡ o → o ≡ Some x → ⊥
none_some o x none some =
    let bad : None ≡ Some x = none ∙ some in cc

pub known_name : (o : Option Text) (name other : Text) → Some name ≡ o → o ≡ Some other → name ≡ other
known_name o name other here there = ap (λ x. unwrap_or x name) (here ∙ there)

pub same_complete : (o : Option (Text × List Row)) (name other : Text) (rows more : List Row) → o ≡ Some (name, rows) → o ≡ Some (other, more) → IsComplete name rows → IsComplete other more
same_complete o name other rows more is also whole = subst (λ p. IsComplete p.0 p.1) (ap (λ x. unwrap_or x (other, more)) (sym is ∙ also)) whole

pub flag_read : (given : Option Text) (wanted flag : Bool) → given ≡ Some (flag_text wanted) → (given ≡ Some (codes "true") → flag ≡ true) → (given ≡ Some (codes "false") → flag ≡ false)
    → given ≡ Some (flag_text flag)
flag_read given true flag is on off = is ∙ ap (λ f. Some (flag_text f)) (sym (on is))
flag_read given false flag is on off = is ∙ ap (λ f. Some (flag_text f)) (sym (off is))

-- what is read where the flag was given, and where it wasn't
pub flag_on : (text : Option Text) (given flag : Bool) → text ≡ Some (flag_text given) → (text ≡ Some (codes "false") → flag ≡ false) → flag ≡ true → text ≡ Some (flag_text true)
flag_on text true flag is off on = is
flag_on text false flag is off on = absurd (false≢true (sym (off is) ∙ on))

pub flag_off : (text : Option Text) (given flag : Bool) → text ≡ Some (flag_text given) → (text ≡ Some (codes "true") → flag ≡ true) → flag ≡ false → text ≡ Some (flag_text false)
flag_off text false flag is on off = is
flag_off text true flag is on off = absurd (false≢true (sym off ∙ on is))
