-- A name is told by its number.
use Rattle.std.proofs.Common.{ℕ, ◌≡◌, ◌≢◌, ◌∙◌, Bool, false, true, ap, refl, suc, sym, zero}
use Rattle.std.specs.Prelude.{◌==◌}
use Rattle.std.proofs.lemmas.Bool.{eq-eqb, eqb-true}
use Rattle.message_pattern.specs.declared.pattern.MessageName.{MessageName}
use Rattle.message_pattern.specs.declared.pattern.MessageName.TheVariants as names
use Rattle.message_search.specs.Sought.{number_of}

abbrev named : ℕ → MessageName
named zero = names.AcquireBlock
named (suc zero) = names.ProbeBlock
named (suc (suc zero)) = names.ProbeAck
named (suc (suc (suc zero))) = names.ProbeAckData
named (suc (suc (suc (suc zero)))) = names.Release
named (suc (suc (suc (suc (suc zero))))) = names.ReleaseData
named (suc (suc (suc (suc (suc (suc zero)))))) = names.Grant
named (suc (suc (suc (suc (suc (suc (suc zero))))))) = names.GrantData
named (suc (suc (suc (suc (suc (suc (suc (suc zero)))))))) = names.ReleaseAck
named (suc (suc (suc (suc (suc (suc (suc (suc (suc n))))))))) = names.GrantAck

named_again : (name : MessageName) → named (number_of name) ≡ name
named_again names.AcquireBlock = refl
named_again names.ProbeBlock = refl
named_again names.ProbeAck = refl
named_again names.ProbeAckData = refl
named_again names.Release = refl
named_again names.ReleaseData = refl
named_again names.Grant = refl
named_again names.GrantData = refl
named_again names.ReleaseAck = refl
named_again names.GrantAck = refl

pub same_name : (name other : MessageName) → name ≡ other → (number_of name == number_of other) ≡ true
same_name name other is = eq-eqb (number_of name) (number_of other) (ap number_of is)

pub other_name : (name other : MessageName) → name ≢ other → (number_of name == number_of other) ≡ false
other_name name other differ = go (number_of name == number_of other) refl
  where
    go : (b : Bool) → (number_of name == number_of other) ≡ b → b ≡ false
    go true is = absurd (differ (sym (named_again name) ∙ ap named (eqb-true (number_of name) (number_of other) is) ∙ named_again other))
    go false is = refl
