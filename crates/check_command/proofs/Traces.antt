-- The verdict on a log, by that on its messages and by the bytes that harts send.
use Rattle.std.proofs.Common.{◌≡◌, ◌∙◌, Bool, false, None, Option, Some, ap, refl, subst, sym, true}
use Rattle.std.specs.Prelude.{if◌then◌else◌}
use Rattle.check_command.specs.Logs.{IsVerdictOn, unwritten_in}
use Rattle.check_command.specs.Messages.{IsLogVerdict, are_lawful_by, with_unwritten}
use Rattle.check_command.specs.declared.log.Log.{Log}
use Rattle.log_text.specs.MessageBreach.TheVariants.{Unwritten}
use Rattle.log_text.specs.MessageVerdict.{MessageVerdict}
use Rattle.log_text.specs.MessageVerdict.TheVariants.{Unlawful}
use Rattle.log_text.specs.Profile.{Profile}
use Rattle.written_lines.specs.declared.checking.Unwritten.{Unwritten as FoundByte}

module _ (ended : Bool) (profile : Profile) (log : Log) (verdict : MessageVerdict) where
  abbrev Judged : Type 0
  Judged = IsVerdictOn ended profile log verdict

  -- whatever is found, a message that breaks a rule stays the verdict
  kept : are_lawful_by verdict ≡ false → (found : Option FoundByte) → verdict ≡ with_unwritten found verdict
  kept broken None = refl
  kept broken (Some found) = ap (λ (b : Bool). if b then Unlawful (Unwritten found.address) found.index else verdict) (sym broken)

  pub stays : Judged → are_lawful_by verdict ≡ false → IsLogVerdict ended profile log verdict
  stays judged broken = record { by_messages = verdict; judged = judged; told = kept broken (unwritten_in log) }

  pub told_with : (told : MessageVerdict) (found : Option FoundByte) → Judged → found ≡ unwritten_in log → told ≡ with_unwritten found verdict → IsLogVerdict ended profile log told
  told_with told found judged is with_found = record { by_messages = verdict; judged = judged; told = with_found ∙ ap (λ f. with_unwritten f verdict) is }

-- where there is none, what is found is told
pub told_first : (verdict : MessageVerdict) (found : Option FoundByte) (byte : FoundByte) → found ≡ Some byte → are_lawful_by verdict ≡ true → Unlawful (Unwritten byte.address) byte.index ≡ with_unwritten found verdict
told_first verdict found byte is lawful = subst (λ (f : Option FoundByte). Unlawful (Unwritten byte.address) byte.index ≡ with_unwritten f verdict) (sym is) (ap (λ (b : Bool). if b then Unlawful (Unwritten byte.address) byte.index else verdict) (sym lawful))
