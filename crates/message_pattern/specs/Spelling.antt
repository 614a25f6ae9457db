-- How a message that is asked for is spelled: NAME HART ADDRESS, as in a trace, and * for what may be any.
use Rattle.std.specs.Prelude.{ℕ, ◌≡◌, ◌^◌, ◌<◌, ◌≤◌, IfSome, List, ◌++◌, None, Option, Some, codes}
use Rattle.message_pattern.specs.declared.pattern.MessageName.{MessageName}
use Rattle.message_pattern.specs.declared.pattern.MessageName.TheVariants as names
use Rattle.message_pattern.specs.declared.pattern.MessagePattern.{MessagePattern}
use Rattle.text_fields.specs.Fields.{number, word}

-- with the blank behind it
abbrev pub known_name : MessageName → List ℕ
known_name names.AcquireBlock = codes "AcquireBlock "
known_name names.ProbeBlock = codes "ProbeBlock "
known_name names.ProbeAck = codes "ProbeAck "
known_name names.ProbeAckData = codes "ProbeAckData "
known_name names.Release = codes "Release "
known_name names.ReleaseData = codes "ReleaseData "
known_name names.Grant = codes "Grant "
known_name names.GrantData = codes "GrantData "
known_name names.ReleaseAck = codes "ReleaseAck "
known_name names.GrantAck = codes "GrantAck "

-- what is spelled so, or this text for any
abbrev pub or_any : {A : Type 0} → List ℕ → (A → List ℕ) → Option A → List ℕ
or_any any spell None = any
or_any any spell (Some x) = spell x

abbrev pub name_text : Option MessageName → List ℕ
name_text = or_any (codes "* ") known_name

abbrev pub hart_text : Option ℕ → List ℕ
hart_text = or_any (codes "* ") (number 32)

abbrev pub address_text : Option ℕ → List ℕ
address_text = or_any (codes "*") word

abbrev pub spelled : MessagePattern → List ℕ
spelled pattern = name_text pattern.name ++ (hart_text pattern.hart ++ address_text pattern.address)

-- a hart's number is 7 at most, and an address below 2^32
pub record IsPattern (pattern : MessagePattern) : Type 0 where
  pub hart : IfSome pattern.hart (λ hart. hart ≤ 7)
  pub address : IfSome pattern.address (λ address. address < 2 ^ 32)

-- the text spells it
abbrev pub Spells : List ℕ → MessagePattern → Type 0
Spells text pattern = IsPattern pattern × (text ≡ spelled pattern)
