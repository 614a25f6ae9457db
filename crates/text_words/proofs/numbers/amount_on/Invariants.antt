use Rattle.std.proofs.Common.{◌≡◌, ◌≤◌, ◌^◌, length, take, drop}
use Rattle.std.specs.Prelude.{min}
use Rattle.std.specs.Option.{option_map}
use Rattle.text_words.specs.Numbers.{amount_on}
use Rattle.text_words.proofs.numbers.amount_on.Given as goal

abbrev pub invariant-loop-digit : goal.invariant-loop-digit
invariant-loop-digit l = (l.value ≤ 2 ^ 32) × (option_map (min (2 ^ 32)) (amount_on l.base (drop l.digit-index l.digits) l.value) ≡ option_map (min (2 ^ 32)) (amount_on l.base l.digits 0))
