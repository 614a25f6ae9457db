use Rattle.std.proofs.Common.{◌≡◌, ◌++◌, ◌∙◌, List, ap, codes, decimal, rules, ℕ}
use Rattle.exploration_text.proofs.Joined.{joined_five}
use Rattle.exploration_text.specs.Failures.{address_text, cause_text}
use Rattle.exploration_text.proofs.failures.spell_stop.Goals as goal

pub returns : goal.returns
returns c =
    let number : c.spell_number.new.into.items ≡ c.extend_from_slice.new.self.items ++ decimal c.args.stop.code = first_of (search rules, cc) in
    joined_five c.args.into.now.items (codes "stop ") (decimal c.args.stop.code) (codes " at ") (address_text c.args.symbols.now c.args.stop.pc) (cause_text c.args.stop.code) _ _ _ _ _ c.in_ok-extend_from_slice.ensures.items number c.in_ok-extend_from_slice-2.ensures.items c.in_ok-spell_address.ensures
    (c.in_ok-extend_from_slice-3.ensures.items ∙ ap (λ (xs : List ℕ). c.spell_address.new.into.items ++ xs) (c.as_bytes.ensures.value ∙ c.cause_of.ensures))
