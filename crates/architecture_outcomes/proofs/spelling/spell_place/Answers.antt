use Rattle.std.proofs.Common.{◌≡◌, ◌++◌, codes, decimal, rules}
use Rattle.text_fields.specs.Fields.{word}
use Rattle.architecture_outcomes.proofs.Pieces.{five}
use Rattle.architecture_outcomes.proofs.spelling.spell_place.Goals as goal

pub returns : goal.returns
returns c =
    let number : c.spell_number.new.into.items ≡ c.extend_from_slice.new.self.items ++ decimal c.args.place.hart = first_of (search rules, cc) in
    let pc : c.extend_from_slice-3.new.self.items ≡ c.extend_from_slice-2.new.self.items ++ word c.args.place.pc = first_of (search rules, cc) in
    five c.args.into.now.items (codes " (hart ") (decimal c.args.place.hart) (codes " at ") (word c.args.place.pc) (codes ")") _ _ _ _ _ c.in_ok-extend_from_slice.ensures.items number c.in_ok-extend_from_slice-2.ensures.items pc c.in_ok-extend_from_slice-4.ensures.items
