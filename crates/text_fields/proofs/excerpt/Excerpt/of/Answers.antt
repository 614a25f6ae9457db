use Rattle.std.proofs.Common.{◌≡◌, length, ap}
use Rattle.text_fields.specs.declared.excerpt.Excerpt.{Excerpt}
use Rattle.text_fields.proofs.Excerpts.{excerpted}
use Rattle.text_fields.proofs.excerpt.Excerpt.of.Goals as goal

pub returns : goal.returns
returns c =
    ap (λ bytes. record { bytes = bytes; length = length c.args.text.now })
    (excerpted c.args.text.now c.copy_from_slice.new.self c.min-kept.result c.copy_from_slice.ensures.after c.min-kept.ensures)
