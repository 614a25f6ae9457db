use Rattle.std.specs.Prelude.{decimal}
use Rattle.text_fields.specs.Fields.{word}
use Rattle.order_text.specs.Text.{link_name, linked, spaced}
use Rattle.order_text.proofs.Spelled.{four_spelled}
use Rattle.order_text.proofs.spelling.spell_link.Goals as goal

pub returns : goal.returns
returns c =
    rw (c.space_decimal.ensures.value, c.space_word.ensures.value, c.spell_linked.ensures.value, c.text.ensures.value, c.link_name.ensures.value, c.from.ensures)
    (four_spelled c.args.page.now (link_name c.args.link) (linked c.args.link c.args.operation c.args.other) (spaced (word c.args.address)) (spaced (decimal c.args.count)))
