use Rattle.std.proofs.Common.{ap, sym, ◌∙◌}
use Rattle.store_buffer.specs.Entry.{entry_of}
use Rattle.std.proofs.lemmas.Bool.{false≢true}
use Rattle.store_buffer.specs.Entry.{has_word}
use Rattle.store_buffer.proofs.Places.{is_place, no_place}
use Rattle.store_buffer.proofs.buffer.StoreBuffer.entry.Goals as goal

pub unreachable-requires : goal.unreachable-requires
unreachable-requires c =
    let oldest = c.oldest-oldest.result.now in
    false≢true (sym (no_place c.args.word oldest (sym c.place_of.ensures ∙ c.in_default.is)) ∙ ap (has_word c.args.word) c.oldest-oldest.ensures ∙ c.requires)

pub returns : goal.returns
returns c =
    let oldest = c.oldest-oldest.result.now in
    let p = is_place c.args.word c.in-Some.place oldest (sym c.place_of.ensures ∙ c.in-Some.is) in
    c.index-oldest-place.is ∙ p.entry c.index-oldest-place.result ∙ ap (entry_of c.args.word) c.oldest-oldest.ensures
