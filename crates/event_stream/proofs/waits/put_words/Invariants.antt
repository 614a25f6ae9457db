use Rattle.std.proofs.Common.{◌-◌, ◌++◌, drop}
use Rattle.std.specs.List.{flat_map}
use Rattle.store_buffer.specs.Groups.{groups_of}
use Rattle.text_fields.proofs.Pages.{Spelling}
use Rattle.event_stream.specs.Closing.{entry_word, waiting_words}
use Rattle.event_stream.proofs.waits.put_words.Given as goal

abbrev pub invariant-loop-index : goal.invariant-loop-index
invariant-loop-index g l =
    Spelling (g.W.Write.contents l.initial.out) (g.W.Write.contents l.out) l.page (flat_map (flat_map entry_word) (drop l.index (groups_of l.buffer))) (l.initial.page ++ waiting_words l.buffer)

abbrev pub decreases-loop-index : goal.decreases-loop-index
decreases-loop-index g l = l.count - l.index
