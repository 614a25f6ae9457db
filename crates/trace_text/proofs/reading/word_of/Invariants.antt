use Rattle.std.proofs.Common.{◌≡◌, ℕ, List, map, drop}
use Rattle.text_fields.specs.Reading.{table_at}
use Rattle.trace_text.proofs.reading.word_of.Given as goal

abbrev pub invariant-loop-word : goal.invariant-loop-word
invariant-loop-word g l =
    table_at (map {B = List ℕ × g.row.T.Denot} (λ e. (e.0.now, e.1)) (drop l.word-index l.table)) l.bytes ≡ table_at (map {B = List ℕ × g.row.T.Denot} (λ e. (e.0.now, e.1)) l.table) l.bytes
