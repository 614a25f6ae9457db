use Rattle.std.proofs.Common.{◌≡◌, ℕ, List, map, drop}
use Rattle.message_pattern.specs.declared.pattern.MessageName.{MessageName}
use Rattle.text_fields.specs.Reading.{table_at}
use Rattle.message_pattern.proofs.reading.name_in.Given as goal

abbrev pub invariant-loop-word : goal.invariant-loop-word
invariant-loop-word l =
    table_at (map {B = List ℕ × MessageName} (λ e. (e.0.now, e.1)) (drop l.word-index l.table)) l.bytes ≡ table_at (map {B = List ℕ × MessageName} (λ e. (e.0.now, e.1)) l.table) l.bytes
