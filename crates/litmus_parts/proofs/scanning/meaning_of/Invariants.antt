use Rattle.std.proofs.Common.{◌≡◌, ℕ, List, map, drop}
use Rattle.litmus_parts.specs.Scanning.{meaning_of}
use Rattle.litmus_parts.proofs.scanning.meaning_of.Given as goal

abbrev pub invariant-loop-text : goal.invariant-loop-text
invariant-loop-text g l =
    meaning_of (map {B = List ℕ × g.row.T.Denot} (λ e. (e.0.now, e.1)) (drop l.text-index l.table)) l.word ≡ meaning_of (map {B = List ℕ × g.row.T.Denot} (λ e. (e.0.now, e.1)) l.table) l.word
