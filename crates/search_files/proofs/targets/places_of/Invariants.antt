use Rattle.std.proofs.Common.{◌≡◌, ◌++◌, Some, length, map}
use Rattle.search_files.proofs.Words.{HasShown}
use Rattle.search_files.specs.Targets.{name_of, place_of}
use Rattle.performed_words.specs.Words.{CanShowEach}
use Rattle.search_files.proofs.targets.places_of.Given as goal

abbrev pub invariant-loop-rest : goal.invariant-loop-rest
invariant-loop-rest l = record {
  placed : map Some l.addresses.items ++ map (λ word. place_of l.symbols (name_of word)) l.rest ≡ map (λ word. place_of l.symbols (name_of word)) l.words;
  inside : CanShowEach l.image l.addresses.items;
  shown : HasShown l.image l.symbols l.rest l.words;
}

abbrev pub decreases-loop-rest : goal.decreases-loop-rest
decreases-loop-rest l = length l.rest
