use Rattle.std.proofs.Common.{◌≡◌, ◌≤◌, All, fold, length}
use Rattle.elf_loader.specs.Size.{base}
use Rattle.image_orderings.specs.declared.replacing.Patch.{Patch}
use Rattle.image_writing.specs.Places.{place_of}
use Rattle.image_writing.specs.Written.{with_word, written}
use Rattle.image_writing.proofs.writing.with_words.Given as goal

abbrev pub invariant-loop-rest : goal.invariant-loop-rest
invariant-loop-rest l =
    (fold (λ bytes (patch : Patch). with_word bytes (place_of l.format l.file patch.address) patch.word) l.bytes.items l.rest ≡ written l.format l.file l.patches)
    × All (λ (p : Patch). base ≤ p.address) l.rest

abbrev pub decreases-loop-rest : goal.decreases-loop-rest
decreases-loop-rest l = length l.rest
