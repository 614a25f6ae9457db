-- The files of one number more are spared.
use Rattle.std.proofs.Common.{◌≡◌, ◌⊎◌, ◌+◌, ◌<◌, ◌≤◌, ℕ, arith, inl, inr, subst, sym}
use Rattle.std.proofs.lemmas.Bool.{cases_lt}
use Rattle.command_settings.specs.declared.wanted.Fences.{Fences}
use Rattle.fences_command.specs.Witnesses.{AreSpare, AreSpareTo}
use Rattle.search_files.specs.Folders.{FileName}

pub spare_more : (fences : Fences) (folder : FileName) (count : ℕ) → AreSpareTo fences folder count → AreSpare fences folder (count + 1) → AreSpareTo fences folder (count + 1)
spare_more fences folder count all last i below = go (cases_lt i count)
  where
    go : (i < count) ⊎ (count ≤ i) → AreSpare fences folder (i + 1)
    go (inl before) = all i before
    go (inr at) =
        let here : i ≡ count = omega (arith, below, at) in subst (λ n. AreSpare fences folder (n + 1)) (sym here) last
