-- What the whole program has done, behind its last write.
use Rattle.std.specs.Prelude.{◌≡◌, ◌⊎◌, ℕ, List, Option, false, true}
use Rattle.std.specs.Io.KnownBytes.{Keeps}
use Rattle.command_files.specs.Contents.{Contents}
use Rattle.command_files.specs.Messages.{IsLost}
use Rattle.command_line.specs.Program.{IsOfLine, IsOfLitmus, names_litmus}

-- what `run_program` says: the command came to this status, and had printed and told this
pub record HasEnded (words : List (List ℕ)) (held left : Contents) (old printed before told : Option (List ℕ)) (status : ℕ) : Type 0 where
  pub litmus : names_litmus words ≡ true → IsOfLitmus words held left old printed status
  pub others : names_litmus words ≡ false → IsOfLine words held left old printed before told status

-- a status that isn't the command's is that of an output that took no more, which was told behind what the command had told; only 0 and 3 give way to it
pub record GivesWay (ended : ℕ) (told after : Option (List ℕ)) (status : ℕ) : Type 0 where
  pub from : (ended ≡ 0) ⊎ (ended ≡ 3)
  pub lost : IsLost told after status

-- the command's status, and nothing told behind it, or one to which that gave way
abbrev pub IsStatusOf : (ended : ℕ) → (told after : Option (List ℕ)) → (status : ℕ) → Type 0
IsStatusOf ended told after status = ((status ≡ ended) × (after ≡ told)) ⊎ GivesWay ended told after status

-- the command that the words name has ended, no byte that it printed is lost or another, and this is the program's status
pub record IsDelivered (words : List (List ℕ)) (held left : Contents) (old new before after : Option (List ℕ)) (status : ℕ) : Type 0 where
  pub ended : ℕ
  pub printed : Option (List ℕ)
  pub told : Option (List ℕ)
  pub command : HasEnded words held left old printed before told ended
  pub kept : Keeps printed new
  pub of_command : IsStatusOf ended told after status
