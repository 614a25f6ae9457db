-- What it means that no run meets an instruction.
use Rattle.std.specs.Prelude.{◌≡◌, ◌≢◌, ℕ, IsTrue, List, false, true}
use Rattle.elf_loader.specs.Image.{HasWord, Initial}
use Rattle.hart.specs.Run.{are_steps, at_reset, is_running, reached}
use Rattle.hart.specs.declared.retired.Retired.{Retired}
use Rattle.image_orderings.specs.Flow.{may_come_to}

-- no hart, of whatever number and beside however many, comes there by any list of steps from reset, whatever its loads read and whether its SCs succeed; so none retires the instruction there, in a run that ends or in one that doesn't, in a legal order or another
abbrev pub IsNeverMet : Initial → (address : ℕ) → Type 0
IsNeverMet image address =
    (id harts : ℕ) (entries : List Retired)
    → IsTrue (are_steps image (at_reset image id harts) entries)
    → is_running (reached (at_reset image id harts) entries).status ≡ true
    → (reached (at_reset image id harts) entries).pc ≢ address

-- where by the image's words none may come, none does
abbrev pub NoneComes : Type 0
NoneComes = (image : Initial) (address : ℕ) → HasWord image address → may_come_to image address ≡ false → IsNeverMet image address
