-- Which batches a machine adopts, and the errors by their numbers.
use Rattle.std.specs.Prelude.{ℕ, ◌≡◌, ◌<◌, ◌==◌, Bool, true, ◌&&◌, IsTrue, List, [], ◌∷◌, length}
use Rattle.elf_loader.specs.Image.{Initial, word_at}
use Rattle.hart.specs.declared.retired.Retired.{Retired}
use Rattle.hart.specs.Local.{PrivateRow}
use Rattle.hart.specs.Run.{can_fetch}
use Rattle.machine_types.specs.declared.event.Event.{Event}
use Rattle.machine_types.specs.declared.event.Event.TheVariants.{Local}
use Rattle.machine_model.specs.Views.{State, node_at}
use Rattle.coherent_machine.specs.declared.errors.AdoptError.{AdoptError}
use Rattle.coherent_machine.specs.declared.errors.AdoptError.TheVariants.{Stale, Empty, Limit, NoMemory}

-- each entry's word is the image's word at the entry's pc, where one lies
abbrev pub have_words : Initial → List Retired → Bool
have_words image [] = true
have_words image (entry ∷ rest) = can_fetch image entry.pc && entry.word == word_at image entry.pc && have_words image rest

-- the hart is there, stands where the row begins, and the row's words are the image's
pub record IsCurrent (hart : ℕ) (row : PrivateRow) (s : State) : Type 0 where
  pub there : hart < length s.views.nodes
  pub stands : (node_at s hart).hart ≡ row.first
  pub words : IsTrue (have_words s.trace.image row.entries)

-- the event that a row of a hart is
abbrev pub local_of : ℕ → PrivateRow → Event
local_of hart row = Local hart (length row.entries)

-- the errors by their numbers, in the order of testing
abbrev pub adopt_error_number : AdoptError → ℕ
adopt_error_number Stale = 1
adopt_error_number Empty = 2
adopt_error_number Limit = 3
adopt_error_number NoMemory = 4
