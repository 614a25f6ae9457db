-- Why a test's program can't be had.
use Rattle.std.proofs.Common.{◌≡◌, ◌∙◌, ◌↔◌, ◌<◌, ◌≤◌, ℕ, Bool, false, IsTrue, List, get_or, inl, inr, length, subst, sym}
use Rattle.std.proofs.lemmas.Bool.{false≢true}
use Rattle.architecture_outcomes.specs.Words.{CanShow}
use Rattle.elf_loader.specs.Image.{Initial}
use Rattle.litmus_answers.specs.declared.layout.Layout.{Layout}
use Rattle.litmus_command.specs.Programs.{HidesOne, IsNoImage, IsNoProgram}
use Rattle.litmus_command.specs.declared.fault.Halt.{Halt}
use Rattle.litmus_command.specs.declared.fault.Halt.TheVariants as halt

-- memory was refused, of words that fit
pub no_bytes : (words : List ℕ) (why : Halt) → why ≡ halt.NoMemory → length words ≤ 16384 → IsNoImage words why
no_bytes words why is fits = subst (IsNoImage words) (sym is) fits

pub no_image : (harts : ℕ) (layout : Layout) (words : List ℕ) (why : Halt) → words ≡ layout.words.items → IsNoImage words why → IsNoProgram harts layout why
no_image harts layout words halt.Unfit is none = inr (inl (subst (λ (l : List ℕ). 16384 < length l) is none))
no_image harts layout words halt.NoMemory is none = subst (λ (l : List ℕ). length l ≤ 16384) is none
no_image harts layout words (halt.Stops hart cause) is none = absurd none

-- an address that can't be shown
pub hides : (image : Initial) (addresses : List ℕ) (k address : ℕ) (shown : Bool) → k < length addresses → get_or addresses k address ≡ address → (IsTrue shown ↔ CanShow image address) → shown ≡ false → HidesOne image addresses
hides image addresses k address shown below at says not = record { address = address; listed = (k, below, at); hidden = λ can. false≢true (sym not ∙ says.1 can) }
