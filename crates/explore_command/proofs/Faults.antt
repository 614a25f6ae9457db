-- Which faults the parts of an exploration hand up, and what they leave on the output.
use Rattle.std.proofs.Common.{◌≡◌, ◌∙◌, ◌⊎◌, ℕ, List, None, Option, Some, ap, inl, inr, subst, sym, refl}
use Rattle.std.specs.Io.KnownBytes.{Appends}
use Rattle.command_files.specs.Faults.{IsReadFault, Name}
use Rattle.command_files.specs.Contents.{Contents}
use Rattle.command_files.specs.declared.fault.Fault.{Fault}
use Rattle.command_files.specs.declared.fault.Fault.TheVariants.{BadAddress, BadEvent, BytesAfterTrace, CannotMake, CannotRead, CannotShow, CannotWrite, Check, Configuration, Event, Image, Mismatch, NoThread, NothingHappens, OtherImage, OutOfMemory, Text, TooManyRows}
use Rattle.command_settings.specs.declared.wanted.Explore.{Explore}
use Rattle.command_files.specs.Allowing.{IsNamedBy}
use Rattle.explore_command.specs.Exploring.{ComesBeforeScripts, IsExploreFault, IsFirstFault, IsFolderFault, IsReadingFault, LeavesPart}
pub use Rattle.search_files.proofs.Files.{folder_late, output_left}
use Rattle.text_fields.specs.Writing.{Begins}

-- ---- files that are read

named_read : (explore : Explore) (allow : Option Name) (file : Name) → explore.allow ≡ allow → IsNamedBy allow IsReadFault (CannotRead file) → explore.allow ≡ Some file
named_read explore None file is so = absurd so
named_read explore (Some name) file is so = is ∙ ap Some (sym so)

no_other : (allow : Option Name) (fault : Fault) → ((name : Name) → IsReadFault name fault → ⊥) → IsNamedBy allow IsReadFault fault → ⊥
no_other None fault never so = so
no_other (Some name) fault never so = never name so

reading_told : (held : Contents) (explore : Explore) (fault : Fault) → IsReadingFault held explore fault → IsExploreFault held explore fault
reading_told held explore (CannotRead file) (inl so) = inr (named_read explore explore.allow file refl so)
reading_told held explore (CannotRead file) (inr so) = inl so
reading_told held explore (CannotMake file) (inl so) = absurd (no_other explore.allow (CannotMake file) (λ name is. is) so)
reading_told held explore (CannotMake file) (inr so) = absurd so
reading_told held explore CannotWrite (inl so) = absurd (no_other explore.allow CannotWrite (λ name is. is) so)
reading_told held explore CannotWrite (inr so) = absurd so
reading_told held explore (Image file error) (inl so) = absurd (no_other explore.allow (Image file error) (λ name is. is) so)
reading_told held explore (Image file error) (inr so) = so
reading_told held explore (Text file error) (inl so) = absurd (no_other explore.allow (Text file error) (λ name is. is) so)
reading_told held explore (Text file error) (inr so) = absurd so
reading_told held explore (Event file line error) (inl so) = absurd (no_other explore.allow (Event file line error) (λ name is. is) so)
reading_told held explore (Event file line error) (inr so) = absurd so
reading_told held explore (NothingHappens file line outcome) (inl so) = absurd (no_other explore.allow (NothingHappens file line outcome) (λ name is. is) so)
reading_told held explore (NothingHappens file line outcome) (inr so) = absurd so
reading_told held explore (BytesAfterTrace file) (inl so) = absurd (no_other explore.allow (BytesAfterTrace file) (λ name is. is) so)
reading_told held explore (BytesAfterTrace file) (inr so) = absurd so
reading_told held explore (Check file error) (inl so) = absurd (no_other explore.allow (Check file error) (λ name is. is) so)
reading_told held explore (Check file error) (inr so) = absurd so
reading_told held explore (OtherImage file address) (inl so) = absurd (no_other explore.allow (OtherImage file address) (λ name is. is) so)
reading_told held explore (TooManyRows file) (inl so) = absurd (no_other explore.allow (TooManyRows file) (λ name is. is) so)
reading_told held explore (OtherImage file address) (inr so) = absurd so
reading_told held explore (TooManyRows file) (inr so) = absurd so
reading_told held explore (BadAddress word) (inl so) = absurd (no_other explore.allow (BadAddress word) (λ name is. is) so)
reading_told held explore (CannotShow word cause) (inl so) = absurd (no_other explore.allow (CannotShow word cause) (λ name is. is) so)
reading_told held explore (BadAddress word) (inr so) = absurd so
reading_told held explore (CannotShow word cause) (inr so) = absurd so
reading_told held explore NoThread (inl so) = absurd (no_other explore.allow NoThread (λ name is. is) so)
reading_told held explore NoThread (inr so) = absurd so
reading_told held explore Mismatch (inl so) = absurd (no_other explore.allow Mismatch (λ name is. is) so)
reading_told held explore Mismatch (inr so) = absurd so
reading_told held explore BadEvent (inl so) = absurd (no_other explore.allow BadEvent (λ name is. is) so)
reading_told held explore BadEvent (inr so) = absurd so
reading_told held explore Configuration (inl so) = absurd (no_other explore.allow Configuration (λ name is. is) so)
reading_told held explore Configuration (inr so) = absurd so
reading_told held explore OutOfMemory so = tt

reading_left : (held : Contents) (explore : Explore) (fault : Fault) (old new : Option (List ℕ)) (Has : (List ℕ → Type 0) → Type 0) → IsReadingFault held explore fault → new ≡ old → LeavesPart fault old new Has
reading_left held explore (CannotRead file) old new Has so same = same
reading_left held explore (CannotMake file) old new Has (inl so) same = absurd (no_other explore.allow (CannotMake file) (λ name is. is) so)
reading_left held explore (CannotMake file) old new Has (inr so) same = absurd so
reading_left held explore CannotWrite old new Has (inl so) same = absurd (no_other explore.allow CannotWrite (λ name is. is) so)
reading_left held explore CannotWrite old new Has (inr so) same = absurd so
reading_left held explore (Image file error) old new Has so same = same
reading_left held explore (Text file error) old new Has so same = same
reading_left held explore (Event file line error) old new Has so same = same
reading_left held explore (NothingHappens file line outcome) old new Has so same = same
reading_left held explore (BytesAfterTrace file) old new Has so same = same
reading_left held explore (Check file error) old new Has so same = same
reading_left held explore (OtherImage file address) old new Has so same = same
reading_left held explore (TooManyRows file) old new Has so same = same
reading_left held explore (BadAddress word) old new Has so same = same
reading_left held explore (CannotShow word cause) old new Has so same = same
reading_left held explore NoThread old new Has so same = same
reading_left held explore Mismatch old new Has so same = same
reading_left held explore BadEvent old new Has so same = same
reading_left held explore Configuration old new Has so same = same
reading_left held explore OutOfMemory old new Has so same = inl same

-- ---- the folder

folder_fault : (scripts : Option Name) (fault : Fault) → IsNamedBy scripts IsFolderFault fault → ((name : Name) × (scripts ≡ Some name) × (fault ≡ CannotMake name)) ⊎ (fault ≡ OutOfMemory)
folder_fault None fault so = absurd so
folder_fault (Some name) fault so = elim so [
  | inl at ↦ inl (name, refl, at)
  | inr at ↦ inr at
]

pub folder_told : (held : Contents) (explore : Explore) (fault : Fault) → IsNamedBy explore.scripts IsFolderFault fault → IsExploreFault held explore fault
folder_told held explore fault so = elim (folder_fault explore.scripts fault so) [
  | inl at ↦ subst (IsExploreFault held explore) (sym at.2) at.1
  | inr at ↦ subst (IsExploreFault held explore) (sym at) tt
]

-- before the search nothing was printed
folder_unbegun : (explore : Explore) (fault : Fault) (old new : Option (List ℕ)) (Has : (List ℕ → Type 0) → Type 0) → IsNamedBy explore.scripts IsFolderFault fault → new ≡ old → LeavesPart fault old new Has
folder_unbegun explore fault old new Has so same = elim (folder_fault explore.scripts fault so) [
  | inl at ↦ subst (λ f. LeavesPart f old new Has) (sym at.2) (inl same)
  | inr at ↦ subst (λ f. LeavesPart f old new Has) (sym at) (inl same)
]

pub folder_left : (explore : Explore) (fault : Fault) (old new : Option (List ℕ)) (Has : (List ℕ → Type 0) → Type 0) → IsNamedBy explore.scripts IsFolderFault fault → Has (Begins old new) → Has (Appends old new) → LeavesPart fault old new Has
folder_left explore fault old new Has so begun whole = elim (folder_fault explore.scripts fault so) [
  | inl at ↦ subst (λ f. LeavesPart f old new Has) (sym at.2) (inr whole)
  | inr at ↦ subst (λ f. LeavesPart f old new Has) (sym at) (inr begun)
]

-- ---- what comes before the search

pub first_told : (held : Contents) (explore : Explore) (fault : Fault) → IsFirstFault held explore fault → IsExploreFault held explore fault
first_told held explore fault (inl at) = subst (IsExploreFault held explore) (sym at.0) at.1
first_told held explore fault (inr (inl so)) = reading_told held explore fault so
first_told held explore fault (inr (inr so)) = folder_told held explore fault so

pub first_left : (held : Contents) (explore : Explore) (fault : Fault) (old new : Option (List ℕ)) (Has : (List ℕ → Type 0) → Type 0) → IsFirstFault held explore fault → new ≡ old → LeavesPart fault old new Has
first_left held explore fault old new Has (inl at) same = subst (λ f. LeavesPart f old new Has) (sym at.0) same
first_left held explore fault old new Has (inr (inl so)) same = reading_left held explore fault old new Has so same
first_left held explore fault old new Has (inr (inr so)) same = folder_unbegun explore fault old new Has so same

-- ---- the output

pub output_told : (held : Contents) (explore : Explore) (fault : Fault) → (fault ≡ CannotWrite) ⊎ (fault ≡ OutOfMemory) → IsExploreFault held explore fault
output_told held explore fault is = elim is [
  | inl at ↦ subst (IsExploreFault held explore) (sym at) tt
  | inr at ↦ subst (IsExploreFault held explore) (sym at) tt
]

-- ---- what is told before scripts are written

pub memory_late : (fault : Fault) → fault ≡ OutOfMemory → ComesBeforeScripts fault → ⊥
memory_late fault is early = subst ComesBeforeScripts is early

-- whatever the fault, nothing was printed or a part
pub some_part : (old new : Option (List ℕ)) (Has : (List ℕ → Type 0) → Type 0) (fault : Fault) → (Has (Appends old new) → Has (Begins old new)) → LeavesPart fault old new Has → (new ≡ old) ⊎ Has (Begins old new)
some_part old new Has (CannotRead file) begin so = inl so
some_part old new Has (CannotMake file) begin (inl same) = inl same
some_part old new Has (CannotMake file) begin (inr whole) = inr (begin whole)
some_part old new Has CannotWrite begin so = inr so
some_part old new Has (Image file error) begin so = inl so
some_part old new Has (Text file error) begin so = inl so
some_part old new Has (Event file line error) begin so = inl so
some_part old new Has (NothingHappens file line outcome) begin so = inl so
some_part old new Has (BytesAfterTrace file) begin so = inl so
some_part old new Has (Check file error) begin so = inl so
some_part old new Has (OtherImage file address) begin so = inl so
some_part old new Has (TooManyRows file) begin so = inl so
some_part old new Has (BadAddress word) begin so = inl so
some_part old new Has (CannotShow word cause) begin so = inl so
some_part old new Has NoThread begin so = inl so
some_part old new Has Mismatch begin so = inl so
some_part old new Has BadEvent begin so = inl so
some_part old new Has Configuration begin so = inl so
some_part old new Has OutOfMemory begin so = so
