-- What a reader of words answers, beside what they ask for.
use Rattle.std.specs.Prelude.{ℕ, ◌≡◌, Bool, true, false, List, ◌∷◌, Option, Some, None, Result, Ok, Err, map}
use Rattle.std.specs.Borrow.{Bor}
use Rattle.std.specs.Option.{option_map}
use Rattle.litmus_command.specs.declared.wanted.Misuse.{Misuse}
use Rattle.litmus_command.specs.declared.wanted.Misuse.TheVariants as misuse
use Rattle.litmus_command.specs.declared.wanted.Reading.{Reading as State}
use Rattle.litmus_command.specs.declared.wanted.Request.{Request}
use Rattle.litmus_command.specs.Wishes.{Reading, Wishes, read, wishes}

abbrev pub texts : List (Bor (List ℕ)) → List (List ℕ)
texts = map (λ (name : Bor (List ℕ)). name.now)

-- it wants that now, or answers why not
abbrev pub Takes : {T : Type 0} → Result Wishes Misuse → (new : Wishes) → Result T Misuse → Type 0
Takes said new (Ok done) = said ≡ Ok new
Takes said new (Err why) = said ≡ Err why

-- the same of an option that may not stand alone: then nothing is other than before
abbrev pub TakesAlone : Option (Result Wishes Misuse) → (old new : Wishes) → Result Bool Misuse → Type 0
TakesAlone said old new (Ok true) = said ≡ Some (Ok new)
TakesAlone said old new (Ok false) = (said ≡ None) × (new ≡ old)
TakesAlone said old new (Err why) = said ≡ Some (Err why)

-- why there is no request; want of memory says nothing
abbrev pub IsWhy : Reading → Misuse → Type 0
IsWhy said misuse.NoMemory = Unit {0}
IsWhy said why = said ≡ Err why

-- what more words ask for behind those that were read
abbrev pub read_on : State → List (List ℕ) → Reading
read_on s words = read (option_map (λ (option : Bor (List ℕ)). option.now) s.waiting) (wishes s.wanted) (texts s.names.items) words

-- behind one more word others ask for the same
abbrev pub ReadsOn : {T : Type 0} → State → State → List ℕ → Result T Misuse → Type 0
ReadsOn old new word (Ok done) = (words : List (List ℕ)) → read_on old (word ∷ words) ≡ read_on new words
ReadsOn old new word (Err why) = (words : List (List ℕ)) → IsWhy (read_on old (word ∷ words)) why

abbrev pub IsRequest : Reading → Result Request Misuse → Type 0
IsRequest said (Ok request) = said ≡ Ok (wishes request.wanted, texts request.names.items)
IsRequest said (Err why) = IsWhy said why
