-- The words of memory that are to be shown: what they are called, and where they lie.
use Rattle.std.specs.Prelude.{ℕ, ◌≡◌, ◌⊎◌, ◌∷◌, ◌++◌, ◌+◌, ◌^◌, ◌==◌, All, Bool, List, None, Option, Some, drop, if◌then◌else◌, map, nat_lt, position, take}
use Rattle.command_files.specs.Addresses.{address}
use Rattle.command_files.specs.Faults.{Name}
use Rattle.command_files.specs.declared.fault.Fault.{Fault}
use Rattle.command_files.specs.declared.fault.Fault.TheVariants.{CannotShow, OutOfMemory}
use Rattle.command_files.specs.declared.fault.Unshown.TheVariants.{NoSymbol, NoWord}
use Rattle.elf_loader.specs.Image.{Initial}
use Rattle.elf_symbols.specs.Lookups.{address_of}
use Rattle.elf_symbols.specs.Named.{Named}
use Rattle.exploration_text.specs.declared.wording.WordName.{WordName}
use Rattle.exploration_text.specs.declared.wording.WordName.TheVariants.{Address, Symbol}
use Rattle.performed_words.specs.Words.{CanShow}

-- a number is an address, and all else a symbol
abbrev pub name_by : Name → Option ℕ → WordName
name_by word (Some place) = Address place
name_by word None = Symbol word

abbrev pub name_of : Name → WordName
name_of word = name_by word (address word.now)

abbrev pub names_of : List Name → List WordName
names_of = map name_of

abbrev pub is_plus : ℕ → Bool
is_plus byte = byte == 43

-- so many bytes behind a place, if that is an address
abbrev pub beyond : ℕ → ℕ → Option ℕ
beyond start offset = if nat_lt (start + offset) (2 ^ 32) then Some (start + offset) else None

abbrev pub beyond_both : Option ℕ → Option ℕ → Option ℕ
beyond_both (Some start) (Some offset) = beyond start offset
beyond_both (Some start) None = None
beyond_both None offset = None

-- so many bytes behind a symbol
abbrev pub place_behind : List Named → (symbol offset : List ℕ) → Option ℕ
place_behind symbols symbol offset = beyond_both (address_of symbols symbol) (address offset)

-- by what stands before and behind a `+` of the name, if it has one
abbrev pub place_split : List Named → List ℕ → Option ℕ → Option ℕ
place_split symbols name None = None
place_split symbols name (Some at) = place_behind symbols (take at name) (drop (at + 1) name)

abbrev pub offset_place : List Named → List ℕ → Option ℕ
offset_place symbols name = place_split symbols name (position is_plus name)

-- where a symbol lies, or a word behind one, as `counter+4`: the whole name comes first, as a symbol's own may have a `+`
abbrev pub symbol_place_by : Option ℕ → Option ℕ → Option ℕ
symbol_place_by (Some place) other = Some place
symbol_place_by None other = other

abbrev pub symbol_place : List Named → List ℕ → Option ℕ
symbol_place symbols name = symbol_place_by (address_of symbols name) (offset_place symbols name)

-- where a word lies, by the symbols of the image's file
abbrev pub place_of : List Named → WordName → Option ℕ
place_of symbols (Symbol name) = symbol_place symbols name.now
place_of symbols (Address place) = Some place

-- the words lie at these addresses
abbrev pub AreAddressesOf : List Named → List Name → List ℕ → Type 0
AreAddressesOf symbols words addresses = map (λ word. place_of symbols (name_of word)) words ≡ map Some addresses

-- the word lies nowhere, or no aligned word of memory lies there
abbrev pub IsUnplaced : Initial → List Named → Name → Fault → Type 0
IsUnplaced image symbols word fault =
    ((place_of symbols (name_of word) ≡ None) × (fault ≡ CannotShow word NoSymbol))
    ⊎ ((place : ℕ) × (place_of symbols (name_of word) ≡ Some place) × (CanShow image place → ⊥) × (fault ≡ CannotShow word NoWord))

-- an aligned word of memory lies where the word does
abbrev pub IsTarget : Initial → List Named → Name → Type 0
IsTarget image symbols word = (place : ℕ) × (place_of symbols (name_of word) ≡ Some place) × CanShow image place

-- the word is one of these, and each before it can be shown
pub record ComesBehindShown (image : Initial) (symbols : List Named) (words : List Name) (word : Name) : Type 0 where
  pub before : List Name
  pub later : List Name
  pub whole : before ++ word ∷ later ≡ words
  pub shown : All (IsTarget image symbols) before

-- the first of the words that can't be shown is told, or memory ran out
abbrev pub IsUnshown : Initial → List Named → List Name → Fault → Type 0
IsUnshown image symbols words fault = ((word : Name) × ComesBehindShown image symbols words word × IsUnplaced image symbols word fault) ⊎ (fault ≡ OutOfMemory)
