-- The lines in which is told what a program lacks that has outcomes that aren't allowed.
use Rattle.std.specs.Prelude.{ℕ, ◌+◌, ◌==◌, ◌∷◌, ◌++◌, ◌||◌, [], Bool, List, None, Option, Some, codes, false, if◌then◌else◌, length, not, slice_get}
use Rattle.std.specs.List.{list_all}
use Rattle.architecture_outcomes.specs.declared.architecture.Architecture.{Architecture}
use Rattle.elf_symbols.specs.Lookups.{nearest}
use Rattle.elf_symbols.specs.Named.{Named}
use Rattle.exploration_text.specs.declared.wording.WordName.{WordName}
use Rattle.fence_audit.specs.Searches.{answer_in, search_in}
use Rattle.fence_audit.specs.declared.allowing.Missing.{Missing}
use Rattle.fence_audit.specs.declared.answers.Answer.{Answer}
use Rattle.fence_audit.specs.declared.answers.Answer.TheVariants as answer
use Rattle.fence_audit.specs.declared.searches.Search.{Search}
use Rattle.fence_audit.specs.declared.searches.World.{World}
use Rattle.fence_audit.specs.Text.{bound_text, counted, end_at, is_another, minimal_text, outcomes_text, searched_text, word_text}
use Rattle.image_orderings.specs.Forms.{nop}
use Rattle.image_orderings.specs.Programs.{patches_with, word_in}
use Rattle.image_orderings.specs.declared.replacing.Patch.{Patch}
use Rattle.exploration_text.specs.Naming.{place_before}
use Rattle.rv32_decode.specs.Encoding.{encoded}
use Rattle.text_fields.specs.Fields.{word as hexadecimal}

-- ---- a change

abbrev pub changed_by : (own : ℕ) → Option ℕ → Bool
changed_by own None = false
changed_by own (Some w) = not (w == own)

-- another word stands there
abbrev pub is_changed : List Patch → Patch → Bool
is_changed last own = changed_by own.word (word_in last own.address)

-- it is none, or a search of the last program with its own word told another outcome
abbrev pub is_needed : List Search → List Patch → Patch → Bool
is_needed searches last own = not (is_changed last own) || is_another (answer_in searches (patches_with own.address own.word last))

-- none of the changes can be taken back
abbrev pub is_minimal : Missing → Bool
is_minimal m = list_all (is_needed m.searches.items m.last.items) m.own.items

-- `addi x0, x0, 0` by its other name
abbrev pub own_text : ℕ → List ℕ
own_text own = if own == encoded nop then codes "nop" else word_text (Some own)

-- the word as it is
abbrev pub place_text : List Named → Patch → List ℕ
place_text symbols own = hexadecimal own.address ++ (codes " " ++ (place_before (nearest symbols own.address) ++ own_text own.word))

abbrev pub missing_head : (minimal : Bool) → List ℕ
missing_head minimal = codes "missing" ++ (minimal_text minimal ++ codes ": ")

-- what is to stand in its place
abbrev pub new_text : Option ℕ → List ℕ
new_text w = codes " -> " ++ (word_text w ++ codes "\n")

abbrev pub change_line : List Named → (minimal : Bool) → List Patch → Patch → List ℕ
change_line symbols minimal last own = missing_head minimal ++ (place_text symbols own ++ new_text (word_in last own.address))

-- nothing where its own word stands there
abbrev pub change_text : List Named → (minimal : Bool) → List Patch → Patch → List ℕ
change_text symbols minimal last own = if is_changed last own then change_line symbols minimal last own else []

abbrev pub changes_text : List Named → (minimal : Bool) → List Patch → List Patch → List ℕ
changes_text symbols minimal last [] = []
changes_text symbols minimal last (own ∷ rest) = change_text symbols minimal last own ++ changes_text symbols minimal last rest

-- ---- what comes of all that the program may order

abbrev pub open_text : Architecture → List ℕ
open_text found = codes "undecided, all that may order" ++ (bound_text found ++ codes "\n")

abbrev pub answer_text : List WordName → List Named → Missing → Search → Answer → List ℕ
answer_text names symbols m search answer.Same = changes_text symbols (is_minimal m) m.last.items m.own.items
answer_text names symbols m search (answer.Other place) = codes "not enough, all that may order:" ++ (end_at names (slice_get search.found.outcomes.items place) ++ codes "\n")
answer_text names symbols m search (answer.Stops place) = []
answer_text names symbols m search (answer.Fewer place) = []
answer_text names symbols m search answer.Bounded = open_text search.found

abbrev pub found_text : List WordName → List Named → Missing → Option Search → List ℕ
found_text names symbols m None = []
found_text names symbols m (Some search) = answer_text names symbols m search search.answer

-- ---- all of it

-- the first outcome that isn't allowed
abbrev pub refused_text : List WordName → Missing → List ℕ
refused_text names m = codes "not allowed:" ++ (end_at names (slice_get m.known.outcomes.items m.place) ++ codes "\n")

abbrev pub count_text : World → (places programs outcomes : ℕ) → List ℕ
count_text world places programs outcomes =
    searched_text world ++ (counted places (codes " places, ") ++ (counted programs (codes " programs, ") ++ outcomes_text outcomes))

abbrev pub counts_text : Missing → List ℕ
counts_text m = count_text m.world (length m.own.items) (length m.searches.items + 1) (length m.known.outcomes.items)

abbrev pub missing_text : List WordName → List Named → Missing → List ℕ
missing_text names symbols m =
    refused_text names m ++ (found_text names symbols m (search_in m.searches.items m.most.items) ++ counts_text m)
