-- The lines in which an exploration is told.
use Rattle.std.specs.Prelude.{ℕ, ◌+◌, List, [], ◌∷◌, ◌++◌, codes, decimal, length}
use Rattle.elf_symbols.specs.Named.{Named}
use Rattle.exploration_text.specs.declared.wording.WordName.{WordName}
use Rattle.exploration_text.specs.declared.wording.WordName.TheVariants.{Address, Symbol}
use Rattle.exploration_text.specs.Failures.{failure_lines}
use Rattle.exploration_text.specs.Text.{harts_text, last_line, stuck_line}
use Rattle.explorer.specs.FlatExplorationOutcomes.{Outcome}
use Rattle.text_fields.specs.Fields.{word}
use Rattle.explorer.specs.declared.exploration.Exploration.{Exploration}
use Rattle.explorer.specs.Ends.{outcomes_of}

-- a symbol as it is, an address as 0x and eight hexadecimal digits
abbrev pub name_text : WordName → List ℕ
name_text (Symbol name) = name.now
name_text (Address address) = word address

-- `   NAME = 0xVALUE`
abbrev pub word_field : WordName → ℕ → List ℕ
word_field name value = codes "   " ++ (name_text name ++ (codes " = " ++ word value))

abbrev pub word_fields : List WordName → List ℕ → List ℕ
word_fields [] values = []
word_fields (name ∷ names) [] = []
word_fields (name ∷ names) (value ∷ values) = word_field name value ++ word_fields names values

-- the harts, and behind them the words
abbrev pub end_text : List WordName → Outcome → List ℕ
end_text names outcome = harts_text 0 outcome.results ++ word_fields names outcome.words

abbrev pub end_line : List WordName → ℕ → Outcome → List ℕ
end_line names number outcome = decimal number ++ (end_text names outcome ++ codes "\n")

-- counted from a number on
abbrev pub end_lines : List WordName → ℕ → List Outcome → List ℕ
end_lines names number [] = []
end_lines names number (o ∷ os) = end_line names number o ++ end_lines names (number + 1) os

-- where words of memory, and addresses of the program, are called so
abbrev pub exploration_text : List WordName → List Named → Exploration → List ℕ
exploration_text names symbols e =
    end_lines names 1 (outcomes_of e.outcomes.items)
    ++ (failure_lines symbols 1 e.failures.items ++ (stuck_line e.stuck ++ last_line e.extent (length e.outcomes.items) (length e.failures.items) e.states))
