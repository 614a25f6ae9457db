-- How a picture tells an address by the program's names.
use Rattle.std.specs.Prelude.{ℕ, zero, suc, ◌+◌, ◌%◌, ◌^◌, ◌==◌, if◌then◌else◌, List, [], ◌∷◌, ◌++◌, Option, Some, None, option_map}
use Rattle.elf_symbols.specs.Lookups.{Near, nearest}
use Rattle.elf_symbols.specs.Named.{Named}
use Rattle.event_stream.specs.Naming.{place_behind, symbol}
use Rattle.text_fields.specs.Fields.{word}
use Rattle.tl_types.specs.Line.{length_of}
use Rattle.tl_types.specs.declared.line.LineSize.{LineSize}
use Rattle.run_chart.specs.Fitting.{fitted}
use Rattle.run_chart.specs.declared.naming.Manner.{Manner}
use Rattle.run_chart.specs.declared.naming.Manner.TheVariants.{Short, Whole}

-- a name has room for twelve bytes where it is told short
abbrev pub short : List ℕ → List ℕ
short text = fitted 12 text

abbrev pub name : Manner → List ℕ → List ℕ
name Short text = short text
name Whole text = text

abbrev pub near : Manner → Near → Near
near manner n = record { name = name manner n.name; offset = n.offset }

-- an address by its name: a short one stands in place of the digits, a whole one behind them
abbrev pub named : Manner → ℕ → Near → List ℕ
named Short a n = symbol (near Short n)
named Whole a n = word a ++ 32 ∷ symbol (near Whole n)

-- one without a name by its digits
abbrev pub told : Manner → ℕ → Option Near → List ℕ
told manner a None = word a
told manner a (Some n) = named manner a n

abbrev pub address : Manner → List Named → ℕ → List ℕ
address manner names a = told manner a (nearest names a)

-- a name that lies at the address itself
abbrev pub here : Option Near → Option Near
here None = None
here (Some n) = if n.offset == 0 then Some n else None

abbrev pub name_at : List Named → ℕ → Option Near
name_at names a = here (nearest names a)

abbrev pub or_later : Option Near → Option Near → Option Near
or_later (Some n) later = Some n
or_later None later = later

-- the first name that lies in so many bytes from an address on
unfoldable pub first_in : List Named → ℕ → ℕ → Option Near
first_in names a zero = None
first_in names a (suc n) = or_later (name_at names a) (first_in names ((a + 1) % 2 ^ 32) n)

-- a line of memory by the first name that lies in it
abbrev pub line : Manner → List Named → LineSize → ℕ → List ℕ
line manner names size a = told manner a (first_in names a (length_of size))

-- where an instruction leads, if it leads elsewhere
abbrev pub target_behind : Manner → List Named → Option ℕ → List ℕ
target_behind manner names None = []
target_behind manner names (Some a) = place_behind (option_map (near manner) (nearest names a))
