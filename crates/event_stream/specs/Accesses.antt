-- What stands behind an instruction that accesses memory: the address, and what was read there or stored.
use Rattle.std.specs.Prelude.{ℕ, ◌-◌, ◌*◌, Bool, true, false, List, [], ◌++◌, Option, Some, None, codes, drop}
use Rattle.amo_unit.specs.Amo.{combined}
use Rattle.elf_symbols.specs.Named.{Named}
use Rattle.hart.specs.Run.{number_read}
use Rattle.hart.specs.declared.retired.Retired.{Retired}
use Rattle.rv32_exec.specs.Actions.{addressed}
use Rattle.rv32_exec.specs.Width.{byte_count}
use Rattle.rv32_exec.specs.declared.actions.Action.{Action}
use Rattle.rv32_exec.specs.declared.actions.Action.TheVariants.{Private, Load, Store, Lr, Sc, Amo, Fence, Call, Stop}
use Rattle.rv32_exec.specs.declared.actions.Width.{Width}
use Rattle.rv32_exec.specs.declared.actions.Width.TheVariants.{Word}
use Rattle.text_fields.specs.Fields.{word}
use Rattle.event_stream.specs.Naming.{address}

-- 0x and two digits for each byte, of the ten of a word
abbrev pub value : Width → ℕ → List ℕ
value width n = codes "0x" ++ drop (10 - 2 * byte_count width) (word n)

abbrev pub is : Width → ℕ → List ℕ
is width n = codes " = " ++ value width n

-- what an SC stored, if it did
abbrev pub conditional : ℕ → Option Bool → List ℕ
conditional n (Some true) = is Word n
conditional n (Some false) = codes " fails"
conditional n None = codes " fails"

-- what was read, and what was then stored
abbrev pub update : (read written : ℕ) → List ℕ
update read written = is Word read ++ (codes " -> " ++ value Word written)

-- what an instruction that was to do this has done, as its entry tells
abbrev pub done : Action → Retired → List ℕ
done (Load a width) r = is width (number_read r)
done (Store a width n) r = is width n
done (Lr a) r = is Word (number_read r)
done (Sc a n) r = conditional n r.sc_ok
done (Amo a op operand) r = update (number_read r) (combined op (number_read r) operand)
done Private r = []
done Fence r = []
done Call r = []
done (Stop code) r = []

abbrev pub done_at : List Named → Option ℕ → Action → Retired → List ℕ
done_at names None action r = []
done_at names (Some a) action r = codes ": " ++ (address names a ++ done action r)

abbrev pub access : List Named → Action → Retired → List ℕ
access names action r = done_at names (addressed action) action r

-- the same, where it is known what the instruction was to do
abbrev pub accessed : List Named → Option Action → Retired → List ℕ
accessed names None r = []
accessed names (Some action) r = access names action r
