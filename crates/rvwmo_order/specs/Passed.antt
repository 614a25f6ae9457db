-- What a walk along a hart's list keeps of the operations that it has passed: the greatest weight of those that a rule may ask for.
use Rattle.std.specs.Prelude.{ℕ, max, Bool, if◌then◌else◌, List, [], ◌∷◌, Option}
use Rattle.std.specs.Option.{option_map_or}
use Rattle.rv32_decode.specs.declared.instruction.Instr.{Instr}
use Rattle.machine_types.specs.declared.model.MemoryModel.{MemoryModel}
use Rattle.memory_model.specs.declared.operation.Kind.{Kind}
use Rattle.memory_model.specs.declared.operation.Kind.TheVariants.{Load, Store}
use Rattle.memory_model.specs.declared.operation.Operation.{Operation}
use Rattle.memory_model.specs.Items.{Item}
use Rattle.memory_model.specs.Operations.{has_acquire, has_rcsc, is_lr, reads, writes}
use Rattle.memory_model.specs.Rules.{fences, is_lr_or_sc}
use Rattle.rvwmo_order.specs.declared.bounds.passed.Passed.{Passed}

abbrev pub none_passed : Passed
none_passed = record { all = 0; reads = 0; writes = 0; acquires = 0; annotated = 0; fenced_reads = 0; fenced_writes = 0; reserved = 0 }

-- the greatest weight of those that an instruction orders before later operations of a kind, loads or stores
abbrev pub fenced_by : Option Instr → Kind → Passed → ℕ
fenced_by i later s = max (if fences i Load later then s.reads else 0) (if fences i Store later then s.writes else 0)

-- behind an instruction, but for its operation
abbrev pub fenced_after : Option Instr → Passed → Passed
fenced_after i s = record {
  all = s.all;
  reads = s.reads;
  writes = s.writes;
  acquires = s.acquires;
  annotated = s.annotated;
  fenced_reads = max s.fenced_reads (fenced_by i Load s);
  fenced_writes = max s.fenced_writes (fenced_by i Store s);
  reserved = if is_lr_or_sc i then 0 else s.reserved;
}

-- the greater of two weights, where a test holds
abbrev pub raised : Bool → ℕ → ℕ → ℕ
raised test own weight = if test then max weight own else weight

-- with an operation of this weight
abbrev pub noted : MemoryModel → Operation → ℕ → Passed → Passed
noted model a own s = record {
  all = max s.all own;
  reads = raised (reads a.kind) own s.reads;
  writes = raised (writes a.kind) own s.writes;
  acquires = raised (has_acquire model a) own s.acquires;
  annotated = raised (has_rcsc model a) own s.annotated;
  fenced_reads = s.fenced_reads;
  fenced_writes = s.fenced_writes;
  reserved = raised (is_lr a.kind) own s.reserved;
}

-- behind an instruction whose operation, where it has one, has this weight
abbrev pub passed_after : MemoryModel → ℕ → Item → Passed → Passed
passed_after model own m s = option_map_or (λ (a : Operation). noted model a own (fenced_after m.instr s)) m.operation (fenced_after m.instr s)

-- behind a list of instructions, for the weight of each
abbrev pub passed_behind : MemoryModel → (Item → ℕ) → Passed → List Item → Passed
passed_behind model own s [] = s
passed_behind model own s (m ∷ rest) = passed_behind model own (passed_after model (own m) m s) rest

-- the greatest weight of those that a FENCE orders before an operation of this kind
abbrev pub fenced_before : Kind → Passed → ℕ
fenced_before kind s = max (if reads kind then s.fenced_reads else 0) (if writes kind then s.fenced_writes else 0)
