-- Memory operations: what they read and write, their bytes, and their annotations (RISC-V Unprivileged ISA 20191213,
-- chapter 14.1, "Memory Model Primitives").
use Rattle.std.specs.Prelude.{ℕ, ◌+◌, ◌-◌, ◌/◌, ◌%◌, ◌^◌, Bool, true, false, ◌&&◌, ◌||◌, ◌==◌, nat_lt, nat_le, List}
use Rattle.std.specs.List.{range_with_len}
use Rattle.hart.specs.MemoryModel.{MemoryModel}
use Rattle.hart.specs.TheVariants.{Rvwmo, Ztso}
use Rattle.memory_model.specs.declared.operation.Kind.{Kind}
use Rattle.memory_model.specs.declared.operation.Kind.TheVariants.{Load, Store, Lr, Sc, Amo}
use Rattle.memory_model.specs.declared.operation.Operation.{Operation}

-- loads, LRs and AMOs read memory
abbrev pub reads : Kind → Bool
reads Load = true
reads Store = false
reads Lr = true
reads Sc = false
reads Amo = true

-- stores, successful SCs and AMOs write memory
abbrev pub writes : Kind → Bool
writes Load = false
writes Store = true
writes Lr = false
writes Sc = true
writes Amo = true

abbrev pub is_lr : Kind → Bool
is_lr Lr = true
is_lr _ = false

abbrev pub is_sc : Kind → Bool
is_sc Sc = true
is_sc _ = false

abbrev pub is_amo : Kind → Bool
is_amo Amo = true
is_amo _ = false

-- two operations are one if they have one name: hart and place
abbrev pub same : Operation → Operation → Bool
same a b = a.hart == b.hart && a.place == b.place

-- a precedes b in program order: it stands before b in the list of their hart
abbrev pub precedes : Operation → Operation → Bool
precedes a b = a.hart == b.hart && nat_lt a.place b.place

-- the addresses of an operation's bytes
abbrev pub addresses_of : Operation → List ℕ
addresses_of a = range_with_len a.address a.size

-- x is the address of one of its bytes
abbrev pub touches : ℕ → Operation → Bool
touches x a = nat_le a.address x && nat_lt x (a.address + a.size)

-- a writes the byte at x
abbrev pub stores_to : ℕ → Operation → Bool
stores_to x a = writes a.kind && touches x a

-- they have a byte in common
abbrev pub overlap : Operation → Operation → Bool
overlap a b = nat_lt a.address (b.address + b.size) && nat_lt b.address (a.address + a.size)

-- the byte at x of a number that lies at an address: the least significant first (chapter 2.6 leaves the order of bytes to
-- the machine; this one is little endian)
abbrev pub byte_of_number : ℕ → ℕ → ℕ → ℕ
byte_of_number address number x = number / 256 ^ (x - address) % 256

-- the byte at x that an operation read, and the one that it wrote
abbrev pub read_at : Operation → ℕ → ℕ
read_at a x = byte_of_number a.address a.read x

abbrev pub written_at : Operation → ℕ → ℕ
written_at a x = byte_of_number a.address a.written x

-- it has an acquire annotation: by its bit aq (chapter 8.1), and under Ztso as a load, an LR or an AMO (chapter 23)
abbrev pub has_acquire : MemoryModel → Operation → Bool
has_acquire Rvwmo a = a.aq
has_acquire Ztso a = a.aq || reads a.kind

-- it has a release annotation: by its bit rl, and under Ztso as a store, an SC or an AMO
abbrev pub has_release : MemoryModel → Operation → Bool
has_release Rvwmo a = a.rl
has_release Ztso a = a.rl || writes a.kind

-- it has an RCsc annotation: the bits' annotations are RCsc, and so are those that Ztso gives to an AMO; those that it
-- gives to others are RCpc
abbrev pub has_rcsc : MemoryModel → Operation → Bool
has_rcsc Rvwmo a = a.aq || a.rl
has_rcsc Ztso a = a.aq || a.rl || is_amo a.kind
