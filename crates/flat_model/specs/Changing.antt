-- What a flat machine's events change: memory is accessed, and a hart does what its instruction or its buffer says.
-- That an access ends other harts' reservations is this machine's own rule; chapter 8.2 of the RISC-V Unprivileged ISA 20191213 lets an SC fail for any reason.
use Rattle.std.specs.Prelude.{ℕ, ◌+◌, Bool, not, ◌&&◌, ◌==◌, List, [], ◌∷◌, ◌++◌, length, Option, Some, None, if◌then◌else◌}
use Rattle.client_cache.specs.Shape.{set_of}
use Rattle.flat_model.specs.Flat.{Flat, FlatNode, node_at, with_node, with_trace, with_word}
use Rattle.hart.specs.declared.retired.Retired.{Retired}
use Rattle.hart.specs.declared.status.Status.TheVariants.{Stopped}
use Rattle.hart.specs.Run.{after_instr}
use Rattle.machine_model.specs.declared.act.Deed.{Deed}
use Rattle.machine_model.specs.declared.act.Deed.TheVariants as deed
use Rattle.machine_types.specs.declared.config.Config.{Config}
use Rattle.machine_model.specs.Changing.{put_behind, with_halt}
use Rattle.machine_model.specs.Views.{shape_of_config}
use Rattle.machine_model.specs.Words.{bytes_of_word}
use Rattle.machine_types.specs.declared.model.MemoryModel.{MemoryModel}
use Rattle.machine_model.specs.Reservation.{without_line}
use Rattle.rv32_decode.specs.declared.instruction.Instr.{Instr}
use Rattle.store_buffer.specs.ByteMask.{marks_of_access}
use Rattle.store_buffer.specs.Entry.{entry_of}
use Rattle.store_buffer.specs.Groups.{Groups, after_seal, after_take, oldest}
use Rattle.tl_types.specs.Line.{line_of}
use Rattle.machine_model.specs.History.{entries_of, with_entry, with_performed, with_status}

-- ---- the access of a line

-- the set of the line that an address lies in
abbrev pub set_at : Config → ℕ → ℕ
set_at config address = set_of (shape_of_config config) (line_of config.line address)

-- sets hold one line, and the two addresses lie in different lines of one set
abbrev pub are_rivals : Config → ℕ → ℕ → Bool
are_rivals config one other = config.ways == 1 && set_at config one == set_at config other && not (line_of config.line one == line_of config.line other)

-- of its own accesses a hart's reservation ends by that of a rival
abbrev pub without_rival : Config → ℕ → Option ℕ → Option ℕ
without_rival config address None = None
without_rival config address (Some word) = if are_rivals config address word then None else Some word

-- what the access of an address by the hart h leaves of the reservation of the hart k
abbrev pub reservation_after : Config → (h address k : ℕ) → Option ℕ → Option ℕ
reservation_after config h address k reserved =
    if k == h
    then without_rival config address reserved
    else without_line (line_of config.line address) config.line reserved

-- of each hart, from hart k on
abbrev pub accessed_from : Config → (h address k : ℕ) → List FlatNode → List FlatNode
accessed_from config h address k [] = []
accessed_from config h address k (n ∷ ns) = record n { reserved = reservation_after config h address k n.reserved } ∷ accessed_from config h address (k + 1) ns

abbrev pub accessed : ℕ → Option ℕ → Flat → Flat
accessed h None f = f
accessed h (Some address) f = record f { nodes = accessed_from f.config h address 0 f.nodes }

-- ---- the trace

-- how many instructions of a hart have retired: the place of its next one
abbrev pub next_place : Flat → ℕ → ℕ
next_place f h = length (entries_of f.trace h)

-- these operations of a hart are performed, one after the other
abbrev pub performs : ℕ → List ℕ → Flat → Flat
performs h [] f = f
performs h (place ∷ places) f = performs h places (with_trace (with_performed (record { hart = h; place = place }) f.trace) f)

-- the operation of the instruction that retires is performed
abbrev pub performs_own : ℕ → Flat → Flat
performs_own h f = performs h (next_place f h ∷ []) f

-- ---- what an instruction does as it retires

abbrev pub with_buffer : ℕ → Groups → Flat → Flat
with_buffer h b f = with_node h (record (node_at f h) { buffer = b }) f

abbrev pub with_reservation : ℕ → Option ℕ → Flat → Flat
with_reservation h reserved f = with_node h (record (node_at f h) { reserved = reserved }) f

-- the marked bytes of a word are written to memory
abbrev pub writes_word : ℕ → List Bool → List ℕ → Flat → Flat
writes_word word marks bytes f = record f { memory = with_word word marks bytes f.memory }

abbrev pub does : MemoryModel → ℕ → Deed → Flat → Flat
does model h deed.Private f = f
does model h (deed.Output number) f = with_node h (record (node_at f h) { output = (node_at f h).output ++ number ∷ [] }) f
does model h deed.Load f = performs_own h f
does model h (deed.Store store) f = with_buffer h (put_behind model store (node_at f h).buffer) f
does model h deed.Seal f = with_buffer h (after_seal (node_at f h).buffer) f
does model h (deed.Lr word) f = with_reservation h (Some word) (performs_own h f)
does model h deed.Fail f = with_reservation h None f
does model h (deed.Sc word value) f = with_reservation h None (writes_word word (marks_of_access 0 4) (bytes_of_word value) (performs_own h f))
does model h (deed.Amo word value) f = writes_word word (marks_of_access 0 4) (bytes_of_word value) (performs_own h f)

-- the hart moves on, and its list has one more entry
abbrev pub retired : ℕ → Retired → Instr → Flat → Flat
retired h entry i f =
    let n = node_at f h in
    let hart = after_instr n.hart entry (Some i) in
    with_trace (with_halt h hart.status (with_entry h entry f.trace)) (with_node h (record n { hart = hart }) f)

-- ---- stops and drains

abbrev pub stopped : ℕ → ℕ → Flat → Flat
stopped h code f =
    let n = node_at f h in
    with_trace (with_status h (Stopped code) f.trace) (with_node h (record n { hart = record n.hart { status = Stopped code } }) f)

-- the word's entry leaves the oldest group, its stores are performed in program order, and memory is written
abbrev pub drained : ℕ → ℕ → Flat → Flat
drained h word f =
    let e = entry_of word (oldest (node_at f h).buffer) in
    with_buffer h (after_take word (node_at f h).buffer) (writes_word word e.mask e.bytes (performs h e.ops f))
