-- Litmus shapes: small runs, for each rule of preserved program order and each axiom some that it forbids in one order and allows in another.
use Rattle.std.specs.Prelude.{[], ◌∷◌, true, false}
use Rattle.trace_recorder.specs.History.{History}
use Rattle.memory_model.specs.Examples.{image_with, did, loaded, tried, trace}

-- ---- rule 1

-- two stores with a byte in common
-- hart 0: lui x12, 0x80000; addi x13, x0, 1; sh x13, 0x100(x12); sb x13, 0x101(x12)
abbrev pub overlapping_stores : History
overlapping_stores =
    trace (image_with (0x80000637 ∷ 0x00100693 ∷ 0x10d61023 ∷ 0x10d600a3 ∷ []))
    ((did 0x80000000 0x80000637 ∷ did 0x80000004 0x00100693 ∷ did 0x80000008 0x10d61023 ∷ did 0x8000000c 0x10d600a3 ∷ [])
    ∷ [])
    []

-- two stores side by side
-- hart 0: lui x12, 0x80000; addi x13, x0, 1; sh x13, 0x100(x12); sb x13, 0x102(x12)
abbrev pub stores_apart : History
stores_apart =
    trace (image_with (0x80000637 ∷ 0x00100693 ∷ 0x10d61023 ∷ 0x10d60123 ∷ []))
    ((did 0x80000000 0x80000637 ∷ did 0x80000004 0x00100693 ∷ did 0x80000008 0x10d61023 ∷ did 0x8000000c 0x10d60123 ∷ [])
    ∷ [])
    []

-- a load and then a store to one of its bytes, which the load returns
-- hart 0: lui x12, 0x80000; addi x13, x0, 1; lw x14, 0x100(x12) (reads 0x1000000); sb x13, 0x103(x12)
abbrev pub load_before_store : History
load_before_store =
    trace (image_with (0x80000637 ∷ 0x00100693 ∷ 0x10062703 ∷ 0x10d601a3 ∷ []))
    ((did 0x80000000 0x80000637 ∷ did 0x80000004 0x00100693 ∷ loaded 0x80000008 0x10062703 0x1000000 ∷ did 0x8000000c 0x10d601a3 ∷ [])
    ∷ [])
    []

-- a store and then a load of its word
-- hart 0: lui x12, 0x80000; addi x13, x0, 1; sw x13, 0x100(x12); lw x14, 0x100(x12) (reads 1)
abbrev pub store_before_load : History
store_before_load =
    trace (image_with (0x80000637 ∷ 0x00100693 ∷ 0x10d62023 ∷ 0x10062703 ∷ []))
    ((did 0x80000000 0x80000637 ∷ did 0x80000004 0x00100693 ∷ did 0x80000008 0x10d62023 ∷ loaded 0x8000000c 0x10062703 1 ∷ [])
    ∷ [])
    []

-- a load and then an AMO of its word, which the load returns
-- hart 0: lui x12, 0x80000; addi x13, x0, 1; addi x8, x12, 256; lw x14, 0x100(x12) (reads 1); amoadd.w x15, x13, (x8) (reads 0)
abbrev pub load_before_amo : History
load_before_amo =
    trace (image_with (0x80000637 ∷ 0x00100693 ∷ 0x10060413 ∷ 0x10062703 ∷ 0x00d427af ∷ []))
    ((did 0x80000000 0x80000637 ∷ did 0x80000004 0x00100693 ∷ did 0x80000008 0x10060413 ∷ loaded 0x8000000c 0x10062703 1 ∷ loaded 0x80000010 0x00d427af 0 ∷ [])
    ∷ [])
    []

-- a load and then an SC of its word that succeeds, which the load returns
-- hart 0: lui x12, 0x80000; addi x13, x0, 1; addi x8, x12, 256; lw x14, 0x100(x12) (reads 1); sc.w x15, x13, (x8) (succeeds)
abbrev pub load_before_sc : History
load_before_sc =
    trace (image_with (0x80000637 ∷ 0x00100693 ∷ 0x10060413 ∷ 0x10062703 ∷ 0x18d427af ∷ []))
    ((did 0x80000000 0x80000637 ∷ did 0x80000004 0x00100693 ∷ did 0x80000008 0x10060413 ∷ loaded 0x8000000c 0x10062703 1 ∷ tried 0x80000010 0x18d427af true ∷ [])
    ∷ [])
    []

-- ---- rule 2

-- one hart stores, the other loads twice: the new value and then the old one
-- hart 0: bne x10, x0, 16; lui x12, 0x80000; addi x13, x0, 1; sw x13, 0x100(x12)
-- hart 1: bne x10, x0, 16; lui x12, 0x80000; addi x13, x0, 1; lw x14, 0x100(x12) (reads 1); lw x15, 0x100(x12) (reads 0)
abbrev pub two_loads : History
two_loads =
    trace (image_with (0x00051863 ∷ 0x80000637 ∷ 0x00100693 ∷ 0x10d62023 ∷ 0x80000637 ∷ 0x00100693 ∷ 0x10062703 ∷ 0x10062783 ∷ []))
    ((did 0x80000000 0x00051863 ∷ did 0x80000004 0x80000637 ∷ did 0x80000008 0x00100693 ∷ did 0x8000000c 0x10d62023 ∷ [])
    ∷ (did 0x80000000 0x00051863 ∷ did 0x80000010 0x80000637 ∷ did 0x80000014 0x00100693 ∷ loaded 0x80000018 0x10062703 1 ∷ loaded 0x8000001c 0x10062783 0 ∷ [])
    ∷ [])
    []

-- both loads return the image
-- hart 0: bne x10, x0, 16; lui x12, 0x80000; addi x13, x0, 1; sw x13, 0x100(x12)
-- hart 1: bne x10, x0, 16; lui x12, 0x80000; addi x13, x0, 1; lw x14, 0x100(x12) (reads 0); lw x15, 0x100(x12) (reads 0)
abbrev pub two_loads_of_image : History
two_loads_of_image =
    trace (image_with (0x00051863 ∷ 0x80000637 ∷ 0x00100693 ∷ 0x10d62023 ∷ 0x80000637 ∷ 0x00100693 ∷ 0x10062703 ∷ 0x10062783 ∷ []))
    ((did 0x80000000 0x00051863 ∷ did 0x80000004 0x80000637 ∷ did 0x80000008 0x00100693 ∷ did 0x8000000c 0x10d62023 ∷ [])
    ∷ (did 0x80000000 0x00051863 ∷ did 0x80000010 0x80000637 ∷ did 0x80000014 0x00100693 ∷ loaded 0x80000018 0x10062703 0 ∷ loaded 0x8000001c 0x10062783 0 ∷ [])
    ∷ [])
    []

-- the store writes what the image has; the loads return it from different writes
-- hart 0: bne x10, x0, 16; lui x12, 0x80000; addi x13, x0, 1; sw x0, 0x100(x12)
-- hart 1: bne x10, x0, 16; lui x12, 0x80000; addi x13, x0, 1; lw x14, 0x100(x12) (reads 0); lw x15, 0x100(x12) (reads 0)
abbrev pub two_loads_of_equal_values : History
two_loads_of_equal_values =
    trace (image_with (0x00051863 ∷ 0x80000637 ∷ 0x00100693 ∷ 0x10062023 ∷ 0x80000637 ∷ 0x00100693 ∷ 0x10062703 ∷ 0x10062783 ∷ []))
    ((did 0x80000000 0x00051863 ∷ did 0x80000004 0x80000637 ∷ did 0x80000008 0x00100693 ∷ did 0x8000000c 0x10062023 ∷ [])
    ∷ (did 0x80000000 0x00051863 ∷ did 0x80000010 0x80000637 ∷ did 0x80000014 0x00100693 ∷ loaded 0x80000018 0x10062703 0 ∷ loaded 0x8000001c 0x10062783 0 ∷ [])
    ∷ [])
    []

-- a store of the loads' own hart lies between them
-- hart 0: bne x10, x0, 16; lui x12, 0x80000; addi x13, x0, 1; sw x13, 0x100(x12)
-- hart 1: bne x10, x0, 16; lui x12, 0x80000; addi x13, x0, 2; lw x14, 0x100(x12) (reads 1); sw x13, 0x100(x12); lw x15, 0x100(x12) (reads 2)
abbrev pub own_store_between : History
own_store_between =
    trace (image_with (0x00051863 ∷ 0x80000637 ∷ 0x00100693 ∷ 0x10d62023 ∷ 0x80000637 ∷ 0x00200693 ∷ 0x10062703 ∷ 0x10d62023 ∷ 0x10062783 ∷ []))
    ((did 0x80000000 0x00051863 ∷ did 0x80000004 0x80000637 ∷ did 0x80000008 0x00100693 ∷ did 0x8000000c 0x10d62023 ∷ [])
    ∷ (did 0x80000000 0x00051863 ∷ did 0x80000010 0x80000637 ∷ did 0x80000014 0x00200693 ∷ loaded 0x80000018 0x10062703 1 ∷ did 0x8000001c 0x10d62023 ∷ loaded 0x80000020 0x10062783 2 ∷ [])
    ∷ [])
    []

-- a store to another byte of the loads' word lies between them
-- hart 0: bne x10, x0, 16; lui x12, 0x80000; addi x13, x0, 1; sw x13, 0x100(x12)
-- hart 1: bne x10, x0, 16; lui x12, 0x80000; addi x13, x0, 1; lw x14, 0x100(x12) (reads 1); sb x13, 0x103(x12); lw x15, 0x100(x12) (reads 0x1000000)
abbrev pub own_store_to_another_byte : History
own_store_to_another_byte =
    trace (image_with (0x00051863 ∷ 0x80000637 ∷ 0x00100693 ∷ 0x10d62023 ∷ 0x80000637 ∷ 0x00100693 ∷ 0x10062703 ∷ 0x10d601a3 ∷ 0x10062783 ∷ []))
    ((did 0x80000000 0x00051863 ∷ did 0x80000004 0x80000637 ∷ did 0x80000008 0x00100693 ∷ did 0x8000000c 0x10d62023 ∷ [])
    ∷ (did 0x80000000 0x00051863 ∷ did 0x80000010 0x80000637 ∷ did 0x80000014 0x00100693 ∷ loaded 0x80000018 0x10062703 1 ∷ did 0x8000001c 0x10d601a3 ∷ loaded 0x80000020 0x10062783 0x1000000 ∷ [])
    ∷ [])
    []

-- an LR returns the new value and a load behind it the old one
-- hart 0: bne x10, x0, 16; lui x12, 0x80000; addi x13, x0, 1; sw x13, 0x100(x12)
-- hart 1: bne x10, x0, 16; lui x12, 0x80000; addi x8, x12, 256; lr.w x14, (x8) (reads 1); lw x15, 0x100(x12) (reads 0)
abbrev pub lr_then_load : History
lr_then_load =
    trace (image_with (0x00051863 ∷ 0x80000637 ∷ 0x00100693 ∷ 0x10d62023 ∷ 0x80000637 ∷ 0x10060413 ∷ 0x1004272f ∷ 0x10062783 ∷ []))
    ((did 0x80000000 0x00051863 ∷ did 0x80000004 0x80000637 ∷ did 0x80000008 0x00100693 ∷ did 0x8000000c 0x10d62023 ∷ [])
    ∷ (did 0x80000000 0x00051863 ∷ did 0x80000010 0x80000637 ∷ did 0x80000014 0x10060413 ∷ loaded 0x80000018 0x1004272f 1 ∷ loaded 0x8000001c 0x10062783 0 ∷ [])
    ∷ [])
    []

-- a load returns the new value and an LR behind it the old one
-- hart 0: bne x10, x0, 16; lui x12, 0x80000; addi x13, x0, 1; sw x13, 0x100(x12)
-- hart 1: bne x10, x0, 16; lui x12, 0x80000; addi x8, x12, 256; lw x14, 0x100(x12) (reads 1); lr.w x15, (x8) (reads 0)
abbrev pub load_then_lr : History
load_then_lr =
    trace (image_with (0x00051863 ∷ 0x80000637 ∷ 0x00100693 ∷ 0x10d62023 ∷ 0x80000637 ∷ 0x10060413 ∷ 0x10062703 ∷ 0x100427af ∷ []))
    ((did 0x80000000 0x00051863 ∷ did 0x80000004 0x80000637 ∷ did 0x80000008 0x00100693 ∷ did 0x8000000c 0x10d62023 ∷ [])
    ∷ (did 0x80000000 0x00051863 ∷ did 0x80000010 0x80000637 ∷ did 0x80000014 0x10060413 ∷ loaded 0x80000018 0x10062703 1 ∷ loaded 0x8000001c 0x100427af 0 ∷ [])
    ∷ [])
    []

-- an SC between two loads, of which the second returns what it wrote
-- hart 0: lui x12, 0x80000; addi x13, x0, 1; addi x8, x12, 256; lw x14, 0x100(x12) (reads 0); lr.w x16, (x8) (reads 0); sc.w x15, x13, (x8) (succeeds); lw x17, 0x100(x12) (reads 1)
abbrev pub sc_between : History
sc_between =
    trace (image_with (0x80000637 ∷ 0x00100693 ∷ 0x10060413 ∷ 0x10062703 ∷ 0x1004282f ∷ 0x18d427af ∷ 0x10062883 ∷ []))
    ((did 0x80000000 0x80000637 ∷ did 0x80000004 0x00100693 ∷ did 0x80000008 0x10060413 ∷ loaded 0x8000000c 0x10062703 0 ∷ loaded 0x80000010 0x1004282f 0 ∷ tried 0x80000014 0x18d427af true ∷ loaded 0x80000018 0x10062883 1 ∷ [])
    ∷ [])
    []

-- an AMO between two loads, of which the second returns what it wrote
-- hart 0: lui x12, 0x80000; addi x13, x0, 1; addi x8, x12, 256; lw x14, 0x100(x12) (reads 0); amoadd.w x15, x13, (x8) (reads 0); lw x16, 0x100(x12) (reads 1)
abbrev pub amo_between : History
amo_between =
    trace (image_with (0x80000637 ∷ 0x00100693 ∷ 0x10060413 ∷ 0x10062703 ∷ 0x00d427af ∷ 0x10062803 ∷ []))
    ((did 0x80000000 0x80000637 ∷ did 0x80000004 0x00100693 ∷ did 0x80000008 0x10060413 ∷ loaded 0x8000000c 0x10062703 0 ∷ loaded 0x80000010 0x00d427af 0 ∷ loaded 0x80000014 0x10062803 1 ∷ [])
    ∷ [])
    []

-- ---- rule 3

-- an SC that succeeds, and a load of what it wrote
-- hart 0: lui x12, 0x80000; addi x13, x0, 1; addi x8, x12, 256; sc.w x14, x13, (x8) (succeeds); lw x15, 0x100(x12) (reads 1)
abbrev pub load_of_sc : History
load_of_sc =
    trace (image_with (0x80000637 ∷ 0x00100693 ∷ 0x10060413 ∷ 0x18d4272f ∷ 0x10062783 ∷ []))
    ((did 0x80000000 0x80000637 ∷ did 0x80000004 0x00100693 ∷ did 0x80000008 0x10060413 ∷ tried 0x8000000c 0x18d4272f true ∷ loaded 0x80000010 0x10062783 1 ∷ [])
    ∷ [])
    []

-- an SC that succeeds, and a load of another word
-- hart 0: lui x12, 0x80000; addi x13, x0, 1; addi x8, x12, 256; sc.w x14, x13, (x8) (succeeds); lw x15, 0x200(x12) (reads 0)
abbrev pub load_beside_sc : History
load_beside_sc =
    trace (image_with (0x80000637 ∷ 0x00100693 ∷ 0x10060413 ∷ 0x18d4272f ∷ 0x20062783 ∷ []))
    ((did 0x80000000 0x80000637 ∷ did 0x80000004 0x00100693 ∷ did 0x80000008 0x10060413 ∷ tried 0x8000000c 0x18d4272f true ∷ loaded 0x80000010 0x20062783 0 ∷ [])
    ∷ [])
    []

-- an AMO, and a load of what it wrote: as loads of one word from different writes the two break the second rule first
-- hart 0: lui x12, 0x80000; addi x13, x0, 1; addi x8, x12, 256; amoadd.w x14, x13, (x8) (reads 0); lw x15, 0x100(x12) (reads 1)
abbrev pub load_of_amo : History
load_of_amo =
    trace (image_with (0x80000637 ∷ 0x00100693 ∷ 0x10060413 ∷ 0x00d4272f ∷ 0x10062783 ∷ []))
    ((did 0x80000000 0x80000637 ∷ did 0x80000004 0x00100693 ∷ did 0x80000008 0x10060413 ∷ loaded 0x8000000c 0x00d4272f 0 ∷ loaded 0x80000010 0x10062783 1 ∷ [])
    ∷ [])
    []

-- an LR that returns what an SC wrote
-- hart 0: lui x12, 0x80000; addi x13, x0, 1; addi x8, x12, 256; lr.w x14, (x8) (reads 0); sc.w x15, x13, (x8) (succeeds); lr.w x16, (x8) (reads 1)
abbrev pub lr_of_sc : History
lr_of_sc =
    trace (image_with (0x80000637 ∷ 0x00100693 ∷ 0x10060413 ∷ 0x1004272f ∷ 0x18d427af ∷ 0x1004282f ∷ []))
    ((did 0x80000000 0x80000637 ∷ did 0x80000004 0x00100693 ∷ did 0x80000008 0x10060413 ∷ loaded 0x8000000c 0x1004272f 0 ∷ tried 0x80000010 0x18d427af true ∷ loaded 0x80000014 0x1004282f 1 ∷ [])
    ∷ [])
    []

-- a load that returns three bytes of what an SC wrote, and one of a store behind it
-- hart 0: lui x12, 0x80000; addi x13, x0, 1; addi x8, x12, 256; lr.w x14, (x8) (reads 0); sc.w x15, x13, (x8) (succeeds); sb x0, 0x101(x12); lw x16, 0x100(x12) (reads 1)
abbrev pub load_of_sc_and_byte : History
load_of_sc_and_byte =
    trace (image_with (0x80000637 ∷ 0x00100693 ∷ 0x10060413 ∷ 0x1004272f ∷ 0x18d427af ∷ 0x100600a3 ∷ 0x10062803 ∷ []))
    ((did 0x80000000 0x80000637 ∷ did 0x80000004 0x00100693 ∷ did 0x80000008 0x10060413 ∷ loaded 0x8000000c 0x1004272f 0 ∷ tried 0x80000010 0x18d427af true ∷ did 0x80000014 0x100600a3 ∷ loaded 0x80000018 0x10062803 1 ∷ [])
    ∷ [])
    []

-- ---- rule 4

-- two stores round a FENCE of stores before stores
-- hart 0: lui x12, 0x80000; addi x13, x0, 1; sw x13, 0x100(x12); fence w, w; sw x13, 0x200(x12)
abbrev pub stores_fence_w_w : History
stores_fence_w_w =
    trace (image_with (0x80000637 ∷ 0x00100693 ∷ 0x10d62023 ∷ 0x0110000f ∷ 0x20d62023 ∷ []))
    ((did 0x80000000 0x80000637 ∷ did 0x80000004 0x00100693 ∷ did 0x80000008 0x10d62023 ∷ did 0x8000000c 0x0110000f ∷ did 0x80000010 0x20d62023 ∷ [])
    ∷ [])
    []

-- the FENCE has loads before it
-- hart 0: lui x12, 0x80000; addi x13, x0, 1; sw x13, 0x100(x12); fence r, w; sw x13, 0x200(x12)
abbrev pub stores_fence_r_w : History
stores_fence_r_w =
    trace (image_with (0x80000637 ∷ 0x00100693 ∷ 0x10d62023 ∷ 0x0210000f ∷ 0x20d62023 ∷ []))
    ((did 0x80000000 0x80000637 ∷ did 0x80000004 0x00100693 ∷ did 0x80000008 0x10d62023 ∷ did 0x8000000c 0x0210000f ∷ did 0x80000010 0x20d62023 ∷ [])
    ∷ [])
    []

-- the FENCE has loads behind it
-- hart 0: lui x12, 0x80000; addi x13, x0, 1; sw x13, 0x100(x12); fence w, r; sw x13, 0x200(x12)
abbrev pub stores_fence_w_r : History
stores_fence_w_r =
    trace (image_with (0x80000637 ∷ 0x00100693 ∷ 0x10d62023 ∷ 0x0120000f ∷ 0x20d62023 ∷ []))
    ((did 0x80000000 0x80000637 ∷ did 0x80000004 0x00100693 ∷ did 0x80000008 0x10d62023 ∷ did 0x8000000c 0x0120000f ∷ did 0x80000010 0x20d62023 ∷ [])
    ∷ [])
    []

-- a FENCE of devices orders nothing here
-- hart 0: lui x12, 0x80000; addi x13, x0, 1; sw x13, 0x100(x12); fence io, io; sw x13, 0x200(x12)
abbrev pub stores_fence_io : History
stores_fence_io =
    trace (image_with (0x80000637 ∷ 0x00100693 ∷ 0x10d62023 ∷ 0x0cc0000f ∷ 0x20d62023 ∷ []))
    ((did 0x80000000 0x80000637 ∷ did 0x80000004 0x00100693 ∷ did 0x80000008 0x10d62023 ∷ did 0x8000000c 0x0cc0000f ∷ did 0x80000010 0x20d62023 ∷ [])
    ∷ [])
    []

-- FENCE.TSO orders stores before stores
-- hart 0: lui x12, 0x80000; addi x13, x0, 1; sw x13, 0x100(x12); fence.tso; sw x13, 0x200(x12)
abbrev pub stores_fence_tso : History
stores_fence_tso =
    trace (image_with (0x80000637 ∷ 0x00100693 ∷ 0x10d62023 ∷ 0x8330000f ∷ 0x20d62023 ∷ []))
    ((did 0x80000000 0x80000637 ∷ did 0x80000004 0x00100693 ∷ did 0x80000008 0x10d62023 ∷ did 0x8000000c 0x8330000f ∷ did 0x80000010 0x20d62023 ∷ [])
    ∷ [])
    []

-- FENCE.TSO orders no store before a load
-- hart 0: lui x12, 0x80000; addi x13, x0, 1; sw x13, 0x100(x12); fence.tso; lw x14, 0x200(x12) (reads 0)
abbrev pub store_fence_tso_load : History
store_fence_tso_load =
    trace (image_with (0x80000637 ∷ 0x00100693 ∷ 0x10d62023 ∷ 0x8330000f ∷ 0x20062703 ∷ []))
    ((did 0x80000000 0x80000637 ∷ did 0x80000004 0x00100693 ∷ did 0x80000008 0x10d62023 ∷ did 0x8000000c 0x8330000f ∷ loaded 0x80000010 0x20062703 0 ∷ [])
    ∷ [])
    []

-- FENCE.TSO orders loads before all
-- hart 0: lui x12, 0x80000; addi x13, x0, 1; lw x14, 0x100(x12) (reads 0); fence.tso; lw x15, 0x200(x12) (reads 0)
abbrev pub loads_fence_tso : History
loads_fence_tso =
    trace (image_with (0x80000637 ∷ 0x00100693 ∷ 0x10062703 ∷ 0x8330000f ∷ 0x20062783 ∷ []))
    ((did 0x80000000 0x80000637 ∷ did 0x80000004 0x00100693 ∷ loaded 0x80000008 0x10062703 0 ∷ did 0x8000000c 0x8330000f ∷ loaded 0x80000010 0x20062783 0 ∷ [])
    ∷ [])
    []

-- a normal FENCE with the same sets
-- hart 0: lui x12, 0x80000; addi x13, x0, 1; sw x13, 0x100(x12); fence rw, rw; lw x14, 0x200(x12) (reads 0)
abbrev pub store_fence_rw_load : History
store_fence_rw_load =
    trace (image_with (0x80000637 ∷ 0x00100693 ∷ 0x10d62023 ∷ 0x0330000f ∷ 0x20062703 ∷ []))
    ((did 0x80000000 0x80000637 ∷ did 0x80000004 0x00100693 ∷ did 0x80000008 0x10d62023 ∷ did 0x8000000c 0x0330000f ∷ loaded 0x80000010 0x20062703 0 ∷ [])
    ∷ [])
    []

-- FENCE.TSO's mode with other sets is a normal FENCE
-- hart 0: lui x12, 0x80000; addi x13, x0, 1; lw x14, 0x100(x12) (reads 0); fence rw, w (mode 8); lw x15, 0x200(x12) (reads 0)
abbrev pub loads_fence_rw_w : History
loads_fence_rw_w =
    trace (image_with (0x80000637 ∷ 0x00100693 ∷ 0x10062703 ∷ 0x8310000f ∷ 0x20062783 ∷ []))
    ((did 0x80000000 0x80000637 ∷ did 0x80000004 0x00100693 ∷ loaded 0x80000008 0x10062703 0 ∷ did 0x8000000c 0x8310000f ∷ loaded 0x80000010 0x20062783 0 ∷ [])
    ∷ [])
    []

-- so is it with device bits
-- hart 0: lui x12, 0x80000; addi x13, x0, 1; sw x13, 0x100(x12); fence iorw, iorw (mode 8); lw x14, 0x200(x12) (reads 0)
abbrev pub store_fence_iorw_load : History
store_fence_iorw_load =
    trace (image_with (0x80000637 ∷ 0x00100693 ∷ 0x10d62023 ∷ 0x8ff0000f ∷ 0x20062703 ∷ []))
    ((did 0x80000000 0x80000637 ∷ did 0x80000004 0x00100693 ∷ did 0x80000008 0x10d62023 ∷ did 0x8000000c 0x8ff0000f ∷ loaded 0x80000010 0x20062703 0 ∷ [])
    ∷ [])
    []

-- before FENCE.TSO an AMO counts as a load
-- hart 0: lui x12, 0x80000; addi x13, x0, 1; addi x8, x12, 256; amoadd.w x14, x13, (x8) (reads 0); fence.tso; lw x15, 0x200(x12) (reads 0)
abbrev pub amo_fence_tso_load : History
amo_fence_tso_load =
    trace (image_with (0x80000637 ∷ 0x00100693 ∷ 0x10060413 ∷ 0x00d4272f ∷ 0x8330000f ∷ 0x20062783 ∷ []))
    ((did 0x80000000 0x80000637 ∷ did 0x80000004 0x00100693 ∷ did 0x80000008 0x10060413 ∷ loaded 0x8000000c 0x00d4272f 0 ∷ did 0x80000010 0x8330000f ∷ loaded 0x80000014 0x20062783 0 ∷ [])
    ∷ [])
    []

-- behind FENCE.TSO an AMO counts as a store
-- hart 0: lui x12, 0x80000; addi x13, x0, 1; addi x9, x12, 512; sw x13, 0x100(x12); fence.tso; amoadd.w x14, x13, (x9) (reads 0)
abbrev pub store_fence_tso_amo : History
store_fence_tso_amo =
    trace (image_with (0x80000637 ∷ 0x00100693 ∷ 0x20060493 ∷ 0x10d62023 ∷ 0x8330000f ∷ 0x00d4a72f ∷ []))
    ((did 0x80000000 0x80000637 ∷ did 0x80000004 0x00100693 ∷ did 0x80000008 0x20060493 ∷ did 0x8000000c 0x10d62023 ∷ did 0x80000010 0x8330000f ∷ loaded 0x80000014 0x00d4a72f 0 ∷ [])
    ∷ [])
    []

-- an AMO is in a FENCE's set as a store
-- hart 0: lui x12, 0x80000; addi x13, x0, 1; addi x8, x12, 256; amoadd.w x14, x13, (x8) (reads 0); fence w, w; sw x13, 0x200(x12)
abbrev pub amo_fence_w_w_store : History
amo_fence_w_w_store =
    trace (image_with (0x80000637 ∷ 0x00100693 ∷ 0x10060413 ∷ 0x00d4272f ∷ 0x0110000f ∷ 0x20d62023 ∷ []))
    ((did 0x80000000 0x80000637 ∷ did 0x80000004 0x00100693 ∷ did 0x80000008 0x10060413 ∷ loaded 0x8000000c 0x00d4272f 0 ∷ did 0x80000010 0x0110000f ∷ did 0x80000014 0x20d62023 ∷ [])
    ∷ [])
    []

-- and as a load
-- hart 0: lui x12, 0x80000; addi x13, x0, 1; addi x8, x12, 256; amoadd.w x14, x13, (x8) (reads 0); fence r, w; sw x13, 0x200(x12)
abbrev pub amo_fence_r_w_store : History
amo_fence_r_w_store =
    trace (image_with (0x80000637 ∷ 0x00100693 ∷ 0x10060413 ∷ 0x00d4272f ∷ 0x0210000f ∷ 0x20d62023 ∷ []))
    ((did 0x80000000 0x80000637 ∷ did 0x80000004 0x00100693 ∷ did 0x80000008 0x10060413 ∷ loaded 0x8000000c 0x00d4272f 0 ∷ did 0x80000010 0x0210000f ∷ did 0x80000014 0x20d62023 ∷ [])
    ∷ [])
    []

-- a load and then a store, with a fence between that orders loads before stores
-- hart 0: lui x12, 0x80000; addi x13, x0, 1; lw x14, 0x100(x12) (reads 0); fence r, w; sw x13, 0x200(x12)
abbrev pub load_fence_r_w : History
load_fence_r_w =
    trace (image_with (0x80000637 ∷ 0x00100693 ∷ 0x10062703 ∷ 0x0210000f ∷ 0x20d62023 ∷ []))
    ((did 0x80000000 0x80000637 ∷ did 0x80000004 0x00100693 ∷ loaded 0x80000008 0x10062703 0 ∷ did 0x8000000c 0x0210000f ∷ did 0x80000010 0x20d62023 ∷ [])
    ∷ [])
    []

-- an LR is a load to a fence
-- hart 0: lui x12, 0x80000; addi x13, x0, 1; addi x8, x12, 256; lr.w x14, (x8) (reads 0); fence r, w; sw x13, 0x200(x12)
abbrev pub lr_fence_r_w : History
lr_fence_r_w =
    trace (image_with (0x80000637 ∷ 0x00100693 ∷ 0x10060413 ∷ 0x1004272f ∷ 0x0210000f ∷ 0x20d62023 ∷ []))
    ((did 0x80000000 0x80000637 ∷ did 0x80000004 0x00100693 ∷ did 0x80000008 0x10060413 ∷ loaded 0x8000000c 0x1004272f 0 ∷ did 0x80000010 0x0210000f ∷ did 0x80000014 0x20d62023 ∷ [])
    ∷ [])
    []

-- an SC is a store to a fence
-- hart 0: lui x12, 0x80000; addi x13, x0, 1; addi x8, x12, 256; lr.w x14, (x8) (reads 0); sc.w x15, x13, (x8) (succeeds); fence w, w; sw x13, 0x200(x12)
abbrev pub sc_fence_w_w : History
sc_fence_w_w =
    trace (image_with (0x80000637 ∷ 0x00100693 ∷ 0x10060413 ∷ 0x1004272f ∷ 0x18d427af ∷ 0x0110000f ∷ 0x20d62023 ∷ []))
    ((did 0x80000000 0x80000637 ∷ did 0x80000004 0x00100693 ∷ did 0x80000008 0x10060413 ∷ loaded 0x8000000c 0x1004272f 0 ∷ tried 0x80000010 0x18d427af true ∷ did 0x80000014 0x0110000f ∷ did 0x80000018 0x20d62023 ∷ [])
    ∷ [])
    []

-- an LR behind a fence is a load to it
-- hart 0: lui x12, 0x80000; addi x13, x0, 1; addi x8, x12, 256; lw x14, 0x200(x12) (reads 0); fence r, r; lr.w x15, (x8) (reads 0)
abbrev pub load_fence_r_r_lr : History
load_fence_r_r_lr =
    trace (image_with (0x80000637 ∷ 0x00100693 ∷ 0x10060413 ∷ 0x20062703 ∷ 0x0220000f ∷ 0x100427af ∷ []))
    ((did 0x80000000 0x80000637 ∷ did 0x80000004 0x00100693 ∷ did 0x80000008 0x10060413 ∷ loaded 0x8000000c 0x20062703 0 ∷ did 0x80000010 0x0220000f ∷ loaded 0x80000014 0x100427af 0 ∷ [])
    ∷ [])
    []

-- an SC behind a fence is a store to it
-- hart 0: lui x12, 0x80000; addi x13, x0, 1; addi x8, x12, 256; lr.w x14, (x8) (reads 0); sw x13, 0x200(x12); fence w, w; sc.w x15, x13, (x8) (succeeds)
abbrev pub store_fence_w_w_sc : History
store_fence_w_w_sc =
    trace (image_with (0x80000637 ∷ 0x00100693 ∷ 0x10060413 ∷ 0x1004272f ∷ 0x20d62023 ∷ 0x0110000f ∷ 0x18d427af ∷ []))
    ((did 0x80000000 0x80000637 ∷ did 0x80000004 0x00100693 ∷ did 0x80000008 0x10060413 ∷ loaded 0x8000000c 0x1004272f 0 ∷ did 0x80000010 0x20d62023 ∷ did 0x80000014 0x0110000f ∷ tried 0x80000018 0x18d427af true ∷ [])
    ∷ [])
    []

-- an AMO behind a fence is a load to it
-- hart 0: lui x12, 0x80000; addi x13, x0, 1; addi x8, x12, 256; sw x13, 0x200(x12); fence w, r; amoadd.w x15, x13, (x8) (reads 0)
abbrev pub store_fence_w_r_amo : History
store_fence_w_r_amo =
    trace (image_with (0x80000637 ∷ 0x00100693 ∷ 0x10060413 ∷ 0x20d62023 ∷ 0x0120000f ∷ 0x00d427af ∷ []))
    ((did 0x80000000 0x80000637 ∷ did 0x80000004 0x00100693 ∷ did 0x80000008 0x10060413 ∷ did 0x8000000c 0x20d62023 ∷ did 0x80000010 0x0120000f ∷ loaded 0x80000014 0x00d427af 0 ∷ [])
    ∷ [])
    []

-- and a store
-- hart 0: lui x12, 0x80000; addi x13, x0, 1; addi x8, x12, 256; sw x13, 0x200(x12); fence w, w; amoadd.w x15, x13, (x8) (reads 0)
abbrev pub store_fence_w_w_amo : History
store_fence_w_w_amo =
    trace (image_with (0x80000637 ∷ 0x00100693 ∷ 0x10060413 ∷ 0x20d62023 ∷ 0x0110000f ∷ 0x00d427af ∷ []))
    ((did 0x80000000 0x80000637 ∷ did 0x80000004 0x00100693 ∷ did 0x80000008 0x10060413 ∷ did 0x8000000c 0x20d62023 ∷ did 0x80000010 0x0110000f ∷ loaded 0x80000014 0x00d427af 0 ∷ [])
    ∷ [])
    []

-- an LR is a load to FENCE.TSO
-- hart 0: lui x12, 0x80000; addi x13, x0, 1; addi x8, x12, 256; lr.w x14, (x8) (reads 0); fence.tso; lw x15, 0x200(x12) (reads 0)
abbrev pub lr_fence_tso_load : History
lr_fence_tso_load =
    trace (image_with (0x80000637 ∷ 0x00100693 ∷ 0x10060413 ∷ 0x1004272f ∷ 0x8330000f ∷ 0x20062783 ∷ []))
    ((did 0x80000000 0x80000637 ∷ did 0x80000004 0x00100693 ∷ did 0x80000008 0x10060413 ∷ loaded 0x8000000c 0x1004272f 0 ∷ did 0x80000010 0x8330000f ∷ loaded 0x80000014 0x20062783 0 ∷ [])
    ∷ [])
    []

-- an SC is a store to FENCE.TSO
-- hart 0: lui x12, 0x80000; addi x13, x0, 1; addi x8, x12, 256; lr.w x14, (x8) (reads 0); sc.w x15, x13, (x8) (succeeds); fence.tso; sw x13, 0x200(x12)
abbrev pub sc_fence_tso_store : History
sc_fence_tso_store =
    trace (image_with (0x80000637 ∷ 0x00100693 ∷ 0x10060413 ∷ 0x1004272f ∷ 0x18d427af ∷ 0x8330000f ∷ 0x20d62023 ∷ []))
    ((did 0x80000000 0x80000637 ∷ did 0x80000004 0x00100693 ∷ did 0x80000008 0x10060413 ∷ loaded 0x8000000c 0x1004272f 0 ∷ tried 0x80000010 0x18d427af true ∷ did 0x80000014 0x8330000f ∷ did 0x80000018 0x20d62023 ∷ [])
    ∷ [])
    []

-- and so is one behind it
-- hart 0: lui x12, 0x80000; addi x13, x0, 1; addi x8, x12, 256; lr.w x14, (x8) (reads 0); sw x13, 0x200(x12); fence.tso; sc.w x15, x13, (x8) (succeeds)
abbrev pub store_fence_tso_sc : History
store_fence_tso_sc =
    trace (image_with (0x80000637 ∷ 0x00100693 ∷ 0x10060413 ∷ 0x1004272f ∷ 0x20d62023 ∷ 0x8330000f ∷ 0x18d427af ∷ []))
    ((did 0x80000000 0x80000637 ∷ did 0x80000004 0x00100693 ∷ did 0x80000008 0x10060413 ∷ loaded 0x8000000c 0x1004272f 0 ∷ did 0x80000010 0x20d62023 ∷ did 0x80000014 0x8330000f ∷ tried 0x80000018 0x18d427af true ∷ [])
    ∷ [])
    []

-- ---- rule 5

-- an AMO with aq, and a load
-- hart 0: lui x12, 0x80000; addi x13, x0, 1; addi x8, x12, 256; amoadd.w.aq x14, x13, (x8) (reads 0); lw x15, 0x200(x12) (reads 0)
abbrev pub amo_aq_load : History
amo_aq_load =
    trace (image_with (0x80000637 ∷ 0x00100693 ∷ 0x10060413 ∷ 0x04d4272f ∷ 0x20062783 ∷ []))
    ((did 0x80000000 0x80000637 ∷ did 0x80000004 0x00100693 ∷ did 0x80000008 0x10060413 ∷ loaded 0x8000000c 0x04d4272f 0 ∷ loaded 0x80000010 0x20062783 0 ∷ [])
    ∷ [])
    []

-- with rl in its place
-- hart 0: lui x12, 0x80000; addi x13, x0, 1; addi x8, x12, 256; amoadd.w.rl x14, x13, (x8) (reads 0); lw x15, 0x200(x12) (reads 0)
abbrev pub amo_rl_load : History
amo_rl_load =
    trace (image_with (0x80000637 ∷ 0x00100693 ∷ 0x10060413 ∷ 0x02d4272f ∷ 0x20062783 ∷ []))
    ((did 0x80000000 0x80000637 ∷ did 0x80000004 0x00100693 ∷ did 0x80000008 0x10060413 ∷ loaded 0x8000000c 0x02d4272f 0 ∷ loaded 0x80000010 0x20062783 0 ∷ [])
    ∷ [])
    []

-- an LR with aq, and a load
-- hart 0: lui x12, 0x80000; addi x13, x0, 1; addi x8, x12, 256; lr.w.aq x14, (x8) (reads 0); lw x15, 0x200(x12) (reads 0)
abbrev pub lr_aq_load : History
lr_aq_load =
    trace (image_with (0x80000637 ∷ 0x00100693 ∷ 0x10060413 ∷ 0x1404272f ∷ 0x20062783 ∷ []))
    ((did 0x80000000 0x80000637 ∷ did 0x80000004 0x00100693 ∷ did 0x80000008 0x10060413 ∷ loaded 0x8000000c 0x1404272f 0 ∷ loaded 0x80000010 0x20062783 0 ∷ [])
    ∷ [])
    []

-- an SC with aq that succeeds, and a load
-- hart 0: lui x12, 0x80000; addi x13, x0, 1; addi x8, x12, 256; sc.w.aq x14, x13, (x8) (succeeds); lw x15, 0x200(x12) (reads 0)
abbrev pub sc_aq_load : History
sc_aq_load =
    trace (image_with (0x80000637 ∷ 0x00100693 ∷ 0x10060413 ∷ 0x1cd4272f ∷ 0x20062783 ∷ []))
    ((did 0x80000000 0x80000637 ∷ did 0x80000004 0x00100693 ∷ did 0x80000008 0x10060413 ∷ tried 0x8000000c 0x1cd4272f true ∷ loaded 0x80000010 0x20062783 0 ∷ [])
    ∷ [])
    []

-- an LR without annotations, and a load
-- hart 0: lui x12, 0x80000; addi x13, x0, 1; addi x8, x12, 256; lr.w x14, (x8) (reads 0); lw x15, 0x200(x12) (reads 0)
abbrev pub lr_load : History
lr_load =
    trace (image_with (0x80000637 ∷ 0x00100693 ∷ 0x10060413 ∷ 0x1004272f ∷ 0x20062783 ∷ []))
    ((did 0x80000000 0x80000637 ∷ did 0x80000004 0x00100693 ∷ did 0x80000008 0x10060413 ∷ loaded 0x8000000c 0x1004272f 0 ∷ loaded 0x80000010 0x20062783 0 ∷ [])
    ∷ [])
    []

-- two loads of different words
-- hart 0: lui x12, 0x80000; addi x13, x0, 1; lw x14, 0x100(x12) (reads 0); lw x15, 0x200(x12) (reads 0)
abbrev pub loads_of_two_words : History
loads_of_two_words =
    trace (image_with (0x80000637 ∷ 0x00100693 ∷ 0x10062703 ∷ 0x20062783 ∷ []))
    ((did 0x80000000 0x80000637 ∷ did 0x80000004 0x00100693 ∷ loaded 0x80000008 0x10062703 0 ∷ loaded 0x8000000c 0x20062783 0 ∷ [])
    ∷ [])
    []

-- ---- rule 6

-- a store, and an AMO with rl
-- hart 0: lui x12, 0x80000; addi x13, x0, 1; addi x9, x12, 512; sw x13, 0x100(x12); amoadd.w.rl x14, x13, (x9) (reads 0)
abbrev pub store_amo_rl : History
store_amo_rl =
    trace (image_with (0x80000637 ∷ 0x00100693 ∷ 0x20060493 ∷ 0x10d62023 ∷ 0x02d4a72f ∷ []))
    ((did 0x80000000 0x80000637 ∷ did 0x80000004 0x00100693 ∷ did 0x80000008 0x20060493 ∷ did 0x8000000c 0x10d62023 ∷ loaded 0x80000010 0x02d4a72f 0 ∷ [])
    ∷ [])
    []

-- with aq in its place
-- hart 0: lui x12, 0x80000; addi x13, x0, 1; addi x9, x12, 512; sw x13, 0x100(x12); amoadd.w.aq x14, x13, (x9) (reads 0)
abbrev pub store_amo_aq : History
store_amo_aq =
    trace (image_with (0x80000637 ∷ 0x00100693 ∷ 0x20060493 ∷ 0x10d62023 ∷ 0x04d4a72f ∷ []))
    ((did 0x80000000 0x80000637 ∷ did 0x80000004 0x00100693 ∷ did 0x80000008 0x20060493 ∷ did 0x8000000c 0x10d62023 ∷ loaded 0x80000010 0x04d4a72f 0 ∷ [])
    ∷ [])
    []

-- a load, and an SC with rl that succeeds
-- hart 0: lui x12, 0x80000; addi x13, x0, 1; addi x9, x12, 512; lw x15, 0x100(x12) (reads 0); sc.w.rl x14, x13, (x9) (succeeds)
abbrev pub load_sc_rl : History
load_sc_rl =
    trace (image_with (0x80000637 ∷ 0x00100693 ∷ 0x20060493 ∷ 0x10062783 ∷ 0x1ad4a72f ∷ []))
    ((did 0x80000000 0x80000637 ∷ did 0x80000004 0x00100693 ∷ did 0x80000008 0x20060493 ∷ loaded 0x8000000c 0x10062783 0 ∷ tried 0x80000010 0x1ad4a72f true ∷ [])
    ∷ [])
    []

-- a load, and an LR with rl
-- hart 0: lui x12, 0x80000; addi x13, x0, 1; addi x9, x12, 512; lw x15, 0x100(x12) (reads 0); lr.w.rl x14, (x9) (reads 0)
abbrev pub load_lr_rl : History
load_lr_rl =
    trace (image_with (0x80000637 ∷ 0x00100693 ∷ 0x20060493 ∷ 0x10062783 ∷ 0x1204a72f ∷ []))
    ((did 0x80000000 0x80000637 ∷ did 0x80000004 0x00100693 ∷ did 0x80000008 0x20060493 ∷ loaded 0x8000000c 0x10062783 0 ∷ loaded 0x80000010 0x1204a72f 0 ∷ [])
    ∷ [])
    []

-- a store, and an SC that succeeds
-- hart 0: lui x12, 0x80000; addi x13, x0, 1; addi x9, x12, 512; sw x13, 0x100(x12); sc.w x14, x13, (x9) (succeeds)
abbrev pub store_sc : History
store_sc =
    trace (image_with (0x80000637 ∷ 0x00100693 ∷ 0x20060493 ∷ 0x10d62023 ∷ 0x18d4a72f ∷ []))
    ((did 0x80000000 0x80000637 ∷ did 0x80000004 0x00100693 ∷ did 0x80000008 0x20060493 ∷ did 0x8000000c 0x10d62023 ∷ tried 0x80000010 0x18d4a72f true ∷ [])
    ∷ [])
    []

-- ---- rule 7

-- an SC with rl that succeeds, and an LR with aq
-- hart 0: lui x12, 0x80000; addi x13, x0, 1; addi x8, x12, 256; addi x9, x12, 512; sc.w.rl x14, x13, (x8) (succeeds); lr.w.aq x15, (x9) (reads 0)
abbrev pub sc_rl_lr_aq : History
sc_rl_lr_aq =
    trace (image_with (0x80000637 ∷ 0x00100693 ∷ 0x10060413 ∷ 0x20060493 ∷ 0x1ad4272f ∷ 0x1404a7af ∷ []))
    ((did 0x80000000 0x80000637 ∷ did 0x80000004 0x00100693 ∷ did 0x80000008 0x10060413 ∷ did 0x8000000c 0x20060493 ∷ tried 0x80000010 0x1ad4272f true ∷ loaded 0x80000014 0x1404a7af 0 ∷ [])
    ∷ [])
    []

-- a plain store, and an LR with aq
-- hart 0: lui x12, 0x80000; addi x13, x0, 1; addi x9, x12, 512; sw x13, 0x100(x12); lr.w.aq x15, (x9) (reads 0)
abbrev pub store_lr_aq : History
store_lr_aq =
    trace (image_with (0x80000637 ∷ 0x00100693 ∷ 0x20060493 ∷ 0x10d62023 ∷ 0x1404a7af ∷ []))
    ((did 0x80000000 0x80000637 ∷ did 0x80000004 0x00100693 ∷ did 0x80000008 0x20060493 ∷ did 0x8000000c 0x10d62023 ∷ loaded 0x80000010 0x1404a7af 0 ∷ [])
    ∷ [])
    []

-- an SC that succeeds and an LR, without annotations
-- hart 0: lui x12, 0x80000; addi x13, x0, 1; addi x8, x12, 256; addi x9, x12, 512; sc.w x14, x13, (x8) (succeeds); lr.w x15, (x9) (reads 0)
abbrev pub sc_lr : History
sc_lr =
    trace (image_with (0x80000637 ∷ 0x00100693 ∷ 0x10060413 ∷ 0x20060493 ∷ 0x18d4272f ∷ 0x1004a7af ∷ []))
    ((did 0x80000000 0x80000637 ∷ did 0x80000004 0x00100693 ∷ did 0x80000008 0x10060413 ∷ did 0x8000000c 0x20060493 ∷ tried 0x80000010 0x18d4272f true ∷ loaded 0x80000014 0x1004a7af 0 ∷ [])
    ∷ [])
    []

-- a store, an AMO and a load of three words
-- hart 0: lui x12, 0x80000; addi x13, x0, 1; addi x9, x12, 512; sw x13, 0x100(x12); amoadd.w x14, x13, (x9) (reads 0); lw x15, 0x300(x12) (reads 0)
abbrev pub store_amo_load : History
store_amo_load =
    trace (image_with (0x80000637 ∷ 0x00100693 ∷ 0x20060493 ∷ 0x10d62023 ∷ 0x00d4a72f ∷ 0x30062783 ∷ []))
    ((did 0x80000000 0x80000637 ∷ did 0x80000004 0x00100693 ∷ did 0x80000008 0x20060493 ∷ did 0x8000000c 0x10d62023 ∷ loaded 0x80000010 0x00d4a72f 0 ∷ loaded 0x80000014 0x30062783 0 ∷ [])
    ∷ [])
    []

-- an SC with rl that succeeds, and an LR without bits
-- hart 0: lui x12, 0x80000; addi x13, x0, 1; addi x8, x12, 256; addi x9, x12, 512; sc.w.rl x14, x13, (x8) (succeeds); lr.w x15, (x9) (reads 0)
abbrev pub sc_rl_lr : History
sc_rl_lr =
    trace (image_with (0x80000637 ∷ 0x00100693 ∷ 0x10060413 ∷ 0x20060493 ∷ 0x1ad4272f ∷ 0x1004a7af ∷ []))
    ((did 0x80000000 0x80000637 ∷ did 0x80000004 0x00100693 ∷ did 0x80000008 0x10060413 ∷ did 0x8000000c 0x20060493 ∷ tried 0x80000010 0x1ad4272f true ∷ loaded 0x80000014 0x1004a7af 0 ∷ [])
    ∷ [])
    []

-- ---- rule 8

-- an LR and an SC of another word that succeeds
-- hart 0: lui x12, 0x80000; addi x13, x0, 1; addi x8, x12, 256; addi x9, x12, 512; lr.w x15, (x8) (reads 0); sc.w x14, x13, (x9) (succeeds)
abbrev pub pair_of_two_words : History
pair_of_two_words =
    trace (image_with (0x80000637 ∷ 0x00100693 ∷ 0x10060413 ∷ 0x20060493 ∷ 0x100427af ∷ 0x18d4a72f ∷ []))
    ((did 0x80000000 0x80000637 ∷ did 0x80000004 0x00100693 ∷ did 0x80000008 0x10060413 ∷ did 0x8000000c 0x20060493 ∷ loaded 0x80000010 0x100427af 0 ∷ tried 0x80000014 0x18d4a72f true ∷ [])
    ∷ [])
    []

-- an SC that fails stands between
-- hart 0: lui x12, 0x80000; addi x13, x0, 1; addi x8, x12, 256; addi x9, x12, 512; lr.w x15, (x8) (reads 0); sc.w x16, x13, (x9) (fails); sc.w x14, x13, (x9) (succeeds)
abbrev pub failed_sc_between : History
failed_sc_between =
    trace (image_with (0x80000637 ∷ 0x00100693 ∷ 0x10060413 ∷ 0x20060493 ∷ 0x100427af ∷ 0x18d4a82f ∷ 0x18d4a72f ∷ []))
    ((did 0x80000000 0x80000637 ∷ did 0x80000004 0x00100693 ∷ did 0x80000008 0x10060413 ∷ did 0x8000000c 0x20060493 ∷ loaded 0x80000010 0x100427af 0 ∷ tried 0x80000014 0x18d4a82f false ∷ tried 0x80000018 0x18d4a72f true ∷ [])
    ∷ [])
    []

-- another LR stands between: that one is paired
-- hart 0: lui x12, 0x80000; addi x13, x0, 1; addi x8, x12, 256; addi x9, x12, 512; lr.w x15, (x8) (reads 0); lr.w x16, (x9) (reads 0); sc.w x14, x13, (x9) (succeeds)
abbrev pub another_lr_between : History
another_lr_between =
    trace (image_with (0x80000637 ∷ 0x00100693 ∷ 0x10060413 ∷ 0x20060493 ∷ 0x100427af ∷ 0x1004a82f ∷ 0x18d4a72f ∷ []))
    ((did 0x80000000 0x80000637 ∷ did 0x80000004 0x00100693 ∷ did 0x80000008 0x10060413 ∷ did 0x8000000c 0x20060493 ∷ loaded 0x80000010 0x100427af 0 ∷ loaded 0x80000014 0x1004a82f 0 ∷ tried 0x80000018 0x18d4a72f true ∷ [])
    ∷ [])
    []

-- ---- rule 9

-- a load whose value is in the address of another
-- hart 0: lui x12, 0x80000; addi x13, x0, 1; lw x14, 0x100(x12) (reads 0); add x15, x12, x14; lw x16, 0x200(x15) (reads 0)
abbrev pub address_from_load : History
address_from_load =
    trace (image_with (0x80000637 ∷ 0x00100693 ∷ 0x10062703 ∷ 0x00e607b3 ∷ 0x2007a803 ∷ []))
    ((did 0x80000000 0x80000637 ∷ did 0x80000004 0x00100693 ∷ loaded 0x80000008 0x10062703 0 ∷ did 0x8000000c 0x00e607b3 ∷ loaded 0x80000010 0x2007a803 0 ∷ [])
    ∷ [])
    []

-- the register is written in between
-- hart 0: lui x12, 0x80000; addi x13, x0, 1; lw x14, 0x100(x12) (reads 0); addi x14, x0, 0; add x15, x12, x14; lw x16, 0x200(x15) (reads 0)
abbrev pub address_overwritten : History
address_overwritten =
    trace (image_with (0x80000637 ∷ 0x00100693 ∷ 0x10062703 ∷ 0x00000713 ∷ 0x00e607b3 ∷ 0x2007a803 ∷ []))
    ((did 0x80000000 0x80000637 ∷ did 0x80000004 0x00100693 ∷ loaded 0x80000008 0x10062703 0 ∷ did 0x8000000c 0x00000713 ∷ did 0x80000010 0x00e607b3 ∷ loaded 0x80000014 0x2007a803 0 ∷ [])
    ∷ [])
    []

-- the load writes x0
-- hart 0: lui x12, 0x80000; addi x13, x0, 1; lw x0, 0x100(x12) (reads 0); add x15, x12, x0; lw x16, 0x200(x15) (reads 0)
abbrev pub address_through_x0 : History
address_through_x0 =
    trace (image_with (0x80000637 ∷ 0x00100693 ∷ 0x10062003 ∷ 0x000607b3 ∷ 0x2007a803 ∷ []))
    ((did 0x80000000 0x80000637 ∷ did 0x80000004 0x00100693 ∷ loaded 0x80000008 0x10062003 0 ∷ did 0x8000000c 0x000607b3 ∷ loaded 0x80000010 0x2007a803 0 ∷ [])
    ∷ [])
    []

-- an SC that fails carries from its sources to its destination
-- hart 0: lui x12, 0x80000; addi x13, x0, 1; addi x8, x12, 256; lw x14, 0x100(x12) (reads 0); sc.w x15, x14, (x8) (fails); add x16, x12, x15; lbu x17, 0x200(x16) (reads 0)
abbrev pub address_through_failed_sc : History
address_through_failed_sc =
    trace (image_with (0x80000637 ∷ 0x00100693 ∷ 0x10060413 ∷ 0x10062703 ∷ 0x18e427af ∷ 0x00f60833 ∷ 0x20084883 ∷ []))
    ((did 0x80000000 0x80000637 ∷ did 0x80000004 0x00100693 ∷ did 0x80000008 0x10060413 ∷ loaded 0x8000000c 0x10062703 0 ∷ tried 0x80000010 0x18e427af false ∷ did 0x80000014 0x00f60833 ∷ loaded 0x80000018 0x20084883 0 ∷ [])
    ∷ [])
    []

-- the rd bits of a FENCE end nothing
-- hart 0: lui x12, 0x80000; addi x13, x0, 1; lw x14, 0x100(x12) (reads 0); fence w, w (rd 14); add x15, x12, x14; lw x16, 0x200(x15) (reads 0)
abbrev pub address_past_fence : History
address_past_fence =
    trace (image_with (0x80000637 ∷ 0x00100693 ∷ 0x10062703 ∷ 0x0110070f ∷ 0x00e607b3 ∷ 0x2007a803 ∷ []))
    ((did 0x80000000 0x80000637 ∷ did 0x80000004 0x00100693 ∷ loaded 0x80000008 0x10062703 0 ∷ did 0x8000000c 0x0110070f ∷ did 0x80000010 0x00e607b3 ∷ loaded 0x80000014 0x2007a803 0 ∷ [])
    ∷ [])
    []

-- a JALR carries from its source to its destination
-- hart 0: lui x12, 0x80000; addi x13, x0, 1; lw x14, 0x18(x12) (reads 0x80000010); jalr x15, 0(x14); lw x16, 0x200(x15) (reads 0)
abbrev pub address_through_jalr : History
address_through_jalr =
    trace (image_with (0x80000637 ∷ 0x00100693 ∷ 0x01862703 ∷ 0x000707e7 ∷ 0x2007a803 ∷ 0x00000000 ∷ 0x80000010 ∷ []))
    ((did 0x80000000 0x80000637 ∷ did 0x80000004 0x00100693 ∷ loaded 0x80000008 0x01862703 0x80000010 ∷ did 0x8000000c 0x000707e7 ∷ loaded 0x80000010 0x2007a803 0 ∷ [])
    ∷ [])
    []

-- a store whose address comes from a load
-- hart 0: lui x12, 0x80000; addi x13, x0, 1; addi x9, x12, 512; lw x14, 0x100(x12) (reads 0); add x16, x9, x14; sw x13, 0(x16)
abbrev pub store_to_loaded_address : History
store_to_loaded_address =
    trace (image_with (0x80000637 ∷ 0x00100693 ∷ 0x20060493 ∷ 0x10062703 ∷ 0x00e48833 ∷ 0x00d82023 ∷ []))
    ((did 0x80000000 0x80000637 ∷ did 0x80000004 0x00100693 ∷ did 0x80000008 0x20060493 ∷ loaded 0x8000000c 0x10062703 0 ∷ did 0x80000010 0x00e48833 ∷ did 0x80000014 0x00d82023 ∷ [])
    ∷ [])
    []

-- an LR whose address comes from a load
-- hart 0: lui x12, 0x80000; addi x13, x0, 1; addi x9, x12, 512; lw x14, 0x100(x12) (reads 0); add x16, x9, x14; lr.w x15, (x16) (reads 0)
abbrev pub lr_of_loaded_address : History
lr_of_loaded_address =
    trace (image_with (0x80000637 ∷ 0x00100693 ∷ 0x20060493 ∷ 0x10062703 ∷ 0x00e48833 ∷ 0x100827af ∷ []))
    ((did 0x80000000 0x80000637 ∷ did 0x80000004 0x00100693 ∷ did 0x80000008 0x20060493 ∷ loaded 0x8000000c 0x10062703 0 ∷ did 0x80000010 0x00e48833 ∷ loaded 0x80000014 0x100827af 0 ∷ [])
    ∷ [])
    []

-- an SC whose address comes from a load
-- hart 0: lui x12, 0x80000; addi x13, x0, 1; addi x9, x12, 512; lr.w x17, (x9) (reads 0); lw x14, 0x100(x12) (reads 0); add x16, x9, x14; sc.w x15, x13, (x16) (succeeds)
abbrev pub sc_to_loaded_address : History
sc_to_loaded_address =
    trace (image_with (0x80000637 ∷ 0x00100693 ∷ 0x20060493 ∷ 0x1004a8af ∷ 0x10062703 ∷ 0x00e48833 ∷ 0x18d827af ∷ []))
    ((did 0x80000000 0x80000637 ∷ did 0x80000004 0x00100693 ∷ did 0x80000008 0x20060493 ∷ loaded 0x8000000c 0x1004a8af 0 ∷ loaded 0x80000010 0x10062703 0 ∷ did 0x80000014 0x00e48833 ∷ tried 0x80000018 0x18d827af true ∷ [])
    ∷ [])
    []

-- an AMO whose address comes from a load
-- hart 0: lui x12, 0x80000; addi x13, x0, 1; addi x9, x12, 512; lw x14, 0x100(x12) (reads 0); add x16, x9, x14; amoadd.w x15, x13, (x16) (reads 0)
abbrev pub amo_of_loaded_address : History
amo_of_loaded_address =
    trace (image_with (0x80000637 ∷ 0x00100693 ∷ 0x20060493 ∷ 0x10062703 ∷ 0x00e48833 ∷ 0x00d827af ∷ []))
    ((did 0x80000000 0x80000637 ∷ did 0x80000004 0x00100693 ∷ did 0x80000008 0x20060493 ∷ loaded 0x8000000c 0x10062703 0 ∷ did 0x80000010 0x00e48833 ∷ loaded 0x80000014 0x00d827af 0 ∷ [])
    ∷ [])
    []

-- an address through the address of a load between
-- hart 0: lui x12, 0x80000; addi x13, x0, 1; addi x9, x12, 512; lw x14, 0x100(x12) (reads 0); add x16, x9, x14; lw x18, 0(x16) (reads 0); add x19, x12, x18; lw x20, 0x300(x19) (reads 0)
abbrev pub address_through_load : History
address_through_load =
    trace (image_with (0x80000637 ∷ 0x00100693 ∷ 0x20060493 ∷ 0x10062703 ∷ 0x00e48833 ∷ 0x00082903 ∷ 0x012609b3 ∷ 0x3009aa03 ∷ []))
    ((did 0x80000000 0x80000637 ∷ did 0x80000004 0x00100693 ∷ did 0x80000008 0x20060493 ∷ loaded 0x8000000c 0x10062703 0 ∷ did 0x80000010 0x00e48833 ∷ loaded 0x80000014 0x00082903 0 ∷ did 0x80000018 0x012609b3 ∷ loaded 0x8000001c 0x3009aa03 0 ∷ [])
    ∷ [])
    []

-- an address through the address of an LR between
-- hart 0: lui x12, 0x80000; addi x13, x0, 1; addi x9, x12, 512; lw x14, 0x100(x12) (reads 0); add x16, x9, x14; lr.w x18, (x16) (reads 0); add x19, x12, x18; lw x20, 0x300(x19) (reads 0)
abbrev pub address_through_lr : History
address_through_lr =
    trace (image_with (0x80000637 ∷ 0x00100693 ∷ 0x20060493 ∷ 0x10062703 ∷ 0x00e48833 ∷ 0x1008292f ∷ 0x012609b3 ∷ 0x3009aa03 ∷ []))
    ((did 0x80000000 0x80000637 ∷ did 0x80000004 0x00100693 ∷ did 0x80000008 0x20060493 ∷ loaded 0x8000000c 0x10062703 0 ∷ did 0x80000010 0x00e48833 ∷ loaded 0x80000014 0x1008292f 0 ∷ did 0x80000018 0x012609b3 ∷ loaded 0x8000001c 0x3009aa03 0 ∷ [])
    ∷ [])
    []

-- an address through the address of an AMO between
-- hart 0: lui x12, 0x80000; addi x13, x0, 1; addi x9, x12, 512; lw x14, 0x100(x12) (reads 0); add x16, x9, x14; amoadd.w x18, x13, (x16) (reads 0); add x19, x12, x18; lw x20, 0x300(x19) (reads 0)
abbrev pub address_through_amo_address : History
address_through_amo_address =
    trace (image_with (0x80000637 ∷ 0x00100693 ∷ 0x20060493 ∷ 0x10062703 ∷ 0x00e48833 ∷ 0x00d8292f ∷ 0x012609b3 ∷ 0x3009aa03 ∷ []))
    ((did 0x80000000 0x80000637 ∷ did 0x80000004 0x00100693 ∷ did 0x80000008 0x20060493 ∷ loaded 0x8000000c 0x10062703 0 ∷ did 0x80000010 0x00e48833 ∷ loaded 0x80000014 0x00d8292f 0 ∷ did 0x80000018 0x012609b3 ∷ loaded 0x8000001c 0x3009aa03 0 ∷ [])
    ∷ [])
    []

-- an address through the operand of an AMO between
-- hart 0: lui x12, 0x80000; addi x13, x0, 1; addi x9, x12, 512; lw x14, 0x100(x12) (reads 0); amoadd.w x18, x14, (x9) (reads 0); add x19, x12, x18; lw x20, 0x300(x19) (reads 0)
abbrev pub address_through_amo_operand : History
address_through_amo_operand =
    trace (image_with (0x80000637 ∷ 0x00100693 ∷ 0x20060493 ∷ 0x10062703 ∷ 0x00e4a92f ∷ 0x012609b3 ∷ 0x3009aa03 ∷ []))
    ((did 0x80000000 0x80000637 ∷ did 0x80000004 0x00100693 ∷ did 0x80000008 0x20060493 ∷ loaded 0x8000000c 0x10062703 0 ∷ loaded 0x80000010 0x00e4a92f 0 ∷ did 0x80000014 0x012609b3 ∷ loaded 0x80000018 0x3009aa03 0 ∷ [])
    ∷ [])
    []

-- ---- rule 10

-- a load whose value is stored
-- hart 0: lui x12, 0x80000; addi x13, x0, 1; lw x14, 0x100(x12) (reads 0); sw x14, 0x200(x12)
abbrev pub data_from_load : History
data_from_load =
    trace (image_with (0x80000637 ∷ 0x00100693 ∷ 0x10062703 ∷ 0x20e62023 ∷ []))
    ((did 0x80000000 0x80000637 ∷ did 0x80000004 0x00100693 ∷ loaded 0x80000008 0x10062703 0 ∷ did 0x8000000c 0x20e62023 ∷ [])
    ∷ [])
    []

-- another value is stored
-- hart 0: lui x12, 0x80000; addi x13, x0, 1; lw x14, 0x100(x12) (reads 0); sw x13, 0x200(x12)
abbrev pub data_of_another : History
data_of_another =
    trace (image_with (0x80000637 ∷ 0x00100693 ∷ 0x10062703 ∷ 0x20d62023 ∷ []))
    ((did 0x80000000 0x80000637 ∷ did 0x80000004 0x00100693 ∷ loaded 0x80000008 0x10062703 0 ∷ did 0x8000000c 0x20d62023 ∷ [])
    ∷ [])
    []

-- a load whose value is an AMO's operand
-- hart 0: lui x12, 0x80000; addi x13, x0, 1; addi x9, x12, 512; lw x14, 0x100(x12) (reads 0); amoadd.w x15, x14, (x9) (reads 0)
abbrev pub amo_data_from_load : History
amo_data_from_load =
    trace (image_with (0x80000637 ∷ 0x00100693 ∷ 0x20060493 ∷ 0x10062703 ∷ 0x00e4a7af ∷ []))
    ((did 0x80000000 0x80000637 ∷ did 0x80000004 0x00100693 ∷ did 0x80000008 0x20060493 ∷ loaded 0x8000000c 0x10062703 0 ∷ loaded 0x80000010 0x00e4a7af 0 ∷ [])
    ∷ [])
    []

-- an SC that writes what a load returned
-- hart 0: lui x12, 0x80000; addi x13, x0, 1; addi x9, x12, 512; lr.w x17, (x9) (reads 0); lw x14, 0x100(x12) (reads 0); sc.w x15, x14, (x9) (succeeds)
abbrev pub sc_data_from_load : History
sc_data_from_load =
    trace (image_with (0x80000637 ∷ 0x00100693 ∷ 0x20060493 ∷ 0x1004a8af ∷ 0x10062703 ∷ 0x18e4a7af ∷ []))
    ((did 0x80000000 0x80000637 ∷ did 0x80000004 0x00100693 ∷ did 0x80000008 0x20060493 ∷ loaded 0x8000000c 0x1004a8af 0 ∷ loaded 0x80000010 0x10062703 0 ∷ tried 0x80000014 0x18e4a7af true ∷ [])
    ∷ [])
    []

-- ---- rule 11

-- a branch on a loaded value, and a store
-- hart 0: lui x12, 0x80000; addi x13, x0, 1; lw x14, 0x100(x12) (reads 0); bne x14, x0, 8; sw x13, 0x200(x12)
abbrev pub branch_on_load : History
branch_on_load =
    trace (image_with (0x80000637 ∷ 0x00100693 ∷ 0x10062703 ∷ 0x00071463 ∷ 0x20d62023 ∷ []))
    ((did 0x80000000 0x80000637 ∷ did 0x80000004 0x00100693 ∷ loaded 0x80000008 0x10062703 0 ∷ did 0x8000000c 0x00071463 ∷ did 0x80000010 0x20d62023 ∷ [])
    ∷ [])
    []

-- a load behind the branch
-- hart 0: lui x12, 0x80000; addi x13, x0, 1; lw x14, 0x100(x12) (reads 0); bne x14, x0, 8; lw x15, 0x200(x12) (reads 0)
abbrev pub branch_on_load_then_load : History
branch_on_load_then_load =
    trace (image_with (0x80000637 ∷ 0x00100693 ∷ 0x10062703 ∷ 0x00071463 ∷ 0x20062783 ∷ []))
    ((did 0x80000000 0x80000637 ∷ did 0x80000004 0x00100693 ∷ loaded 0x80000008 0x10062703 0 ∷ did 0x8000000c 0x00071463 ∷ loaded 0x80000010 0x20062783 0 ∷ [])
    ∷ [])
    []

-- the branch is on another register
-- hart 0: lui x12, 0x80000; addi x13, x0, 1; lw x14, 0x100(x12) (reads 0); beq x13, x0, 8; sw x13, 0x200(x12)
abbrev pub branch_on_another : History
branch_on_another =
    trace (image_with (0x80000637 ∷ 0x00100693 ∷ 0x10062703 ∷ 0x00068463 ∷ 0x20d62023 ∷ []))
    ((did 0x80000000 0x80000637 ∷ did 0x80000004 0x00100693 ∷ loaded 0x80000008 0x10062703 0 ∷ did 0x8000000c 0x00068463 ∷ did 0x80000010 0x20d62023 ∷ [])
    ∷ [])
    []

-- a JALR to a loaded address, and a store
-- hart 0: lui x12, 0x80000; addi x13, x0, 1; lw x14, 0x18(x12) (reads 0x80000010); jalr x0, 0(x14); sw x13, 0x200(x12)
abbrev pub jalr_on_load : History
jalr_on_load =
    trace (image_with (0x80000637 ∷ 0x00100693 ∷ 0x01862703 ∷ 0x00070067 ∷ 0x20d62023 ∷ 0x00000000 ∷ 0x80000010 ∷ []))
    ((did 0x80000000 0x80000637 ∷ did 0x80000004 0x00100693 ∷ loaded 0x80000008 0x01862703 0x80000010 ∷ did 0x8000000c 0x00070067 ∷ did 0x80000010 0x20d62023 ∷ [])
    ∷ [])
    []

-- an SC behind a branch on what a load returned
-- hart 0: lui x12, 0x80000; addi x13, x0, 1; addi x9, x12, 512; lr.w x17, (x9) (reads 0); lw x14, 0x100(x12) (reads 0); bne x14, x0, 8; sc.w x15, x13, (x9) (succeeds)
abbrev pub sc_behind_branch : History
sc_behind_branch =
    trace (image_with (0x80000637 ∷ 0x00100693 ∷ 0x20060493 ∷ 0x1004a8af ∷ 0x10062703 ∷ 0x00071463 ∷ 0x18d4a7af ∷ []))
    ((did 0x80000000 0x80000637 ∷ did 0x80000004 0x00100693 ∷ did 0x80000008 0x20060493 ∷ loaded 0x8000000c 0x1004a8af 0 ∷ loaded 0x80000010 0x10062703 0 ∷ did 0x80000014 0x00071463 ∷ tried 0x80000018 0x18d4a7af true ∷ [])
    ∷ [])
    []

-- an AMO behind a branch on what a load returned
-- hart 0: lui x12, 0x80000; addi x13, x0, 1; addi x9, x12, 512; lw x14, 0x100(x12) (reads 0); bne x14, x0, 8; amoadd.w x15, x13, (x9) (reads 0)
abbrev pub amo_behind_branch : History
amo_behind_branch =
    trace (image_with (0x80000637 ∷ 0x00100693 ∷ 0x20060493 ∷ 0x10062703 ∷ 0x00071463 ∷ 0x00d4a7af ∷ []))
    ((did 0x80000000 0x80000637 ∷ did 0x80000004 0x00100693 ∷ did 0x80000008 0x20060493 ∷ loaded 0x8000000c 0x10062703 0 ∷ did 0x80000010 0x00071463 ∷ loaded 0x80000014 0x00d4a7af 0 ∷ [])
    ∷ [])
    []

-- a branch whose second register has what a load returned
-- hart 0: lui x12, 0x80000; addi x13, x0, 1; addi x9, x12, 512; lw x14, 0x100(x12) (reads 0); bne x0, x14, 8; sw x13, 0x200(x12)
abbrev pub branch_by_second_register : History
branch_by_second_register =
    trace (image_with (0x80000637 ∷ 0x00100693 ∷ 0x20060493 ∷ 0x10062703 ∷ 0x00e01463 ∷ 0x20d62023 ∷ []))
    ((did 0x80000000 0x80000637 ∷ did 0x80000004 0x00100693 ∷ did 0x80000008 0x20060493 ∷ loaded 0x8000000c 0x10062703 0 ∷ did 0x80000010 0x00e01463 ∷ did 0x80000014 0x20d62023 ∷ [])
    ∷ [])
    []

-- ---- rule 12

-- a loaded value is stored, and loaded again
-- hart 0: lui x12, 0x80000; addi x13, x0, 1; lw x14, 0x100(x12) (reads 0); sw x14, 0x200(x12); lw x15, 0x200(x12) (reads 0)
abbrev pub load_of_dependent_store : History
load_of_dependent_store =
    trace (image_with (0x80000637 ∷ 0x00100693 ∷ 0x10062703 ∷ 0x20e62023 ∷ 0x20062783 ∷ []))
    ((did 0x80000000 0x80000637 ∷ did 0x80000004 0x00100693 ∷ loaded 0x80000008 0x10062703 0 ∷ did 0x8000000c 0x20e62023 ∷ loaded 0x80000010 0x20062783 0 ∷ [])
    ∷ [])
    []

-- a loaded value is in the address of a store, which is loaded
-- hart 0: lui x12, 0x80000; addi x13, x0, 1; lw x14, 0x100(x12) (reads 0); add x15, x12, x14; sw x13, 0x200(x15); lw x16, 0x200(x12) (reads 1)
abbrev pub load_of_addressed_store : History
load_of_addressed_store =
    trace (image_with (0x80000637 ∷ 0x00100693 ∷ 0x10062703 ∷ 0x00e607b3 ∷ 0x20d7a023 ∷ 0x20062803 ∷ []))
    ((did 0x80000000 0x80000637 ∷ did 0x80000004 0x00100693 ∷ loaded 0x80000008 0x10062703 0 ∷ did 0x8000000c 0x00e607b3 ∷ did 0x80000010 0x20d7a023 ∷ loaded 0x80000014 0x20062803 1 ∷ [])
    ∷ [])
    []

-- the store depends on nothing
-- hart 0: lui x12, 0x80000; addi x13, x0, 1; lw x14, 0x100(x12) (reads 0); sw x13, 0x200(x12); lw x15, 0x200(x12) (reads 1)
abbrev pub load_of_independent_store : History
load_of_independent_store =
    trace (image_with (0x80000637 ∷ 0x00100693 ∷ 0x10062703 ∷ 0x20d62023 ∷ 0x20062783 ∷ []))
    ((did 0x80000000 0x80000637 ∷ did 0x80000004 0x00100693 ∷ loaded 0x80000008 0x10062703 0 ∷ did 0x8000000c 0x20d62023 ∷ loaded 0x80000010 0x20062783 1 ∷ [])
    ∷ [])
    []

-- another store of the word stands between
-- hart 0: lui x12, 0x80000; addi x13, x0, 1; lw x14, 0x100(x12) (reads 0); sw x14, 0x200(x12); sw x13, 0x200(x12); lw x15, 0x200(x12) (reads 1)
abbrev pub load_of_later_store : History
load_of_later_store =
    trace (image_with (0x80000637 ∷ 0x00100693 ∷ 0x10062703 ∷ 0x20e62023 ∷ 0x20d62023 ∷ 0x20062783 ∷ []))
    ((did 0x80000000 0x80000637 ∷ did 0x80000004 0x00100693 ∷ loaded 0x80000008 0x10062703 0 ∷ did 0x8000000c 0x20e62023 ∷ did 0x80000010 0x20d62023 ∷ loaded 0x80000014 0x20062783 1 ∷ [])
    ∷ [])
    []

-- an LR that returns what a store wrote that a load decided
-- hart 0: lui x12, 0x80000; addi x13, x0, 1; addi x9, x12, 512; lw x14, 0x100(x12) (reads 0); sw x14, 0x200(x12); lr.w x15, (x9) (reads 0)
abbrev pub lr_of_dependent_store : History
lr_of_dependent_store =
    trace (image_with (0x80000637 ∷ 0x00100693 ∷ 0x20060493 ∷ 0x10062703 ∷ 0x20e62023 ∷ 0x1004a7af ∷ []))
    ((did 0x80000000 0x80000637 ∷ did 0x80000004 0x00100693 ∷ did 0x80000008 0x20060493 ∷ loaded 0x8000000c 0x10062703 0 ∷ did 0x80000010 0x20e62023 ∷ loaded 0x80000014 0x1004a7af 0 ∷ [])
    ∷ [])
    []

-- a load that returns three bytes of such a store, and one of a store behind it
-- hart 0: lui x12, 0x80000; addi x13, x0, 1; lw x14, 0x100(x12) (reads 0); sw x14, 0x200(x12); sb x13, 0x200(x12); lw x15, 0x200(x12) (reads 1)
abbrev pub load_of_dependent_store_and_byte : History
load_of_dependent_store_and_byte =
    trace (image_with (0x80000637 ∷ 0x00100693 ∷ 0x10062703 ∷ 0x20e62023 ∷ 0x20d60023 ∷ 0x20062783 ∷ []))
    ((did 0x80000000 0x80000637 ∷ did 0x80000004 0x00100693 ∷ loaded 0x80000008 0x10062703 0 ∷ did 0x8000000c 0x20e62023 ∷ did 0x80000010 0x20d60023 ∷ loaded 0x80000014 0x20062783 1 ∷ [])
    ∷ [])
    []

-- ---- rule 13

-- a load at a loaded address, and a store of another word
-- hart 0: lui x12, 0x80000; addi x13, x0, 1; lw x14, 0x100(x12) (reads 0); add x15, x12, x14; lw x16, 0x200(x15) (reads 0); sw x13, 0x300(x12)
abbrev pub store_behind_address : History
store_behind_address =
    trace (image_with (0x80000637 ∷ 0x00100693 ∷ 0x10062703 ∷ 0x00e607b3 ∷ 0x2007a803 ∷ 0x30d62023 ∷ []))
    ((did 0x80000000 0x80000637 ∷ did 0x80000004 0x00100693 ∷ loaded 0x80000008 0x10062703 0 ∷ did 0x8000000c 0x00e607b3 ∷ loaded 0x80000010 0x2007a803 0 ∷ did 0x80000014 0x30d62023 ∷ [])
    ∷ [])
    []

-- a load in the store's place
-- hart 0: lui x12, 0x80000; addi x13, x0, 1; lw x14, 0x100(x12) (reads 0); add x15, x12, x14; lw x16, 0x200(x15) (reads 0); lw x17, 0x300(x12) (reads 0)
abbrev pub load_behind_address : History
load_behind_address =
    trace (image_with (0x80000637 ∷ 0x00100693 ∷ 0x10062703 ∷ 0x00e607b3 ∷ 0x2007a803 ∷ 0x30062883 ∷ []))
    ((did 0x80000000 0x80000637 ∷ did 0x80000004 0x00100693 ∷ loaded 0x80000008 0x10062703 0 ∷ did 0x8000000c 0x00e607b3 ∷ loaded 0x80000010 0x2007a803 0 ∷ loaded 0x80000014 0x30062883 0 ∷ [])
    ∷ [])
    []

-- the address depends on nothing
-- hart 0: lui x12, 0x80000; addi x13, x0, 1; lw x14, 0x100(x12) (reads 0); add x15, x12, x13; lw x16, 0x200(x12) (reads 0); sw x13, 0x300(x12)
abbrev pub store_behind_free_address : History
store_behind_free_address =
    trace (image_with (0x80000637 ∷ 0x00100693 ∷ 0x10062703 ∷ 0x00d607b3 ∷ 0x20062803 ∷ 0x30d62023 ∷ []))
    ((did 0x80000000 0x80000637 ∷ did 0x80000004 0x00100693 ∷ loaded 0x80000008 0x10062703 0 ∷ did 0x8000000c 0x00d607b3 ∷ loaded 0x80000010 0x20062803 0 ∷ did 0x80000014 0x30d62023 ∷ [])
    ∷ [])
    []

-- an SC that fails has the address
-- hart 0: lui x12, 0x80000; addi x13, x0, 1; lw x14, 0x100(x12) (reads 0); add x15, x12, x14; sc.w x16, x13, (x15) (fails); sw x13, 0x300(x12)
abbrev pub store_behind_failed_sc : History
store_behind_failed_sc =
    trace (image_with (0x80000637 ∷ 0x00100693 ∷ 0x10062703 ∷ 0x00e607b3 ∷ 0x18d7a82f ∷ 0x30d62023 ∷ []))
    ((did 0x80000000 0x80000637 ∷ did 0x80000004 0x00100693 ∷ loaded 0x80000008 0x10062703 0 ∷ did 0x8000000c 0x00e607b3 ∷ tried 0x80000010 0x18d7a82f false ∷ did 0x80000014 0x30d62023 ∷ [])
    ∷ [])
    []

-- a store behind a store whose address comes from a load
-- hart 0: lui x12, 0x80000; addi x13, x0, 1; addi x9, x12, 512; lw x14, 0x100(x12) (reads 0); add x16, x9, x14; sw x13, 0(x16); sw x13, 0x300(x12)
abbrev pub store_behind_store_address : History
store_behind_store_address =
    trace (image_with (0x80000637 ∷ 0x00100693 ∷ 0x20060493 ∷ 0x10062703 ∷ 0x00e48833 ∷ 0x00d82023 ∷ 0x30d62023 ∷ []))
    ((did 0x80000000 0x80000637 ∷ did 0x80000004 0x00100693 ∷ did 0x80000008 0x20060493 ∷ loaded 0x8000000c 0x10062703 0 ∷ did 0x80000010 0x00e48833 ∷ did 0x80000014 0x00d82023 ∷ did 0x80000018 0x30d62023 ∷ [])
    ∷ [])
    []

-- a store behind an LR whose address comes from a load
-- hart 0: lui x12, 0x80000; addi x13, x0, 1; addi x9, x12, 512; lw x14, 0x100(x12) (reads 0); add x16, x9, x14; lr.w x15, (x16) (reads 0); sw x13, 0x300(x12)
abbrev pub store_behind_lr_address : History
store_behind_lr_address =
    trace (image_with (0x80000637 ∷ 0x00100693 ∷ 0x20060493 ∷ 0x10062703 ∷ 0x00e48833 ∷ 0x100827af ∷ 0x30d62023 ∷ []))
    ((did 0x80000000 0x80000637 ∷ did 0x80000004 0x00100693 ∷ did 0x80000008 0x20060493 ∷ loaded 0x8000000c 0x10062703 0 ∷ did 0x80000010 0x00e48833 ∷ loaded 0x80000014 0x100827af 0 ∷ did 0x80000018 0x30d62023 ∷ [])
    ∷ [])
    []

-- a store behind an SC whose address comes from a load
-- hart 0: lui x12, 0x80000; addi x13, x0, 1; addi x9, x12, 512; lr.w x17, (x9) (reads 0); lw x14, 0x100(x12) (reads 0); add x16, x9, x14; sc.w x15, x13, (x16) (succeeds); sw x13, 0x300(x12)
abbrev pub store_behind_sc_address : History
store_behind_sc_address =
    trace (image_with (0x80000637 ∷ 0x00100693 ∷ 0x20060493 ∷ 0x1004a8af ∷ 0x10062703 ∷ 0x00e48833 ∷ 0x18d827af ∷ 0x30d62023 ∷ []))
    ((did 0x80000000 0x80000637 ∷ did 0x80000004 0x00100693 ∷ did 0x80000008 0x20060493 ∷ loaded 0x8000000c 0x1004a8af 0 ∷ loaded 0x80000010 0x10062703 0 ∷ did 0x80000014 0x00e48833 ∷ tried 0x80000018 0x18d827af true ∷ did 0x8000001c 0x30d62023 ∷ [])
    ∷ [])
    []

-- a store behind an AMO whose address comes from a load
-- hart 0: lui x12, 0x80000; addi x13, x0, 1; addi x9, x12, 512; lw x14, 0x100(x12) (reads 0); add x16, x9, x14; amoadd.w x15, x13, (x16) (reads 0); sw x13, 0x300(x12)
abbrev pub store_behind_amo_address : History
store_behind_amo_address =
    trace (image_with (0x80000637 ∷ 0x00100693 ∷ 0x20060493 ∷ 0x10062703 ∷ 0x00e48833 ∷ 0x00d827af ∷ 0x30d62023 ∷ []))
    ((did 0x80000000 0x80000637 ∷ did 0x80000004 0x00100693 ∷ did 0x80000008 0x20060493 ∷ loaded 0x8000000c 0x10062703 0 ∷ did 0x80000010 0x00e48833 ∷ loaded 0x80000014 0x00d827af 0 ∷ did 0x80000018 0x30d62023 ∷ [])
    ∷ [])
    []

-- an SC behind a load whose address comes from another
-- hart 0: lui x12, 0x80000; addi x13, x0, 1; addi x9, x12, 512; lr.w x17, (x9) (reads 0); lw x14, 0x100(x12) (reads 0); add x16, x12, x14; lw x18, 0x300(x16) (reads 0); sc.w x15, x13, (x9) (succeeds)
abbrev pub sc_behind_address : History
sc_behind_address =
    trace (image_with (0x80000637 ∷ 0x00100693 ∷ 0x20060493 ∷ 0x1004a8af ∷ 0x10062703 ∷ 0x00e60833 ∷ 0x30082903 ∷ 0x18d4a7af ∷ []))
    ((did 0x80000000 0x80000637 ∷ did 0x80000004 0x00100693 ∷ did 0x80000008 0x20060493 ∷ loaded 0x8000000c 0x1004a8af 0 ∷ loaded 0x80000010 0x10062703 0 ∷ did 0x80000014 0x00e60833 ∷ loaded 0x80000018 0x30082903 0 ∷ tried 0x8000001c 0x18d4a7af true ∷ [])
    ∷ [])
    []

-- an AMO behind a load whose address comes from another
-- hart 0: lui x12, 0x80000; addi x13, x0, 1; addi x9, x12, 512; lw x14, 0x100(x12) (reads 0); add x16, x12, x14; lw x18, 0x300(x16) (reads 0); amoadd.w x15, x13, (x9) (reads 0)
abbrev pub amo_behind_address : History
amo_behind_address =
    trace (image_with (0x80000637 ∷ 0x00100693 ∷ 0x20060493 ∷ 0x10062703 ∷ 0x00e60833 ∷ 0x30082903 ∷ 0x00d4a7af ∷ []))
    ((did 0x80000000 0x80000637 ∷ did 0x80000004 0x00100693 ∷ did 0x80000008 0x20060493 ∷ loaded 0x8000000c 0x10062703 0 ∷ did 0x80000010 0x00e60833 ∷ loaded 0x80000014 0x30082903 0 ∷ loaded 0x80000018 0x00d4a7af 0 ∷ [])
    ∷ [])
    []

-- ---- load values

-- one hart stores, the other loads the old value
-- hart 0: bne x10, x0, 16; lui x12, 0x80000; addi x13, x0, 1; sw x13, 0x100(x12)
-- hart 1: bne x10, x0, 16; lui x12, 0x80000; addi x13, x0, 1; lw x14, 0x100(x12) (reads 0)
abbrev pub load_of_old_value : History
load_of_old_value =
    trace (image_with (0x00051863 ∷ 0x80000637 ∷ 0x00100693 ∷ 0x10d62023 ∷ 0x80000637 ∷ 0x00100693 ∷ 0x10062703 ∷ []))
    ((did 0x80000000 0x00051863 ∷ did 0x80000004 0x80000637 ∷ did 0x80000008 0x00100693 ∷ did 0x8000000c 0x10d62023 ∷ [])
    ∷ (did 0x80000000 0x00051863 ∷ did 0x80000010 0x80000637 ∷ did 0x80000014 0x00100693 ∷ loaded 0x80000018 0x10062703 0 ∷ [])
    ∷ [])
    []

-- an AMO that returns what it wrote itself
-- hart 0: lui x12, 0x80000; addi x13, x0, 1; addi x8, x12, 256; amoadd.w x14, x13, (x8) (reads 1)
abbrev pub amo_of_own_value : History
amo_of_own_value =
    trace (image_with (0x80000637 ∷ 0x00100693 ∷ 0x10060413 ∷ 0x00d4272f ∷ []))
    ((did 0x80000000 0x80000637 ∷ did 0x80000004 0x00100693 ∷ did 0x80000008 0x10060413 ∷ loaded 0x8000000c 0x00d4272f 1 ∷ [])
    ∷ [])
    []

-- an AMO that returns what stood there
-- hart 0: lui x12, 0x80000; addi x13, x0, 1; addi x8, x12, 256; amoadd.w x14, x13, (x8) (reads 0)
abbrev pub amo_of_old_value : History
amo_of_old_value =
    trace (image_with (0x80000637 ∷ 0x00100693 ∷ 0x10060413 ∷ 0x00d4272f ∷ []))
    ((did 0x80000000 0x80000637 ∷ did 0x80000004 0x00100693 ∷ did 0x80000008 0x10060413 ∷ loaded 0x8000000c 0x00d4272f 0 ∷ [])
    ∷ [])
    []

-- ---- atomicity

-- a pair of one word, and a store to it of another hart
-- hart 0: bne x10, x0, 24; lui x12, 0x80000; addi x13, x0, 1; addi x8, x12, 256; lr.w x15, (x8) (reads 0); sc.w x14, x13, (x8) (succeeds)
-- hart 1: bne x10, x0, 24; lui x12, 0x80000; addi x13, x0, 1; sw x13, 0x100(x12)
abbrev pub pair_and_store : History
pair_and_store =
    trace (image_with (0x00051c63 ∷ 0x80000637 ∷ 0x00100693 ∷ 0x10060413 ∷ 0x100427af ∷ 0x18d4272f ∷ 0x80000637 ∷ 0x00100693 ∷ 0x10d62023 ∷ []))
    ((did 0x80000000 0x00051c63 ∷ did 0x80000004 0x80000637 ∷ did 0x80000008 0x00100693 ∷ did 0x8000000c 0x10060413 ∷ loaded 0x80000010 0x100427af 0 ∷ tried 0x80000014 0x18d4272f true ∷ [])
    ∷ (did 0x80000000 0x00051c63 ∷ did 0x80000018 0x80000637 ∷ did 0x8000001c 0x00100693 ∷ did 0x80000020 0x10d62023 ∷ [])
    ∷ [])
    []

-- a store to the word of their own hart between them
-- hart 0: lui x12, 0x80000; addi x13, x0, 1; addi x8, x12, 256; lr.w x15, (x8) (reads 0); sw x13, 0x100(x12); sc.w x14, x13, (x8) (succeeds)
abbrev pub pair_and_own_store : History
pair_and_own_store =
    trace (image_with (0x80000637 ∷ 0x00100693 ∷ 0x10060413 ∷ 0x100427af ∷ 0x10d62023 ∷ 0x18d4272f ∷ []))
    ((did 0x80000000 0x80000637 ∷ did 0x80000004 0x00100693 ∷ did 0x80000008 0x10060413 ∷ loaded 0x8000000c 0x100427af 0 ∷ did 0x80000010 0x10d62023 ∷ tried 0x80000014 0x18d4272f true ∷ [])
    ∷ [])
    []

-- an LR and an SC of different words, and a store of another hart to the LR's word
-- hart 0: bne x10, x0, 28; lui x12, 0x80000; addi x13, x0, 1; addi x8, x12, 256; addi x9, x12, 512; lr.w x15, (x8) (reads 0); sc.w x14, x13, (x9) (succeeds)
-- hart 1: bne x10, x0, 28; lui x12, 0x80000; addi x13, x0, 1; sw x13, 0x100(x12)
abbrev pub pair_of_two_words_and_store : History
pair_of_two_words_and_store =
    trace (image_with (0x00051e63 ∷ 0x80000637 ∷ 0x00100693 ∷ 0x10060413 ∷ 0x20060493 ∷ 0x100427af ∷ 0x18d4a72f ∷ 0x80000637 ∷ 0x00100693 ∷ 0x10d62023 ∷ []))
    ((did 0x80000000 0x00051e63 ∷ did 0x80000004 0x80000637 ∷ did 0x80000008 0x00100693 ∷ did 0x8000000c 0x10060413 ∷ did 0x80000010 0x20060493 ∷ loaded 0x80000014 0x100427af 0 ∷ tried 0x80000018 0x18d4a72f true ∷ [])
    ∷ (did 0x80000000 0x00051e63 ∷ did 0x8000001c 0x80000637 ∷ did 0x80000020 0x00100693 ∷ did 0x80000024 0x10d62023 ∷ [])
    ∷ [])
    []

-- the store is to the SC's word
-- hart 0: bne x10, x0, 28; lui x12, 0x80000; addi x13, x0, 1; addi x8, x12, 256; addi x9, x12, 512; lr.w x15, (x8) (reads 0); sc.w x14, x13, (x9) (succeeds)
-- hart 1: bne x10, x0, 28; lui x12, 0x80000; addi x13, x0, 1; sw x13, 0x200(x12)
abbrev pub pair_of_two_words_and_other_store : History
pair_of_two_words_and_other_store =
    trace (image_with (0x00051e63 ∷ 0x80000637 ∷ 0x00100693 ∷ 0x10060413 ∷ 0x20060493 ∷ 0x100427af ∷ 0x18d4a72f ∷ 0x80000637 ∷ 0x00100693 ∷ 0x20d62023 ∷ []))
    ((did 0x80000000 0x00051e63 ∷ did 0x80000004 0x80000637 ∷ did 0x80000008 0x00100693 ∷ did 0x8000000c 0x10060413 ∷ did 0x80000010 0x20060493 ∷ loaded 0x80000014 0x100427af 0 ∷ tried 0x80000018 0x18d4a72f true ∷ [])
    ∷ (did 0x80000000 0x00051e63 ∷ did 0x8000001c 0x80000637 ∷ did 0x80000020 0x00100693 ∷ did 0x80000024 0x20d62023 ∷ [])
    ∷ [])
    []

-- an LR that returns a store of its own hart, and an SC of another word
-- hart 0: lui x12, 0x80000; addi x13, x0, 1; addi x8, x12, 256; addi x9, x12, 512; sw x13, 0x100(x12); lr.w x15, (x8) (reads 1); sc.w x14, x13, (x9) (succeeds)
abbrev pub pair_of_own_store : History
pair_of_own_store =
    trace (image_with (0x80000637 ∷ 0x00100693 ∷ 0x10060413 ∷ 0x20060493 ∷ 0x10d62023 ∷ 0x100427af ∷ 0x18d4a72f ∷ []))
    ((did 0x80000000 0x80000637 ∷ did 0x80000004 0x00100693 ∷ did 0x80000008 0x10060413 ∷ did 0x8000000c 0x20060493 ∷ did 0x80000010 0x10d62023 ∷ loaded 0x80000014 0x100427af 1 ∷ tried 0x80000018 0x18d4a72f true ∷ [])
    ∷ [])
    []

-- an LR that returns a store of another hart, and its SC
-- hart 0: bne x10, x0, 24; lui x12, 0x80000; addi x13, x0, 1; addi x8, x12, 256; lr.w x15, (x8) (reads 1); sc.w x14, x13, (x8) (succeeds)
-- hart 1: bne x10, x0, 24; lui x12, 0x80000; addi x13, x0, 1; sw x13, 0x100(x12)
abbrev pub pair_of_foreign_store : History
pair_of_foreign_store =
    trace (image_with (0x00051c63 ∷ 0x80000637 ∷ 0x00100693 ∷ 0x10060413 ∷ 0x100427af ∷ 0x18d4272f ∷ 0x80000637 ∷ 0x00100693 ∷ 0x10d62023 ∷ []))
    ((did 0x80000000 0x00051c63 ∷ did 0x80000004 0x80000637 ∷ did 0x80000008 0x00100693 ∷ did 0x8000000c 0x10060413 ∷ loaded 0x80000010 0x100427af 1 ∷ tried 0x80000014 0x18d4272f true ∷ [])
    ∷ (did 0x80000000 0x00051c63 ∷ did 0x80000018 0x80000637 ∷ did 0x8000001c 0x00100693 ∷ did 0x80000020 0x10d62023 ∷ [])
    ∷ [])
    []
