-- What an access comes to by what its checks found.
use Rattle.std.specs.Prelude.{ℕ, ◌≡◌, ◌%◌, Bool, true, false, if◌then◌else◌, List, not, Some, None}
use Rattle.std.proofs.Common.{sym, ◌∙◌, ap}
use Rattle.std.specs.declared.result.Result.{Result}
use Rattle.client_cache.specs.Cache.{Cache}
use Rattle.machine_model.specs.Deciding.{reading, writing}
use Rattle.machine_model.specs.Events.{plan_drain}
use Rattle.machine_model.specs.Steps.{Fetched, plan_amo, plan_load, plan_lr, retires, update, waits_for_stores, write_waits}
use Rattle.machine_model.specs.Views.{Node}
use Rattle.machine_model.specs.Words.{read_from, word_in, word_of}
use Rattle.machine_model.specs.declared.act.Act.TheVariants as act
use Rattle.machine_model.specs.declared.act.Deed.TheVariants as deed
use Rattle.machine_model.specs.declared.act.Plan.{Plan}
use Rattle.machine_model.specs.declared.act.Plan.TheVariants.{Changes, Stays}
use Rattle.machine_parts.specs.Deciding.{with_line}
use Rattle.machine_types.specs.declared.model.MemoryModel.{MemoryModel}
use Rattle.machine_types.specs.declared.outcome.Outcome.TheVariants.{MustDrain, NoEntry, NotOldest}
use Rattle.rv32_decode.specs.declared.instruction.AmoOp.{AmoOp}
use Rattle.store_buffer.specs.ByteMask.{covers, laid_over, marks_of_access}
use Rattle.store_buffer.specs.Groups.{Groups, drainable, forwarded, has}
use Rattle.tl_types.specs.Line.{line_of}
use Rattle.tl_types.specs.declared.line.LineData.{LineData}

-- ---- loads

-- from the line, under what waits for its word
abbrev pub load_from : Node → Fetched → (address bytes word : ℕ) → List Bool × List ℕ → LineData → Plan
load_from n f address bytes word waiting line = retires n f (Some (read_from (laid_over waiting.0 waiting.1 (word_in line word)) address bytes)) None deed.Load

abbrev load_by : Node → Fetched → (address bytes word : ℕ) → List Bool × List ℕ → Bool → Plan
load_by n f address bytes word waiting covered =
    if covered
    then retires n f (Some (read_from waiting.1 address bytes)) None deed.Load
    else reading (load_from n f address bytes word waiting) n.cache (line_of n.cache.shape.size address)

load_is : (n : Node) (f : Fetched) (address bytes word : ℕ) (waiting : List Bool × List ℕ) (marks : List Bool) (buffer : Groups) → word ≡ word_of address → waiting ≡ forwarded word buffer → marks ≡ marks_of_access (address % 4) bytes → buffer ≡ n.buffer
    → load_by n f address bytes word waiting (covers waiting.0 marks) ≡ plan_load n f address bytes
load_is n f address bytes word waiting marks buffer e found asked same =
    ap (λ (m : List Bool). load_by n f address bytes word waiting (covers waiting.0 m)) asked
    ∙ (ap (λ (w : List Bool × List ℕ). load_by n f address bytes word w (covers w.0 (marks_of_access (address % 4) bytes))) (found ∙ ap (forwarded word) same)
    ∙ ap (λ (k : ℕ). load_by n f address bytes k (forwarded k n.buffer) (covers (forwarded k n.buffer).0 (marks_of_access (address % 4) bytes))) e)

-- where all its bytes wait
pub load_waiting : (n : Node) (f : Fetched) (address bytes word : ℕ) (waiting : List Bool × List ℕ) (marks : List Bool) (buffer : Groups) → word ≡ word_of address → waiting ≡ forwarded word buffer → marks ≡ marks_of_access (address % 4) bytes → buffer ≡ n.buffer
    → covers waiting.0 marks ≡ true → retires n f (Some (read_from waiting.1 address bytes)) None deed.Load ≡ plan_load n f address bytes
load_waiting n f address bytes word waiting marks buffer e found asked same covered =
    sym (ap (load_by n f address bytes word waiting) covered) ∙ load_is n f address bytes word waiting marks buffer e found asked same

-- where the copy is wanted, at what was found of it
pub load_reading : (n : Node) (f : Fetched) (address bytes word line : ℕ) (waiting : List Bool × List ℕ) (marks : List Bool) (buffer : Groups) (cache : Cache) (found copy : Result LineData Plan)
    → word ≡ word_of address → waiting ≡ forwarded word buffer → marks ≡ marks_of_access (address % 4) bytes → buffer ≡ n.buffer
    → covers waiting.0 marks ≡ false → line ≡ line_of n.cache.shape.size address → cache ≡ n.cache → ((go : LineData → Plan) → reading go cache line ≡ with_line go found) → found ≡ copy
    → with_line (load_from n f address bytes word waiting) copy ≡ plan_load n f address bytes
load_reading n f address bytes word line waiting marks buffer cache found copy e forwards asked same free at there reads is =
    let go = load_from n f address bytes word waiting in
    sym (reads go ∙ ap (with_line go) is) ∙ (ap (λ (c : Cache). reading go c line) there ∙ (ap (reading go n.cache) at
    ∙ (sym (ap (load_by n f address bytes word waiting) free) ∙ load_is n f address bytes word waiting marks buffer e forwards asked same)))

-- ---- AMOs that no store holds up

abbrev pub amo_of : Node → Fetched → (address : ℕ) → AmoOp → (operand : ℕ) → LineData → Plan
amo_of n f address op operand line = update n f address op operand (read_from (word_in line address) address 4)

pub amo_writing : (model : MemoryModel) (n : Node) (f : Fetched) (address : ℕ) (op : AmoOp) (operand line : ℕ) (buffer : Groups) (cache : Cache) (found copy : Result LineData Plan)
    → buffer ≡ n.buffer → write_waits model buffer f.instr address ≡ false → line ≡ line_of n.cache.shape.size address → cache ≡ n.cache → ((go : LineData → Plan) → writing go cache line ≡ with_line go found) → found ≡ copy
    → with_line (amo_of n f address op operand) copy ≡ plan_amo model n f address op operand
amo_writing model n f address op operand line buffer cache found copy same free at there writes is =
    let go = amo_of n f address op operand in
    let none = ap (λ (b : Groups). write_waits model b f.instr address) (sym same) ∙ free in
    sym (writes go ∙ ap (with_line go) is) ∙ (ap (λ (c : Cache). writing go c line) there ∙ (ap (writing go n.cache) at
    ∙ sym (ap (λ (b : Bool). if b then Stays MustDrain else writing go n.cache (line_of n.cache.shape.size address)) none)))

-- ---- LRs

abbrev pub lr_of : Node → Fetched → (address : ℕ) → LineData → Plan
lr_of n f address line = retires n f (Some (read_from (word_in line address) address 4)) None (deed.Lr address)

lr_by : (n : Node) (f : Fetched) (address : ℕ) (buffer : Groups) (waits : Bool) → buffer ≡ n.buffer → waits_for_stores buffer f.instr address ≡ waits
    → (if waits then Stays MustDrain else writing (lr_of n f address) n.cache (line_of n.cache.shape.size address)) ≡ plan_lr n f address
lr_by n f address buffer waits same found =
    ap (λ (b : Bool). if b then Stays MustDrain else writing (lr_of n f address) n.cache (line_of n.cache.shape.size address)) (sym found ∙ ap (λ (b : Groups). waits_for_stores b f.instr address) same)

-- one that stores hold up
pub lr_waiting : (n : Node) (f : Fetched) (address : ℕ) (buffer : Groups) → buffer ≡ n.buffer → waits_for_stores buffer f.instr address ≡ true → Stays MustDrain ≡ plan_lr n f address
lr_waiting n f address buffer same held = lr_by n f address buffer true same held

-- one that no store holds up
pub lr_writing : (n : Node) (f : Fetched) (address line : ℕ) (buffer : Groups) (cache : Cache) (found copy : Result LineData Plan)
    → buffer ≡ n.buffer → waits_for_stores buffer f.instr address ≡ false → line ≡ line_of n.cache.shape.size address → cache ≡ n.cache → ((go : LineData → Plan) → writing go cache line ≡ with_line go found) → found ≡ copy
    → with_line (lr_of n f address) copy ≡ plan_lr n f address
lr_writing n f address line buffer cache found copy same free at there writes is =
    let go = lr_of n f address in
    sym (writes go ∙ ap (with_line go) is) ∙ (ap (λ (c : Cache). writing go c line) there ∙ (ap (writing go n.cache) at ∙ lr_by n f address buffer false same free))

-- ---- drains

abbrev pub drain_of : (word : ℕ) → LineData → Plan
drain_of word line = Changes (act.Drain word)

-- of a word whose turn it is
pub drain_writing : (n : Node) (word line : ℕ) (buffer : Groups) (cache : Cache) (found copy : Result LineData Plan)
    → buffer ≡ n.buffer → has word buffer ≡ true → drainable word buffer ≡ true → line ≡ line_of n.cache.shape.size word → cache ≡ n.cache → ((go : LineData → Plan) → writing go cache line ≡ with_line go found) → found ≡ copy
    → with_line (drain_of word) copy ≡ plan_drain n word
drain_writing n word line buffer cache found copy same waits oldest at there writes is =
    let go = drain_of word in
    let held = ap (has word) (sym same) ∙ waits in
    let first = ap (drainable word) (sym same) ∙ oldest in
    let goes = writing go n.cache (line_of n.cache.shape.size word) in
    sym (writes go ∙ ap (with_line go) is) ∙ (ap (λ (c : Cache). writing go c line) there ∙ (ap (writing go n.cache) at
    ∙ sym (ap (λ (b : Bool). if not b then Stays NoEntry else if not (drainable word n.buffer) then Stays NotOldest else goes) held ∙ ap (λ (b : Bool). if not b then Stays NotOldest else goes) first)))
