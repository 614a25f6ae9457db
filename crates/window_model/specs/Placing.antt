-- An operation that waits is placed next in the global memory order: when it may be, and what becomes of its hart and of the others
-- (RISC-V Unprivileged ISA 20191213, chapter 14.1, "Preserved Program Order" and "Memory Model Axioms"). Memory has the last placed store to each byte.
use Rattle.std.specs.Prelude.{ℕ, ◌≡◌, Bool, true, false, ◌&&◌, ◌||◌, not, if◌then◌else◌, List, [], ◌∷◌, ◌++◌, Option, Some, None, length, map, take, drop, slice_get}
use Rattle.std.specs.List.{list_any, range_with_len, remove}
use Rattle.std.specs.Option.{option_map}
use Rattle.memory_model.specs.Operations.{is_sc, reads}
use Rattle.window_model.specs.Nodes.{Node, Reserved}
use Rattle.window_model.specs.Waiting.{Waiting, closed_up, is_store, last_store, read_at, stores_to, touches, written_at}
use Rattle.window_model.specs.Waits.{Waits, has_any, those, without}

-- ---- what a load reads, where these wait before it in its hart's window

abbrev pub byte_from : (ℕ → ℕ) → ℕ → Option Waiting → ℕ
byte_from memory x None = memory x
byte_from memory x (Some s) = written_at s x

-- the last own store to the byte, which comes later in the order, else memory's byte (load value axiom)
abbrev pub byte_seen : (memory : ℕ → ℕ) → (before : List Waiting) → (x : ℕ) → ℕ
byte_seen memory before x = byte_from memory x (last_store x before)

-- such a store is no SC's and no AMO's (rule 3), and nothing of these so many positions waits that its address or its number depends on (rule 12)
abbrev pub can_forward : (width : ℕ) → Option Waiting → Bool
can_forward width None = true
can_forward width (Some s) = is_store s.kind && not (has_any width s.source)

pub record Reads (memory : ℕ → ℕ) (width : ℕ) (before : List Waiting) (w : Waiting) (x : ℕ) : Type 0 where
  pub value : read_at w x ≡ byte_seen memory before x
  pub forwarded : can_forward width (last_store x before) ≡ true

-- ---- rule 2: of two loads of a byte with no store to it between them in program order, the earlier one is placed later only where both read it from one store.
-- A store between them that was placed already needs no term: the earlier load overlaps it, and so was placed before it (rule 1)

-- e waits before the load w and the operations between wait: both read byte x, and none between stores to it
abbrev pub reads_with : (w : Waiting) → (between : List Waiting) → (e : Waiting) → (x : ℕ) → Bool
reads_with w between e x = reads w.kind && reads e.kind && touches x w && touches x e && not (list_any (stores_to x) between)

-- each that waits before w has guessed those bytes as w has
abbrev pub AgreeWith : (w : Waiting) → (before : List Waiting) → Type 0
AgreeWith w [] = Unit {0}
AgreeWith w (e ∷ between) = ((x : ℕ) → reads_with w between e x ≡ true → read_at e x ≡ read_at w x) × AgreeWith w between

-- and is pinned there: until it is placed, the byte's source stays what w reads
abbrev pub pinned_by : (w : Waiting) → (before : List Waiting) → List Waiting
pinned_by w [] = []
pinned_by w (e ∷ between) = record e { pinned = λ x. e.pinned x || reads_with w between e x } ∷ pinned_by w between

-- ---- its hart

-- the operation w that waits at position k may be placed next, where memory is this
pub record CanPlace (memory : ℕ → ℕ) (n : Node) (k : ℕ) (w : Waiting) : Type 0 where
  pub waits : slice_get n.window k ≡ Some w
  -- nothing waits that precedes it in preserved program order (rules 1, 4 to 11, 13)
  pub ready : has_any (length n.window) w.needs ≡ false
  -- each byte that it reads is that of its source (load value axiom; rules 3, 12)
  pub values : reads w.kind ≡ true → (x : ℕ) → touches x w ≡ true → Reads memory (length n.window) (take k n.window) w x
  pub agreed : AgreeWith w (take k n.window)

-- the operation at position k has gone: nothing waits for it, and those behind it stand one position nearer
abbrev pub closed_reservation : (k : ℕ) → Reserved → Reserved
closed_reservation k r = record r { lr = without k r.lr; own = without k r.own }

abbrev pub leaving : (k : ℕ) → Node → Node
leaving k n = record {
  hart = n.hart;
  output = n.output;
  registers = λ r. without k (n.registers r);
  loads = without k n.loads;
  stores = without k n.stores;
  reserved = option_map (closed_reservation k) n.reserved;
  window = map (closed_up k) (remove n.window k);
}

abbrev pub placed : Node → (k : ℕ) → Waiting → Node
placed n k w = leaving k (record n { window = pinned_by w (take k n.window) ++ drop k n.window })

-- ---- memory

abbrev pub written_over : Waiting → (ℕ → ℕ) → ℕ → ℕ
written_over w memory x = if stores_to x w then written_at w x else memory x

-- ---- the other harts, where w stores

-- one of these positions of a window has a store to x
abbrev pub has_store : Waits → List Waiting → (x : ℕ) → Bool
has_store s window x = has_any (length window) (λ k. s k && those (stores_to x) window k)

-- w may be placed while these wait at another hart
pub record Admits (w : Waiting) (n : Node) : Type 0 where
  -- not where a load that is pinned at x reads it from memory: w would come between (rule 2)
  pub pins : (x k : ℕ) (e : Waiting) → stores_to x w ≡ true → slice_get n.window k ≡ Some e → e.pinned x ≡ true
      → list_any (stores_to x) (take k n.window) ≡ true
  -- nor between an LR, or what it reads from, and its SC (atomicity axiom): where an SC waits whose LR doesn't, the LR reads x from an own store that waits
  pub pairs : (x k : ℕ) (e : Waiting) → stores_to x w ≡ true → slice_get n.window k ≡ Some e → is_sc e.kind ≡ true → touches x e ≡ true
      → has_any (length n.window) e.pair ≡ false
      → has_store e.own n.window x ≡ true

-- it ends a reservation likewise: no SC is to succeed by it. Own stores never end one: 8.2 leaves that open, and the atomicity axiom asks for none
abbrev pub ends : Waiting → List Waiting → Reserved → Bool
ends w window r =
    not (has_any (length window) r.lr)
    && list_any (λ x. stores_to x w && not (has_store r.own window x)) (range_with_len r.address 4)

abbrev pub kept_beside : Waiting → List Waiting → Option Reserved → Option Reserved
kept_beside w window None = None
kept_beside w window (Some r) = if ends w window r then None else Some r

abbrev pub beside : Waiting → Node → Node
beside w n = record n { reserved = kept_beside w n.window n.reserved }
