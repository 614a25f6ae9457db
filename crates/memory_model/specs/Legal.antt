-- Legal orders: the three parts of RVWMO that judge a finished run: preserved program order, the load value axiom and
-- the atomicity axiom (RISC-V Unprivileged ISA 20191213, chapter 14.1, "Memory Model Axioms").
use Rattle.std.specs.Prelude.{ℕ, Bool, ◌&&◌, ◌||◌, not, ◌==◌, if◌then◌else◌, List, [], ◌∷◌, Option, Some, None, IsTrue}
use Rattle.std.specs.List.{list_any, list_all}
use Rattle.hart.specs.MemoryModel.{MemoryModel}
use Rattle.memory_model.specs.declared.operation.Operation.{Operation}
use Rattle.memory_model.specs.Operations.{reads, same, addresses_of, stores_to, read_at}
use Rattle.memory_model.specs.Order.{in_order, source, byte_from}
use Rattle.memory_model.specs.Items.{Item}
use Rattle.memory_model.specs.Rules.{items_of, paired, preserved}

-- ---- 1, preserved program order: of no two operations must the later one come first

abbrev pub keeps_preserved_order : MemoryModel → List (List Item) → List Operation → Bool
keeps_preserved_order model harts order = in_order (preserved model harts order) order

-- ---- 2, load value axiom: each byte that a load returned is the byte of its source

abbrev pub returns_sources : (ℕ → ℕ) → List Operation → Operation → Bool
returns_sources image order a = not (reads a.kind) || list_all (λ x. read_at a x == byte_from image x (source order a x)) (addresses_of a)

abbrev pub keeps_load_values : (ℕ → ℕ) → List Operation → Bool
keeps_load_values image order = list_all (returns_sources image order) order

-- ---- 3, atomicity axiom

-- what stands behind a source in the order; the image stands before everything
abbrev pub behind : Option Operation → List Operation → List Operation
behind None order = order
behind (Some s) [] = []
behind (Some s) (t ∷ rest) = if same s t then rest else behind (Some s) rest

-- what stands before w
abbrev pub up_to : Operation → List Operation → List Operation
up_to w [] = []
up_to w (t ∷ rest) = if same t w then [] else (t ∷ up_to w rest)

-- behind the source of byte x of r stands w, and no store to x of another hart stands between
abbrev pub is_atomic_at : List Operation → Operation → Operation → ℕ → Bool
is_atomic_at order r w x =
    list_any (same w) (behind (source order r x) order)
    && list_all (λ t. t.hart == w.hart || not (stores_to x t)) (up_to w (behind (source order r x) order))

-- at each byte of r
abbrev pub is_atomic : List Operation → Operation → Operation → Bool
is_atomic order r w = list_all (is_atomic_at order r w) (addresses_of r)

-- for each pair of an LR r and a successful SC w
abbrev pub keeps_atomicity : List (List Item) → List Operation → Bool
keeps_atomicity harts order = list_all (λ w. list_all (λ r. not (paired (items_of harts r.hart) r w) || is_atomic order r w) order) order

-- ---- all three

pub record IsLegal (model : MemoryModel) (image : ℕ → ℕ) (harts : List (List Item)) (order : List Operation) : Type 0 where
  pub preserved_order : IsTrue (keeps_preserved_order model harts order)
  pub load_values : IsTrue (keeps_load_values image order)
  pub atomicity : IsTrue (keeps_atomicity harts order)

abbrev pub keeps_all_three : MemoryModel → (ℕ → ℕ) → List (List Item) → List Operation → Bool
keeps_all_three model image harts order =
    keeps_preserved_order model harts order && keeps_load_values image order && keeps_atomicity harts order
