-- Instructions that order less or more than another, and are the same otherwise.
use Rattle.std.specs.Prelude.{ℕ, ◌≡◌, ◌&&◌, ◌||◌, ◌==◌, ◌∷◌, [], Bool, false, true, List, Option, Some, filter, if◌then◌else◌, map, not}
use Rattle.image_orderings.specs.declared.forms.OrderedPairs.{OrderedPairs}
use Rattle.image_orderings.specs.declared.orderings.Part.{Part}
use Rattle.image_orderings.specs.declared.orderings.Part.TheVariants as part
use Rattle.memory_model.specs.Rules.{fences}
use Rattle.rv32_decode.specs.Encoding.{encoded}
use Rattle.rv32_decode.specs.Rows.{decoded}
use Rattle.rv32_decode.specs.declared.instruction.Annotations.{Annotations}
use Rattle.rv32_decode.specs.declared.instruction.ImmediateOp.TheVariants.{Addi}
use Rattle.rv32_decode.specs.declared.instruction.Instr.{Instr}
use Rattle.rv32_decode.specs.declared.instruction.Instr.TheVariants.{Amo, Fence, FenceTso, Immediate, Lr, Sc}
use Rattle.memory_model.specs.declared.operation.Kind.TheVariants.{Load, Store}

-- ---- less

-- `addi x0, x0, 0` (chapter 2.4)
abbrev pub nop : Instr
nop = Immediate Addi 0 0 0

-- the bit cleared
abbrev pub bits_without : Part → Annotations → Annotations
bits_without part.Fence bits = bits
bits_without part.Acquire bits = record bits { acquire = false }
bits_without part.Release bits = record bits { release = false }

-- a FENCE as a whole, which becomes a nop
abbrev pub fence_without : Part → ℕ → ℕ
fence_without part.Fence word = encoded nop
fence_without part.Acquire word = word
fence_without part.Release word = word

-- of an LR, SC or AMO the bit; another word stays
abbrev pub without_of : Part → ℕ → Option Instr → ℕ
without_of p word (Some (Fence sets)) = fence_without p word
without_of p word (Some FenceTso) = fence_without p word
without_of p word (Some (Lr rd rs1 bits)) = encoded (Lr rd rs1 (bits_without p bits))
without_of p word (Some (Sc rd rs1 rs2 bits)) = encoded (Sc rd rs1 rs2 (bits_without p bits))
without_of p word (Some (Amo op rd rs1 rs2 bits)) = encoded (Amo op rd rs1 rs2 (bits_without p bits))
without_of p word _ = word

abbrev pub without : Part → ℕ → ℕ
without p word = without_of p word (decoded word)

-- ---- FENCEs by what they order

-- R 2, W 1
abbrev pub fence_of : (before after : ℕ) → Instr
fence_of before after = Fence (record { before = before; after = after })

-- the pairs of sets of R and W that aren't empty, and TSO: those that order fewer pairs first
abbrev pub fence_forms : List Instr
fence_forms =
    fence_of 2 2 ∷ fence_of 2 1 ∷ fence_of 1 2 ∷ fence_of 1 1
    ∷ fence_of 2 3 ∷ fence_of 1 3 ∷ fence_of 3 2 ∷ fence_of 3 1
    ∷ FenceTso ∷ fence_of 3 3 ∷ []

-- which of two loads or stores, one before the other in program order, it orders (rule 4 of chapter 14.1)
abbrev pub pairs_of : Option Instr → OrderedPairs
pairs_of instr = record {
  load_load = fences instr Load Load;
  load_store = fences instr Load Store;
  store_load = fences instr Store Load;
  store_store = fences instr Store Store;
}

-- each pair of the first is one of the second
abbrev pub are_within : OrderedPairs → OrderedPairs → Bool
are_within a b =
    (not a.load_load || b.load_load) && ((not a.load_store || b.load_store)
    && ((not a.store_load || b.store_load) && (not a.store_store || b.store_store)))

-- it orders less than the other
abbrev pub is_weaker : Option Instr → Option Instr → Bool
is_weaker a b = are_within (pairs_of a) (pairs_of b) && not (are_within (pairs_of b) (pairs_of a))

-- the words of FENCEs that order something, and less than this word, those that order fewer pairs first
abbrev pub weaker_words : ℕ → List ℕ
weaker_words word = filter (λ form. is_weaker (decoded form) (decoded word)) (map encoded fence_forms)

-- ---- more

abbrev pub both_bits : Annotations
both_bits = record { acquire = true; release = true }

-- it orders all loads and stores
abbrev pub full : Instr
full = fence_of 3 3

-- a FENCE becomes the one that orders all; of an LR, SC or AMO both bits are set; another word stays
abbrev pub most_of : ℕ → Option Instr → ℕ
most_of word (Some (Fence sets)) = encoded full
most_of word (Some FenceTso) = encoded full
most_of word (Some (Lr rd rs1 bits)) = encoded (Lr rd rs1 both_bits)
most_of word (Some (Sc rd rs1 rs2 bits)) = encoded (Sc rd rs1 rs2 both_bits)
most_of word (Some (Amo op rd rs1 rs2 bits)) = encoded (Amo op rd rs1 rs2 both_bits)
most_of word _ = word

-- and a nop becomes that FENCE
abbrev pub strengthened : ℕ → ℕ
strengthened word = if word == encoded nop then encoded full else most_of word (decoded word)

-- a word differs from its own at most in what it orders: with all that they may order they are the same
pub record IsVariant (own word : ℕ) : Type 0 where
  pub most : strengthened word ≡ strengthened own
