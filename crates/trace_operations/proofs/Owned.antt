-- Each hart's list gives its own operations, each with the place of its instruction.
use Rattle.std.proofs.Common.{◌≡◌, ℕ, zero, suc, ◌+◌, List, [], ◌∷◌, ◌∙◌, subst, arith, length}
use Rattle.std.specs.Prelude.{slice_index_or}
use Rattle.std.proofs.lemmas.Option.{none-some}
use Rattle.hart.specs.Image.{Initial}
use Rattle.hart.specs.declared.retired.Retired.{Retired}
use Rattle.hart.specs.declared.state.Hart.{Hart}
use Rattle.hart.specs.Run.{at_reset}
use Rattle.trace_recorder.specs.History.{History}
use Rattle.memory_model.specs.Items.{items_from, items_of_harts}
use Rattle.memory_model.specs.Rules.{items_of}
use Rattle.memory_model.specs.Traces.{instructions}
use Rattle.memory_model.proofs.Named.{listed_bears}
use Rattle.trace_operations.specs.Placed.{GivesOwn}

pub given_own : (hart : Hart) (entries : List Retired) → GivesOwn hart.id (items_from 0 hart entries)
given_own hart entries = record {
  at_place = λ k m s e f. (listed_bears 0 hart entries k m s e f).place_is ∙ omega arith;
  of_hart = λ k m s e f. (listed_bears 0 hart entries k m s e f).hart_is;
}

pub none_own : (hart : ℕ) → GivesOwn hart []
none_own hart = record { at_place = λ k m s e f. absurd (none-some m e); of_hart = λ k m s e f. absurd (none-some m e) }

pub gives_own : (image : Initial) (harts id : ℕ) (lists : List (List Retired)) (h : ℕ) → GivesOwn (id + h) (slice_index_or (items_of_harts image harts id lists) h [])
gives_own image harts id [] h = none_own (id + h)
gives_own image harts id (entries ∷ rest) zero =
    let own : id ≡ id + 0 = omega arith in
    subst (λ (n : ℕ). GivesOwn n (items_from 0 (at_reset image id harts) entries)) own (given_own (at_reset image id harts) entries)
gives_own image harts id (entries ∷ rest) (suc h) =
    let own : id + 1 + h ≡ id + suc h = omega arith in
    subst (λ (n : ℕ). GivesOwn n (slice_index_or (items_of_harts image harts (id + 1) rest) h [])) own (gives_own image harts (id + 1) rest h)

-- of a trace
pub instructions_own : (t : History) (hart : ℕ) → GivesOwn hart (items_of (instructions t) hart)
instructions_own t hart =
    let own : 0 + hart ≡ hart = omega arith in
    subst (λ (n : ℕ). GivesOwn n (items_of (instructions t) hart)) own (gives_own t.image (length t.entries) 0 t.entries hart)
