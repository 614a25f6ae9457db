-- Where no outcome of the machine is this one, the machine never ends so.
use Rattle.std.proofs.Common.{◌≡◌, ◌∙◌, ◌||◌, ◌<◌, ℕ, Bool, List, [], ◌∷◌, true, false, true≢false, zero, suc, Contains, ap, arith, is_eq, length, le_of_suc-le-suc, map, refl, slice_index_or, subst, sym}
use Rattle.std.specs.Global.{Vec}
use Rattle.std.specs.List.{list_any}
use Rattle.std.proofs.lemmas.Cmp.{tied_itself}
use Rattle.architecture_outcomes.specs.declared.outcome.Outcome.{Outcome}
use Rattle.architecture_outcomes.specs.Outcomes.{IsWitnessed, NeverEnds, end_of, ends_of, of_witness, tells}
use Rattle.elf_loader.specs.Image.{Initial}
use Rattle.exploration_text.specs.Outcomes.{HasEachEnd}
use Rattle.performed_words.specs.Outcomes.{Outcome as End, performed_word}
use Rattle.machine_types.specs.declared.config.Config.{Config}
use Rattle.witnesses.specs.declared.witness.Witness.{Witness}
use Rattle.witnesses.specs.Witnesses.{IsWitness}
use Rattle.exploration_text.specs.Orders.{outcome_total}
use Rattle.exploration_text.specs.Ranks.{outcome_cmp}

neither : (a b : Bool) → (a || b) ≡ false → (a ≡ false) × (b ≡ false)
neither true b e = absurd (true≢false e)
neither false b e = (refl, e)

not_found : (found : List Outcome) (o : End) → list_any (tells o) found ≡ false → (k : ℕ) → k < length (ends_of found) → slice_index_or (ends_of found) k o ≡ o → ⊥
not_found [] o none k l e = absurd (omega (arith, l))
not_found (f ∷ fs) o none zero l e =
    let same : tells o f ≡ true = ap (λ x. is_eq (outcome_cmp x o)) e ∙ ap is_eq (tied_itself outcome_total o) in
    true≢false (sym same ∙ (neither (tells o f) (list_any (tells o) fs) none).0)
not_found (f ∷ fs) o none (suc k) l e = not_found fs o (neither (tells o f) (list_any (tells o) fs) none).1 k (le_of_suc-le-suc l) e

never : (image : Initial) (config : Config) (addresses : List ℕ) (found : List Outcome) (o : End) → HasEachEnd image config addresses (ends_of found) → list_any (tells o) found ≡ false → NeverEnds image config addresses o
never image config addresses found o each none events ended same =
    let at = subst (Contains (ends_of found)) same (each events ended) in not_found found o none at.0 at.1 at.2

-- a witness of such an outcome shows it
pub shown : (image : Initial) (config : Config) (addresses : List ℕ) (found : List Outcome) (is_complete : Bool) (words : Vec ℕ) (w : Witness) → (is_complete ≡ true → HasEachEnd image config addresses (ends_of found))
    → list_any (tells (end_of (of_witness is_complete words w))) found ≡ false → IsWitness image config w → words.items ≡ map (performed_word w.trace.history) addresses → IsWitnessed image config addresses (of_witness is_complete words w)
shown image config addresses found true words w each none is words_are = (record { witness = is; words = words_are }, never image config addresses found (end_of (of_witness true words w)) (each refl) none)
shown image config addresses found false words w each none is words_are = record { witness = is; words = words_are }
