-- The search goes on to the next entry.
use Rattle.std.proofs.Common.{ℕ, ◌+◌, ◌<◌, ◌≤◌, List, [], ◌∷◌, ◌++◌, ◌≡◌, Option, Some, None, refl, ap, sym, ◌∙◌, subst, length, take, add-one, drop, drop-cons, get_or}
use Rattle.std.proofs.lemmas.List.{drop_all, take_more}
use Rattle.memory_model.specs.declared.operation.Operation.{Operation}
use Rattle.tl_types.specs.declared.line.LineData.{LineData}
use Rattle.trace_recorder.specs.declared.logged.Logged.{Logged}
use Rattle.written_lines.specs.Granted.{Follows, granted_in}
use Rattle.written_lines.specs.Written.{first_or, granted_of, other_byte_of, unwritten_from}
use Rattle.written_lines.specs.declared.checking.Unwritten.{Unwritten}
use Rattle.written_lines.specs.declared.granted.Granted.{Granted}

module _ (performed : List Operation) (log : List Logged) where
  -- what is found is what is found from this entry on
  abbrev pub IsPassed : Granted → ℕ → Type 0
  IsPassed g i = Follows g (take i log) × (unwritten_from performed 0 [] log ≡ unwritten_from performed i (take i log) (drop i log))

  module _ (g : Granted) (i : ℕ) (d : Logged) (within : i < length log) (passed : IsPassed g i) where
    abbrev entry : Logged
    entry = get_or log i d

    here : unwritten_from performed 0 [] log ≡ first_or i (other_byte_of performed (granted_of entry.hart entry.message.line (take i log)) entry) (unwritten_from performed (i + 1) (take i log ++ entry ∷ []) (drop (i + 1) log))
    here = passed.1 ∙ ap (unwritten_from performed i (take i log)) (drop-cons log i d within ∙ ap (λ n. entry ∷ drop n log) (sym (add-one i)))

    found_by : (o : Option ℕ) → o ≡ other_byte_of performed (granted_in g.lines entry.hart entry.message.line) entry → unwritten_from performed 0 [] log ≡ first_or i o (unwritten_from performed (i + 1) (take i log ++ entry ∷ []) (drop (i + 1) log))
    found_by o is = here ∙ ap (λ (given : Option LineData). first_or i (other_byte_of performed given entry) (unwritten_from performed (i + 1) (take i log ++ entry ∷ []) (drop (i + 1) log))) (sym (passed.0 entry.hart entry.message.line))
        ∙ ap (λ x. first_or i x (unwritten_from performed (i + 1) (take i log ++ entry ∷ []) (drop (i + 1) log))) (sym is)

    pub found_here : (o : Option ℕ) (x : ℕ) → o ≡ other_byte_of performed (granted_in g.lines entry.hart entry.message.line) entry → o ≡ Some x → Some (record { index = i; address = x }) ≡ unwritten_from performed 0 [] log
    found_here o x is some = sym (found_by o is ∙ ap (λ y. first_or i y (unwritten_from performed (i + 1) (take i log ++ entry ∷ []) (drop (i + 1) log))) some)

    pub passes : (o : Option ℕ) (next : Granted) → o ≡ other_byte_of performed (granted_in g.lines entry.hart entry.message.line) entry → o ≡ None → Follows next (take i log ++ entry ∷ []) → IsPassed next (i + 1)
    passes o next is none noted = (
      subst (Follows next) (sym (take_more log i d within)) noted,
      found_by o is ∙ ap (λ y. first_or i y (unwritten_from performed (i + 1) (take i log ++ entry ∷ []) (drop (i + 1) log))) none
          ∙ ap (λ (before : List Logged). unwritten_from performed (i + 1) before (drop (i + 1) log)) (sym (take_more log i d within)),
    )

  pub all_passed : (g : Granted) (i : ℕ) → length log ≤ i → IsPassed g i → None ≡ unwritten_from performed 0 [] log
  all_passed g i past passed = sym (passed.1 ∙ ap (unwritten_from performed i (take i log)) (drop_all i log past))
