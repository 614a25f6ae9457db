-- What a fabric answers to an event, by what its machine answers.
use Rattle.std.proofs.Common.{◌≡◌, ◌≢◌, ◌⊎◌, refl, sym, ap, subst, Ok, Err, inl, inr, arith}
use Rattle.std.specs.declared.result.Result.{Result}
use Rattle.machine_types.specs.declared.event.Event.{Event}
use Rattle.machine_types.specs.declared.outcome.Outcome.{Outcome}
use Rattle.machine_model.specs.Events.{Verdict, verdict}
use Rattle.machine_model.specs.Events.Verdict.{IsBad, Keeps, IsLimited, Moves}
use Rattle.machine_model.specs.Laws.{ChangesAreCounted}
use Rattle.machine_model.specs.Views.{State}
use Rattle.coherent_machine.specs.ApplyError.{ApplyError}
use Rattle.coherent_machine.specs.TheVariants.{NoMemory}
use Rattle.coherent_machine.specs.Applying.{Answers}
use Rattle.locked_fabric.specs.FabricState.{FabricState, Answered, Does, journalled}

-- where the number of changes stays, the machine does
pub still : ChangesAreCounted → (old : State) (e : Event) (o : Outcome) (new : State) → Answers (verdict old e) old (Ok o) new → new.views.changes ≡ old.views.changes → new ≡ old
still law old e o new answers same = by_verdict (verdict old e) refl answers
  where
    by_verdict : (v : Verdict) → verdict old e ≡ v → Answers v old (Ok o) new → new ≡ old
    by_verdict IsBad is a = absurd (cc (a.0))
    by_verdict (Keeps p) is a = a.1
    by_verdict IsLimited is a = absurd (cc (a.0))
    by_verdict (Moves p moved) is a =
        elim a [ inl x ↦ absurd (let more = law old e p moved is in let changes = ap (λ (s : State). s.views.changes) x.1 in omega arith) | inr x ↦ absurd (cc (x.0)) ]

-- where it doesn't, the event moved the machine
pub moves : (old : State) (e : Event) (o : Outcome) (new : State) → Answers (verdict old e) old (Ok o) new → new.views.changes ≢ old.views.changes → verdict old e ≡ Moves o new
moves old e o new answers differ = by_verdict (verdict old e) answers
  where
    by_verdict : (v : Verdict) → Answers v old (Ok o) new → v ≡ Moves o new
    by_verdict IsBad a = absurd (cc (a.0))
    by_verdict (Keeps p) a = absurd (differ (ap (λ (s : State). s.views.changes) a.1))
    by_verdict IsLimited a = absurd (cc (a.0))
    by_verdict (Moves p moved) a = elim a [ inl x ↦ cc (x.0, x.1) | inr x ↦ absurd (cc (x.0)) ]

-- an event that moved the machine is journalled
pub answered_moved : (old : FabricState) (e : Event) (o : Outcome) (new : State) → verdict old.machine e ≡ Moves o new → Answered old e (Ok o) (journalled old e new)
answered_moved old e o new is = inr (subst (λ (v : Verdict). Does v e old (Ok o) (journalled old e new)) (sym is) (refl, refl))

-- an answer with which the number of changes stays
pub answered_still : ChangesAreCounted → (old : FabricState) (e : Event) (o : Outcome) (new : State) → Answers (verdict old.machine e) old.machine (Ok o) new → new.views.changes ≡ old.machine.views.changes → Answered old e (Ok o) (record old { machine = new })
answered_still law old e o new answers same = inr (by_verdict (verdict old.machine e) refl answers)
  where
    by_verdict : (v : Verdict) → verdict old.machine e ≡ v → Answers v old.machine (Ok o) new → Does v e old (Ok o) (record old { machine = new })
    by_verdict IsBad is a = absurd (cc (a.0))
    by_verdict (Keeps p) is a = (a.0, ap (λ (s : State). record old { machine = s }) a.1)
    by_verdict IsLimited is a = absurd (cc (a.0))
    by_verdict (Moves p moved) is a =
        elim a [ inl x ↦ absurd (let more = law old.machine e p moved is in let changes = ap (λ (s : State). s.views.changes) x.1 in omega arith) | inr x ↦ absurd (cc (x.0)) ]

-- a machine's refusal is the fabric's
pub refused : (old : FabricState) (e : Event) (error : ApplyError) (new : State) → Answers (verdict old.machine e) old.machine (Err error) new → Answered old e (Err error) old
refused old e error new answers = by_verdict (verdict old.machine e) answers
  where
    by_verdict : (v : Verdict) → Answers v old.machine (Err error) new → (◌≡◌ {A = Result Outcome ApplyError} (Err error) (Err NoMemory) × (old ≡ old)) ⊎ Does v e old (Err error) old
    by_verdict IsBad a = inr (a.0, refl)
    by_verdict (Keeps p) a = absurd (cc (a.0))
    by_verdict IsLimited a = inr (a.0, refl)
    by_verdict (Moves p moved) a = elim a [ inl x ↦ absurd (cc (x.0)) | inr x ↦ inl (x.0, refl) ]
