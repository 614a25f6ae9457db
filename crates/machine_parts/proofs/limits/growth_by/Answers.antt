use Rattle.std.proofs.Common.{ℕ, ◌≡◌, refl, subst, sym}
use Rattle.machine_model.specs.declared.act.Act.{Act}
use Rattle.machine_model.specs.Ready.{IsReadyAct}
use Rattle.machine_model.specs.Views.{State}
use Rattle.machine_parts.specs.Needs.{Needs, needs_of}
use Rattle.machine_parts.proofs.limits.growth_by.Goals as goal

-- so much each
abbrev Is : (entries performed log : ℕ) → Needs → Type 0
Is entries performed log needs = record { entries : entries ≡ needs.entries; performed : performed ≡ needs.performed; log : log ≡ needs.log }

-- an act that is this one
needed : (s : State) (h : ℕ) (a is : Act) (entries performed log : ℕ) → a ≡ is → Is entries performed log (needs_of s h is) → Is entries performed log (needs_of s h a)
needed s h a is entries performed log e = subst (λ (b : Act). Is entries performed log (needs_of s h b)) (sym e)

pub waiting-requires-clause-drainable : goal.waiting-requires-clause-drainable
waiting-requires-clause-drainable c = (subst (λ (a : Act). IsReadyAct c.args.hart a c.args.parts.now.state) c.in-Drain.is c.requires.ready).0

pub returns-in-Stop : goal.returns-in-Stop
returns-in-Stop c = needed c.args.parts.now.state c.args.hart c.args.act.now _ _ _ _ c.in-Stop.is (record { entries = refl; performed = refl; log = refl })

pub returns-in-Retire : goal.returns-in-Retire
returns-in-Retire c = needed c.args.parts.now.state c.args.hart c.args.act.now _ _ _ _ c.in-Retire.is (record { entries = refl; performed = refl; log = refl })

pub returns-in-Drain : goal.returns-in-Drain
returns-in-Drain c = needed c.args.parts.now.state c.args.hart c.args.act.now _ _ _ _ c.in-Drain.is (record { entries = refl; performed = c.waiting.ensures; log = refl })

pub returns-in-Local : goal.returns-in-Local
returns-in-Local c = needed c.args.parts.now.state c.args.hart c.args.act.now _ _ _ _ c.in-Local.is (record { entries = refl; performed = refl; log = refl })
