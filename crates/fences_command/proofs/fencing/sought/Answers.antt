use Rattle.std.proofs.Common.{IfOk, List, Option, Some, option_map, subst, sym, ℕ}
use Rattle.std.specs.Global.{Vec}
use Rattle.fences_command.specs.Fencing.{IsSought}
use Rattle.fences_command.proofs.fencing.sought.Goals as goal

pub returns-in-Some : goal.returns-in-Some
returns-in-Some g c =
    let q = c.args.question in
    let names = c.args.names.now in
    subst (λ (text : Option (Vec ℕ)). IfOk c.sought_within.result (IsSought q.world q.image.now q.config q.addresses.now q.window q.limit names (option_map (λ (v : Vec ℕ). v.items) text))) (sym c.in-Some.is)
    (subst (λ (bytes : List ℕ). IfOk c.sought_within.result (IsSought q.world q.image.now q.config q.addresses.now q.window q.limit names (Some bytes))) c.deref.ensures.value c.sought_within.ensures)

pub returns-in-None : goal.returns-in-None
returns-in-None g c =
    let q = c.args.question in
    subst (λ (text : Option (Vec ℕ)). IfOk c.sought_as_it_is.result (IsSought q.world q.image.now q.config q.addresses.now q.window q.limit c.args.names.now (option_map (λ (v : Vec ℕ). v.items) text))) (sym c.in-None.is) (c.sought_as_it_is.ensures c.args.names.now)
