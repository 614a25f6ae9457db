use base.Shift.{Keyless}
use denote.Exit.{Last, if_kept, left, unseen}
use Rattle.std.proofs.Common.{◌≡◌, ℕ, Bool, true, false, arith, subst, vec_len}
use Rattle.std.specs.Prelude.{IfOk}
use Rattle.host_threads.proofs.crew.run_all.Goals as goal

-- what leaves unseen holds no key, whether it is kept or not
quiet : {D : Type 0} (kept : Bool) (x : D) (w : Last (if_kept kept (unseen {D = D}) (unseen {D = D})) x) → Keyless (left (if_kept kept (unseen {D = D}) (unseen {D = D})) x w)
quiet true x w = tt
quiet false x w = tt

pub scoped-requires : goal.scoped-requires
scoped-requires g c =
    let b = c.type_bounds in
    record { at = λ scope. (omega (arith, c.len-count.ensures), (c.requires, (record { owned = b.send-L.owned; leaving = λ k x w. quiet _ x w }, record { owned = b.send-T.owned; leaving = λ k x w. quiet _ x w }, record { shared = b.sync-L.shared }, record { shared = b.sync-G.shared }, record { shared = b.sync-R.shared }))) }

pub returns-clause-done : goal.returns-clause-done
returns-clause-done g c = subst (λ (n : ℕ). IfOk c.scoped.result (λ done. vec_len done ≡ n)) c.len-count.ensures c.scoped.ensures.1.0

pub returns-clause-back : goal.returns-clause-back
returns-clause-back g c = c.scoped.ensures.1.1.0

pub returns-clause-refused : goal.returns-clause-refused
returns-clause-refused g c = c.scoped.ensures.1.1.1
