use Rattle.std.proofs.lemmas.Result.{err_from_is_err_and}
use Rattle.store_buffer.proofs.entry.Entry.join.Goals as goal

pub returns-in_err-push-clause-ok : goal.returns-in_err-push-clause-ok
returns-in_err-push-clause-ok c =
    let p = err_from_is_err_and c.from_residual.result c.from_residual.ensures.1 in
    rw p.1 tt

pub returns-in_err-push-clause-err : goal.returns-in_err-push-clause-err
returns-in_err-push-clause-err c =
    let p = err_from_is_err_and c.from_residual.result c.from_residual.ensures.1 in
    let old = c.in_err-push.ensures.err in
    let e = c.args.self.now in
    rw p.1 (λ i. record { word = e.word; mask = e.mask; bytes = e.bytes; ops = old i })

pub returns-clause-ok : goal.returns-clause-ok
returns-clause-ok c =
    let mask = c.union-self.ensures in
    let bytes = c.lay_over-self.ensures in
    let ops = c.in_ok-push.ensures.ok in
    (λ i. record { word = c.args.self.now.word; mask = mask i; bytes = bytes i; ops = ops i })
