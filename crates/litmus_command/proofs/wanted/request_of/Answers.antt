use Rattle.std.proofs.lemmas.Result.{err_from_is_err_and}
use Rattle.litmus_command.proofs.Words.{refused_on}
use Rattle.litmus_command.proofs.wanted.request_of.Goals as goal

pub returns-in_err-take_word-clause-request : goal.returns-in_err-take_word-clause-request
returns-in_err-take_word-clause-request g c =
    let p = err_from_is_err_and c.from_residual.result c.from_residual.ensures.1 in
    rw (p.1, p.2)
    (refused_on g.S.AsStr.text c.loop-rest.reading c.loop-rest.rest.now c.first-item.result c.as_str.result.now _ _ c.in-len1-up.len_at_least c.first-item.is c.as_str.ensures c.loop-rest.invariant.read c.in_err-take_word.ensures.read)
