use Rattle.std.proofs.Common.{◌∙◌, ℕ, ap, arith, cond}
use Rattle.memory_model.specs.Operations.{same}
use Rattle.memory_model.specs.Traces.{is_named}
use Rattle.memory_model.specs.Verdict.{name_of}
use Rattle.trace_recorder.specs.declared.operation.OpId.{OpId}
use Rattle.trace_operations.specs.Indexed.{known, number_in}
use Rattle.trace_operations.proofs.Indexed.{kept_there, put_there}
use Rattle.trace_operations.proofs.Tables.{known_missing, known_put, known_there}
use Rattle.trace_operations.proofs.places.put_first.Goals as goal

pub returns-then-number-gt0 : goal.returns-then-number-gt0
returns-then-number-gt0 c = λ b.
    let numbered = c.number.ensures ∙ ap (λ (n : OpId). number_in n.hart n.place c.args.places.now) c.name_of.ensures in
    kept_there (λ (n : ℕ × ℕ). known (number_in n.0 n.1 c.args.places.now)) c.args.a.now b c.args.position (known_there _ (omega (arith, numbered, c.if-number-gt0.true)))

pub returns : goal.returns
returns c = λ b.
    let old = c.args.places.now in
    let numbered = c.number.ensures ∙ ap (λ (n : OpId). number_in n.hart n.place old) c.name_of.ensures in
    let named = c.in_ok-put.ensures (name_of b) ∙ ap (λ (n : OpId). cond (is_named (name_of b) n) c.in_ok-rank.rank (number_in b.hart b.place old)) c.name_of-2.ensures in
    let put = named ∙ ap (λ (rank : ℕ). cond (same b c.args.a.now) rank (number_in b.hart b.place old)) c.in_ok-rank.ensures in
    put_there (λ (n : ℕ × ℕ). known (number_in n.0 n.1 old)) (λ (n : ℕ × ℕ). known (number_in n.0 n.1 c.put.new.self)) c.args.a.now b c.args.position (known_put (same b c.args.a.now) c.args.position (number_in b.hart b.place old) (number_in b.hart b.place c.put.new.self) put) (known_missing _ (omega (arith, numbered, c.if-number-gt0.false)))
