use Rattle.std.proofs.Common.{◌≡◌, ◌∙◌, ℕ, List, ap, arith, eqb, false, inr, length, subst, sym, true}
use Rattle.std.proofs.lemmas.Bool.{eqb-false, eqb-true}
use Rattle.std.proofs.lemmas.List.{nil_from_length}
use Rattle.wide_logs.specs.Logs.{code_at}
use Rattle.wide_logs.specs.Stops.{Passed}
use Rattle.wide_logs.proofs.ReadBack.{line_shortens}
use Rattle.wide_logs.proofs.Stops.{passed_all, passed_more, passed_none}
use Rattle.wide_logs.proofs.reading.entries_of.Goals as goal

pub loop-rest-init : goal.loop-rest-init
loop-rest-init c = rw c.new-entries.ensures.items (passed_none c.args.shape c.args.bytes.now)

pub loop-rest-preserved : goal.loop-rest-preserved
loop-rest-preserved c = rw c.in-Ok.ensures.items (passed_more c.args.shape c.requires c.args.bytes.now c.loop-rest.entries.items c.loop-rest.rest.now c.in-Some.later.now c.in-Some.entry c.in-Some.ensures c.loop-rest.invariant)

pub loop-rest-smaller : goal.loop-rest-smaller
loop-rest-smaller c = line_shortens c.args.shape c.requires c.loop-rest.rest.now c.in-Some.entry c.in-Some.later.now (sym c.in-Some.ensures)

pub returns-in-None-clause-stop : goal.returns-in-None-clause-stop
returns-in-None-clause-stop c =
    let t : eqb (length c.loop-rest.rest.now) 0 ≡ false = cc in
    inr (record {
      entries = c.loop-rest.entries.items;
      rest = c.loop-rest.rest.now;
      passed = c.loop-rest.invariant;
      some = omega (arith, eqb-false _ _ t);
      none = sym c.in-None.ensures;
      number = omega (arith, c.fault_at.ensures.line, c.len.ensures, c.loop-rest.entries.ok);
      code = c.fault_at.ensures.code ∙ ap (λ n. code_at n c.loop-rest.rest.now) (sym c.fault_at.ensures.line);
      cause = c.fault_at.ensures.cause;
    })

pub returns-clause-read : goal.returns-clause-read
returns-clause-read c =
    let t : eqb (length c.loop-rest.rest.now) 0 ≡ true = cc in
    passed_all c.args.shape c.args.bytes.now c.loop-rest.entries.items
    (subst (λ (r : List ℕ). Passed c.args.shape c.args.bytes.now c.loop-rest.entries.items r) (nil_from_length c.loop-rest.rest.now (eqb-true _ _ t)) c.loop-rest.invariant)
