use Rattle.std.proofs.Common.{◌≡◌, ◌+◌, ◌-◌, ℕ, List, ap, sym, arith, length, length-drop, take, drop}
use Rattle.std.proofs.lemmas.List.{take_all}
use Rattle.text_fields.specs.Fields.{numbered}
use Rattle.text_fields.proofs.Pages.{page_as, page_fails, page_more, page_stops}
use Rattle.text_fields.proofs.Written.{numbered_first}
use Rattle.event_stream.specs.Closing.{closing_line}
use Rattle.event_stream.proofs.closing.put_statuses.Goals as goal

others_are : {X : Type 0} (f : ℕ → X → List ℕ) (h : ℕ) (xs : List X) → numbered f h (take (length xs - 1) (drop 1 xs)) ≡ numbered f h (drop 1 xs)
others_are f h xs = ap (numbered f h) (take_all (length xs - 1) (drop 1 xs) (omega (arith, length-drop 1 xs)))

pub put_status-requires-clause-hart : goal.put_status-requires-clause-hart
put_status-requires-clause-hart g c =
    omega (arith, c.loop-rest.invariant.place, c.loop-rest.invariant.sized.statuses, c.in-len1-up.len_at_least)

pub put_status-requires-clause-sets : goal.put_status-requires-clause-sets
put_status-requires-clause-sets g c = c.loop-rest.invariant.sized.sets

pub returns-in_err-put_status : goal.returns-in_err-put_status
returns-in_err-put_status g c =
    page_stops _ _ _ _ _ _ c.from_residual.ensures.0
    (page_fails _ _ _ _ _ _ _
    (page_as _ _ _ _ _ _ (numbered_first (closing_line c.args.names.now c.args.machine.now) c.loop-rest.hart c.loop-rest.rest.now _ (omega (arith, c.in-len1-up.len_at_least))) c.loop-rest.invariant.told)
    c.in_err-put_status.ensures)

pub loop-rest-preserved : goal.loop-rest-preserved
loop-rest-preserved g c = record {
  place = omega (arith, c.loop-rest.invariant.place, c.in-len1-up.len_at_least);
  sized = c.loop-rest.invariant.sized;
  told = page_as _ _ _ _ _ _ (sym (others_are (closing_line c.args.names.now c.args.machine.now) (c.loop-rest.hart + 1) c.loop-rest.rest.now))
      (page_more _ _ _ _ _ _ _ _
      (page_as _ _ _ _ _ _ (numbered_first (closing_line c.args.names.now c.args.machine.now) c.loop-rest.hart c.loop-rest.rest.now _ (omega (arith, c.in-len1-up.len_at_least))) c.loop-rest.invariant.told)
      c.in_ok-put_status.ensures);
}
