use Rattle.std.proofs.Common.{◌≡◌, ◌∙◌, [], ◌∷◌, ◌++◌, All, Bool, Contains, List, Option, ap, arith, false, length, map, subst, sym}
use Rattle.std.specs.List.{list_any}
use Rattle.std.proofs.lemmas.List.{map-append}
use Rattle.std.proofs.lemmas.List.Elements.{All-push, Contains-append_left, Contains-push}
use Rattle.architecture_outcomes.specs.declared.failing.Failing.{Failing}
use Rattle.architecture_outcomes.specs.Failings.{IsDecidedStop, IsShown, failures_in, machine_stop}
use Rattle.architecture_outcomes.proofs.Stopping.{decided_beyond, failing_failure, shown_beyond}
use Rattle.window_search.specs.Failure.{Failure}
use Rattle.window_search.specs.Stops.{is_same_failure}
use Rattle.window_search.proofs.StopsOnce.{is_there, once_pushed, pushed}
use Rattle.architecture_outcomes.proofs.failing.add_beyond.Goals as goal

pub returns-then-is_among-clause-added : goal.returns-then-is_among-clause-added
returns-then-is_among-clause-added c =
    is_there failing_failure c.args.failings.now.items c.args.run.failure (ap (list_any (λ (f : Failing). is_same_failure f.failure c.args.run.failure)) (sym c.deref.ensures.value) ∙ sym c.is_among.ensures ∙ c.if-is_among.true)

pub returns-clause-shown : goal.returns-clause-shown
returns-clause-shown c = λ image config addresses failed each before.
    let none : list_any (λ (f : Failing). is_same_failure f.failure c.args.run.failure) c.args.failings.now.items ≡ false = ap (list_any (λ (f : Failing). is_same_failure f.failure c.args.run.failure)) (sym c.deref.ensures.value) ∙ sym c.is_among.ensures ∙ c.if-is_among.false in
    subst (All (IsShown image config addresses)) (sym c.in_ok-push.ensures.items)
    (All-push (IsShown image config addresses) c.args.failings.now.items c.beyond.result before
    (subst (IsShown image config addresses) (sym c.beyond.ensures) (shown_beyond image config addresses c.args.failings.now.items c.args.run c.args.is_complete none failed each)))

pub returns-clause-once : goal.returns-clause-once
returns-clause-once c =
    let none : list_any (λ (f : Failing). is_same_failure f.failure c.args.run.failure) c.args.failings.now.items ≡ false = ap (list_any (λ (f : Failing). is_same_failure f.failure c.args.run.failure)) (sym c.deref.ensures.value) ∙ sym c.is_among.ensures ∙ c.if-is_among.false in
    once_pushed failing_failure c.args.failings.now.items c.push.new.self.items c.beyond.result c.in_ok-push.ensures.items
    (subst (λ (x : Failure). list_any (λ (f : Failing). is_same_failure f.failure x) c.args.failings.now.items ≡ false) (sym (ap failing_failure c.beyond.ensures)) none)

pub returns-clause-decided : goal.returns-clause-decided
returns-clause-decided c = λ complete before.
    subst (All IsDecidedStop) (sym c.in_ok-push.ensures.items) (All-push IsDecidedStop c.args.failings.now.items c.beyond.result before (subst IsDecidedStop (sym c.beyond.ensures) (decided_beyond c.args.is_complete c.args.run complete)))

pub returns-clause-kept : goal.returns-clause-kept
returns-clause-kept c = λ x has.
    subst (λ xs. Contains xs x) (sym (pushed failing_failure c.args.failings.now.items c.push.new.self.items c.beyond.result c.in_ok-push.ensures.items))
    (Contains-append_left (failures_in c.args.failings.now.items) (c.beyond.result.failure ∷ []) x has)

pub returns-clause-machine : goal.returns-clause-machine
returns-clause-machine c = λ x has.
    subst (λ xs. Contains (map machine_stop xs) x) (sym c.in_ok-push.ensures.items)
    (subst (λ xs. Contains xs x) (sym (map-append machine_stop c.args.failings.now.items (c.beyond.result ∷ []))) (Contains-append_left (map machine_stop c.args.failings.now.items) (machine_stop c.beyond.result ∷ []) x has))

pub returns-clause-added : goal.returns-clause-added
returns-clause-added c =
    subst (λ xs. Contains xs c.args.run.failure) (sym (pushed failing_failure c.args.failings.now.items c.push.new.self.items c.beyond.result c.in_ok-push.ensures.items))
    (subst (λ x. Contains (failures_in c.args.failings.now.items ++ c.beyond.result.failure ∷ []) x) (ap failing_failure c.beyond.ensures) (Contains-push (failures_in c.args.failings.now.items) c.beyond.result.failure))
