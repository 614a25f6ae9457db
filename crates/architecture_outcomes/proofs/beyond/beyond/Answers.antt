use Rattle.std.proofs.Common.{◌≡◌, ◌∙◌, ◌++◌, ◌+◌, ℕ, Bool, List, MatchOption, None, Option, All, IfSome, IsTrue, ap, arith, false, length, true, subst, sym, vec_len}
use Rattle.std.specs.Option.{option_to_list}
use Rattle.std.specs.Global.{Vec}
use Rattle.std.specs.List.{list_any}
use Rattle.std.proofs.lemmas.List.Elements.{All-nil, All-pop, All-push}
use Rattle.architecture_outcomes.specs.Outcomes.{IsDecided, IsWitnessed, end_of, of_witness, tells}
use Rattle.architecture_outcomes.specs.declared.outcome.Outcome.{Outcome}
use Rattle.architecture_outcomes.proofs.Each.{IsLeftOrTold, all_left, each, one_found, one_told, same_end}
use Rattle.architecture_outcomes.proofs.NeverEnds.{shown}
use Rattle.architecture_outcomes.proofs.Once.{left_of, left_strict, once_apart}
use Rattle.witnesses.specs.declared.witness.Witness.{Witness}
use Rattle.witnesses.specs.Witnesses.{IsWitness}
use Rattle.architecture_outcomes.proofs.beyond.beyond.Goals as goal

abbrev decided : Outcome → Type 0
decided o = IsDecided o.way

-- one of a witness is told as the model's alone, where the machine's search is complete
is_decided : (is_complete : Bool) (words : Vec ℕ) (w : Witness) → IsTrue is_complete → decided (of_witness is_complete words w)
is_decided true words w complete = tt
is_decided false words w complete = cc complete

none_popped : (left rest : Vec Witness) (r : Option Witness) → r ≡ None → MatchOption r ((vec_len left ≡ 0) × (vec_len rest ≡ 0)) (λ _. vec_len rest + 1 ≡ vec_len left) → vec_len left ≡ 0
none_popped left rest r is cases = (subst (λ (o : Option Witness). MatchOption o ((vec_len left ≡ 0) × (vec_len rest ≡ 0)) (λ _. vec_len rest + 1 ≡ vec_len left)) is cases).0

pub loop-witness-init : goal.loop-witness-init
loop-witness-init c =
    let shows = IsWitnessed c.args.image.now c.args.config c.args.addresses.now in
    let apart = λ (o : Outcome). list_any (tells (end_of o)) c.args.found.now ≡ false in
    record {
      left = c.requires.witnessed;
      shown = subst (All shows) (sym c.new-outcomes.ensures.items) (All-nil shows);
      alone = λ complete. subst (All decided) (sym c.new-outcomes.ensures.items) (All-nil decided);
      apart = subst (All apart) (sym c.new-outcomes.ensures.items) (All-nil apart);
      told = all_left c.args.addresses.now c.args.witnesses.items c.args.found.now c.new-outcomes.result.items;
    }

pub loop-witness-preserved-in-Continue-branch-2 : goal.loop-witness-preserved-in-Continue-branch-2
loop-witness-preserved-in-Continue-branch-2 c =
    let P = IsWitness c.args.image.now c.args.config in
    let S = IsWitnessed c.args.image.now c.args.config c.args.addresses.now in
    let apart = λ (o : Outcome). list_any (tells (end_of o)) c.args.found.now ≡ false in
    let parts = All-pop P c.loop-witness.left.items c.pop.new.self.items c.pop.result c.pop.ensures.items c.loop-witness.invariant.left in
    let here : P c.in-Some.witness = subst (λ (o : Option Witness). IfSome o P) c.in-Some.is parts.1 in
    let new : apart c.beyond-outcome.result = sym c.is_found.ensures ∙ c.if-not-is_found.true in
    let none : apart (of_witness c.args.is_complete c.in_ok-words.words c.in-Some.witness) = subst apart c.beyond-outcome.ensures new in
    let one : S c.beyond-outcome.result = subst S (sym c.beyond-outcome.ensures)
    (shown c.args.image.now c.args.config c.args.addresses.now c.args.found.now c.args.is_complete c.in_ok-words.words c.in-Some.witness c.requires.complete none here c.in_ok-words.ensures) in
    record {
      left = parts.0;
      shown = subst (All S) (sym c.in_ok-push.ensures.items) (All-push S c.loop-witness.outcomes.items c.beyond-outcome.result c.loop-witness.invariant.shown one);
      alone = λ complete. subst (All decided) (sym c.in_ok-push.ensures.items)
          (All-push decided c.loop-witness.outcomes.items c.beyond-outcome.result (c.loop-witness.invariant.alone complete) (subst decided (sym c.beyond-outcome.ensures) (is_decided c.args.is_complete c.in_ok-words.words c.in-Some.witness complete)));
      apart = subst (All apart) (sym c.in_ok-push.ensures.items) (All-push apart c.loop-witness.outcomes.items c.beyond-outcome.result c.loop-witness.invariant.apart new);
      told = subst (λ (os : List Outcome). IsLeftOrTold c.args.addresses.now c.args.witnesses.items c.pop.new.self.items c.args.found.now os) (sym c.in_ok-push.ensures.items)
          (one_told c.args.addresses.now c.args.witnesses.items c.loop-witness.left.items c.pop.new.self.items c.in-Some.witness c.args.found.now c.loop-witness.outcomes.items
          (c.pop.ensures.items ∙ ap (λ (r : Option Witness). c.pop.new.self.items ++ option_to_list r) c.in-Some.is) c.loop-witness.invariant.told c.beyond-outcome.result
          (ap end_of c.beyond-outcome.ensures ∙ same_end c.args.image.now c.args.config c.args.addresses.now c.args.is_complete c.in_ok-words.words c.in-Some.witness here c.in_ok-words.ensures));
    }

pub loop-witness-preserved-else-not-is_found : goal.loop-witness-preserved-else-not-is_found
loop-witness-preserved-else-not-is_found c = record {
  left = (All-pop (IsWitness c.args.image.now c.args.config) c.loop-witness.left.items c.pop.new.self.items c.pop.result c.pop.ensures.items c.loop-witness.invariant.left).0;
  shown = c.loop-witness.invariant.shown;
  alone = c.loop-witness.invariant.alone;
  apart = c.loop-witness.invariant.apart;
  told = one_found c.args.addresses.now c.args.witnesses.items c.loop-witness.left.items c.pop.new.self.items c.in-Some.witness c.args.found.now c.loop-witness.outcomes.items
      (c.pop.ensures.items ∙ ap (λ (r : Option Witness). c.pop.new.self.items ++ option_to_list r) c.in-Some.is) c.loop-witness.invariant.told c.beyond-outcome.result
      (ap end_of c.beyond-outcome.ensures
      ∙ same_end c.args.image.now c.args.config c.args.addresses.now c.args.is_complete c.in_ok-words.words c.in-Some.witness
      (subst (λ (o : Option Witness). IfSome o (IsWitness c.args.image.now c.args.config)) c.in-Some.is (All-pop (IsWitness c.args.image.now c.args.config) c.loop-witness.left.items c.pop.new.self.items c.pop.result c.pop.ensures.items c.loop-witness.invariant.left).1)
      c.in_ok-words.ensures)
      (sym c.is_found.ensures ∙ c.if-not-is_found.false);
}

pub loop-witness-preserved-else-not-is_found-3 : goal.loop-witness-preserved-else-not-is_found-3
loop-witness-preserved-else-not-is_found-3 c = record {
  left = (All-pop (IsWitness c.args.image.now c.args.config) c.loop-witness.left.items c.pop.new.self.items c.pop.result c.pop.ensures.items c.loop-witness.invariant.left).0;
  shown = c.loop-witness.invariant.shown;
  alone = c.loop-witness.invariant.alone;
  apart = c.loop-witness.invariant.apart;
  told = one_found c.args.addresses.now c.args.witnesses.items c.loop-witness.left.items c.pop.new.self.items c.in-Some.witness c.args.found.now c.loop-witness.outcomes.items
      (c.pop.ensures.items ∙ ap (λ (r : Option Witness). c.pop.new.self.items ++ option_to_list r) c.in-Some.is) c.loop-witness.invariant.told c.beyond-outcome.result
      (ap end_of c.beyond-outcome.ensures
      ∙ same_end c.args.image.now c.args.config c.args.addresses.now c.args.is_complete c.in_ok-words.words c.in-Some.witness
      (subst (λ (o : Option Witness). IfSome o (IsWitness c.args.image.now c.args.config)) c.in-Some.is (All-pop (IsWitness c.args.image.now c.args.config) c.loop-witness.left.items c.pop.new.self.items c.pop.result c.pop.ensures.items c.loop-witness.invariant.left).1)
      c.in_ok-words.ensures)
      (sym c.is_found.ensures ∙ c.if-not-is_found.false);
}

pub loop-witness-preserved : goal.loop-witness-preserved
loop-witness-preserved c = record {
  left = (All-pop (IsWitness c.args.image.now c.args.config) c.loop-witness.left.items c.pop.new.self.items c.pop.result c.pop.ensures.items c.loop-witness.invariant.left).0;
  shown = c.loop-witness.invariant.shown;
  alone = c.loop-witness.invariant.alone;
  apart = c.loop-witness.invariant.apart;
  told = one_found c.args.addresses.now c.args.witnesses.items c.loop-witness.left.items c.pop.new.self.items c.in-Some.witness c.args.found.now c.loop-witness.outcomes.items
      (c.pop.ensures.items ∙ ap (λ (r : Option Witness). c.pop.new.self.items ++ option_to_list r) c.in-Some.is) c.loop-witness.invariant.told c.beyond-outcome.result
      (ap end_of c.beyond-outcome.ensures
      ∙ same_end c.args.image.now c.args.config c.args.addresses.now c.args.is_complete c.in_ok-words.words c.in-Some.witness
      (subst (λ (o : Option Witness). IfSome o (IsWitness c.args.image.now c.args.config)) c.in-Some.is (All-pop (IsWitness c.args.image.now c.args.config) c.loop-witness.left.items c.pop.new.self.items c.pop.result c.pop.ensures.items c.loop-witness.invariant.left).1)
      c.in_ok-words.ensures)
      (sym c.is_found.ensures ∙ c.if-not-is_found.false);
}

pub returns-clause-shown : goal.returns-clause-shown
returns-clause-shown c =
    left_of c.loop-witness.outcomes.items _ _ c.dedup.ensures.filtered (IsWitnessed c.args.image.now c.args.config c.args.addresses.now) c.sort_unstable.ensures.permutation c.loop-witness.invariant.shown

pub returns-clause-once : goal.returns-clause-once
returns-clause-once c =
    let apart = λ (o : Outcome). list_any (tells (end_of o)) c.args.found.now ≡ false in
    once_apart c.args.found.now _ c.requires.once (left_strict c.loop-witness.outcomes.items _ _ c.dedup.ensures.filtered c.sort_unstable.ensures.sorted)
    (left_of c.loop-witness.outcomes.items _ _ c.dedup.ensures.filtered apart c.sort_unstable.ensures.permutation c.loop-witness.invariant.apart)

pub returns-clause-alone : goal.returns-clause-alone
returns-clause-alone c =
    λ complete. left_of c.loop-witness.outcomes.items _ _ c.dedup.ensures.filtered decided c.sort_unstable.ensures.permutation (c.loop-witness.invariant.alone complete)

pub returns-clause-all : goal.returns-clause-all
returns-clause-all c =
    let empty = none_popped c.loop-witness.left c.pop.new.self c.pop.result c.in_default.is c.pop.ensures.cases in
    let none : length c.loop-witness.left.items ≡ 0 = omega (arith, empty, c.loop-witness.left.ok.0) in
    each c.args.addresses.now c.args.witnesses.items c.loop-witness.left.items c.args.found.now c.loop-witness.outcomes.items _ _ none c.loop-witness.invariant.told c.sort_unstable.ensures.permutation c.dedup.ensures.filtered
