-- Outcomes looked at one by one.
use Rattle.std.proofs.Common.{◌≡◌, ◌∙◌, ◌-◌, ◌≤◌, ℕ, Bool, true, false, List, [], ◌∷◌, Option, ap, arith, cond, drop, get_or, length, subst, sym, take}
use Rattle.std.proofs.lemmas.Grind.{common_steps}
use Rattle.std.specs.Global.{Vec}
use Rattle.architecture_outcomes.specs.declared.outcome.Outcome.{Outcome}
use Rattle.litmus_answers.specs.declared.layout.Layout.{Layout}
use Rattle.litmus_command.specs.States.{IsStopIn, added, found, is_of}
use Rattle.litmus_command.specs.declared.fault.Halt.{Halt}
use Rattle.litmus_command.specs.declared.states.Of.{Of}
use Rattle.litmus_command.proofs.Stopping.{of_rest}
use Rattle.litmus_parts.specs.declared.step.Step.{Step}

tail_is : (x : Outcome) (rest : List Outcome) → take (length (x ∷ rest) - 1) (drop 1 (x ∷ rest)) ≡ rest
tail_is x rest = grind (arith, common_steps)

module _ (layout : Layout) (filter : Option (Vec Step)) (which : Of) (rows total : List (List ℕ)) where
  one_found : (rows' : List (List ℕ)) (x : Outcome) (rest : List Outcome) → rows' ≡ cond (is_of which x.way) (added layout filter rows x) rows → found layout filter which rows (x ∷ rest) ≡ total
      → found layout filter which rows' (take (length (x ∷ rest) - 1) (drop 1 (x ∷ rest))) ≡ total
  one_found rows' x rest is so = ap (λ (l : List Outcome). found layout filter which rows' l) (tail_is x rest) ∙ ap (λ (r : List (List ℕ)). found layout filter which r rest) is ∙ so

  -- one more is looked at
  pub one_added : (rows' : List (List ℕ)) (rest : List Outcome) (o : Outcome) (looked : Bool) → 1 ≤ length rest → o ≡ get_or rest 0 o → looked ≡ is_of which o.way → looked ≡ true → rows' ≡ added layout filter rows o → found layout filter which rows rest ≡ total
      → found layout filter which rows' (take (length rest - 1) (drop 1 rest)) ≡ total
  one_added rows' [] o looked some is says on more so = absurd (omega arith)
  one_added rows' (x ∷ rest) o looked some is says on more so =
      let same : o ≡ x = is in
      let of : true ≡ is_of which x.way = sym on ∙ says ∙ ap (λ (y : Outcome). is_of which y.way) same in
      one_found rows' x rest (more ∙ ap (λ (y : Outcome). added layout filter rows y) same ∙ ap (λ (b : Bool). cond b (added layout filter rows x) rows) of) so

  -- or one that isn't
  pub one_left : (rest : List Outcome) (o : Outcome) (looked : Bool) → 1 ≤ length rest → o ≡ get_or rest 0 o → looked ≡ is_of which o.way → looked ≡ false → found layout filter which rows rest ≡ total
      → found layout filter which rows (take (length rest - 1) (drop 1 rest)) ≡ total
  one_left [] o looked some is says off so = absurd (omega arith)
  one_left (x ∷ rest) o looked some is says off so =
      let same : o ≡ x = is in
      let of : false ≡ is_of which x.way = sym off ∙ says ∙ ap (λ (y : Outcome). is_of which y.way) same in
      one_found rows x rest (ap (λ (b : Bool). cond b (added layout filter rows x) rows) of) so

-- a hart that stops behind the first one stops at one of all
pub stops_behind : (rest all : List Outcome) → 1 ≤ length rest → ((why : Halt) → IsStopIn rest why → IsStopIn all why) → (why : Halt) → IsStopIn (take (length rest - 1) (drop 1 rest)) why → IsStopIn all why
stops_behind [] all some of why stop = absurd (omega arith)
stops_behind (x ∷ rest) all some of why stop = of why (of_rest x rest why (subst (λ (l : List Outcome). IsStopIn l why) (tail_is x rest) stop))
