-- Propositions on a final state, from left to right, their parts in the order in which they are worked out.
use Rattle.std.specs.Prelude.{ℕ, zero, suc, Bool, List, [], ◌∷◌, ◌++◌, Option, Some, None, Ok, Err, codes}
use Rattle.std.specs.Option.{option_or}
use Rattle.text_words.specs.Words.{symbol_at}
use Rattle.litmus_parts.specs.declared.places.Place.{Place}
use Rattle.litmus_parts.specs.declared.stop.Section.TheVariants as sections
use Rattle.litmus_parts.specs.declared.stop.Cause.TheVariants as causes
use Rattle.litmus_text.specs.declared.proposition.Operator.{Operator}
use Rattle.litmus_text.specs.declared.proposition.Operator.TheVariants.{Not, And, Or, Implies}
use Rattle.litmus_parts.specs.Stops.{Read, at, onto, ◌>>=◌}
use Rattle.litmus_parts.specs.Scanning.{expect, keyword_at}
use Rattle.litmus_parts.specs.Places.{place_at, value_at}
use Rattle.litmus_parts.specs.declared.step.Step.{Step}
use Rattle.litmus_parts.specs.declared.step.Step.TheVariants as steps

-- a place and a value, = or <> between
abbrev pub related : Option (List ℕ) → Option (List ℕ) → Place → List ℕ → Read Step
related (Some rest) other place bytes = value_at sections.Condition rest >>= λ x. Ok (steps.Equal (record { place = place; value = x.0 }), x.1)
related None (Some rest) place bytes = value_at sections.Condition rest >>= λ x. Ok (steps.Differs (record { place = place; value = x.0 }), x.1)
related None None place bytes = Err (at causes.Relation bytes)

unfoldable pub relation_at : Place → List ℕ → Read Step
relation_at place bytes = related (symbol_at (codes "=") bytes) (symbol_at (codes "<>") bytes) place bytes

abbrev pub place_and_value_at : ℕ → List ℕ → Read Step
place_and_value_at harts bytes = place_at sections.Condition harts bytes >>= λ x. relation_at x.0 x.1

-- true, false, or a relation
abbrev pub atom_by : Option (List ℕ) → Option (List ℕ) → ℕ → List ℕ → Read Step
atom_by (Some rest) other harts bytes = Ok (steps.True, rest)
atom_by None (Some rest) harts bytes = Ok (steps.False, rest)
atom_by None None harts bytes = place_and_value_at harts bytes

unfoldable pub atom_at : ℕ → List ℕ → Read Step
atom_at harts bytes = atom_by (keyword_at (codes "true") bytes) (keyword_at (codes "false") bytes) harts bytes

abbrev pub step_of : Operator → Step
step_of Not = steps.Not
step_of And = steps.And
step_of Or = steps.Or
step_of Implies = steps.Implies

abbrev pub read_as : Operator → List ℕ → Read Step
read_as operator rest = Ok (step_of operator, rest)

-- an operator stands behind its operands
abbrev pub then_step : Step → Read (List Step) → Read (List Step)
then_step step (Ok x) = Ok (x.0 ++ step ∷ [], x.1)
then_step step (Err stop) = Err stop

-- what goes on behind a symbol, if it stands here
abbrev pub linked : Option (List ℕ) → (List ℕ → Read (List Step)) → List ℕ → Read (List Step)
linked (Some rest) more bytes = more rest
linked None more bytes = Ok ([], bytes)

-- further operands, each behind this symbol; the operator takes the one before and the one behind
unfoldable pub chain_at : List ℕ → Step → (List ℕ → Read (List Step)) → ℕ → List ℕ → Read (List Step)
chain_at symbol operator operand zero bytes = Err (at causes.FewOperands bytes)
chain_at symbol operator operand (suc n) bytes = linked (symbol_at symbol bytes) (λ rest. then_step operator (operand rest) >>= λ x. onto x.0 (chain_at symbol operator operand n x.1)) bytes

abbrev pub joined : List ℕ → Step → (List ℕ → Read (List Step)) → List ℕ → Read (List Step)
joined symbol operator operand bytes = operand bytes >>= λ x. onto x.0 (chain_at symbol operator operand 1000 x.1)

-- /\ binds more tightly than \/, and that more tightly than =>
unfoldable pub conjunction_of : (List ℕ → Read (List Step)) → List ℕ → Read (List Step)
conjunction_of operand bytes = joined (47 ∷ 92 ∷ []) steps.And operand bytes

unfoldable pub disjunction_of : (List ℕ → Read (List Step)) → List ℕ → Read (List Step)
disjunction_of operand bytes = joined (92 ∷ 47 ∷ []) steps.Or (conjunction_of operand) bytes

-- what stands behind => is a proposition, with so many arrows at most
unfoldable pub proposition_of : ℕ → (List ℕ → Read (List Step)) → List ℕ → Read (List Step)
proposition_of zero operand bytes = Err (at causes.Shallow bytes)
proposition_of (suc n) operand bytes = disjunction_of operand bytes >>= λ x. onto x.0 (linked (symbol_at (codes "=>") x.1) (λ rest. then_step steps.Implies (proposition_of n operand rest)) x.1)

-- ~ or not
abbrev pub negation_at : List ℕ → Option (List ℕ)
negation_at bytes = option_or (symbol_at (codes "~") bytes) (keyword_at (codes "not") bytes)

abbrev pub closed : Read (List Step) → Read (List Step)
closed read = read >>= λ x. expect (codes ")") causes.Close x.1 >>= λ rest. Ok (x.0, rest)

abbrev pub alone : Read Step → Read (List Step)
alone read = read >>= λ x. Ok (x.0 ∷ [], x.1)

-- a negated operand, a proposition in parentheses, or a relation
abbrev pub operand_by : (negation group : Option (List ℕ)) → (negated grouped : List ℕ → Read (List Step)) → ℕ → List ℕ → Read (List Step)
operand_by (Some rest) group negated grouped harts bytes = then_step steps.Not (negated rest)
operand_by None (Some rest) negated grouped harts bytes = closed (grouped rest)
operand_by None None negated grouped harts bytes = alone (atom_at harts bytes)

-- negations and parentheses nest so deep at most
unfoldable pub operand_at : ℕ → ℕ → List ℕ → Read (List Step)
operand_at zero harts bytes = Err (at causes.Shallow bytes)
operand_at (suc depth) harts bytes = operand_by (negation_at bytes) (symbol_at (codes "(") bytes) (operand_at depth harts) (proposition_of 64 (operand_at depth harts)) harts bytes

-- a proposition about so many harts
unfoldable pub proposition_at : ℕ → List ℕ → Read (List Step)
proposition_at harts bytes = proposition_of 64 (operand_at 64 harts) bytes
