-- The parts of propositions, read one after the other.
use Rattle.std.proofs.Common.{◌≡◌, ◌≢◌, ◌<◌, ◌≤◌, ◌+◌, ℕ, zero, suc, ◌-◌, List, [], ◌∷◌, ◌++◌, Option, Some, None, Ok, Err, refl, sym, ap, append_assoc, replicate, ◌∙◌, arith}
use Rattle.std.proofs.lemmas.List.{append-nil, replicate-append-replicate}
use Rattle.std.specs.Prelude.{Result, codes}
use Rattle.text_words.specs.Words.{symbol_at}
use Rattle.litmus_parts.specs.declared.stop.Cause.TheVariants as causes
use Rattle.litmus_parts.specs.declared.stop.Stop.{Stop}
use Rattle.litmus_parts.specs.declared.stop.Stop.TheVariants.{Memory, At}
use Rattle.litmus_parts.specs.declared.step.Step.{Step}
use Rattle.litmus_parts.specs.declared.step.Step.TheVariants as steps
use Rattle.litmus_parts.specs.Stops.{Read, at, onto, Refuses, Adds, ◌>>=◌}
use Rattle.litmus_parts.proofs.Reading.{onto_err, onto_then, refuses_then}
use Rattle.litmus_parts.proofs.Adding.{adds_both}
use Rattle.litmus_text.specs.Propositions.{then_step, linked, chain_at, conjunction_of, disjunction_of, proposition_of, negation_at, closed, alone, atom_at, operand_at}

-- ---- conjunctions and disjunctions

pub conjoined : {X : Type 0} (view : X → List ℕ) (old middle new : List Step) (rest : List ℕ) (result : Result X Stop) (operand : List ℕ → Read (List Step)) (bytes : List ℕ) → onto old (operand bytes) ≡ Ok (middle, rest) → Adds view middle new result (chain_at (47 ∷ 92 ∷ []) steps.And operand 1000 rest) → Adds view old new result (conjunction_of operand bytes)
unfolding conjunction_of
conjoined view old middle new rest result operand bytes h k = adds_both view old middle new rest result (operand bytes) (chain_at (47 ∷ 92 ∷ []) steps.And operand 1000) h k

pub conjunction_refused : (stop : Stop) (operand : List ℕ → Read (List Step)) (bytes : List ℕ) → Refuses stop (operand bytes) → Refuses stop (conjunction_of operand bytes)
unfolding conjunction_of
conjunction_refused stop operand bytes h = refuses_then stop (operand bytes) (λ x. onto x.0 (chain_at (47 ∷ 92 ∷ []) steps.And operand 1000 x.1)) h

pub disjoined : {X : Type 0} (view : X → List ℕ) (old middle new : List Step) (rest : List ℕ) (result : Result X Stop) (operand : List ℕ → Read (List Step)) (bytes : List ℕ) → onto old (conjunction_of operand bytes) ≡ Ok (middle, rest) → Adds view middle new result (chain_at (92 ∷ 47 ∷ []) steps.Or (conjunction_of operand) 1000 rest) → Adds view old new result (disjunction_of operand bytes)
unfolding disjunction_of
disjoined view old middle new rest result operand bytes h k = adds_both view old middle new rest result (conjunction_of operand bytes) (chain_at (92 ∷ 47 ∷ []) steps.Or (conjunction_of operand) 1000) h k

pub disjunction_refused : (stop : Stop) (operand : List ℕ → Read (List Step)) (bytes : List ℕ) → Refuses stop (conjunction_of operand bytes) → Refuses stop (disjunction_of operand bytes)
unfolding disjunction_of
disjunction_refused stop operand bytes h = refuses_then stop (conjunction_of operand bytes) (λ x. onto x.0 (chain_at (92 ∷ 47 ∷ []) steps.Or (conjunction_of operand) 1000 x.1)) h

-- ---- arrows

arrow : ℕ → (List ℕ → Read (List Step)) → List ℕ → Read (List Step)
arrow n operand bytes = linked (symbol_at (codes "=>") bytes) (λ rest. then_step steps.Implies (proposition_of n operand rest)) bytes

arrow_there : (n : ℕ) (operand : List ℕ → Read (List Step)) (rest later : List ℕ) → Some later ≡ symbol_at (codes "=>") rest → arrow n operand rest ≡ then_step steps.Implies (proposition_of n operand later)
unfolding arrow
arrow_there n operand rest later some = rw (sym some) refl

arrow_missing : (n : ℕ) (operand : List ℕ → Read (List Step)) (rest : List ℕ) → None ≡ symbol_at (codes "=>") rest → arrow n operand rest ≡ Ok ([], rest)
unfolding arrow
arrow_missing n operand rest none = rw (sym none) refl

opened : (n : ℕ) (operand : List ℕ → Read (List Step)) (bytes : List ℕ) → proposition_of (suc n) operand bytes ≡ (disjunction_of operand bytes >>= λ x. onto x.0 (arrow n operand x.1))
unfolding proposition_of arrow
opened n operand bytes = refl

-- the arrows stand behind all operands
abbrev pub with_arrows : ℕ → Read (List Step) → Read (List Step)
with_arrows count (Ok x) = Ok (x.0 ++ replicate count steps.Implies, x.1)
with_arrows count (Err stop) = Err stop

pub none_taken : (front : List Step) (read : Read (List Step)) → onto front (with_arrows 0 read) ≡ onto front read
none_taken front (Ok x) = ap (λ (l : List Step). Ok (front ++ l, x.1)) (append-nil x.0)
none_taken front (Err stop) = refl

arrows_onto : (count : ℕ) (front : List Step) (read : Read (List Step)) → with_arrows count (onto front read) ≡ onto front (with_arrows count read)
arrows_onto count front (Ok x) = ap (λ (l : List Step). Ok (l, x.1)) (append_assoc front x.0 (replicate count steps.Implies))
arrows_onto count front (Err stop) = refl

arrows_then : (count : ℕ) (read : Read (List Step)) (more : List ℕ → Read (List Step)) → with_arrows count (read >>= λ x. onto x.0 (more x.1)) ≡ (read >>= λ x. onto x.0 (with_arrows count (more x.1)))
arrows_then count (Ok x) more = arrows_onto count x.0 (more x.1)
arrows_then count (Err stop) more = refl

one_arrow_more : (count : ℕ) (read : Read (List Step)) → with_arrows count (then_step steps.Implies read) ≡ with_arrows (count + 1) read
one_arrow_more count (Ok x) =
    let same : suc count ≡ count + 1 = omega arith in
    ap (λ (l : List Step). Ok (l, x.1)) (append_assoc x.0 (steps.Implies ∷ []) (replicate count steps.Implies) ∙ ap (λ (n : ℕ). x.0 ++ replicate n steps.Implies) same)
one_arrow_more count (Err stop) = refl

still : (taken : ℕ) → taken < 64 → 64 - taken ≡ suc (64 - (taken + 1))
still taken lt = omega arith

no_more : (taken : ℕ) → 64 ≤ taken → 64 - taken ≡ 0
no_more taken le = omega arith

-- behind an operand
behind_one : (front middle : List Step) (taken n : ℕ) (operand : List ℕ → Read (List Step)) (rest behind : List ℕ) (total : Read (List Step)) → 64 - taken ≡ suc n → onto front (disjunction_of operand rest) ≡ Ok (middle, behind)
    → onto front (with_arrows taken (proposition_of (64 - taken) operand rest)) ≡ total → onto middle (with_arrows taken (arrow n operand behind)) ≡ total
behind_one front middle taken n operand rest behind total left h k =
    let parts : proposition_of (64 - taken) operand rest ≡ (disjunction_of operand rest >>= λ x. onto x.0 (arrow n operand x.1)) = ap (λ (m : ℕ). proposition_of m operand rest) left ∙ opened n operand rest in
    sym (onto_then front middle behind (disjunction_of operand rest) (λ r. with_arrows taken (arrow n operand r)) h)
    ∙ ap (onto front) (sym (ap (with_arrows taken) parts ∙ arrows_then taken (disjunction_of operand rest) (arrow n operand)))
    ∙ k

pub one_taken : (front middle : List Step) (taken : ℕ) (operand : List ℕ → Read (List Step)) (rest behind later : List ℕ) (total : Read (List Step)) → taken < 64 → onto front (disjunction_of operand rest) ≡ Ok (middle, behind) → Some later ≡ symbol_at (codes "=>") behind
    → onto front (with_arrows taken (proposition_of (64 - taken) operand rest)) ≡ total → onto middle (with_arrows (taken + 1) (proposition_of (64 - (taken + 1)) operand later)) ≡ total
one_taken front middle taken operand rest behind later total lt h some k =
    ap (onto middle) (sym (ap (with_arrows taken) (arrow_there (64 - (taken + 1)) operand behind later some) ∙ one_arrow_more taken (proposition_of (64 - (taken + 1)) operand later)))
    ∙ behind_one front middle taken (64 - (taken + 1)) operand rest behind total (still taken lt) h k

pub all_taken : {X : Type 0} (view : X → List ℕ) (old front middle new : List Step) (taken : ℕ) (operand : List ℕ → Read (List Step)) (rest behind : List ℕ) (result : Result X Stop) (whole : Read (List Step)) → taken < 64 → onto front (disjunction_of operand rest) ≡ Ok (middle, behind) → None ≡ symbol_at (codes "=>") behind
    → Adds view middle new result (Ok (replicate taken steps.Implies, behind)) → onto front (with_arrows taken (proposition_of (64 - taken) operand rest)) ≡ onto old whole → Adds view old new result whole
all_taken view old front middle new taken operand rest behind (Ok x) whole lt h none put k =
    sym (behind_one front middle taken (64 - (taken + 1)) operand rest behind (onto old whole) (still taken lt) h k)
    ∙ ap (λ (r : Read (List Step)). onto middle (with_arrows taken r)) (arrow_missing (64 - (taken + 1)) operand behind none) ∙ put
all_taken view old front middle new taken operand rest behind (Err Memory) whole lt h none put k = tt
all_taken view old front middle new taken operand rest behind (Err (At cause left)) whole lt h none put k = cc put

pub none_follows : (stop : Stop) (old front : List Step) (taken : ℕ) (operand : List ℕ → Read (List Step)) (rest : List ℕ) (whole : Read (List Step)) → taken < 64 → Refuses stop (disjunction_of operand rest)
    → onto front (with_arrows taken (proposition_of (64 - taken) operand rest)) ≡ onto old whole → Refuses stop whole
none_follows Memory old front taken operand rest whole lt h k = tt
none_follows (At cause left) old front taken operand rest whole lt h k =
    let parts : proposition_of (64 - taken) operand rest ≡ (disjunction_of operand rest >>= λ x. onto x.0 (arrow (64 - (taken + 1)) operand x.1)) = ap (λ (m : ℕ). proposition_of m operand rest) (still taken lt) ∙ opened (64 - (taken + 1)) operand rest in
    let none : proposition_of (64 - taken) operand rest ≡ Err (At cause left) = parts ∙ ap (λ (r : Read (List Step)). r >>= λ x. onto x.0 (arrow (64 - (taken + 1)) operand x.1)) h in
    onto_err old (At cause left) whole (sym k ∙ ap (λ (r : Read (List Step)). onto front (with_arrows taken r)) none)

pub too_many_arrows : (old front : List Step) (taken : ℕ) (operand : List ℕ → Read (List Step)) (rest : List ℕ) (whole : Read (List Step)) → 64 ≤ taken → onto front (with_arrows taken (proposition_of (64 - taken) operand rest)) ≡ onto old whole → whole ≡ Err (at causes.Shallow rest)
unfolding proposition_of
too_many_arrows old front taken operand rest whole le k =
    onto_err old (at causes.Shallow rest) whole (sym k ∙ ap (λ (n : ℕ). onto front (with_arrows taken (proposition_of n operand rest))) (no_more taken le))

-- ---- arrows that are added one by one

pub arrow_put : {X : Type 0} (view : X → List ℕ) (first old new : List Step) (count : ℕ) (rest : List ℕ) (x : X) → onto old (Ok (steps.Implies ∷ [], rest)) ≡ Ok (new, view x) → old ≡ first ++ replicate count steps.Implies → new ≡ first ++ replicate (count + 1) steps.Implies
arrow_put view first old new count rest x h so_far =
    let both : (old ++ steps.Implies ∷ [], rest) ≡ (new, view x) = cc h in
    sym (ap (λ (p : List Step × List ℕ). p.0) both)
    ∙ ap (λ (l : List Step). l ++ steps.Implies ∷ []) so_far
    ∙ append_assoc first (replicate count steps.Implies) (steps.Implies ∷ [])
    ∙ ap (λ (l : List Step). first ++ l) (replicate-append-replicate count 1 steps.Implies)

pub only_memory : {X Y : Type 0} (stop : Stop) (one : X) (other : Y) → Refuses stop (Ok one) → Refuses stop (Ok other)
only_memory Memory one other h = tt
only_memory (At cause left) one other h = cc h

some_more : (n : ℕ) → n ≢ 0 → n ≡ suc (n - 1)
some_more n ne = omega arith

-- ---- operands

pub no_depth : (depth harts : ℕ) (bytes : List ℕ) → depth ≡ 0 → operand_at depth harts bytes ≡ Err (at causes.Shallow bytes)
unfolding operand_at
no_depth depth harts bytes e = rw e refl

deeper : (depth harts : ℕ) (bytes : List ℕ) → depth ≢ 0 → operand_at depth harts bytes ≡ operand_at (suc (depth - 1)) harts bytes
deeper depth harts bytes ne = ap (λ (d : ℕ). operand_at d harts bytes) (some_more depth ne)

pub negated : (depth harts : ℕ) (bytes rest : List ℕ) → depth ≢ 0 → Some rest ≡ negation_at bytes → operand_at depth harts bytes ≡ then_step steps.Not (operand_at (depth - 1) harts rest)
unfolding operand_at
negated depth harts bytes rest ne some =
    let step : operand_at (suc (depth - 1)) harts bytes ≡ then_step steps.Not (operand_at (depth - 1) harts rest) = rw (sym some) refl in
    deeper depth harts bytes ne ∙ step

pub grouped : (depth harts : ℕ) (bytes rest : List ℕ) → depth ≢ 0 → None ≡ negation_at bytes → Some rest ≡ symbol_at (codes "(") bytes → operand_at depth harts bytes ≡ closed (proposition_of 64 (operand_at (depth - 1) harts) rest)
unfolding operand_at
grouped depth harts bytes rest ne none some =
    let step : operand_at (suc (depth - 1)) harts bytes ≡ closed (proposition_of 64 (operand_at (depth - 1) harts) rest) = rw (sym none, sym some) refl in
    deeper depth harts bytes ne ∙ step

pub related_alone : (depth harts : ℕ) (bytes : List ℕ) → depth ≢ 0 → None ≡ negation_at bytes → None ≡ symbol_at (codes "(") bytes → operand_at depth harts bytes ≡ alone (atom_at harts bytes)
unfolding operand_at
related_alone depth harts bytes ne none neither =
    let step : operand_at (suc (depth - 1)) harts bytes ≡ alone (atom_at harts bytes) = rw (sym none, sym neither) refl in
    deeper depth harts bytes ne ∙ step
