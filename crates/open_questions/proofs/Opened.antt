-- The open questions of a log, one entry further towards its start.
use Rattle.std.proofs.Common.{ℕ, ◌+◌, ◌-◌, ◌<◌, ◌≤◌, ◌^◌, Bool, true, false, List, [], ◌∷◌, ◌≡◌, Option, Some, None, refl, ap, sym, ◌∙◌, subst, length, arith, add-one, drop, drop-cons, get_or, length-drop, suc}
use Rattle.std.specs.Prelude.{IfSome, if◌then◌else◌}
use Rattle.open_questions.specs.Answers.{Follows}
use Rattle.open_questions.specs.Open.{LeavesOpen, is_open, open_from}
use Rattle.open_questions.specs.declared.answers.Answers.{Answers}
use Rattle.open_questions.specs.declared.opening.Open.{Open}
use Rattle.trace_recorder.specs.declared.logged.Logged.{Logged}

few : (i : ℕ) (log : List Logged) → length (open_from i log) ≤ length log
few i [] = omega arith
few i (e ∷ log) = go (few (i + 1) log) (is_open e log)
  where
    go : length (open_from (i + 1) log) ≤ length log → (t : Bool) → length (if t then i ∷ open_from (i + 1) log else open_from (i + 1) log) ≤ suc (length log)
    go rest true = omega (arith, rest)
    go rest false = omega (arith, rest)

-- what the pass knows of the entries from i on
pub record IsPassed (answers : Answers) (found : Option Open) (log : List Logged) (i : ℕ) : Type 0 where
  pub follows : Follows answers (drop i log)
  pub leaves : LeavesOpen (open_from i (drop i log)) found
  pub within : i ≤ length log

pub has_room : (answers : Answers) (found : Option Open) (log : List Logged) (i : ℕ) → 0 < i → length log < 2 ^ 64 → IsPassed answers found log i → IfSome found (λ o. o.count + 1 < 2 ^ 64)
has_room answers None log i some small passed = tt
has_room answers (Some o) log i some small passed =
    let count : o.count ≡ length (open_from i (drop i log)) = passed.leaves.2 in
    let less : length (open_from i (drop i log)) ≤ length (drop i log) = few i (drop i log) in
    let rest : length (drop i log) ≡ length log - i = length-drop i log in
    let within : i ≤ length log = passed.within in
    omega (arith, count, less, rest, within, some, small)

module _ (log : List Logged) (i : ℕ) (d : Logged) (within : i < length log) where
  abbrev entry : Logged
  entry = get_or log i d

  seam : drop i log ≡ entry ∷ drop (i + 1) log
  seam = drop-cons log i d within ∙ ap (λ (n : ℕ). entry ∷ drop n log) (sym (add-one i))

  -- the entry before those that were passed
  passed_by : (next : Answers) (is : Bool) (later : Option Open) → Follows next (entry ∷ drop (i + 1) log) → is ≡ is_open entry (drop (i + 1) log)
      → LeavesOpen (if is then i ∷ open_from (i + 1) (drop (i + 1) log) else open_from (i + 1) (drop (i + 1) log)) later → IsPassed next later log i
  passed_by next is later follows told leaves = record {
    follows = subst (Follows next) (sym seam) follows;
    leaves = subst (λ (numbers : List ℕ). LeavesOpen numbers later) (sym (ap (open_from i) seam ∙ ap (λ (t : Bool). if t then i ∷ open_from (i + 1) (drop (i + 1) log) else open_from (i + 1) (drop (i + 1) log)) (sym told))) leaves;
    within = omega (arith, within);
  }

  pub passed_more : (j : ℕ) (next : Answers) (is : Bool) (later : Option Open) → j ≡ i + 1 → Follows next (entry ∷ drop j log) → is ≡ is_open entry (drop j log)
      → LeavesOpen (if is then i ∷ open_from j (drop j log) else open_from j (drop j log)) later → IsPassed next later log i
  passed_more j next is later at follows told leaves = passed_by next is later
      (subst (λ (n : ℕ). Follows next (entry ∷ drop n log)) at follows)
      (subst (λ (n : ℕ). is ≡ is_open entry (drop n log)) at told)
      (subst (λ (n : ℕ). LeavesOpen (if is then i ∷ open_from n (drop n log) else open_from n (drop n log)) later) at leaves)

-- one more question in front of those that are open, or none
pub with_one : (found : Option Open) (o : Open) (first : ℕ) (numbers : List ℕ) → found ≡ Some o → LeavesOpen numbers found → LeavesOpen (first ∷ numbers) (Some (record { first = first; count = o.count + 1 }))
with_one found o first numbers is leaves =
    let some : LeavesOpen numbers (Some o) = subst (LeavesOpen numbers) is leaves in
    let count : o.count ≡ length numbers = some.2 in
    (numbers, refl, omega (arith, count))

pub first_one : (found : Option Open) (first : ℕ) (numbers : List ℕ) → found ≡ None → LeavesOpen numbers found → LeavesOpen (first ∷ numbers) (Some (record { first = first; count = 1 }))
first_one found first numbers is leaves =
    let none : numbers ≡ [] = subst (LeavesOpen numbers) is leaves in
    (numbers, refl, ap (λ (ns : List ℕ). length (first ∷ ns)) (sym none))
