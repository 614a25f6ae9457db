-- What is told of lines that aren't allowed, and what it says of the judgement on them.
use Rattle.std.proofs.Common.{◌≡◌, ◌∙◌, ◌==◌, ◌&&◌, ◌+◌, ◌-◌, ◌≤◌, ◌∷◌, ◌++◌, ℕ, [], Bool, Err, IfOk, List, None, Ok, OnErr, Option, Result, Some, ap, arith, drop, false, get_or, if◌then◌else◌, length, map, refl, subst, sym, take, true}
use Rattle.std.proofs.lemmas.Bool.{eqb-true, false≢true}
use Rattle.std.proofs.lemmas.List.{append-nil, append_assoc, take_all}
use Rattle.std.specs.Io.KnownBytes.{Appends}
use Rattle.command_files.specs.Faults.{Name}
use Rattle.command_files.specs.Contents.{Contents}
use Rattle.command_files.specs.declared.fault.Fault.{Fault}
use Rattle.allowed_outcomes.specs.Allowing.{is_allowed_line, without_number}
use Rattle.command_files.specs.Allowing.{IsAllowFile}
use Rattle.explore_command.specs.Judging.{HaveRefusals, IsToldBy, are_allowed, are_allowed_lines, judgement_of_lines, refusal_line, refusal_lines, refusals}
use Rattle.command_files.specs.declared.allowing.Judgement.{Judgement}
use Rattle.command_files.specs.declared.allowing.Judgement.TheVariants.{Allowed, NotAllowed}
use Rattle.text_fields.proofs.Written.{appends_none}
use Rattle.text_fields.specs.Writing.{Begins, Writes}

-- ---- nothing is told where all are allowed, and only there

none_of_first : (is_allowed : Bool) (number : ℕ) (more : List ℕ) (all : Bool) → (more ≡ [] → all ≡ true) → (if is_allowed then [] else refusal_line number) ++ more ≡ [] → (is_allowed && all) ≡ true
none_of_first true number more all others none = others none
none_of_first false number more all others none = absurd cc

none_of : (text : List ℕ) (number : ℕ) (lines : List (List ℕ)) → refusal_lines text number lines ≡ [] → are_allowed_lines text lines ≡ true
none_of text number [] none = refl
none_of text number (line ∷ rest) none =
    none_of_first (is_allowed_line text (without_number line)) number (refusal_lines text (number + 1) rest) (are_allowed_lines text rest) (none_of text (number + 1) rest) none

all_of_first : (is_allowed : Bool) (number : ℕ) (more : List ℕ) (all : Bool) → (all ≡ true → more ≡ []) → (is_allowed && all) ≡ true → (if is_allowed then [] else refusal_line number) ++ more ≡ []
all_of_first true number more all others so = others so
all_of_first false number more all others so = absurd (false≢true so)

all_of : (text : List ℕ) (number : ℕ) (lines : List (List ℕ)) → are_allowed_lines text lines ≡ true → refusal_lines text number lines ≡ []
all_of text number [] so = refl
all_of text number (line ∷ rest) so =
    all_of_first (is_allowed_line text (without_number line)) number (refusal_lines text (number + 1) rest) (are_allowed_lines text rest) (all_of text (number + 1) rest) so

none_by : (text : Option (List ℕ)) (lines : List (List ℕ)) → refusals text lines ≡ [] → are_allowed text lines ≡ true
none_by None lines none = refl
none_by (Some text) lines none = none_of text 1 lines none

all_by : (text : Option (List ℕ)) (lines : List (List ℕ)) → are_allowed text lines ≡ true → refusals text lines ≡ []
all_by None lines so = refl
all_by (Some text) lines so = all_of text 1 lines so

none_of_length : (xs : List ℕ) → (length xs == 0) ≡ true → xs ≡ []
none_of_length [] is = refl
none_of_length (x ∷ xs) is = let bad = eqb-true (length (x ∷ xs)) 0 is in absurd (omega (arith, bad))

none_in_both : (xs ys : List ℕ) → xs ++ ys ≡ [] → (xs ≡ []) × (ys ≡ [])
none_in_both [] ys none = (refl, none)
none_in_both (x ∷ xs) ys none = absurd cc

-- what is to be told, and how long it is
module _ (text : Option (List ℕ)) (lines : List (List ℕ)) (fails told : List ℕ) (count : ℕ) (is : told ≡ refusals text lines ++ fails) (counted : count ≡ length told) where
  pub allowed_by : (count == 0) ≡ true → Allowed ≡ judgement_of_lines text lines fails
  allowed_by none =
      let parts = none_in_both (refusals text lines) fails (sym is ∙ none_of_length told (ap (λ (n : ℕ). n == 0) (sym counted) ∙ none)) in
      sym (ap (λ (b : Bool). if b && (length fails == 0) then Allowed else NotAllowed) (none_by text lines parts.0)
      ∙ ap (λ (xs : List ℕ). if length xs == 0 then Allowed else NotAllowed) parts.1)

  pub refused_by : (count == 0) ≡ false → NotAllowed ≡ judgement_of_lines text lines fails
  refused_by some = sym (go (are_allowed text lines) (length fails == 0) refl refl)
    where
      go : (a b : Bool) → are_allowed text lines ≡ a → (length fails == 0) ≡ b → judgement_of_lines text lines fails ≡ NotAllowed
      go true true x y =
          let none : told ≡ [] = is ∙ (ap (λ (xs : List ℕ). xs ++ fails) (all_by text lines x) ∙ none_of_length fails y) in
          absurd (false≢true (sym some ∙ ap (λ (n : ℕ). n == 0) (counted ∙ ap (λ (xs : List ℕ). length xs) none)))
      go true false x y = ap (λ (b : Bool). if b && (length fails == 0) then Allowed else NotAllowed) x ∙ ap (λ (b : Bool). if b then Allowed else NotAllowed) y
      go false b x y = ap (λ (b : Bool). if b && (length fails == 0) then Allowed else NotAllowed) x

-- ---- lines, one after the other

pub behind_first : {X : Type 0} (x : X) (xs : List X) → take (length (x ∷ xs) - 1) (drop 1 (x ∷ xs)) ≡ xs
behind_first x xs = take_all (length (x ∷ xs) - 1) xs (omega arith)

-- where a line is added unless the first that is left is allowed, all that is to be told stays the same
pub one_told : {X : Type 0} (line : X → List ℕ) (text : List ℕ) (number : ℕ) (rest : List X) (first default : X) (lines new all : List ℕ) (is_allowed : Bool) → 1 ≤ length rest → first ≡ get_or rest 0 default
    → is_allowed_line text (without_number (line first)) ≡ is_allowed → new ≡ lines ++ (if is_allowed then [] else refusal_line number)
    → lines ++ refusal_lines text number (map line rest) ≡ all → new ++ refusal_lines text (number + 1) (map line (take (length rest - 1) (drop 1 rest))) ≡ all
one_told line text number [] first default lines new all is_allowed some is allowed grown so = absurd (omega (arith, some))
one_told {X} line text number (x ∷ xs) first default lines new all is_allowed some is allowed grown so =
    let more = refusal_lines text (number + 1) (map line xs) in
    let here : is_allowed_line text (without_number (line x)) ≡ is_allowed = ap (λ (y : X). is_allowed_line text (without_number (line y))) (sym is) ∙ allowed in
    ap (λ (ys : List X). new ++ refusal_lines text (number + 1) (map line ys)) (behind_first x xs)
    ∙ (ap (λ (ns : List ℕ). ns ++ more) grown
    ∙ (append_assoc lines (if is_allowed then [] else refusal_line number) more
    ∙ (ap (λ (b : Bool). lines ++ ((if b then [] else refusal_line number) ++ more)) (sym here) ∙ so)))

-- what one file's bytes make to be told, all files do
pub refusals_in : (held : Contents) (allow : Option Name) (text : Option (List ℕ)) (lines : List (List ℕ)) (fails : List ℕ) (P : List ℕ → Type 0) → IsAllowFile held allow text → P (refusals text lines ++ fails) → HaveRefusals held allow lines fails P
refusals_in held None None lines fails P read so = so
refusals_in held None (Some text) lines fails P read so = absurd read
refusals_in held (Some file) None lines fails P read so = absurd read
refusals_in held (Some file) (Some text) lines fails P read so = (text, read, so)

-- whatever the output answered, a beginning went out
pub begun : {T E : Type 0} (before after : Option (List ℕ)) (text : List ℕ) (r : Result T E) → Writes before after text r → Begins before after text
begun before after text (Ok x) sent = record { front = text; rest = []; parts = sym (append-nil text); sent = sent }
begun before after text (Err e) front = front

pub nothing : (before after : Option (List ℕ)) (text : List ℕ) → after ≡ before → Begins before after text
nothing before after text same = record { front = []; rest = text; parts = refl; sent = subst (λ (a : Option (List ℕ)). Appends before a []) (sym same) (appends_none before) }

-- whatever was judged, and where memory did not suffice for it, no more than a beginning did
pub begun_by : (before after : Option (List ℕ)) (text : List ℕ) (r : Result Judgement Fault) → IfOk r (λ judgement. IsToldBy judgement before after text) → OnErr r (after ≡ before) → Begins before after text
begun_by before after text (Ok Allowed) told silent = nothing before after text told
begun_by before after text (Ok NotAllowed) told silent = told
begun_by before after text (Err fault) told silent = nothing before after text silent

pub on_err_of : {T E P : Type 0} (r : Result T E) → P → OnErr r P
on_err_of (Ok x) so = tt
on_err_of (Err e) so = so

pub on_err_more : {T E P Q : Type 0} (r : Result T E) → (P → Q) → OnErr r P → OnErr r Q
on_err_more (Ok x) more so = tt
on_err_more (Err e) more so = more so
