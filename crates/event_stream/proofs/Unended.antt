-- A line without its line feed.
use Rattle.std.proofs.Common.{◌≡◌, ℕ, ◌-◌, ◌≤◌, List, [], ◌∷◌, ◌++◌, length, take, sym, ap, ◌∙◌, arith, length-append}
use Rattle.std.proofs.lemmas.List.{take-append-le, take_all}
use Rattle.event_stream.specs.Lines.{unended}

pub unended_is : (line x : List ℕ) → line ≡ x ++ 10 ∷ [] → x ≡ unended line
unended_is line x e =
    let long : length (x ++ 10 ∷ []) - 1 ≡ length x = omega (arith, length-append x (10 ∷ [])) in
    let all : length x ≤ length x = omega arith in
    sym (ap unended e ∙ ap (λ (n : ℕ). take n (x ++ 10 ∷ [])) long ∙ take-append-le (length x) x (10 ∷ []) all ∙ take_all (length x) x all)
