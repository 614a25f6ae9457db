use Rattle.std.proofs.Common.{◌≢◌, ◌∙◌, Bor, List, [], ap, map, subst, sym}
use Rattle.clap.specs.Words.{Text}
use Rattle.command_settings.proofs.Shown.{none_of, some_of}
use Rattle.command_settings.specs.Settings.{IsMeant}
use Rattle.command_settings.proofs.usage.with_shown.Goals as goal

pub returns-then-is_empty : goal.returns-then-is_empty
returns-then-is_empty c = λ name rows is meant.
    let none = sym c.as_slice.ensures.value ∙ none_of c.as_slice.result.now (sym c.is_empty.ensures ∙ c.if-is_empty.true) in
    (subst (IsMeant name rows) c.in-Explore.is meant, sym (c.in_ok-words-in-Explore.ensures name rows is) ∙ ap (map (λ (word : Bor Text). word.now)) none)

pub returns-else-is_empty : goal.returns-else-is_empty
returns-else-is_empty c = λ name rows is meant.
    let explored = subst (IsMeant name rows) c.in-Explore.is meant in
    let some = subst (λ (xs : List (Bor Text)). xs ≢ []) c.as_slice.ensures.value (some_of c.as_slice.result.now (sym c.is_empty.ensures ∙ c.if-is_empty.false)) in
    (explored.0, record { explore = explored.1; words = c.in_ok-words-in-Explore.ensures name rows is; some = some })

pub returns-in_ok-words-in-Fences : goal.returns-in_ok-words-in-Fences
returns-in_ok-words-in-Fences c = λ name rows is meant.
    let audited = subst (IsMeant name rows) c.in-Fences.is meant in
    (audited.0, record { fences = audited.1; words = c.in_ok-words-in-Fences.ensures name rows is })
