-- What an exploration that ended at the first tells, once it is judged.
use Rattle.std.proofs.Common.{◌≡◌, ◌∙◌, ◌==◌, ◌&&◌, ◌<◌, ℕ, zero, suc, List, [], ◌∷◌, Option, None, Some, Bool, true, false, Err, IfOk, Ok, Result, ap, arith, get_or, if◌then◌else◌, inl, inr, length, map, refl, subst, sym}
use Rattle.std.specs.declared.alloc.AllocError.{AllocError}
use Rattle.allowed_outcomes.specs.Allowing.{is_allowed_line, without_number}
use Rattle.exploration_text.specs.Words.{end_text}
use Rattle.exploration_text.specs.declared.wording.WordName.{WordName}
use Rattle.explore_command.specs.Judging.{are_allowed, are_allowed_lines, judgement_of_lines}
use Rattle.explore_command.specs.Sought.{EndsBy, EndsJudged, IsRefused}
use Rattle.command_files.specs.declared.allowing.Judgement.{Judgement}
use Rattle.command_files.specs.declared.allowing.Judgement.TheVariants.{Allowed, NotAllowed}
use Rattle.explorer.specs.Ends.{outcome_of, outcomes_of}
use Rattle.explorer.specs.FlatExplorationOutcomes.{Outcome}
use Rattle.explorer.specs.Sought.{TellsSought}
use Rattle.explorer.specs.declared.exploration.Exploration.{Exploration}
use Rattle.explorer.specs.declared.found.Found.{Found}
use Rattle.state_search.specs.declared.findings.Extent.TheVariants.{Ended}
use Rattle.state_search.specs.declared.until.Ending.TheVariants.{First, Time}

and_false : (b : Bool) → (b && false) ≡ false
and_false true = refl
and_false false = refl

module _ (names : List WordName) where
  -- where one isn't allowed, not all are
  one_refused : (text : List ℕ) (found : List Found) (o : Outcome) (i : ℕ) → i < length (outcomes_of found) → get_or (outcomes_of found) i o ≡ o → is_allowed_line text (without_number (end_text names o)) ≡ false → are_allowed_lines text (map (λ f. end_text names (outcome_of f)) found) ≡ false
  one_refused text [] o i low at refuses = absurd (omega (arith, low))
  one_refused text (x ∷ xs) o zero low at refuses =
      let rest = are_allowed_lines text (map (λ f. end_text names (outcome_of f)) xs) in
      ap (λ (p : Outcome). is_allowed_line text (without_number (end_text names p)) && rest) at ∙ ap (λ (b : Bool). b && rest) refuses
  one_refused text (x ∷ xs) o (suc i) low at refuses =
      let first = is_allowed_line text (without_number (end_text names (outcome_of x))) in
      ap (λ (b : Bool). first && b) (one_refused text xs o i (omega (arith, low)) at refuses) ∙ and_false first

  not_all : (text : Option (List ℕ)) (found : List Found) (o : Outcome) (i : ℕ) → i < length (outcomes_of found) → get_or (outcomes_of found) i o ≡ o → IsRefused text (end_text names o) → are_allowed text (map (λ f. end_text names (outcome_of f)) found) ≡ false
  not_all None found o i low at refuses = absurd refuses
  not_all (Some text) found o i low at refuses = one_refused text found o i low at refuses

  -- so what ended it is judged so
  pub ends_judged : (is_asked : Bool) (seconds : ℕ) (text : Option (List ℕ)) (fails : List ℕ) (found : Exploration) (judgement : Judgement) → judgement ≡ judgement_of_lines text (map (λ f. end_text names (outcome_of f)) found.outcomes.items) fails → EndsBy is_asked seconds names text found → EndsJudged is_asked seconds judgement found
  ends_judged is_asked seconds text fails found judgement is by = record {
    first = λ met.
        let (asked, why) = by.first met in (
          asked,
          elim why [
            | inl stops ↦ inl stops
            | inr (o, (i, low, at), refuses) ↦ inr (is ∙ ap (λ (b : Bool). if b && (length fails == 0) then Allowed else NotAllowed) (not_all text found.outcomes.items o i low at refuses))
          ],
        );
    timed = by.timed;
  }

-- what is said of it, fact by fact
pub ends_by : (is_asked asked : Bool) (seconds waits : ℕ) (names called : List WordName) (text : Option (List ℕ)) (Refuses : List ℕ → Type 0) → asked ≡ is_asked → waits ≡ seconds → called ≡ names → ((line : List ℕ) → Refuses line → IsRefused text line)
    → (r : Result Exploration AllocError) → IfOk r (λ e. e.extent ≡ Ended First → TellsSought (asked ≡ true) (λ o. (asked ≡ true) × Refuses (end_text called o)) e) → IfOk r (λ e. e.extent ≡ Ended Time → 0 < waits) → IfOk r (EndsBy is_asked seconds names text)
ends_by is_asked asked seconds waits names called text Refuses same lasts known reads (Ok e) first timed = record {
  first = λ met. elim (first met) [
    | inl (is, stops) ↦ (sym same ∙ is, inl stops)
    | inr (o, told, (is, refuses)) ↦ (sym same ∙ is, inr (o, told, subst (λ (n : List WordName). IsRefused text (end_text n o)) known (reads (end_text called o) refuses)))
  ];
  timed = λ ended. subst (λ (n : ℕ). 0 < n) lasts (timed ended);
}
ends_by is_asked asked seconds waits names called text Refuses same lasts known reads (Err error) first timed = tt
