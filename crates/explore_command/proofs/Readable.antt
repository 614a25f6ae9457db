-- Traces that were judged are within the limits of their text.
use Rattle.std.proofs.Common.{All, List, ℕ, subst, sym}
use Rattle.std.proofs.lemmas.List.Elements.{All-weaker}
use Rattle.architecture_outcomes.specs.declared.architecture.Architecture.{Architecture}
use Rattle.architecture_outcomes.specs.declared.failing.Failing.{Failing}
use Rattle.architecture_outcomes.specs.Failings.{IsShown, IsShownBy}
use Rattle.architecture_outcomes.specs.Failure.{Failure}
use Rattle.architecture_outcomes.specs.FailedRun.{FailedRun}
use Rattle.architecture_outcomes.specs.Stops.{IsFailedRun}
use Rattle.architecture_outcomes.specs.Outcomes.{IsWitnessed, IsWitnessedBy}
use Rattle.architecture_outcomes.specs.declared.outcome.Outcome.{Outcome}
use Rattle.architecture_outcomes.specs.declared.outcome.Way.{Way}
use Rattle.architecture_outcomes.specs.declared.outcome.Way.TheVariants.{Machine, Model, ModelAlone}
use Rattle.architecture_outcomes.specs.Witness.{Witness}
use Rattle.architecture_outcomes.specs.Witnesses.{IsWitness}
use Rattle.elf_loader.specs.Image.{Initial, IsImage}
use Rattle.explore_command.specs.ModelKeeping.{HasText, HaveTexts}
use Rattle.machine_types.specs.declared.config.Config.{Config}
use Rattle.search_files.proofs.Readable.{has_text}
use Rattle.trace_text.specs.TraceLimits.{IsTrace}

module _ (image : Initial) (config : Config) (loaded : IsImage image) where
  of_witness : (w : Witness) → IsWitness image config w → IsTrace w.trace.history
  of_witness w is =
      let legal = is.legal in
      has_text config w.trace.history (subst IsImage (sym legal.image_is) loaded) legal.harts legal.allowed.runs legal.allowed.order.only legal.limits.places legal.no_log

  way_has_text : (addresses : List ℕ) (o : Outcome) (way : Way) → IsWitnessedBy image config addresses o way → HasText way
  way_has_text addresses o (Machine script) is = tt
  way_has_text addresses o (ModelAlone trace) is = of_witness (record { harts = o.harts; trace = trace }) is.0.witness
  way_has_text addresses o (Model trace) is = of_witness (record { harts = o.harts; trace = trace }) is.witness

  of_run : (r : FailedRun) → IsFailedRun image config r → IsTrace r.trace.history
  of_run r is =
      let legal = is.legal in
      has_text config r.trace.history (subst IsImage (sym legal.image_is) loaded) legal.harts legal.allowed.runs legal.allowed.order.only legal.limits.places legal.no_log

  stop_has_text : (addresses : List ℕ) (x : Failure) (way : Way) → IsShownBy image config addresses x way → HasText way
  stop_has_text addresses x (Machine script) is = tt
  stop_has_text addresses x (ModelAlone trace) is = of_run (record { failure = x; trace = trace }) is.0
  stop_has_text addresses x (Model trace) is = of_run (record { failure = x; trace = trace }) is

  -- each trace that shows an outcome, or a hart that stops, has one
  pub have_texts : (addresses : List ℕ) (found : Architecture) → All (IsWitnessed image config addresses) found.outcomes.items → All (IsShown image config addresses) found.failures.items → HaveTexts found
  have_texts addresses found shown stopped = record {
    outcomes = All-weaker (IsWitnessed image config addresses) (λ (o : Outcome). HasText o.way) (λ o is. way_has_text addresses o o.way is) found.outcomes.items shown;
    failures = All-weaker (IsShown image config addresses) (λ (f : Failing). HasText f.way) (λ f is. stop_has_text addresses f.failure f.way is) found.failures.items stopped;
  }
