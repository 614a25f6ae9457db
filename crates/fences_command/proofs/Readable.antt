-- What shows that an ordering is needed has a text, where it is a trace.
use Rattle.std.proofs.Common.{◌≡◌, All, List, None, Option, Some, inl, inr, subst, sym, ℕ}
use Rattle.std.proofs.lemmas.List.Elements.{All-weaker}
use Rattle.elf_loader.specs.Image.{HasWord, Initial, IsImage}
use Rattle.fences_command.proofs.Witnessed.{IsShownOf, ShowsSome, shown_of}
use Rattle.architecture_outcomes.specs.FailedRun.{FailedRun}
use Rattle.architecture_outcomes.specs.Failings.{IsShownBy}
use Rattle.architecture_outcomes.specs.Failure.{Failure}
use Rattle.architecture_outcomes.specs.Outcomes.{IsWitnessedBy}
use Rattle.architecture_outcomes.specs.Stops.{IsFailedRun}
use Rattle.architecture_outcomes.specs.Witness.{Witness}
use Rattle.architecture_outcomes.specs.Witnesses.{IsWitness}
use Rattle.architecture_outcomes.specs.declared.outcome.Outcome.{Outcome}
use Rattle.architecture_outcomes.specs.declared.outcome.Way.{Way}
use Rattle.architecture_outcomes.specs.declared.outcome.Way.TheVariants.{Machine, Model, ModelAlone}
use Rattle.fence_audit.specs.declared.allowing.Allowance.{Allowance}
use Rattle.fence_audit.specs.declared.allowing.Allowance.TheVariants.{Broken, Kept}
use Rattle.fence_audit.specs.declared.searches.World.{World}
use Rattle.fences_command.proofs.Changed.{patched_is}
use Rattle.fences_command.specs.Fencing.{IsSought}
use Rattle.fences_command.specs.Witnesses.{AreReadable, HasText}
use Rattle.image_orderings.specs.Replaced.{IsPatchOf, patched}
use Rattle.image_orderings.specs.declared.replacing.Patch.{Patch}
use Rattle.machine_types.specs.declared.config.Config.{Config}
use Rattle.search_files.proofs.Readable.{has_text}
use Rattle.search_files.specs.WordName.{WordName}
use Rattle.trace_text.specs.TraceLimits.{IsTrace}

of_witness : (image : Initial) (config : Config) (w : Witness) → IsImage image → IsWitness image config w → IsTrace w.trace.history
of_witness image config w loaded is =
    let legal = is.legal in has_text config w.trace.history (subst IsImage (sym legal.image_is) loaded) legal.harts legal.allowed.runs legal.allowed.order.only legal.limits.places legal.no_log

by_way : (image : Initial) (config : Config) (addresses : List ℕ) (o : Outcome) (way : Way) → IsImage image → IsWitnessedBy image config addresses o way → HasText way
by_way image config addresses o (Machine script) loaded is = tt
by_way image config addresses o (ModelAlone trace) loaded is = of_witness image config (record { harts = o.harts; trace = trace }) loaded is.0.witness
by_way image config addresses o (Model trace) loaded is = of_witness image config (record { harts = o.harts; trace = trace }) loaded is.witness

of_run : (image : Initial) (config : Config) (r : FailedRun) → IsImage image → IsFailedRun image config r → IsTrace r.trace.history
of_run image config r loaded is =
    let legal = is.legal in has_text config r.trace.history (subst IsImage (sym legal.image_is) loaded) legal.harts legal.allowed.runs legal.allowed.order.only legal.limits.places legal.no_log

by_stop : (image : Initial) (config : Config) (addresses : List ℕ) (x : Failure) (way : Way) → IsImage image → IsShownBy image config addresses x way → HasText way
by_stop image config addresses x (Machine script) loaded is = tt
by_stop image config addresses x (ModelAlone trace) loaded is = of_run image config (record { failure = x; trace = trace }) loaded is.0
by_stop image config addresses x (Model trace) loaded is = of_run image config (record { failure = x; trace = trace }) loaded is

by_some : (image : Initial) (config : Config) (addresses : List ℕ) (way : Way) → IsImage image → ShowsSome image config addresses way → HasText way
by_some image config addresses way loaded (inl (o, is)) = by_way image config addresses o way loaded is
by_some image config addresses way loaded (inr (f, is)) = by_stop image config addresses f.failure way loaded is

has_text_of : (image : Initial) (config : Config) (addresses : List ℕ) (way : Way) → IsImage image → IsShownOf image config addresses way → HasText way
has_text_of image config addresses way loaded is =
    let places = All-weaker (IsPatchOf image) (λ (p : Patch). HasWord image p.address) (λ p at. at.place) is.words is.places in
    by_some (patched image is.words) config addresses way (patched_is image is.words places loaded) is.shown

pub readable : (world : World) (image : Initial) (config : Config) (addresses : List ℕ) (window limit : ℕ) (names : List WordName) (text : Option (List ℕ)) (allowance : Allowance) → IsImage image → IsSought world image config addresses window limit names text allowance → AreReadable allowance
readable world image config addresses window limit names (Some text) (Kept audit) loaded so = λ o way shown. has_text_of image config addresses way loaded (shown_of world image config addresses window limit _ audit o way so.needs.parts.searched shown)
readable world image config addresses window limit names (Some text) (Broken missing) loaded so = tt
readable world image config addresses window limit names None (Kept audit) loaded so = λ o way shown. has_text_of image config addresses way loaded (shown_of world image config addresses window limit _ audit o way so.parts.searched shown)
readable world image config addresses window limit names None (Broken missing) loaded so = tt
