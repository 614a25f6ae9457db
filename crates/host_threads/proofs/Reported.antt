-- What is left of a fabric is a run's report, where the fabric is of the run's image and configuration.
use Rattle.std.proofs.Common.{◌≡◌, ◌∙◌, ap, arith, refl, subst, sym, ℕ, ◌≤◌, List, [], ◌∷◌, length, map, sum, Ok, Err}
use Rattle.std.proofs.lemmas.List.Elements.{All-cons, All-nil}
use Rattle.std.specs.List.{All}
use Rattle.std.specs.Prelude.{IfOk}
use Rattle.std.specs.declared.result.Result.{Result}
use Rattle.elf_loader.specs.Image.{Initial, IsImage}
use Rattle.host_threads.proofs.Leading.{headline_at, leads_to, moves_from, none_refused, reached_at}
use Rattle.host_threads.specs.Replays.{IsRun}
use Rattle.host_threads.specs.declared.report.Report.{Report}
use Rattle.host_threads.specs.declared.report.RunError.{RunError}
use Rattle.locked_fabric.specs.FabricState.{FabricState, IsKept}
use Rattle.machine_types.specs.declared.config.Config.{Config}
use Rattle.machine_model.specs.Events.{after_events}
use Rattle.machine_model.specs.LawfulLog.{IsLawfulLog}
use Rattle.machine_model.specs.Views.{Node, State, opening}
use Rattle.trace_recorder.specs.History.{History}
use Rattle.store_buffer.proofs.Layouts.{sum-cons}

-- what a run says that was made in this configuration and to this limit
pub told : (P : Report → Type 0) (image : Initial) (config made : Config) (most limit : ℕ) (r : Result Report RunError) → made ≡ config → limit ≡ most
    → ((left : Report) → IsRun image config most left → P left) → IfOk r (λ left. IsRun image made limit left) → IfOk r P
told P image config made most limit (Ok left) same few says run =
    says left (subst (λ (n : ℕ). IsRun image config n left) few (subst (λ (k : Config). IsRun image k limit left) same run))
told P image config made most limit (Err error) same few says run = tt

each_within : (limit : ℕ) (counts : List ℕ) → sum counts ≤ limit → All (λ (count : ℕ). count ≤ limit) counts
each_within limit [] le = All-nil (λ (count : ℕ). count ≤ limit)
each_within limit (count ∷ counts) le =
    All-cons (λ (one : ℕ). one ≤ limit) count counts (omega (arith, le, sum-cons count counts)) (each_within limit counts (omega (arith, le, sum-cons count counts)))

-- what is left of the fabric has its history, its outputs and its journal, and each event of that counts in one receipt
pub record IsLeftOf (held : FabricState) (left : Report) : Type 0 where
  pub trace : left.trace.history ≡ held.machine.trace
  pub outputs : map (λ output. output.items) left.outputs.items ≡ map (λ node. node.output) held.machine.views.nodes
  pub journal : left.journal.items ≡ held.journal
  pub total : sum left.receipts.items ≡ length left.journal.items
  pub kept : IsKept held

pub run_of : (image : Initial) (config : Config) (most : ℕ) (held : FabricState) (left : Report) → IsImage image
    → held.machine.trace.image ≡ image → held.machine.views.config ≡ config → IsLeftOf held left → length left.receipts.items ≡ config.harts → sum left.receipts.items ≤ most
    → IsRun image config most left
run_of image config most held left loaded of_image of_config is harts few =
    let leads : after_events (opening image config) left.journal.items ≡ held.machine =
    leads_to image config held left.journal.items held.machine of_image of_config is.kept.replay is.journal refl in
    let moves = moves_from image config held left.journal.items of_image of_config is.kept.moves is.journal in
    record {
      report = record {
        trace = is.trace ∙ ap (λ (s : State). s.trace) (sym leads);
        outputs = is.outputs ∙ ap (λ (s : State). map (λ (node : Node). node.output) s.views.nodes) (sym leads);
        receipts = is.total;
        harts = harts;
      };
      moves = moves;
      replays = none_refused 0 (opening image config) left.journal.items moves;
      reached = reached_at image config left.journal.items (ap (λ (s : State). s.trace.image) leads ∙ of_image) (ap (λ (s : State). s.views.config) leads ∙ of_config) loaded;
      headline = headline_at image config held.machine _ of_image of_config (sym leads) is.kept.headline;
      log = subst (λ (t : History). IsLawfulLog t.log) (sym is.trace) is.kept.log;
      limit = record { events = omega (arith, is.total, few); harts = each_within most left.receipts.items few };
    }
