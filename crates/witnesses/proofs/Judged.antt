-- What is known of a run that was judged.
use Rattle.std.proofs.Common.{◌≡◌, ◌∙◌, ◌≤◌, ap, length, map, sym}
use Rattle.std.specs.List.{list_all}
use Rattle.std.proofs.lemmas.List.{length-map}
use Rattle.elf_loader.specs.Image.{Initial}
use Rattle.flat_model.specs.Shown.{told}
use Rattle.hart.specs.declared.retired.Retired.{Retired}
use Rattle.machine_types.specs.declared.config.Config.{Config}
use Rattle.rvwmo_order.specs.Traces.{names_in}
use Rattle.std.specs.Global.{Vec}
use Rattle.trace_recorder.proofs.Lists.{history_within}
use Rattle.trace_recorder.specs.History.{History}
use Rattle.witnesses.specs.Outcomes.{results_of, results_from}
use Rattle.witnesses.specs.Witnesses.{HasEndedRun, HasLists, IsAllowed, IsLegalTrace, IsWitness, has_ended, history_of}
use Rattle.witnesses.specs.declared.witness.Run.{Run}
use Rattle.witnesses.specs.declared.witness.Witness.{Witness}

pub is_legal_trace : (image : Initial) (config : Config) (run : Run) (t : History) → HasLists config.harts run → IsAllowed config.model t → length (names_in t) ≤ 4096 → t ≡ history_of image config run → IsLegalTrace image config t
is_legal_trace image config run t has allowed few is = record {
  image_is = ap (λ (s : History). s.image) is;
  line_is = ap (λ (s : History). s.line) is;
  harts = ap (λ (s : History). length s.entries) is ∙ (length-map _ _ ∙ has.lists);
  limits = history_within t run.entries.items (sym (ap (λ (s : History). s.entries) is)) has.limits;
  few = few;
  no_log = ap (λ (s : History). s.log) is;
  allowed = allowed;
}

pub is_witness : (image : Initial) (config : Config) (run : Run) (witness : Witness) → HasEndedRun run → IsLegalTrace image config witness.trace.history
    → witness.trace.history ≡ history_of image config run → told witness.harts.items ≡ results_from image (length run.entries.items) 0 (map (λ list. list.items) run.entries.items) run.statuses.items
    → IsWitness image config witness
is_witness image config run witness ended legal is results = record {
  legal = legal;
  ended = ap (λ (t : History). list_all has_ended t.statuses) is ∙ ended;
  outcome = results ∙ (ap (λ n. results_from image n 0 (map (λ (list : Vec Retired). list.items) run.entries.items) run.statuses.items) (sym (length-map _ _)) ∙ ap results_of (sym is));
}
