use Rattle.std.proofs.Common.{◌∙◌, List, subst, sym, ℕ}
use Rattle.command_files.specs.Files.{HoldsScript}
use Rattle.command_files.specs.Sizes.{script_for}
use Rattle.fences_command.specs.Witnesses.{IsScriptAt, script_path}
use Rattle.search_files.proofs.Files.{on_ok}
use Rattle.fences_command.proofs.needed_runs.Shelf.keep_script.Goals as goal

pub returns-in-Events-clause-kept : goal.returns-in-Events-clause-kept
returns-in-Events-clause-kept g c =
    let folder = c.args.self.now.folder in
    let left = g.F.Files.held c.write_script.new.files in
    on_ok _ _ c.write_script.result
    (λ kept. subst (IsScriptAt left folder.config folder.kib (script_path folder.name.now c.args.number)) (sym c.in-Events.is)
    (subst (λ (path : List ℕ). HoldsScript left path (script_for folder.config folder.kib c.in-Events.events.items)) (c.deref.ensures ∙ c.in_ok-path.ensures.path)
    (subst (λ es. HoldsScript left c.deref.result.now (script_for folder.config folder.kib es)) c.deref-in-Events.ensures.value kept)))
    c.write_script.ensures.kept
