use Rattle.search_files.proofs.Files.{on_ok, script_held}
use Rattle.search_files.proofs.folder.Folder.write_script.Goals as goal

pub returns-clause-kept : goal.returns-clause-kept
returns-clause-kept g c =
    on_ok _ _ c.put.result
    (script_held _ _ c.args.self.now.config c.args.self.now.kib _ _ _ c.script_of-script.ensures.script c.in-Ok.ensures c.requires c.script_of-script.ensures.events)
    c.put.ensures.kept
