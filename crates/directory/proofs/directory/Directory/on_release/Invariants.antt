use Rattle.directory.proofs.directory.Directory.on_release.Given as goal

abbrev pub ghosts-on_release_on : goal.ghosts-on_release_on
ghosts-on_release_on a = record { name = a.blank.name; parts = a.blank.parts }
