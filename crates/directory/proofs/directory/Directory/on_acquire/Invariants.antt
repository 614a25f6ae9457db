use Rattle.directory.proofs.directory.Directory.on_acquire.Given as goal

abbrev pub ghosts-on_acquire_on : goal.ghosts-on_acquire_on
ghosts-on_acquire_on a = record { name = a.blank.name; parts = a.blank.parts }
