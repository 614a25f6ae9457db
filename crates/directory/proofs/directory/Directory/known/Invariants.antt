use Rattle.directory.proofs.directory.Directory.known.Given as goal

abbrev pub ghosts-known_on : goal.ghosts-known_on
ghosts-known_on a = record { name = a.blank.name; parts = a.blank.parts }
