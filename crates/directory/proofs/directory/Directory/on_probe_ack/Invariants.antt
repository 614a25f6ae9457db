use Rattle.directory.proofs.directory.Directory.on_probe_ack.Given as goal

abbrev pub ghosts-on_probe_ack_on : goal.ghosts-on_probe_ack_on
ghosts-on_probe_ack_on a = record { name = a.blank.name; parts = a.blank.parts }
