use Rattle.directory.proofs.directory.Directory.on_grant_ack.Given as goal

abbrev pub ghosts-on_grant_ack_on : goal.ghosts-on_grant_ack_on
ghosts-on_grant_ack_on a = record { name = a.blank.name; parts = a.blank.parts }
