use Rattle.gate_refusals.proofs.fabric.play_fabric.Given as goal

abbrev pub ghosts-play_on : goal.ghosts-play_on
ghosts-play_on g a = record { name = a.blank.name; parts = a.blank.parts }
