use Rattle.rvwmo_order.proofs.checking.check_model.Given as goal

abbrev pub ghosts-check_on : goal.ghosts-check_on
ghosts-check_on a = record { name = a.blank.name; parts = a.blank.parts }
