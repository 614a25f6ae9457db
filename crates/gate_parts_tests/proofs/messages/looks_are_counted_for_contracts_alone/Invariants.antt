use Rattle.gate_parts_tests.proofs.messages.looks_are_counted_for_contracts_alone.Given as goal

abbrev pub ghosts-two_looks : goal.ghosts-two_looks
ghosts-two_looks g a = record { name = a.blank.name; parts = a.blank.parts }
