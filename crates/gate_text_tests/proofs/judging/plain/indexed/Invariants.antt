use Rattle.gate_text_tests.proofs.judging.plain.indexed.Given as goal

abbrev pub ghosts-told : goal.ghosts-told
ghosts-told a = record { name = a.blank.name; parts = a.blank.parts }
