use Rattle.client_cache.proofs.cache.ClientCache.write_word.Given as goal

abbrev pub ghosts-write_word_on : goal.ghosts-write_word_on
ghosts-write_word_on a = record { name = a.blank.name; parts = a.blank.parts }
