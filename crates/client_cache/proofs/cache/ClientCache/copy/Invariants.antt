use Rattle.client_cache.proofs.cache.ClientCache.copy.Given as goal

abbrev pub ghosts-copy_on : goal.ghosts-copy_on
ghosts-copy_on a = record { name = a.blank.name; parts = a.blank.parts }
