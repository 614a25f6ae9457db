use Rattle.client_cache.proofs.cache.ClientCache.write.Given as goal

abbrev pub ghosts-write_on : goal.ghosts-write_on
ghosts-write_on a = record { name = a.blank.name; parts = a.blank.parts }
