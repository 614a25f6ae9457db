use Rattle.client_cache.proofs.cache.ClientCache.evict.Given as goal

abbrev pub ghosts-evict_on : goal.ghosts-evict_on
ghosts-evict_on a = record { name = a.blank.name; parts = a.blank.parts }
