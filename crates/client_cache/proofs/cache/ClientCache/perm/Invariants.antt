use Rattle.client_cache.proofs.cache.ClientCache.perm.Given as goal

abbrev pub ghosts-perm_on : goal.ghosts-perm_on
ghosts-perm_on a = record { name = a.blank.name; parts = a.blank.parts }
