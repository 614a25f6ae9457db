use Rattle.client_cache.proofs.cache.ClientCache.on_grant.Given as goal

abbrev pub ghosts-on_grant_on : goal.ghosts-on_grant_on
ghosts-on_grant_on a = record { name = a.blank.name; parts = a.blank.parts }
