use Rattle.client_cache.proofs.cache.ClientCache.want.Given as goal

abbrev pub ghosts-want_on : goal.ghosts-want_on
ghosts-want_on a = record { name = a.blank.name; parts = a.blank.parts }
