use Rattle.client_cache.proofs.cache.ClientCache.peek_evict.Given as goal

abbrev pub ghosts-peek_evict_on : goal.ghosts-peek_evict_on
ghosts-peek_evict_on a = record { name = a.blank.name; parts = a.blank.parts }
