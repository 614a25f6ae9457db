use Rattle.client_cache.proofs.cache.ClientCache.peek_want.Given as goal

abbrev pub ghosts-peek_want_on : goal.ghosts-peek_want_on
ghosts-peek_want_on a = record { name = a.blank.name; parts = a.blank.parts }
