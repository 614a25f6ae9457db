use Rattle.client_cache.proofs.cache.ClientCache.on_probe.Given as goal

abbrev pub ghosts-on_probe_on : goal.ghosts-on_probe_on
ghosts-on_probe_on a = record { name = a.blank.name; parts = a.blank.parts }
