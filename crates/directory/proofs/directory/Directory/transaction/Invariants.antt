use Rattle.directory.proofs.directory.Directory.transaction.Given as goal

abbrev pub ghosts-transaction_on : goal.ghosts-transaction_on
ghosts-transaction_on a = record { name = a.blank.name; parts = a.blank.parts }
