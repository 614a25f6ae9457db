-- A set that is closed for itself and has no end shows that what one of it does all of never ends.
use Rattle.std.proofs.Common.{[]}
use Rattle.window_model.proofs.Closing.{tell_path}
use Rattle.window_model.proofs.Covering.{covered_sets_are_closed}
use Rattle.window_model.proofs.Ending.{ends_are_alone}
use Rattle.memory_model.proofs.Lists.{Member-from_Contains}
use Rattle.window_hangs.specs.Laws.{EndlessSetsNeverEnd}

pub endless_sets_never_end : EndlessSetsNeverEnd
endless_sets_never_end model image seen endless s covered none found saw steps u results leads ended =
    Member-from_Contains [] _
    (tell_path model image seen endless [] [] steps s u results found (covered_sets_are_closed model image seen endless covered)
    (ends_are_alone model image seen endless [] [] (λ x rs there each. absurd (none x rs there each)))
    saw leads ended)
