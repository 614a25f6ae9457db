-- The plays are worked by computing.
use Rattle.std.proofs.Common.{refl}
use Rattle.flat_model.specs.Plays.{Buffering, HeldUp, OwnStore, Pairs, Plays, Rivals}

buffering : Buffering
buffering = record { forwarded = refl; unwritten = refl; other_hart = refl; written = refl; no_entry = refl; no_failure = refl }

pairs : Pairs
pairs = record { ended = refl; kept = refl; by_load = refl; fails = refl; writes = refl; succeeds = refl; gives_up = refl; leaves = refl }

rivals : Rivals
rivals = record { one_way = refl; two_ways = refl; another = refl }

own_store : OwnStore
own_store = record { from_buffer = refl; stays = refl; drain_ends = refl }

held_up : HeldUp
held_up = record { at_once = refl; waits = refl; fails = refl }

pub worked_plays : Plays
worked_plays = record { buffering = buffering; pairs = pairs; rivals = rivals; own_store = own_store; held_up = held_up }
