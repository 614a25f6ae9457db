use Rattle.std.proofs.Common.{ℕ, ◌≤◌, ◌⊎◌, All, Contains, IsTrue, List, Option, length, map}
use Rattle.architecture_outcomes.specs.Failings.{HasEachFailure, IsDecidedStop, IsShown, failures_in, machine_stop}
use Rattle.elf_loader.specs.Image.{Initial}
use Rattle.machine_types.specs.declared.config.Config.{Config}
use Rattle.window_search.specs.Failure.{Failure}
use Rattle.window_search.specs.Stops.{AreOnce, IsFailedRun, failures_of}
use Rattle.architecture_outcomes.proofs.failing.add_each_beyond.Given as goal

abbrev pub invariant-loop-run : goal.invariant-loop-run
invariant-loop-run l = record {
  shown : (image : Initial) (config : Config) (addresses : List ℕ) → All (IsFailedRun image config) l.fn.runs.items → (IsTrue l.fn.is_complete → HasEachFailure image config (failures_in l.fn.failings.items)) → All (IsShown image config addresses) l.fn.failings.items
      → All (IsShown image config addresses) l.failings.items;
  left : (image : Initial) (config : Config) → All (IsFailedRun image config) l.fn.runs.items → All (IsFailedRun image config) l.left.items;
  kept : (x : Failure) → Contains (failures_in l.fn.failings.items) x → Contains (failures_in l.failings.items) x;
  once : AreOnce (failures_in l.fn.failings.items) → AreOnce (failures_in l.failings.items);
  decided : IsTrue l.fn.is_complete → All IsDecidedStop l.fn.failings.items → All IsDecidedStop l.failings.items;
  machine : (x : Option Failure) → Contains (map machine_stop l.fn.failings.items) x → Contains (map machine_stop l.failings.items) x;
  grown : length l.fn.failings.items ≤ length l.failings.items;
  added : (x : Failure) → Contains (failures_of l.fn.runs.items) x → Contains (failures_of l.left.items) x ⊎ Contains (failures_in l.failings.items) x;
}

abbrev pub decreases-loop-run : goal.decreases-loop-run
decreases-loop-run l = length l.left.items
