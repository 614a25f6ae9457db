-- Coherence: one writer or many readers of each line, and each copy its last performed write (TileLink 1.8.1, "Permissions transitions"; Trunk here is the writable tip, which no other cache shares).
use Rattle.std.specs.Prelude.{ℕ, ◌≡◌, ◌≢◌, ◌+◌, ◌-◌, ◌%◌, ◌<◌, ◌≤◌, Some, slice_get}
use Rattle.client_cache.specs.Cache.{copy_at}
use Rattle.client_cache.specs.Held.{bytes_in, perm_of}
use Rattle.client_cache.specs.declared.held.Held.{Held}
use Rattle.machine_model.specs.Views.{State, line_size, node_at}
use Rattle.memory_model.specs.Traces.{last_performed}
use Rattle.tl_types.specs.Line.{bytes_of, length_of}
use Rattle.tl_types.specs.declared.permission.Perm.{Perm}
use Rattle.tl_types.specs.declared.permission.Perm.TheVariants.{Nothing, Trunk}

-- the permission that a hart's cache has of a line
abbrev pub perm_at : State → (hart line : ℕ) → Perm
perm_at s h line = perm_of (copy_at (node_at s h).cache line)

pub record IsCoherent (s : State) : Type 0 where
  -- each copy is of a line, which begins at a multiple of its size
  pub aligned : (h line : ℕ) (held : Held) → copy_at (node_at s h).cache line ≡ Some held → line % length_of (line_size s) ≡ 0
  -- where one cache may write a line, no other has it
  pub one_writer : (a b line : ℕ) → a ≢ b → perm_at s a line ≡ Trunk → perm_at s b line ≡ Nothing
  -- each byte of each copy is the last one that was performed
  pub last_write : (h line x : ℕ) (held : Held) → copy_at (node_at s h).cache line ≡ Some held → line ≤ x → x < line + length_of (line_size s) → slice_get (bytes_of (bytes_in held)) (x - line) ≡ Some (last_performed s.trace x)
