-- How many harts a machine has, and of how many lines it has notes and data.
use Rattle.std.proofs.Common.{◌≡◌, ◌≤◌, arith, length, sym, ◌∙◌}
use Rattle.machine_types.specs.declared.limits.TheConstants.{MAX_HARTS}
use Rattle.coherent_machine.specs.Machine.{IsReached}
use Rattle.machine_model.specs.Ready.{IsSound, SoundAlways, line_count}
use Rattle.machine_model.specs.Views.{State}
use Rattle.coherent_machine.proofs.Reached.{law_of}
use Rattle.event_stream.proofs.ClosingLines.{Sized, sized}

module _ (law : SoundAlways) (s : State) (reached : IsReached s) where
  sound : IsSound s
  sound = law_of (λ image config t. IsSound t) law s reached

  pub few_nodes : length s.views.nodes ≤ MAX_HARTS
  few_nodes =
      let z : Sized s = sized law s reached in
      omega (arith, z.statuses, z.few)

  pub noted_lines_fit : length s.views.notes.lines ≡ length s.views.memory
  noted_lines_fit = sound.noted_lines ∙ sym sound.lines

  pub memory_fits : length s.views.memory ≡ line_count s
  memory_fits = sound.lines
