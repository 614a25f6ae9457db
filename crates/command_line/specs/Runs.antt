-- What a replay of a run's journal prints.
use Rattle.std.specs.Prelude.{◌≡◌, ℕ, List, Option, Some, true, is_some}
use Rattle.std.specs.Io.KnownBytes.{Appends}
use Rattle.command_files.specs.Contents.{Contents}
use Rattle.script_commands.specs.Replaying.{IsReplayed}
use Rattle.command_files.specs.declared.allowing.Judgement.{Judgement}
use Rattle.run_command.specs.Running.{IsRun}
use Rattle.command_settings.specs.declared.wanted.Replay.{Replay}
use Rattle.command_settings.specs.declared.wanted.Run.{Run}

-- the replay is of the run's journal, for the same image under the same model; the journal's bytes are known, and the image's file still has the bytes that it had
pub record IsOfRun (held left : Contents) (run : Run) (replay : Replay) : Type 0 where
  pub raw : replay.raw ≡ run.raw
  pub model : replay.model ≡ run.machine.model
  pub script : replay.script.now ≡ run.journal.now
  pub image : replay.image.now ≡ run.image.now
  pub kept : is_some (left run.journal.now) ≡ true
  pub bytes : List ℕ
  pub read : held run.image.now ≡ Some bytes
  pub still : left run.image.now ≡ Some bytes

-- both have printed the same
pub record PrintSame (old new before after : Option (List ℕ)) : Type 0 where
  pub printed : List ℕ
  pub once : Appends old new printed
  pub again : Appends before after printed

-- where a run has left its journal and printed its trace, a replay of that journal prints the same
abbrev pub RunsReplay : Type 0
RunsReplay = (held left : Contents) (run : Run) (judgement : Judgement) (replay : Replay) (old new before after : Option (List ℕ))
    → IsOfRun held left run replay → IsRun held left run judgement old new → IsReplayed left replay before after → PrintSame old new before after
