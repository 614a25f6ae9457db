-- What a report says of a run.
use Rattle.std.specs.Prelude.{◌≡◌, ℕ, ◌≤◌, length, map, sum}
use Rattle.std.specs.List.{All}
use Rattle.locked_fabric.specs.Machine.{IsReached, Replayed, replayed_from}
use Rattle.elf_loader.specs.Image.{Initial}
use Rattle.host_threads.specs.declared.report.Report.{Report}
use Rattle.locked_fabric.specs.FabricState.{AreMoves}
use Rattle.machine_types.specs.declared.config.Config.{Config}
use Rattle.machine_model.specs.Events.{after_events}
use Rattle.machine_model.specs.LawfulLog.{IsLawfulLog}
use Rattle.machine_model.specs.Laws.{IsHeadline}
use Rattle.machine_model.specs.Views.{State, opening}

-- where the report's journal leads from reset
abbrev pub end_of_journal : Initial → Config → Report → State
end_of_journal image config report = after_events (opening image config) report.journal.items

-- trace and outputs are those to which the journal leads, and the receipts, one a hart, add up to its length
pub record IsOf (image : Initial) (config : Config) (report : Report) : Type 0 where
  pub trace : report.trace.history ≡ (end_of_journal image config report).trace
  pub outputs : map (λ output. output.items) report.outputs.items ≡ map (λ node. node.output) (end_of_journal image config report).views.nodes
  pub receipts : sum report.receipts.items ≡ length report.journal.items
  pub harts : length report.receipts.items ≡ config.harts

-- there are no more events than the limit says, and so no hart's thread applied more
pub record IsWithinLimit (limit : ℕ) (report : Report) : Type 0 where
  pub events : length report.journal.items ≤ limit
  pub harts : All (λ receipt. receipt ≤ limit) report.receipts.items

-- each event of the journal changes the machine to which those before it lead
abbrev pub JournalMoves : Initial → Config → Report → Type 0
JournalMoves image config report = AreMoves (opening image config) report.journal.items

-- no event of the journal is refused on the way there
abbrev pub JournalReplays : Initial → Config → Report → Type 0
JournalReplays image config report = replayed_from 0 (opening image config) report.journal.items ≡ Replayed.Reached (end_of_journal image config report)

-- all that a run's report says, of this image and configuration and of so many events at most
pub record IsRun (image : Initial) (config : Config) (most : ℕ) (left : Report) : Type 0 where
  pub report : IsOf image config left
  pub moves : JournalMoves image config left
  pub replays : JournalReplays image config left
  pub reached : IsReached (end_of_journal image config left)
  pub headline : IsHeadline image config (end_of_journal image config left)
  pub log : IsLawfulLog left.trace.history.log
  pub limit : IsWithinLimit most left
