-- The coherent log, and the first entry of another that breaks a rule.
use Rattle.std.specs.Prelude.{ℕ, ◌≡◌, ◌≢◌, ◌<◌, List, ◌∷◌, ◌++◌, Option, Some, None, option_map, slice_get, take}
use Rattle.coherent_log.specs.Rules.{Keeps, MayGoBeside, perm_in, rank}
use Rattle.coherent_log.specs.Told.{brought_of, client_of}
use Rattle.coherent_log.specs.declared.clients.ClientLog.{ClientLog}
use Rattle.coherent_log.specs.declared.lines.Brought.{Brought}
use Rattle.coherent_log.specs.declared.rule.CoherenceRule.{CoherenceRule}
use Rattle.coherent_log.specs.declared.rule.CoherenceRule.TheVariants as rule
use Rattle.coherent_log.specs.declared.verdict.Breach.{Breach}
use Rattle.coherent_log.specs.declared.verdict.Breach.TheVariants as breach
use Rattle.coherent_log.specs.declared.verdict.CoherenceVerdict.{CoherenceVerdict}
use Rattle.coherent_log.specs.declared.verdict.CoherenceVerdict.TheVariants.{Coherent, Incoherent}
use Rattle.elf_loader.specs.Image.{Initial}
use Rattle.tl_types.specs.declared.message.Body.{Body}
use Rattle.trace_recorder.specs.declared.logged.Logged.{Logged}

-- each entry keeps each rule, behind those before it
abbrev pub IsCoherentLog : Option Initial → List Logged → Type 0
IsCoherentLog image log = (rule : CoherenceRule) (before rest : List Logged) (e : Logged) → before ++ e ∷ rest ≡ log → Keeps rule image before e

abbrev pub rule_of : Breach → CoherenceRule
rule_of (breach.PermissionHeld held) = rule.PermissionHeld
rule_of (breach.ProbeObeyed held probe) = rule.ProbeObeyed
rule_of (breach.OneWriter holder held) = rule.OneWriter
rule_of (breach.DataAsked held) = rule.DataAsked
rule_of (breach.DataKept brought) = rule.DataKept

-- the first other client beside which the message may not go
pub record IsHolder (body : Body) (h : ℕ) (clients : ℕ → ClientLog) (holder : ℕ) : Type 0 where
  pub other : holder ≢ h
  pub has_more : ¬ MayGoBeside body (perm_in (clients holder).noted)
  pub first : (k : ℕ) → k < holder → k ≢ h → MayGoBeside body (perm_in (clients k).noted)

abbrev pub index_in : Option Brought → Option ℕ
index_in None = None
index_in (Some brought) = Some brought.index

-- what the log says that the message doesn't fit
abbrev pub IsCause : Breach → (h : ℕ) → Body → (ℕ → ClientLog) → Option Brought → Type 0
IsCause (breach.PermissionHeld held) h body clients brought = held ≡ (clients h).held
IsCause (breach.ProbeObeyed held probe) h body clients brought = (held ≡ (clients h).held) × (probe ≡ (clients h).probe)
IsCause (breach.OneWriter holder held) h body clients brought = IsHolder body h clients holder × (held ≡ (clients holder).noted)
IsCause (breach.DataAsked held) h body clients brought = held ≡ (clients h).held
IsCause (breach.DataKept index) h body clients brought = index ≡ index_in brought

-- the entry at `index` is the first that breaks a rule, and the breach has the first of those that it breaks, and its cause
pub record IsFirstBreach (image : Option Initial) (log : List Logged) (breach : Breach) (index : ℕ) : Type 0 where
  pub entry : Logged
  pub stands : slice_get log index ≡ Some entry
  pub coherent_before : IsCoherentLog image (take index log)
  pub broken : ¬ Keeps (rule_of breach) image (take index log) entry
  pub first : (r : CoherenceRule) → rank r < rank (rule_of breach) → Keeps r image (take index log) entry
  pub cause : IsCause breach entry.hart entry.message.body (λ k. client_of k entry.message.line (take index log)) (brought_of entry.message.line (take index log))

abbrev pub IfIncoherent : CoherenceVerdict → (Breach → ℕ → Type 0) → Type 0
IfIncoherent Coherent P = Unit {0}
IfIncoherent (Incoherent breach index) P = P breach index
