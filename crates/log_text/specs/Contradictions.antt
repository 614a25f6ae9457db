-- What is told of a message that breaks a rule of the coherent log.
use Rattle.std.specs.Prelude.{ℕ, ◌≡◌, ◌≤◌, List, Option, Some, None, length, slice_get}
use Rattle.coherent_log.specs.declared.clients.Held.{Held}
use Rattle.coherent_log.specs.declared.clients.Probed.{Probed}
use Rattle.coherent_log.specs.declared.verdict.Breach.{Breach}
use Rattle.coherent_log.specs.declared.verdict.Breach.TheVariants.{PermissionHeld, ProbeObeyed, OneWriter, DataAsked, DataKept}
use Rattle.log_text.specs.Places.{IsPlaceOf}
use Rattle.log_text.specs.declared.place.LogText.{LogText}
use Rattle.log_text.specs.declared.contradiction.Contradiction.{Contradiction}
use Rattle.trace_recorder.specs.declared.logged.Logged.{Logged}

abbrev pub since_of : Option Held → Option ℕ
since_of None = None
since_of (Some held) = Some held.since

-- the message that left the permission that the breach speaks of, or brought the bytes
abbrev pub cause_of : Breach → Option ℕ
cause_of (PermissionHeld held) = since_of held
cause_of (ProbeObeyed held probe) = since_of held
cause_of (OneWriter holder held) = since_of held
cause_of (DataAsked held) = since_of held
cause_of (DataKept brought) = brought

abbrev pub index_of : Option Probed → Option ℕ
index_of None = None
index_of (Some probe) = Some probe.index

-- the Probe that the message answers
abbrev pub probe_of : Breach → Option ℕ
probe_of (ProbeObeyed held probe) = index_of probe
probe_of _ = None

-- the breach, the entry at that index, and where the messages that it contradicts stand; nothing beyond the log
pub record IsContradiction (broken : Breach) (index : ℕ) (log : List Logged) (text : LogText) (c : Contradiction) : Type 0 where
  pub breach : c.breach ≡ broken
  pub entry : slice_get log index ≡ Some c.entry
  pub cause : IsPlaceOf (cause_of broken) text c.cause
  pub probe : IsPlaceOf (probe_of broken) text c.probe

abbrev pub Contradicts : Breach → ℕ → List Logged → LogText → Option Contradiction → Type 0
Contradicts breach index log text None = length log ≤ index
Contradicts breach index log text (Some c) = IsContradiction breach index log text c
