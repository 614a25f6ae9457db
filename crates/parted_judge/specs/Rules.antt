-- The rules of messages for a log of any clients and lines: what each asks of a message with all its bytes. Memory at the start isn't told.
use Rattle.std.specs.Prelude.{ℕ, ◌≡◌, ◌&&◌, ◌==◌, not, if◌then◌else◌, List, [], ◌∷◌, ◌++◌, Option, Some, None, length, map, slice_get}
use Rattle.std.specs.List.{filter_map}
use Rattle.std.specs.Option.{option_or}
use Rattle.coherent_log.specs.Rules as coherent
use Rattle.coherent_log.specs.Told.{brought}
use Rattle.coherent_log.specs.declared.rule.CoherenceRule.{CoherenceRule}
use Rattle.coherent_log.specs.declared.rule.CoherenceRule.TheVariants.{DataKept}
use Rattle.lawful_log.specs.Rules as lawful
use Rattle.lawful_log.specs.declared.profile.Profile.{Profile}
use Rattle.lawful_log.specs.declared.rule.LogRule.{LogRule}
use Rattle.lawful_log.specs.declared.rule.LogRule.TheVariants.{InOrder}
use Rattle.machine_model.specs.LawfulLog.{is_of_line, is_on, is_sent}
use Rattle.tl_types.specs.Message.{channel_of}
use Rattle.tl_types.specs.declared.line.LineData.{LineData}
use Rattle.tl_types.specs.declared.message.Body.{Body}
use Rattle.tl_types.specs.declared.message.Body.TheVariants.{GrantData}
use Rattle.tl_types.specs.declared.message.Channel.{Channel}
use Rattle.tl_types.specs.declared.message.Msg.{Msg}
use Rattle.trace_recorder.specs.declared.logged.Direction.{Direction}
use Rattle.trace_recorder.specs.declared.logged.Direction.TheVariants.{Sent, Taken}
use Rattle.wide_logs.specs.Entries.{first_of, second_of}
use Rattle.wide_logs.specs.declared.entry.WideLogged.{WideLogged}

-- ---- in-order

-- a message with all its bytes: as one of the line's first half, and of the second; the same twice where a line has no halves
abbrev pub whole_of : WideLogged → Msg × Msg
whole_of e = (e.first.message, (second_of e).message)

-- the whole messages that went into a client's queue of a channel, and those that came out
abbrev pub whole_sent_on : Channel → ℕ → List WideLogged → List (Msg × Msg)
whole_sent_on c h log = filter_map (λ (e : WideLogged). if is_sent e.first.direction && e.first.hart == h && is_on c (channel_of e.first.message) then Some (whole_of e) else None) log

abbrev pub whole_taken_on : Channel → ℕ → List WideLogged → List (Msg × Msg)
whole_taken_on c h log = filter_map (λ (e : WideLogged). if not (is_sent e.first.direction) && e.first.hart == h && is_on c (channel_of e.first.message) then Some (whole_of e) else None) log

-- of what went into its queue, the whole message is the first that hasn't come out
abbrev pub IsWholeFront : WideLogged → List WideLogged → Type 0
IsWholeFront e log = slice_get (whole_sent_on (channel_of e.first.message) e.first.hart log) (length (whole_taken_on (channel_of e.first.message) e.first.hart log)) ≡ Some (whole_of e)

abbrev pub ComesInOrder : Direction → WideLogged → List WideLogged → Type 0
ComesInOrder Sent e log = Unit {0}
ComesInOrder Taken e log = IsWholeFront e log

-- ---- data-kept

abbrev pub both : Option LineData → Option LineData → Option (LineData × LineData)
both (Some one) (Some two) = Some (one, two)
both _ _ = None

-- all bytes that the manager has of a line by an entry: those that have arrived, or that it grants
abbrev pub whole_brought : ℕ → WideLogged → Option (LineData × LineData)
whole_brought line e = if is_of_line line e.first then both (brought e.first.direction e.first.message.body) (brought e.first.direction (second_of e).message.body) else None

-- by the last entry that has some
abbrev pub last_brought : ℕ → List WideLogged → Option (LineData × LineData)
last_brought line [] = None
last_brought line (e ∷ log) = option_or (last_brought line log) (whole_brought line e)

-- a Grant carries just these bytes; where there are none, any
abbrev pub IsWholeKept : Body → Body → Option (LineData × LineData) → Type 0
IsWholeKept (GrantData cap one) (GrantData other two) (Some kept) = (one ≡ kept.0) × (two ≡ kept.1)
IsWholeKept _ _ kept = Unit {0}

abbrev pub GoesWithKept : Direction → WideLogged → List WideLogged → Type 0
GoesWithKept Sent e log = IsWholeKept e.first.message.body (second_of e).message.body (last_brought e.first.message.line log)
GoesWithKept Taken e log = Unit {0}

-- ---- an entry keeps a rule behind a log; the other rules ask nothing of a message's bytes

abbrev pub ObeysWide : Profile → LogRule → List WideLogged → WideLogged → Type 0
ObeysWide profile InOrder log e = ComesInOrder e.first.direction e log
ObeysWide profile rule log e = lawful.Obeys profile rule (map first_of log) e.first

abbrev pub KeepsWide : CoherenceRule → List WideLogged → WideLogged → Type 0
KeepsWide DataKept log e = GoesWithKept e.first.direction e log
KeepsWide rule log e = coherent.Keeps rule None (map first_of log) e.first

-- each entry keeps each rule of both kinds, behind those before it
pub record AreLawfulWide (profile : Profile) (log : List WideLogged) : Type 0 where
  pub order : (rule : LogRule) (before rest : List WideLogged) (e : WideLogged) → before ++ e ∷ rest ≡ log → ObeysWide profile rule before e
  pub copies : (rule : CoherenceRule) (before rest : List WideLogged) (e : WideLogged) → before ++ e ∷ rest ≡ log → KeepsWide rule before e
