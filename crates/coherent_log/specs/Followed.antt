-- What the one pass keeps of a log.
use Rattle.std.specs.Prelude.{ℕ, ◌≡◌, ◌<◌, List, Option, Some, None, nat_eq, slice_get}
use Rattle.std.specs.HashMap.{HashMap, get}
use Rattle.std.specs.Option.{option_map_or, option_or}
use Rattle.coherent_log.specs.Laws.{IsCause, IsHolder, rule_of}
use Rattle.coherent_log.specs.Rules.{Keeps, MayGoBy, MayGoBeside, perm_in, rank}
use Rattle.coherent_log.specs.Told.{at_client, at_manager, brought_of, client_of, held_since, probed, probed_at}
use Rattle.coherent_log.specs.declared.clients.ClientLog.{ClientLog}
use Rattle.coherent_log.specs.declared.clients.Held.{Held}
use Rattle.coherent_log.specs.declared.followed.Followed.{Followed}
use Rattle.coherent_log.specs.declared.lines.Brought.{Brought}
use Rattle.coherent_log.specs.declared.lines.LineLog.{LineLog}
use Rattle.coherent_log.specs.declared.rule.CoherenceRule.{CoherenceRule}
use Rattle.coherent_log.specs.declared.verdict.Breach.{Breach}
use Rattle.elf_loader.specs.Image.{Initial}
use Rattle.tl_types.specs.declared.message.Body.{Body}
use Rattle.trace_recorder.specs.declared.logged.Logged.{Logged}

-- ---- what stands of a line and a client; where there is no entry, nothing came yet

abbrev pub nothing_told : ClientLog
nothing_told = record { held = None; noted = None; probe = None }

abbrev pub client_at : List ClientLog → ℕ → ClientLog
client_at clients h = option_map_or (λ (c : ClientLog). c) (slice_get clients h) nothing_told

module _ {S : Type 0} where
  abbrev pub client_in : HashMap ℕ LineLog S → ℕ → ℕ → ClientLog
  client_in m h line = option_map_or (λ (l : LineLog). client_at l.clients.items h) (get nat_eq m line) nothing_told

  abbrev pub brought_in : HashMap ℕ LineLog S → ℕ → Option Brought
  brought_in m line = option_map_or (λ (l : LineLog). l.brought) (get nat_eq m line) None

-- ---- one more entry, the message of that number

abbrev pub client_noted : Logged → ℕ → ClientLog → ClientLog
client_noted e i c = record {
  held = option_or (held_since i (at_client e.direction e.message.body)) c.held;
  noted = option_or (held_since i (at_manager e.direction e.message.body)) c.noted;
  probe = option_or (probed_at i (probed e.direction e.message.body)) c.probe;
}

-- ---- which rule is broken, by what is told of each client and of the line's bytes

-- the rule lets the message go, or this is why it doesn't
abbrev pub FindsBy : CoherenceRule → Option Initial → (h line : ℕ) → Body → (ℕ → ClientLog) → Option Brought → Option Breach → Type 0
FindsBy rule image h line body clients brought None = MayGoBy rule image h line body clients brought
FindsBy rule image h line body clients brought (Some breach) = (rule_of breach ≡ rule) × (¬ MayGoBy rule image h line body clients brought) × IsCause breach h body clients brought

-- the message may go beside each other client, or this is the first beside which it may not, with what that client has
abbrev pub FindsHolder : Body → (h : ℕ) → (ℕ → ClientLog) → Option (ℕ × Option Held) → Type 0
FindsHolder body h clients None = (other : ℕ) → ¬ (other ≡ h) → MayGoBeside body (perm_in (clients other).noted)
FindsHolder body h clients (Some found) = IsHolder body h clients found.0 × (found.1 ≡ (clients found.0).noted)

-- each rule lets the message go, or this is the first that doesn't
abbrev pub FindsBroken : Option Initial → (h line : ℕ) → Body → (ℕ → ClientLog) → Option Brought → Option Breach → Type 0
FindsBroken image h line body clients brought None = (r : CoherenceRule) → MayGoBy r image h line body clients brought
FindsBroken image h line body clients brought (Some breach) =
    (¬ MayGoBy (rule_of breach) image h line body clients brought)
    × ((r : CoherenceRule) → rank r < rank (rule_of breach) → MayGoBy r image h line body clients brought)
    × IsCause breach h body clients brought

-- the entry keeps each rule behind the log, or this is the first that it breaks
abbrev pub FindsBreach : Option Initial → List Logged → Logged → Option Breach → Type 0
FindsBreach image log e None = (r : CoherenceRule) → Keeps r image log e
FindsBreach image log e (Some breach) =
    (¬ Keeps (rule_of breach) image log e)
    × ((r : CoherenceRule) → rank r < rank (rule_of breach) → Keeps r image log e)
    × IsCause breach e.hart e.message.body (λ k. client_of k e.message.line log) (brought_of e.message.line log)

-- ---- the map says of a log what the rules ask for

pub record Follows (f : Followed) (log : List Logged) : Type 0 where
  pub clients : (h line : ℕ) → client_in f.lines h line ≡ client_of h line log
  pub bytes : (line : ℕ) → brought_in f.lines line ≡ brought_of line log
