-- The map says of a log what the rules ask for, and goes on to when it grows by an entry.
use Rattle.std.proofs.Common.{ℕ, List, [], ◌∷◌, ◌++◌, ◌≡◌, Option, Some, None, ap, sym, ◌∙◌, subst, length, arith}
use Rattle.std.specs.Prelude.{if◌then◌else◌}
use Rattle.std.specs.Option.{option_or}
use Rattle.coherent_log.proofs.Latest.{bytes_more, client_more}
use Rattle.coherent_log.specs.Followed.{FindsBreach, FindsBroken, Follows, brought_in, client_in, client_noted}
use Rattle.coherent_log.specs.Laws.{IsCause, rule_of}
use Rattle.coherent_log.specs.Rules.{KeepsGoing, rank}
use Rattle.coherent_log.specs.Told.{brought, brought_at, brought_of, client_of, concerns, is_of_line}
use Rattle.coherent_log.specs.declared.clients.ClientLog.{ClientLog}
use Rattle.coherent_log.specs.declared.followed.Followed.{Followed}
use Rattle.coherent_log.specs.declared.lines.Brought.{Brought}
use Rattle.coherent_log.specs.declared.rule.CoherenceRule.{CoherenceRule}
use Rattle.coherent_log.specs.declared.verdict.Breach.{Breach}
use Rattle.elf_loader.specs.Image.{Initial}
use Rattle.trace_recorder.specs.declared.logged.Direction.{Direction}
use Rattle.trace_recorder.specs.declared.logged.Direction.TheVariants.{Sent, Taken}
use Rattle.trace_recorder.specs.declared.logged.Logged.{Logged}

module _ (image : Option Initial) (f : Followed) (log : List Logged) (e : Logged) (follows : Follows f log) where
  abbrev clients : ℕ → ClientLog
  clients k = client_of k e.message.line log

  abbrev bytes : Option Brought
  bytes = brought_of e.message.line log

  -- what is told by the map is what the log says
  by_the_log : (o : Option Breach) → FindsBroken image e.hart e.message.line e.message.body (λ h. client_in f.lines h e.message.line) (brought_in f.lines e.message.line) o
      → FindsBroken image e.hart e.message.line e.message.body clients bytes o
  by_the_log o found =
      subst (λ (c : ℕ → ClientLog). FindsBroken image e.hart e.message.line e.message.body c bytes o) (λ i k. follows.clients k e.message.line i)
      (subst (λ (b : Option Brought). FindsBroken image e.hart e.message.line e.message.body (λ h. client_in f.lines h e.message.line) b o) (follows.bytes e.message.line) found)

  abbrev KeepsAt : Direction → CoherenceRule → Type 0
  KeepsAt d r = KeepsGoing d r image e.hart e.message.line e.message.body log

  -- what stands against a message that is sent stands against the entry
  pub breaks_sent : (o : Option Breach) → e.direction ≡ Sent → FindsBroken image e.hart e.message.line e.message.body (λ h. client_in f.lines h e.message.line) (brought_in f.lines e.message.line) o
      → FindsBreach image log e o
  breaks_sent o sent found = go o (by_the_log o found)
    where
      go : (o : Option Breach) → FindsBroken image e.hart e.message.line e.message.body clients bytes o → FindsBreach image log e o
      go None all = λ r. subst (λ (d : Direction). KeepsAt d r) (sym sent) (all r)
      go (Some breach) first = (
        λ kept. first.0 (subst (λ (d : Direction). KeepsAt d (rule_of breach)) sent kept),
        λ r below. subst (λ (d : Direction). KeepsAt d r) (sym sent) (first.1 r below),
        first.2,
      )

  -- one that is taken keeps each rule
  pub keeps_taken : e.direction ≡ Taken → FindsBreach image log e None
  keeps_taken taken = λ r. subst (λ (d : Direction). KeepsAt d r) (sym taken) tt

-- the map behind an entry
pub record IsNoted (f g : Followed) (e : Logged) (i : ℕ) : Type 0 where
  pub clients : (h line : ℕ) → client_in g.lines h line ≡ (if concerns h line e then client_noted e i (client_in f.lines h line) else client_in f.lines h line)
  pub bytes : (line : ℕ) → brought_in g.lines line ≡ (if is_of_line line e then option_or (brought_at i (brought e.direction e.message.body)) (brought_in f.lines line) else brought_in f.lines line)

pub noted_follows : (f g : Followed) (log : List Logged) (e : Logged) (i : ℕ) → Follows f log → i ≡ length log → IsNoted f g e i → Follows g (log ++ e ∷ [])
noted_follows f g log e i old is now = record {
  clients = λ h line. now.clients h line ∙ (ap (λ (c : ClientLog). if concerns h line e then client_noted e i c else c) (old.clients h line) ∙ sym (client_more h line log e i is));
  bytes = λ line. now.bytes line ∙ (ap (λ (b : Option Brought). if is_of_line line e then option_or (brought_at i (brought e.direction e.message.body)) b else b) (old.bytes line) ∙ sym (bytes_more line log e i is));
}
