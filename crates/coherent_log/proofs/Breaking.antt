-- The first rule that lets a message not go, where the rules are asked in their order.
use Rattle.std.proofs.Common.{ℕ, ◌<◌, ◌≡◌, ◌∙◌, Option, Some, None, ap, sym, subst}
use Rattle.coherent_log.proofs.Ranks.{at_rank, rank_at, rule_at}
use Rattle.coherent_log.specs.Followed.{FindsBroken, FindsBy}
use Rattle.coherent_log.specs.Rules.{MayGoBy, rank}
use Rattle.coherent_log.specs.declared.clients.ClientLog.{ClientLog}
use Rattle.coherent_log.specs.declared.lines.Brought.{Brought}
use Rattle.coherent_log.specs.declared.rule.CoherenceRule.{CoherenceRule}
use Rattle.coherent_log.specs.declared.verdict.Breach.{Breach}
use Rattle.elf_loader.specs.Image.{Initial}
use Rattle.tl_types.specs.declared.message.Body.{Body}

module _ (image : Option Initial) (h line : ℕ) (body : Body) (clients : ℕ → ClientLog) (brought : Option Brought) where
  abbrev pub Goes : CoherenceRule → Type 0
  Goes r = MayGoBy r image h line body clients brought

  pub goes_on : (r : CoherenceRule) (o : Option Breach) → o ≡ None → FindsBy r image h line body clients brought o → Goes r
  goes_on r o is found = subst (FindsBy r image h line body clients brought) is found

  pub breaks : (i : ℕ) (o : Option Breach) (breach : Breach) → i < 5 → o ≡ Some breach → FindsBy (rule_at i) image h line body clients brought o → ((k : ℕ) → k < i → Goes (rule_at k)) → FindsBroken image h line body clients brought (Some breach)
  breaks i o breach within is found before =
      let here : FindsBy (rule_at i) image h line body clients brought (Some breach) = subst (FindsBy (rule_at i) image h line body clients brought) is found in (
        subst (λ (r : CoherenceRule). Goes r → ⊥) (sym here.0) here.1,
        λ r below. subst Goes (at_rank r) (before (rank r) (subst (λ (n : ℕ). rank r < n) (ap rank here.0 ∙ rank_at i within) below)),
        here.2,
      )
