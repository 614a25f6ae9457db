-- What the map says of a line, by what stands there.
use Rattle.std.proofs.Common.{ℕ, List, [], ◌≡◌, Option, Some, None, sym, subst, nat_eq}
use Rattle.std.specs.HashMap.{HashMap, get}
use Rattle.std.specs.Option.{option_map_or}
use Rattle.coherent_log.specs.Followed.{FindsBroken, brought_in, client_at, client_in, nothing_told}
use Rattle.coherent_log.specs.declared.clients.ClientLog.{ClientLog}
use Rattle.coherent_log.specs.declared.lines.Brought.{Brought}
use Rattle.coherent_log.specs.declared.lines.LineLog.{LineLog}
use Rattle.coherent_log.specs.declared.verdict.Breach.{Breach}
use Rattle.elf_loader.specs.Image.{Initial}
use Rattle.tl_types.specs.declared.message.Body.{Body}

module _ {S : Type 0} (image : Option Initial) (h line : ℕ) (body : Body) (m : HashMap ℕ LineLog S) (o : Option Breach) where
  abbrev FindsAt : Option LineLog → Type 0
  FindsAt there = FindsBroken image h line body (λ k. option_map_or (λ (l : LineLog). client_at l.clients.items k) there nothing_told) (option_map_or (λ (l : LineLog). l.brought) there None) o

  -- the line has an entry
  pub found_there : (l : LineLog) (clients : List ClientLog) (brought : Option Brought) → Some l ≡ get nat_eq m line → clients ≡ l.clients.items → brought ≡ l.brought
      → FindsBroken image h line body (client_at clients) brought o
      → FindsBroken image h line body (λ k. client_in m k line) (brought_in m line) o
  found_there l clients brought there same bytes found =
      subst FindsAt there
      (subst (λ (b : Option Brought). FindsBroken image h line body (client_at l.clients.items) b o) bytes
      (subst (λ (c : List ClientLog). FindsBroken image h line body (client_at c) brought o) same found))

  -- it has none: nothing was told
  pub found_nowhere : None ≡ get nat_eq m line → FindsBroken image h line body (client_at []) None o
      → FindsBroken image h line body (λ k. client_in m k line) (brought_in m line) o
  found_nowhere there found = subst FindsAt there found
