-- Where only fetches are left of a path, a hart that stops comes to that for itself.
use Rattle.std.proofs.Common.{◌≡◌, ℕ, List, [], ◌∷◌, Bool, Some, sym, ap, ◌∙◌, subst}
use Rattle.std.specs.Prelude.{slice_get}
use Rattle.elf_loader.specs.Image.{Initial}
use Rattle.machine_types.specs.declared.model.MemoryModel.{MemoryModel}
use Rattle.window_model.specs.Fetching.{fetched}
use Rattle.window_model.specs.Lazily.{OnlyFetch}
use Rattle.window_model.specs.Nodes.{Node}
use Rattle.window_model.specs.Systems.{LeadsSeen, Step, System}
use Rattle.window_model.specs.Systems.Step.{Fetch, Place}
use Rattle.window_model.proofs.Simulations.{at_set_either}
use Rattle.window_failures.specs.Laws.{HasStoppedAs, StopsAlone}
use Rattle.window_model.specs.Stop.{Stop}

pub record CameToStop (model : MemoryModel) (image : Initial) (s : System) (h : ℕ) (stop : Stop) : Type 0 where
  pub node : Node
  pub stands : slice_get s.nodes h ≡ Some node
  pub alone : StopsAlone model image node stop

pub came_to_stop : (model : MemoryModel) (image : Initial) (seen : (ℕ → ℕ) → Bool) (steps : List Step) (s u : System) (h : ℕ) (n : Node) (stop : Stop) → OnlyFetch steps → LeadsSeen model image seen steps s u → slice_get u.nodes h ≡ Some n → HasStoppedAs image n stop → CameToStop model image s h stop
came_to_stop model image seen [] s u h n stop only l at has = record { node = n; stands = ap (λ (x : System). slice_get x.nodes h) l ∙ at; alone = record { entries = []; can = tt; stopped = has } }
came_to_stop model image seen (Fetch g entry ∷ rest) s u h n stop only l at has =
    let c = came_to_stop model image seen rest l.0 u h n stop only l.3 at has in
    at_set_either (CameToStop model image s h stop) s.nodes g h l.1.node (fetched model l.1.node entry) c.node l.1.stands (sym (ap (λ (x : System). slice_get x.nodes h) l.1.new) ∙ c.stands)
    (λ same is.
    let q = subst (λ (x : Node). StopsAlone model image x stop) is c.alone in
    record { node = l.1.node; stands = ap (slice_get s.nodes) same ∙ l.1.stands; alone = record { entries = entry ∷ q.entries; can = (l.1.can, q.can); stopped = q.stopped } })
    (λ other there. record { node = c.node; stands = there; alone = c.alone })
came_to_stop model image seen (Place g k ∷ rest) s u h n stop only l at has = absurd only
