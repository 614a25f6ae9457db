-- Fetching more comes apart from placing: what a hart places that waited before it fetched more, and what other harts store then, may come first, and the hart then fetches to the same node.
use Rattle.std.proofs.Common.{◌≡◌, ℕ, ◌<◌, ◌≤◌, List, [], ◌∷◌, refl, ap, ◌∙◌, arith, length, subst}
use Rattle.std.specs.Option.{option_map, option_to_list}
use Rattle.std.proofs.lemmas.List.{length-append}
use Rattle.elf_loader.specs.Image.{Initial}
use Rattle.hart.specs.declared.retired.Retired.{Retired}
use Rattle.hart.specs.Rows.{decoded}
use Rattle.machine_types.specs.declared.model.MemoryModel.{MemoryModel}
use Rattle.memory_model.specs.Dependencies.{uses_in}
use Rattle.window_model.specs.Fetching.{fetched, operation_of, waiting_with}
use Rattle.window_model.specs.Laws.{ComesFirst, IsAdmittedFirst, IsWithin}
use Rattle.window_model.specs.Lazily.{CanFetchAll, fetched_all}
use Rattle.window_model.specs.Nodes.{Node}
use Rattle.window_model.specs.Placing.{Admits, CanPlace, beside, placed}
use Rattle.window_model.specs.Waiting.{Waiting}
use Rattle.window_model.proofs.Beside.{stores_come_first}
use Rattle.window_model.proofs.Lazily.{placing_comes_first}
use Rattle.window_model.proofs.Within.{fetched_within}

-- a window only grows
wider : (model : MemoryModel) (n : Node) (entry : Retired) → length n.window ≤ length (fetched model n entry).window
wider model n entry = let e = length-append n.window (option_to_list (option_map (waiting_with model n (uses_in (decoded entry.word))) (operation_of n.hart entry))) in omega (arith, e)

-- ---- the hart that places

pub record PlacesFirst (model : MemoryModel) (image : Initial) (memory : ℕ → ℕ) (n : Node) (entries : List Retired) (k : ℕ) (w : Waiting) : Type 0 where
  pub can_place : CanPlace memory n k w
  pub can_fetch : CanFetchAll model image (placed n k w) entries
  pub same : placed (fetched_all model n entries) k w ≡ fetched_all model (placed n k w) entries

pub places_first : (model : MemoryModel) (image : Initial) (memory : ℕ → ℕ) (n : Node) (entries : List Retired) (k : ℕ) (w : Waiting) → CanFetchAll model image n entries → k < length n.window → CanPlace memory (fetched_all model n entries) k w
    → PlacesFirst model image memory n entries k w
places_first model image memory n [] k w can l place = record { can_place = place; can_fetch = tt; same = refl }
places_first model image memory n (entry ∷ rest) k w can l place =
    let more = wider model n entry in
    let later = places_first model image memory (fetched model n entry) rest k w can.1 (omega (arith, l, more)) place in
    let first : ComesFirst model image memory n entry k w = placing_comes_first model image memory n entry k w can.0 l later.can_place in
    record {
      can_place = first.can_place;
      can_fetch = (first.can_fetch, subst (λ x. CanFetchAll model image x rest) first.same later.can_fetch);
      same = later.same ∙ ap (λ x. fetched_all model x rest) first.same;
    }

-- ---- another hart

pub record AdmitsFirst (model : MemoryModel) (image : Initial) (n : Node) (entries : List Retired) (w : Waiting) : Type 0 where
  pub admits : Admits w n
  pub can_fetch : CanFetchAll model image (beside w n) entries
  pub same : beside w (fetched_all model n entries) ≡ fetched_all model (beside w n) entries

pub admits_first : (model : MemoryModel) (image : Initial) (n : Node) (entries : List Retired) (w : Waiting) → IsWithin n → CanFetchAll model image n entries → Admits w (fetched_all model n entries)
    → AdmitsFirst model image n entries w
admits_first model image n [] w within can admits = record { admits = admits; can_fetch = tt; same = refl }
admits_first model image n (entry ∷ rest) w within can admits =
    let later = admits_first model image (fetched model n entry) rest w (fetched_within model n entry (decoded entry.word) (operation_of n.hart entry) within) can.1 admits in
    let first : IsAdmittedFirst model image n entry w = stores_come_first model image n entry w within can.0 later.admits in
    record {
      admits = first.admits;
      can_fetch = (first.can_fetch, subst (λ x. CanFetchAll model image x rest) first.same later.can_fetch);
      same = later.same ∙ ap (λ x. fetched_all model x rest) first.same;
    }
