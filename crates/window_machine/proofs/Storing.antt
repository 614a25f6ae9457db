-- Memory behind a store.
use Rattle.std.proofs.Common.{◌≡◌, ℕ, ◌+◌, ◌-◌, ◌<◌, ◌≤◌, Bool, true, false, ◌&&◌, List, refl, sym, ap, ◌∙◌}
use Rattle.std.specs.Prelude.{if◌then◌else◌, nat_le, nat_lt}
use Rattle.std.proofs.lemmas.Bool.{and_parts, leb-true, ltb-true}
use Rattle.elf_loader.specs.Image.{Initial}
use Rattle.memory_model.specs.Operations.{byte_of_number}
use Rattle.window_machine.specs.declared.memory.Patch.{Patch}
use Rattle.window_machine.specs.declared.memory.Store.{Store}
use Rattle.window_machine.specs.Lanes.{has_lane, is_in_lanes}
use Rattle.window_machine.specs.Memory.{memory_of}
use Rattle.window_machine.specs.Stores.{IsStoreOf}
use Rattle.window_model.specs.Placing.{written_over}
use Rattle.window_model.specs.Waiting.{Waiting, stores_to, written_at}

-- where a word was found so, is set to what a store leaves of it, and nothing else is changed
pub memory_written : (image : Initial) (old new : List Patch) (s : Store) (w : Waiting) (found left x : ℕ) → IsStoreOf s w
    → ((y : ℕ) → s.word ≤ y → y < s.word + 4 → memory_of image old y ≡ byte_of_number s.word found y)
    → ((y : ℕ) → s.word ≤ y → y < s.word + 4 → byte_of_number s.word left y ≡ (if is_in_lanes s.word s.lanes y then byte_of_number s.word s.value y else byte_of_number s.word found y))
    → memory_of image new x ≡ (if nat_le s.word x && nat_lt x (s.word + 4) then byte_of_number s.word left x else memory_of image old x)
    → memory_of image new x ≡ written_over w (memory_of image old) x
memory_written image old new s w found left x o was over set = go (nat_le s.word x && nat_lt x (s.word + 4)) refl
  where
    lane : (b : Bool) → is_in_lanes s.word s.lanes x ≡ b → memory_of image old x ≡ byte_of_number s.word found x
        → (if b then byte_of_number s.word s.value x else byte_of_number s.word found x) ≡ (if b then written_at w x else memory_of image old x)
    lane true e h = sym (o.values x (o.lanes.bytes x ∙ e))
    lane false e h = sym h

    go : (b : Bool) → (nat_le s.word x && nat_lt x (s.word + 4)) ≡ b → memory_of image new x ≡ written_over w (memory_of image old) x
    go true e =
        let parts = and_parts (nat_le s.word x) (nat_lt x (s.word + 4)) e in
        let from = leb-true s.word x parts.0 in
        let below = ltb-true x (s.word + 4) parts.1 in
        set ∙ (ap (λ b. if b then byte_of_number s.word left x else memory_of image old x) e
        ∙ (over x from below
        ∙ (lane (is_in_lanes s.word s.lanes x) refl (was x from below)
        ∙ ap (λ b. if b then written_at w x else memory_of image old x) (sym (o.lanes.bytes x)))))
    go false e =
        set ∙ (ap (λ b. if b then byte_of_number s.word left x else memory_of image old x) e
        ∙ ap (λ b. if b then written_at w x else memory_of image old x) (sym (o.lanes.bytes x ∙ ap (λ b. b && has_lane s.lanes (x - s.word)) e)))
