-- What both puts answer.
use Rattle.std.proofs.Common.{◌≡◌, ℕ, false, Ok, Err, List, length, drop, sym, ap, subst, ◌∙◌}
use Rattle.std.specs.Prelude.{Result, sum}
use Rattle.machine_types.specs.declared.limits.TheConstants.{BUFFER_ENTRIES}
use Rattle.store_buffer.specs.declared.buffer.PutError.{PutError}
use Rattle.store_buffer.specs.declared.buffer.PutError.TheVariants.{Full}
use Rattle.store_buffer.specs.declared.entry.Entry.{Entry}
use Rattle.store_buffer.specs.declared.entry.Store.{Store}
use Rattle.store_buffer.specs.Entry.{has_word}
use Rattle.store_buffer.specs.Groups.{Groups, fits}
use Rattle.store_buffer.specs.Layout.{groups_in, AreGroupsLaidOut}
use Rattle.store_buffer.proofs.Layouts.{put_list, HasRoom, full_is}

clash : (x : Unit {0}) → Path (Result (Unit {0}) PutError) (Ok x) (Err Full) → ⊥
clash x e = cc

-- the word is not in the open group, and every entry is used
abbrev pub IsFull : ℕ → ℕ → List Entry → Type 0
IsFull word start es = (has_word word (drop start es) ≡ false) × (length es ≡ BUFFER_ENTRIES)

pub room : (s : Store) (start : ℕ) (ns : List ℕ) (es : List Entry) (x : Unit {0}) → start ≡ sum ns
    → (IsFull s.word start es → Path (Result (Unit {0}) PutError) (Ok x) (Err Full)) → HasRoom s (sum ns) es
room s start ns es x at full = subst (λ k. HasRoom s k es) at (λ both. clash x (full both))

pub new_list : (s : Store) (start : ℕ) (ns : List ℕ) (es new : List Entry) → start ≡ sum ns → new ≡ put_list s start es → new ≡ put_list s (sum ns) es
new_list s start ns es new at is = is ∙ ap (λ k. put_list s k es) at

pub full_answer : (F : Type 0) (word start : ℕ) (ns : List ℕ) (es : List Entry) (b : Groups) → start ≡ sum ns → groups_in ns es ≡ b → AreGroupsLaidOut ns es
    → (F → IsFull word start es) × (IsFull word start es → F) → (F → fits word b ≡ false) × (fits word b ≡ false → F)
full_answer F word start ns es b at view h full =
    let is = full_is word ns es b view h in (
      λ f. is.0 (subst (λ k. IsFull word k es) at (full.0 f)),
      λ none. full.1 (subst (λ k. IsFull word k es) (sym at) (is.1 none)),
    )
