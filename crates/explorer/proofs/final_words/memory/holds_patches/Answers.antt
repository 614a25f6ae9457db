use Rattle.std.proofs.Common.{◌≡◌, ◌∙◌, ◌<◌, ◌≤◌, ℕ, List, ap, arith, false, length, subst, sym, true, true≢false}
use Rattle.std.specs.Cmp.Lexicographic.{pointwise_decides}
use Rattle.std.proofs.lemmas.Bool.Decides.{Decides-eqb}
use Rattle.elf_loader.specs.Image.{Initial, byte_at, end_of}
use Rattle.elf_loader.specs.Size.{base}
use Rattle.flat_machine.specs.Memory.{patched}
use Rattle.flat_model.specs.Flat.{byte_in}
use Rattle.flat_model.specs.Operation.{Operation}
use Rattle.flat_model.specs.Order.{last_write}
use Rattle.flat_model.specs.Traces.{instructions, last_performed, operations_at}
use Rattle.explorer.proofs.Performed.{same_bytes}
use Rattle.explorer.proofs.final_words.memory.holds_patches.Goals as goal

pub returns-clause-other : goal.returns-clause-other
returns-clause-other c no_match holds =
    let h = c.args.trace.now.history in
    let memory = c.in_ok-memory.memory.items in
    let over = patched h.image.bytes c.args.patches.now in
    let order : c.order.result.now ≡ operations_at (instructions h) h.performed = c.order.ensures ∙ (c.in_ok-index.ensures ∙ ap (operations_at (instructions h)) c.performed.ensures) in
    let behind : (x : ℕ) → base ≤ x → x < end_of h.image → byte_in memory x ≡ last_performed h x =
    subst (λ (os : List Operation). (x : ℕ) → base ≤ x → x < end_of h.image → byte_in memory x ≡ last_write (byte_at h.image) os x) order
    (subst (λ (i : Initial). (x : ℕ) → base ≤ x → x < end_of i → byte_in memory x ≡ last_write (byte_at i) c.order.result.now x) c.image.ensures c.in_ok-memory.ensures.bytes) in
    let size : length memory ≡ length h.image.bytes = c.in_ok-memory.ensures.len ∙ ap (λ (i : Initial). length i.bytes) c.image.ensures in
    let wanted : c.in_ok-wanted.wanted.items ≡ over = c.in_ok-wanted.ensures ∙ ap (λ (bytes : List ℕ). patched bytes c.args.patches.now) (c.bytes.ensures.exact ∙ ap (λ (i : Initial). i.bytes) c.image-2.ensures) in
    let same : memory ≡ over = same_bytes memory over (size ∙ sym holds.size) (λ x low high.
    let inside : x < end_of h.image = omega (arith, high, size) in
    behind x low inside ∙ sym (holds.bytes x low inside)) in
    let equal : c.eq.result ≡ true = c.eq.ensures ∙ (pointwise_decides Decides-eqb c.as_slice.result.now c.as_slice-2.result.now).1 (c.as_slice.ensures.value ∙ (same ∙ (sym wanted ∙ sym c.as_slice-2.ensures.value))) in
    let different : c.eq.result ≡ false = cc in
    true≢false (sym equal ∙ different)
