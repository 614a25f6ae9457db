-- Where a hart stopped is read off its own list and status.
use Rattle.std.proofs.Common.{◌≡◌, ℕ, zero, suc, ◌+◌, ◌<◌, List, [], ◌∷◌, Option, Some, sym, ap, ◌∙◌, arith, length}
use Rattle.std.specs.Prelude.{slice_get}
use Rattle.std.proofs.lemmas.Option.{none-some, same_Some, slice_get-get_or}
use Rattle.elf_loader.specs.Image.{Initial}
use Rattle.window_model.specs.Failures.{stop_by}
use Rattle.window_model.specs.Stop.{Stop}
use Rattle.hart.specs.declared.retired.Retired.{Retired}
use Rattle.hart.specs.declared.state.Hart.{Hart}
use Rattle.hart.specs.declared.status.Status.{Status}
use Rattle.hart.specs.Run.{at_reset, reached, reset_at}
use Rattle.trace_recorder.specs.History.{History, entries_of}
use Rattle.window_failures.specs.Failing.{stops_from, stops_of}

none_more : (id : ℕ) → id ≡ id + 0
none_more id = omega arith

one_more : (id h : ℕ) → id + 1 + h ≡ id + suc h
one_more id h = omega arith

pub stop_at : (image : Initial) (harts id : ℕ) (lists : List (List Retired)) (statuses : List Status) (h : ℕ) (entries : List Retired) (status : Status) → slice_get lists h ≡ Some entries → slice_get statuses h ≡ Some status
    → slice_get (stops_from image harts id lists statuses) h ≡ Some (stop_by status (reached (at_reset image (id + h) harts) entries).pc)
stop_at image harts id [] statuses h entries status l s = absurd (none-some entries l)
stop_at image harts id (list ∷ rest) [] h entries status l s = absurd (none-some status s)
stop_at image harts id (list ∷ rest) (first ∷ statuses) zero entries status l s =
    ap (λ x. Some (stop_by first (reached (at_reset image id harts) x).pc)) (same_Some list entries l)
    ∙ ap (λ x. Some (stop_by x (reached (at_reset image id harts) entries).pc)) (same_Some first status s)
    ∙ ap (λ k. Some (stop_by status (reached (at_reset image k harts) entries).pc)) (none_more id)
stop_at image harts id (list ∷ rest) (first ∷ statuses) (suc h) entries status l s =
    stop_at image harts (id + 1) rest statuses h entries status l s ∙ ap (λ k. Some (stop_by status (reached (at_reset image k harts) entries).pc)) (one_more id h)

stop_here : (t : History) (h : ℕ) (status : Status) → h < length t.entries → slice_get t.statuses h ≡ Some status → slice_get (stops_of t) h ≡ Some (stop_by status (reached (at_reset t.image h (length t.entries)) (entries_of t h)).pc)
stop_here t h status inside at =
    stop_at t.image (length t.entries) 0 t.entries t.statuses h (entries_of t h) status (slice_get-get_or t.entries h [] inside) at
    ∙ ap (λ k. Some (stop_by status (reached (at_reset t.image k (length t.entries)) (entries_of t h)).pc)) (first h)
  where
    first : (k : ℕ) → 0 + k ≡ k
    first k = omega arith

-- as it is computed
pub stop_read : (t : History) (h : ℕ) (status : Status) (start last : Hart) (entries : List Retired) (entry count : ℕ) (result : Option Stop) → h < length t.entries → slice_get t.statuses h ≡ Some status
    → entry ≡ t.image.entry → count ≡ length t.entries → start ≡ reset_at entry h count → entries ≡ entries_of t h → last ≡ reached start entries → result ≡ stop_by status last.pc
    → slice_get (stops_of t) h ≡ Some result
stop_read t h status start last entries entry count result inside at entry_is count_is start_is list_is last_is is =
    let here : start ≡ at_reset t.image h (length t.entries) = start_is ∙ ap (λ e. reset_at e h count) entry_is ∙ ap (λ n. reset_at t.image.entry h n) count_is in
    let there : last ≡ reached (at_reset t.image h (length t.entries)) (entries_of t h) = last_is ∙ ap (λ s. reached s entries) here ∙ ap (reached (at_reset t.image h (length t.entries))) list_is in
    stop_here t h status inside at ∙ ap (λ (k : Hart). Some (stop_by status k.pc)) (sym there) ∙ ap (λ r. Some r) (sym is)
