-- How a row of private instructions goes on, and where it ends.
use Rattle.std.proofs.Common.{◌≡◌, ℕ, zero, suc, ◌+◌, ◌-◌, ◌<◌, ◌≤◌, List, [], ◌∷◌, ◌++◌, length, Bool, true, false, Option, Some, None, slice_index, slice_set, cond, refl, sym, ap, ◌∙◌, subst, arith}
use Rattle.std.proofs.lemmas.List.{get_or-set_same, length-append}
use Rattle.machine_types.specs.declared.limits.TheConstants.{MAX_ENTRIES}
use Rattle.elf_loader.specs.Image.{Initial}
use Rattle.hart.specs.Local.{can_go_alone, next_entry, next_step, private_row}
use Rattle.hart.specs.Run.{after, reached}
use Rattle.hart.specs.declared.retired.Retired.{Retired}
use Rattle.hart.specs.declared.state.Hart.{Hart}
use Rattle.machine_model.specs.Changing.{with_entries}
use Rattle.trace_recorder.specs.History.{History, entries_of, with_entry}

abbrev pair : Retired → Hart → Retired × Hart
pair entry hart = (entry, hart)

-- the row begins with this entry, behind which the hart stands there
pub record Goes (image : Initial) (last : Hart) (room : ℕ) (entry : Retired) (next : Hart) : Type 0 where
  pub row : private_row image last room ≡ entry ∷ private_row image next (room - 1)
  pub leads : next ≡ after last entry

taken_by : (b : Bool) (e f : Retired) (h n : Hart) → cond b (Some (pair e h)) None ≡ Some (pair f n) → (b ≡ true) × (f ≡ e) × (n ≡ h)
taken_by true e f h n q = let p : pair e h ≡ pair f n = cc in (refl, sym (ap (λ (v : Retired × Hart). v.0) p), sym (ap (λ (v : Retired × Hart). v.1) p))
taken_by false e f h n q = cc

refused_by : (b : Bool) (p : Retired × Hart) → cond b (Some p) None ≡ None → b ≡ false
refused_by true p q = cc
refused_by false p q = refl

row_more : (image : Initial) (hart : Hart) (n : ℕ) → 0 < n → private_row image hart n ≡ cond (can_go_alone image hart) (next_entry image hart ∷ private_row image (after hart (next_entry image hart)) (n - 1)) []
row_more image hart zero l = absurd (omega (arith, l))
row_more image hart (suc n) l = ap (λ (m : ℕ). cond (can_go_alone image hart) (next_entry image hart ∷ private_row image (after hart (next_entry image hart)) m) []) (less n)
  where
    less : (n : ℕ) → n ≡ suc n - 1
    less n = omega arith

goes_by : (image : Initial) (last : Hart) (room : ℕ) (entry : Retired) (next : Hart) → 0 < room → can_go_alone image last ≡ true → entry ≡ next_entry image last → next ≡ after last (next_entry image last) → Goes image last room entry next
goes_by image last room entry next l g e n = record {
  row = row_more image last room l ∙ (ap (λ (b : Bool). cond b (next_entry image last ∷ private_row image (after last (next_entry image last)) (room - 1)) []) g
      ∙ (ap (λ (f : Retired). f ∷ private_row image (after last (next_entry image last)) (room - 1)) (sym e) ∙ ap (λ (h : Hart). entry ∷ private_row image h (room - 1)) (sym n)));
  leads = n ∙ ap (after last) (sym e);
}

pub goes : (image other : Initial) (last : Hart) (room : ℕ) (o : Option (Retired × Hart)) (entry : Retired) (next : Hart) → other ≡ image → 0 < room
    → o ≡ cond (can_go_alone other last) (Some (next_step other last)) None
    → o ≡ Some (pair entry next)
    → Goes image last room entry next
goes image other last room o entry next i l e f =
    let g = subst (λ (j : Initial). o ≡ cond (can_go_alone j last) (Some (next_step j last)) None) i e in
    let t = taken_by (can_go_alone image last) (next_entry image last) entry (after last (next_entry image last)) next (sym g ∙ f) in
    goes_by image last room entry next l t.0 t.1 t.2

pub ends : (image other : Initial) (last : Hart) (room : ℕ) (o : Option (Retired × Hart)) → other ≡ image → 0 < room
    → o ≡ cond (can_go_alone other last) (Some (next_step other last)) None
    → o ≡ None
    → private_row image last room ≡ []
ends image other last room o i l e f =
    let g = subst (λ (j : Initial). o ≡ cond (can_go_alone j last) (Some (next_step j last)) None) i e in
    row_more image last room l ∙ ap (λ (b : Bool). cond b (next_entry image last ∷ private_row image (after last (next_entry image last)) (room - 1)) []) (refused_by (can_go_alone image last) (next_step image last) (sym g ∙ f))

-- the trace with one more entry of the row
pub row_goes : (h : ℕ) (image : Initial) (last : Hart) (room : ℕ) (entry : Retired) (next : Hart) (old new whole : History) → Goes image last room entry next → new ≡ with_entry h entry old → with_entries h (private_row image last room) old ≡ whole → with_entries h (private_row image next (room - 1)) new ≡ whole
row_goes h image last room entry next old new whole g n e =
    ap (with_entries h (private_row image next (room - 1))) n ∙ (sym (ap (λ (row : List Retired). with_entries h row old) g.row) ∙ e)

pub row_leads : (image : Initial) (last : Hart) (room : ℕ) (entry : Retired) (next end : Hart) → Goes image last room entry next → reached last (private_row image last room) ≡ end → reached next (private_row image next (room - 1)) ≡ end
row_leads image last room entry next end g e =
    ap (λ (h : Hart). reached h (private_row image next (room - 1))) g.leads ∙ (sym (ap (reached last) g.row) ∙ e)

-- one entry more in a hart's list, and one less to come
pub place_left : (h left : ℕ) (t : History) (entry : Retired) → h < length t.entries → 0 < left → length (entries_of t h) + left ≤ MAX_ENTRIES → length (entries_of (with_entry h entry t) h) + (left - 1) ≤ MAX_ENTRIES
place_left h left t entry there l few =
    let one : length (entries_of (with_entry h entry t) h) ≡ length (entries_of t h) + 1 =
    ap (λ (es : List Retired). length es) (get_or-set_same t.entries h (entries_of t h ++ entry ∷ []) [] there) ∙ length-append (entries_of t h) (entry ∷ []) in
    omega (arith, one, l, few)

pub room_left : (h left : ℕ) (xs : List ℕ) → 0 < left → left ≤ slice_index xs h → left - 1 ≤ slice_index (slice_set xs h (slice_index xs h - 1)) h
room_left h zero xs l r = absurd (omega (arith, l))
room_left zero (suc left) [] l r = absurd (omega (arith, r))
room_left (suc h) (suc left) [] l r = absurd (omega (arith, r))
room_left zero (suc left) (x ∷ xs) l r = omega arith
room_left (suc h) (suc left) (x ∷ xs) l r = room_left h (suc left) xs l r
