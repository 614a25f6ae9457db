-- A hart comes only where the table says that one may.
use Rattle.std.proofs.Common.{◌≡◌, ◌∙◌, ◌==◌, ◌+◌, ◌-◌, ◌*◌, ◌/◌, ◌%◌, ◌<◌, ◌∷◌, [], ℕ, suc, zero, Bool, List, None, Option, Some, ap, arith, cond, eqb-true, false, get_or, if◌then◌else◌, length, refl, subst, sym, true}
use Rattle.std.specs.Prelude.{◌&&◌, is_none, nat_le, nat_lt, replicate, slice_get, slice_index}
use Rattle.std.proofs.lemmas.Bool.{and_parts, false≢true, leb-true, ltb-false, ltb-true}
use Rattle.std.proofs.lemmas.List.{get_or-replicate, length-replicate, length-set}
use Rattle.std.proofs.lemmas.Option.{slice_get-get_or}
use Rattle.elf_loader.specs.Image.{HasWord, Initial, end_of, word_at}
use Rattle.elf_loader.specs.Size.{base}
use Rattle.hart.specs.Arithmetic.{is_taken, sum32}
use Rattle.hart.specs.Meaning.{Calls, access_of, effect_of, next_of, stop_of}
use Rattle.hart.specs.Registers.{reset_registers}
use Rattle.hart.specs.Run.{after as after_entry, after_instr, are_steps, at_reset, can_do, can_fetch, has_answers, is_running, is_step, moved, number_read, reached, status_after}
use Rattle.hart.specs.declared.retired.Retired.{Retired}
use Rattle.hart.specs.declared.state.Hart.{Hart}
use Rattle.hart.specs.declared.status.Status.TheVariants.{Exited, Running}
use Rattle.image_orderings.proofs.Holding.{Is, Knows, at_reset_known, is_held, knows_after, knows_less}
use Rattle.image_orderings.specs.Flow.{after, called, closed_within, covers, covers_onward, each_goes_on, flowed, flowed_by, flowed_from, goes_on, goes_on_by, goes_on_from, held, holds_within, is_closed, is_met, marked, marked_by, marked_onward, nothing, onward, place_of, returned, swept}
use Rattle.image_orderings.specs.Never.{IsNeverMet, NoneComes}
use Rattle.image_orderings.specs.declared.knowing.Known.{Known}
use Rattle.image_orderings.specs.declared.knowing.Onward.{Onward}
use Rattle.image_orderings.specs.declared.knowing.Onward.TheVariants.{Anywhere, Either, Nowhere, To}
use Rattle.rv32_decode.specs.Rows.{decoded}
use Rattle.rv32_decode.specs.declared.instruction.Instr.{Instr}
use Rattle.rv32_decode.specs.declared.instruction.Instr.TheVariants.{Upper, Jal, Jalr, Branch, Load, Store, Immediate, Shift, Register, Fence, FenceTso, System, Lr, Sc, Amo}
use Rattle.rv32_decode.specs.declared.instruction.SystemOp.TheVariants.{Ecall, Ebreak}

abbrev Table : Type 0
Table = List (Option Known)

-- ---- what the table says of a place

-- it says that a hart may come there, and what it says is known holds
abbrev Holds : Option (Option Known) → List ℕ → Type 0
Holds None regs = Unit {0}
Holds (Some None) regs = ⊥
Holds (Some (Some known)) regs = Knows known regs

pub record Stands (table : Table) (pc : ℕ) (regs : List ℕ) : Type 0 where
  pub aligned : pc % 4 ≡ 0
  pub holds : Holds (slice_get table (place_of pc)) regs

covers_stands : (table : Table) (pc : ℕ) (known : Known) (regs : List ℕ) → covers table pc known ≡ true → Knows known regs → Stands table pc regs
covers_stands table pc known regs e k =
    let both = and_parts (pc % 4 == 0) (holds_within (slice_get table (place_of pc)) known) e in
    record { aligned = eqb-true (pc % 4) 0 both.0; holds = go (slice_get table (place_of pc)) both.1 }
  where
    go : (slot : Option (Option Known)) → holds_within slot known ≡ true → Holds slot regs
    go None e = tt
    go (Some None) e = absurd (false≢true e)
    go (Some (Some have)) e = knows_less have known regs e k

-- ---- an instruction

module _ (table : Table) (known : Known) (k : Known) (pc size : ℕ) (x y : List ℕ) (knows : Knows known x) (kept : Knows k y) where
  returns_there : (value : Option ℕ) (offset n : ℕ) → Is value n → covers_onward table (returned value offset) k ≡ true → Stands table (sum32 n offset - sum32 n offset % 2) y
  returns_there None offset n is e = absurd (false≢true e)
  returns_there (Some v) offset n is e = subst (λ m. Stands table (sum32 m offset - sum32 m offset % 2) y) (sym is) (covers_stands table _ k y e kept)

  calls_there : (value : Option ℕ) (n argument : ℕ) → Is value n → covers_onward table (called value pc) k ≡ true → is_running (status_after (Calls n argument)) ≡ true → Stands table (sum32 pc 4) y
  calls_there None n argument is e runs = covers_stands table _ k y e kept
  calls_there (Some v) n argument is e runs = go (n == 0) refl (subst (λ m. covers_onward table (called (Some m) pc) k ≡ true) (sym is) e) runs
    where
      go : (b : Bool) → (n == 0) ≡ b → covers_onward table (if b then Nowhere else To (sum32 pc 4)) k ≡ true → is_running (if b then Exited (argument % 256) else Running) ≡ true → Stands table (sum32 pc 4) y
      go true z e runs = absurd (false≢true runs)
      go false z e runs = covers_stands table _ k y e kept

  branches_there : (taken : Bool) (offset : ℕ) → (covers table (sum32 pc 4) k && covers table (sum32 pc offset) k) ≡ true
      → Stands table (elim (if taken then Some (sum32 pc offset) else None) [ Some target ↦ target | None ↦ sum32 pc 4 ]) y
  branches_there true offset e = covers_stands table _ k y (and_parts (covers table (sum32 pc 4) k) (covers table (sum32 pc offset) k) e).1 kept
  branches_there false offset e = covers_stands table _ k y (and_parts (covers table (sum32 pc 4) k) (covers table (sum32 pc offset) k) e).0 kept

  leads_there : (i : Instr) → is_none (stop_of i pc x size) ≡ true → is_running (status_after (access_of i x)) ≡ true → covers_onward table (onward known pc i) k ≡ true → Stands table (next_of i pc x) y
  leads_there (Upper op rd imm) stop runs e = covers_stands table _ k y e kept
  leads_there (Jal rd offset) stop runs e = covers_stands table _ k y e kept
  leads_there (Jalr rd rs1 offset) stop runs e = returns_there (held known rs1) offset (slice_index x rs1) (is_held known x rs1 knows) e
  leads_there (Branch op rs1 rs2 offset) stop runs e = branches_there (is_taken op (slice_index x rs1) (slice_index x rs2)) offset e
  leads_there (Load op rd rs1 offset) stop runs e = covers_stands table _ k y e kept
  leads_there (Store op rs1 rs2 offset) stop runs e = covers_stands table _ k y e kept
  leads_there (Immediate op rd rs1 imm) stop runs e = covers_stands table _ k y e kept
  leads_there (Shift op rd rs1 amount) stop runs e = covers_stands table _ k y e kept
  leads_there (Register op rd rs1 rs2) stop runs e = covers_stands table _ k y e kept
  leads_there (Fence sets) stop runs e = covers_stands table _ k y e kept
  leads_there FenceTso stop runs e = covers_stands table _ k y e kept
  leads_there (System Ecall) stop runs e = calls_there (held known 17) (slice_index x 17) (slice_index x 10) (is_held known x 17 knows) e runs
  leads_there (System Ebreak) stop runs e = absurd (false≢true stop)
  leads_there (Lr rd rs1 bits) stop runs e = covers_stands table _ k y e kept
  leads_there (Sc rd rs1 rs2 bits) stop runs e = covers_stands table _ k y e kept
  leads_there (Amo op rd rs1 rs2 bits) stop runs e = covers_stands table _ k y e kept

-- ---- a closed table

closed_at : (image : Initial) (table : Table) (n place : ℕ) → each_goes_on image table n ≡ true → place < n → goes_on image table place ≡ true
unfolding each_goes_on
closed_at image table zero place e l = absurd (omega (arith, l))
closed_at image table (suc n) place e l = go (nat_lt place n) refl (and_parts (goes_on image table n) (each_goes_on image table n) e) (closed_at image table n place)
  where
    go : (t : Bool) → nat_lt place n ≡ t → (goes_on image table n ≡ true) × (each_goes_on image table n ≡ true) → (each_goes_on image table n ≡ true → place < n → goes_on image table place ≡ true) → goes_on image table place ≡ true
    go true b both rest = rest both.1 (ltb-true place n b)
    go false b both rest =
        let there : n ≡ place = let m = ltb-false place n b in omega (arith, l, m) in
        subst (λ k. goes_on image table k ≡ true) there both.0

-- a running hart stands where the table says that one may
abbrev Inside : Table → Hart → Type 0
Inside table hart = is_running hart.status ≡ true → Stands table hart.pc hart.regs

module _ (image : Initial) (table : Table) (size : length table ≡ length image.bytes / 4) (closed : is_closed image table ≡ true) where
  each : (covers table image.entry nothing ≡ true) × (each_goes_on image table (length table) ≡ true)
  each = and_parts (covers table image.entry nothing) (each_goes_on image table (length table)) closed

  goes_on_at : (pc : ℕ) → pc % 4 ≡ 0 → HasWord image pc → goes_on_from image table pc (slice_get table (place_of pc)) ≡ true
  goes_on_at pc aligned inside =
      let place : ℕ = place_of pc in
      let here : base + 4 * place ≡ pc = omega (arith, aligned, inside.0) in
      let below : place < length table = omega (arith, size, inside.0, inside.1) in
      subst (λ p. goes_on_from image table p (slice_get table place) ≡ true) here (closed_at image table (length table) place each.1 below)

  in_table : (pc : ℕ) → HasWord image pc → (slot : Option Known) × (slice_get table (place_of pc) ≡ Some slot)
  in_table pc inside = let below : place_of pc < length table = omega (arith, size, inside.0, inside.1) in (get_or table (place_of pc) None, slice_get-get_or table (place_of pc) None below)

  -- what comes behind an instruction
  moved_on : (hart : Hart) (entry : Retired) (i : Instr) → HasWord image hart.pc → decoded (word_at image hart.pc) ≡ Some i → is_none (stop_of i hart.pc hart.regs (length image.bytes)) ≡ true
      → Stands table hart.pc hart.regs → Inside table (moved hart (effect_of i hart.pc hart.regs (number_read entry)))
  moved_on hart entry i inside word stop stands runs = go (in_table hart.pc inside).0 (in_table hart.pc inside).1
    where
      there : (slot : Option Known) → slice_get table (place_of hart.pc) ≡ Some slot → Holds (Some slot) hart.regs → goes_on_from image table hart.pc (Some slot) ≡ true → Stands table (next_of i hart.pc hart.regs) (moved hart (effect_of i hart.pc hart.regs (number_read entry))).regs
      there None e holds goes = elim holds [ ]
      there (Some known) e holds goes =
          leads_there table known (after known hart.pc i) hart.pc (length image.bytes) hart.regs (moved hart (effect_of i hart.pc hart.regs (number_read entry))).regs holds
          (knows_after known hart.regs i hart.pc (number_read entry) holds) i stop runs
          (subst (λ d. goes_on_by table hart.pc known d ≡ true) word goes)

      go : (slot : Option Known) → slice_get table (place_of hart.pc) ≡ Some slot → Stands table (next_of i hart.pc hart.regs) (moved hart (effect_of i hart.pc hart.regs (number_read entry))).regs
      go slot e = there slot e (subst (λ s. Holds s hart.regs) e stands.holds) (subst (λ s. goes_on_from image table hart.pc s ≡ true) e (goes_on_at hart.pc stands.aligned inside))

  -- ---- a step

  word_there : (hart : Hart) → can_fetch image hart.pc ≡ true → HasWord image hart.pc
  word_there hart e =
      let both = and_parts (nat_le base hart.pc) (nat_le (hart.pc + 4) (end_of image)) e in
      (leb-true base hart.pc both.0, leb-true (hart.pc + 4) (end_of image) both.1)

  one_more : (hart : Hart) (entry : Retired) → is_step image hart entry ≡ true → Inside table hart → Inside table (after_entry hart entry)
  one_more hart entry e was =
      let last = and_parts (is_running hart.status && entry.pc == hart.pc && can_fetch image hart.pc && entry.word == word_at image hart.pc) (can_do (length image.bytes) hart entry (decoded entry.word)) e in
      let third = and_parts (is_running hart.status && entry.pc == hart.pc && can_fetch image hart.pc) (entry.word == word_at image hart.pc) last.0 in
      let second = and_parts (is_running hart.status && entry.pc == hart.pc) (can_fetch image hart.pc) third.0 in
      let runs = (and_parts (is_running hart.status) (entry.pc == hart.pc) second.0).0 in
      let word : decoded entry.word ≡ decoded (word_at image hart.pc) = ap decoded (eqb-true entry.word (word_at image hart.pc) third.1) in
      go (decoded entry.word) (sym word) last.1 (word_there hart second.1) (was runs)
    where
      go : (i : Option Instr) → decoded (word_at image hart.pc) ≡ i → can_do (length image.bytes) hart entry i ≡ true → HasWord image hart.pc → Stands table hart.pc hart.regs → Inside table (after_instr hart entry i)
      go None word does inside stands = absurd (false≢true does)
      go (Some i) word does inside stands =
          moved_on hart entry i inside word (and_parts (is_none (stop_of i hart.pc hart.regs (length image.bytes))) (has_answers (access_of i hart.regs) entry) does).0 stands

  all_inside : (hart : Hart) (entries : List Retired) → are_steps image hart entries ≡ true → Inside table hart → Inside table (reached hart entries)
  all_inside hart [] e was = was
  all_inside hart (entry ∷ rest) e was =
      let both = and_parts (is_step image hart entry) (are_steps image (after_entry hart entry) rest) e in
      all_inside (after_entry hart entry) rest both.1 (one_more hart entry both.0 was)

  at_first : (id harts : ℕ) → Inside table (at_reset image id harts)
  at_first id harts runs = covers_stands table image.entry nothing (reset_registers id harts) each.0 (at_reset_known id harts)

  -- a hart that stands at a word stands at one that the table has
  none_there : (address : ℕ) → HasWord image address → is_met (slice_get table (place_of address)) ≡ false → IsNeverMet image address
  none_there address inside unmet id harts entries steps runs here =
      let stands = all_inside (at_reset image id harts) entries steps (at_first id harts) runs in
      let slot = in_table address inside in
      go slot.0 slot.1 (subst (λ p. Holds (slice_get table (place_of p)) (reached (at_reset image id harts) entries).regs) here stands.holds)
    where
      go : (slot : Option Known) → slice_get table (place_of address) ≡ Some slot → Holds (slice_get table (place_of address)) (reached (at_reset image id harts) entries).regs → ⊥
      go None e holds = subst (λ s. Holds s (reached (at_reset image id harts) entries).regs) e holds
      go (Some known) e holds = false≢true (sym unmet ∙ ap is_met e)

-- ---- the table of an image

marked_length : (table : Table) (pc : ℕ) (known : Known) → length (marked table pc known) ≡ length table
marked_length table pc known = go (pc % 4 == 0) (slice_get table (place_of pc))
  where
    by : (slot : Option (Option Known)) → length (marked_by table (place_of pc) slot known) ≡ length table
    by None = refl
    by (Some have) = length-set table (place_of pc) _

    go : (b : Bool) (slot : Option (Option Known)) → length (if b then marked_by table (place_of pc) slot known else table) ≡ length table
    go true slot = by slot
    go false slot = refl

module _ (image : Initial) where
  flowed_length : (place : ℕ) (table : Table) → length (flowed image place table) ≡ length table
  flowed_length place table = from (slice_get table place)
    where
      pc : ℕ
      pc = base + 4 * place

      to : (o : Onward) (known : Known) → length (marked_onward table o known) ≡ length table
      to Nowhere known = refl
      to Anywhere known = refl
      to (To a) known = marked_length table a known
      to (Either a b) known = marked_length (marked table a known) b known ∙ marked_length table a known

      by : (known : Known) (i : Option Instr) → length (flowed_by table pc known i) ≡ length table
      by known None = refl
      by known (Some i) = to (onward known pc i) (after known pc i)

      from : (slot : Option (Option Known)) → length (flowed_from image table pc slot) ≡ length table
      from None = refl
      from (Some None) = refl
      from (Some (Some known)) = by known (decoded (word_at image pc))

  swept_length : (place count : ℕ) (table : Table) → length (swept image place count table) ≡ length table
  unfolding swept
  swept_length place zero table = refl
  swept_length place (suc count) table = swept_length (place + 1) count (flowed image place table) ∙ flowed_length place table

  -- either it is closed, or a hart may come anywhere
  none_in : (n : ℕ) (table : Table) (address : ℕ) → length table ≡ length image.bytes / 4 → HasWord image address
      → is_met (slice_get (closed_within n image table) (place_of address)) ≡ false → IsNeverMet image address
  unfolding closed_within
  none_in zero table address size inside unmet =
      let below : place_of address < length table = omega (arith, size, inside.0, inside.1) in
      let wide : place_of address < length (replicate (length table) (Some nothing)) = subst (λ n. place_of address < n) (sym (length-replicate {A = Option Known} (length table) (Some nothing))) below in
      let there = slice_get-get_or (replicate (length table) (Some nothing)) (place_of address) None wide in
      let met : slice_get (replicate (length table) (Some nothing)) (place_of address) ≡ Some (Some nothing) = there ∙ ap Some (get_or-replicate (length table) (place_of address) (Some nothing) None below) in
      absurd (false≢true (sym unmet ∙ ap is_met met))
  none_in (suc n) table address size inside unmet = go (is_closed image table) refl unmet (none_in n (swept image 0 (length table) table) address (swept_length 0 (length table) table ∙ size) inside)
    where
      go : (b : Bool) → is_closed image table ≡ b → is_met (slice_get (cond b table (closed_within n image (swept image 0 (length table) table))) (place_of address)) ≡ false
          → (is_met (slice_get (closed_within n image (swept image 0 (length table) table)) (place_of address)) ≡ false → IsNeverMet image address) → IsNeverMet image address
      go true closed unmet rest = none_there image table size closed address inside unmet
      go false left unmet rest = rest unmet

pub none_comes : NoneComes
none_comes image address inside unmet =
    let empty : Table = replicate (length image.bytes / 4) None in
    none_in image 64 (marked empty image.entry nothing) address (marked_length empty image.entry nothing ∙ length-replicate {A = Option Known} (length image.bytes / 4) None) inside unmet
