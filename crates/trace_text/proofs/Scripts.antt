-- What is read as a script is spelled so, and what is spelled so is read.
use Rattle.std.proofs.Common.{◌≡◌, ℕ, ◌^◌, ◌<◌, ◌≤◌, Bool, ◌&&◌, true, false, eqb, List, [], ◌∷◌, ◌++◌, length, Option, Some, None, Result, Ok, Err, refl, sym, ap, subst, ◌∙◌, arith, inl, inr}
use Rattle.std.specs.Prelude.{codes, not}
use Rattle.std.proofs.Math.Bool.{Bool-set}
use Rattle.std.specs.List.{flat_map, AllByRecursion}
use Rattle.std.proofs.lemmas.List.{length-append}
use Rattle.std.specs.Option.{option_or}
use Rattle.text_fields.specs.Fields.{number, word}
use Rattle.text_fields.specs.Reading.{◌>>=◌, pair_at, seen_at, led_at, number_at, table_at, guarded, all_at}
use Rattle.text_fields.proofs.Laws.{Reads, bind_some, some_is, pair_reads, seen_takes, seen_again, led_reads, number_reads, word_reads, ended_reads, table_reads, both_true, either_takes, guarded_takes, all_takes, all_again}
use Rattle.tl_types.specs.declared.message.Channel.{Channel}
use Rattle.tl_types.specs.declared.message.Channel.TheVariants.{A, B, C, D, E}
use Rattle.machine_types.specs.declared.event.Event.{Event}
use Rattle.machine_types.specs.declared.event.Event.TheVariants.{Step, Drain, Evict, Deliver, Local}
use Rattle.elf_loader.specs.Size.{is_memory_kib}
use Rattle.elf_loader.proofs.Sizes.{memory_kib}
use Rattle.machine_types.specs.Config.{is_within_limits}
use Rattle.machine_types.proofs.Within.{limits_of}
use Rattle.tl_types.specs.Line.{length_of}
use Rattle.tl_types.specs.declared.line.LineSize.{LineSize}
use Rattle.tl_types.specs.declared.line.LineSize.TheVariants.{Bytes16}
use Rattle.trace_text.proofs.LineSizes.{number_law, size_16, size_reads}
use Rattle.trace_text.specs.declared.script.Head.{Head}
use Rattle.trace_text.specs.Words.{channel}
use Rattle.trace_text.specs.Scripts.{event, IsEvent, is_first_version, head, is_head, head_of, text, IsScript}
use Rattle.trace_text.specs.declared.script.Script.{Script}
use Rattle.trace_text.specs.declared.fault.TextError.{TextError}
use Rattle.std.specs.Prelude.{IfOk}
use Rattle.trace_text.specs.Reading.{IsReadOrRefused, IsNoMemory}
use Rattle.trace_text.specs.ScriptReading.{channels, word_line_at, channel_at, step_at, drain_at, evict_at, deliver_at, local_at, event_at, most, last_two_at, size_at, ways_and_size_at, first_fields_at, first_head_at, second_fields_at, second_head_at, head_at, script_at, content_of}

word_line_reads : Reads (λ w. word w ++ 10 ∷ []) (λ w. w < 2 ^ 32) word_line_at
unfolding word_line_at
word_line_reads = ended_reads 10 word_reads

channel_again : (x : Channel) (rest : List ℕ) → table_at channels (channel x ++ rest) ≡ Some (x, rest)
channel_again A rest = refl
channel_again B rest = refl
channel_again C rest = refl
channel_again D rest = refl
channel_again E rest = refl

pub channel_reads : Reads channel (λ c. Unit {0}) channel_at
unfolding channel_at
channel_reads = table_reads channel channels (refl, (refl, (refl, (refl, (refl, tt))))) channel_again

-- ---- the five lines, each to its payload

step_law : Reads (λ h. codes "step " ++ number 10 h) (λ h. h ≤ 255) (led_at (codes "step ") (number_at 10 255))
step_law = led_reads (codes "step ") (number_reads 10 255 (omega arith) (omega arith))

word_law : (lead : List ℕ) → Reads (λ (p : ℕ × ℕ). lead ++ (number 32 p.0 ++ (word p.1 ++ 10 ∷ []))) (λ p. (p.0 ≤ 255) × (p.1 < 2 ^ 32)) (led_at lead (pair_at (number_at 32 255) word_line_at))
word_law lead = led_reads lead (pair_reads (number_reads 32 255 (omega arith) (omega arith)) word_line_reads)

deliver_law : Reads (λ (p : Channel × ℕ). codes "deliver " ++ (channel p.0 ++ number 10 p.1)) (λ p. Unit {0} × (p.1 ≤ 255)) (led_at (codes "deliver ") (pair_at channel_at (number_at 10 255)))
deliver_law = led_reads (codes "deliver ") (pair_reads channel_reads (number_reads 10 255 (omega arith) (omega arith)))

local_law : Reads (λ (p : ℕ × ℕ). codes "local " ++ (number 32 p.0 ++ number 10 p.1)) (λ p. (p.0 ≤ 255) × (p.1 ≤ 4294967295)) (led_at (codes "local ") (pair_at (number_at 32 255) (number_at 10 4294967295)))
local_law = led_reads (codes "local ") (pair_reads (number_reads 32 255 (omega arith) (omega arith)) (number_reads 10 4294967295 (omega arith) (omega arith)))

-- ---- an event

event_takes : (bytes : List ℕ) (x : Event) (rest : List ℕ) → event_at bytes ≡ Some (x, rest) → (bytes ≡ event x ++ rest) × IsEvent x
unfolding event_at step_at drain_at evict_at deliver_at local_at
event_takes bytes x rest e =
    elim (either_takes (step_at bytes) (option_or (drain_at bytes) (option_or (evict_at bytes) (option_or (deliver_at bytes) (local_at bytes)))) (x, rest) e) [
      | inl y ↦ seen_takes step_law (λ h. Step h) event IsEvent (λ x h. (refl, h)) bytes x rest y
      | inr n ↦ elim (either_takes (drain_at bytes) (option_or (evict_at bytes) (option_or (deliver_at bytes) (local_at bytes))) (x, rest) n.1) [
        | inl y ↦ seen_takes (word_law (codes "drain ")) (λ p. Drain p.0 p.1) event IsEvent (λ x h. (refl, h)) bytes x rest y
        | inr n ↦ elim (either_takes (evict_at bytes) (option_or (deliver_at bytes) (local_at bytes)) (x, rest) n.1) [
          | inl y ↦ seen_takes (word_law (codes "evict ")) (λ p. Evict p.0 p.1) event IsEvent (λ x h. (refl, h)) bytes x rest y
          | inr n ↦ elim (either_takes (deliver_at bytes) (local_at bytes) (x, rest) n.1) [
            | inl y ↦ seen_takes deliver_law (λ p. Deliver p.0 p.1) event IsEvent (λ x h. (refl, h.1)) bytes x rest y
            | inr n ↦ seen_takes local_law (λ p. Local p.0 p.1) event IsEvent (λ x h. (refl, h)) bytes x rest n.1
          ]
        ]
      ]
    ]

step_again : (h : ℕ) (rest : List ℕ) → h ≤ 255 → step_at (event (Step h) ++ rest) ≡ Some (Step h, rest)
unfolding step_at
step_again h rest fits = seen_again step_law (λ h. Step h) h rest fits

drain_again : (h w : ℕ) (rest : List ℕ) → (h ≤ 255) × (w < 2 ^ 32) → drain_at (event (Drain h w) ++ rest) ≡ Some (Drain h w, rest)
unfolding drain_at
drain_again h w rest fits = seen_again (word_law (codes "drain ")) (λ p. Drain p.0 p.1) (h, w) rest fits

evict_again : (h w : ℕ) (rest : List ℕ) → (h ≤ 255) × (w < 2 ^ 32) → evict_at (event (Evict h w) ++ rest) ≡ Some (Evict h w, rest)
unfolding evict_at
evict_again h w rest fits = seen_again (word_law (codes "evict ")) (λ p. Evict p.0 p.1) (h, w) rest fits

deliver_again : (c : Channel) (h : ℕ) (rest : List ℕ) → h ≤ 255 → deliver_at (event (Deliver c h) ++ rest) ≡ Some (Deliver c h, rest)
unfolding deliver_at
deliver_again c h rest fits = seen_again deliver_law (λ p. Deliver p.0 p.1) (c, h) rest (tt, fits)

local_again : (h n : ℕ) (rest : List ℕ) → (h ≤ 255) × (n ≤ 4294967295) → local_at (event (Local h n) ++ rest) ≡ Some (Local h n, rest)
unfolding local_at
local_again h n rest fits = seen_again local_law (λ p. Local p.0 p.1) (h, n) rest fits

-- the readers that another first word makes fail
abbrev Others : List ℕ → Type 0
Others bytes = (step_at bytes ≡ None) × (drain_at bytes ≡ None) × (evict_at bytes ≡ None) × (deliver_at bytes ≡ None)

no_step : (c : ℕ) (bytes : List ℕ) → eqb c 115 ≡ false → step_at (c ∷ bytes) ≡ None
unfolding step_at
no_step c bytes e = rw e refl

no_drain : (bytes : List ℕ) → (drain_at (101 ∷ bytes) ≡ None) × (drain_at (100 ∷ 101 ∷ bytes) ≡ None) × (drain_at (108 ∷ bytes) ≡ None)
unfolding drain_at
no_drain bytes = (refl, refl, refl)

no_evict : (bytes : List ℕ) → (evict_at (100 ∷ bytes) ≡ None) × (evict_at (108 ∷ bytes) ≡ None)
unfolding evict_at
no_evict bytes = (refl, refl)

no_deliver : (bytes : List ℕ) → deliver_at (108 ∷ bytes) ≡ None
unfolding deliver_at
no_deliver bytes = refl

event_again : (x : Event) (rest : List ℕ) → IsEvent x → event_at (event x ++ rest) ≡ Some (x, rest)
unfolding event_at
event_again (Step h) rest fits = rw (step_again h rest fits) refl
event_again (Drain h w) rest fits = rw (no_step 100 _ refl, drain_again h w rest fits) refl
event_again (Evict h w) rest fits = rw (no_step 101 _ refl, (no_drain _).0, evict_again h w rest fits) refl
event_again (Deliver c h) rest fits = rw (no_step 100 _ refl, (no_drain _).1, (no_evict _).0, deliver_again c h rest fits) refl
event_again (Local h n) rest fits = rw (no_step 108 _ refl, (no_drain _).2, (no_evict _).1, no_deliver _, local_again h n rest fits) refl

pub event_reads : Reads event IsEvent event_at
event_reads = record { takes = event_takes; again = event_again }

event_long : (x : Event) → 0 < length (event x)
event_long (Step h) = omega arith
event_long (Drain h w) = omega arith
event_long (Evict h w) = omega arith
event_long (Deliver c h) = omega arith
event_long (Local h n) = omega arith

pub event_shortens : (bytes : List ℕ) (x : Event) (rest : List ℕ) → event_at bytes ≡ Some (x, rest) → length rest < length bytes
event_shortens bytes x rest e = omega (arith, ap length (event_takes bytes x rest e).0, length-append (event x) rest, event_long x)

-- ---- the header

abbrev first : Head → List ℕ
first h = codes "rvtl-script 1 " ++ (number 32 h.harts ++ (number 32 h.kib ++ (number 32 h.sets ++ number 10 h.ways)))

abbrev second : Head → List ℕ
second h = codes "rvtl-script 2 " ++ (number 32 h.harts ++ (number 32 h.kib ++ (number 32 h.sets ++ (number 32 h.ways ++ number 10 (length_of h.line)))))

first_law : Reads (λ (p : ℕ × (ℕ × (ℕ × ℕ))). codes "rvtl-script 1 " ++ (number 32 p.0 ++ (number 32 p.1.0 ++ (number 32 p.1.1.0 ++ number 10 p.1.1.1)))) (λ p. (p.0 ≤ most) × ((p.1.0 ≤ most) × ((p.1.1.0 ≤ most) × (p.1.1.1 ≤ most))))
    (led_at (codes "rvtl-script 1 ") (pair_at (number_at 32 most) (pair_at (number_at 32 most) (pair_at (number_at 32 most) (number_at 10 most)))))
first_law = led_reads (codes "rvtl-script 1 ") (pair_reads (number_law 32 (omega arith)) (pair_reads (number_law 32 (omega arith)) (pair_reads (number_law 32 (omega arith)) (number_law 10 (omega arith)))))

second_law : Reads (λ (p : ℕ × (ℕ × (ℕ × (ℕ × LineSize)))). codes "rvtl-script 2 " ++ (number 32 p.0 ++ (number 32 p.1.0 ++ (number 32 p.1.1.0 ++ (number 32 p.1.1.1.0 ++ number 10 (length_of p.1.1.1.1)))))) (λ p. (p.0 ≤ most) × ((p.1.0 ≤ most) × ((p.1.1.0 ≤ most) × ((p.1.1.1.0 ≤ most) × Unit {0}))))
    (led_at (codes "rvtl-script 2 ") (pair_at (number_at 32 most) (pair_at (number_at 32 most) (pair_at (number_at 32 most) (pair_at (number_at 32 most) size_at)))))
second_law = led_reads (codes "rvtl-script 2 ") (pair_reads (number_law 32 (omega arith)) (pair_reads (number_law 32 (omega arith)) (pair_reads (number_law 32 (omega arith)) (pair_reads (number_law 32 (omega arith)) size_reads))))

abbrev pub IsOne : Head → Type 0
IsOne h = is_head h ≡ true

head_first : (h : Head) → is_first_version h.harts h.line ≡ true → head h ≡ first h
head_first h e = rw e refl

head_second : (h : Head) → is_first_version h.harts h.line ≡ false → head h ≡ second h
head_second h e = rw e refl

not_true : (b : Bool) → not b ≡ true → b ≡ false
not_true true e = absurd cc
not_true false e = refl

abbrev make_first : ℕ × (ℕ × (ℕ × ℕ)) → Head
make_first p = record { harts = p.0; kib = p.1.0; sets = p.1.1.0; ways = p.1.1.1; line = Bytes16 }

abbrev make_second : ℕ × (ℕ × (ℕ × (ℕ × LineSize))) → Head
make_second p = record { harts = p.0; kib = p.1.0; sets = p.1.1.0; ways = p.1.1.1.0; line = p.1.1.1.1 }

first_takes : (bytes : List ℕ) (h : Head) (rest : List ℕ) → first_head_at bytes ≡ Some (h, rest) → (bytes ≡ head h ++ rest) × IsOne h
unfolding first_head_at first_fields_at last_two_at
first_takes bytes h rest e =
    let p = bind_some (seen_at make_first (led_at (codes "rvtl-script 1 ") (pair_at (number_at 32 most) (pair_at (number_at 32 most) (pair_at (number_at 32 most) (number_at 10 most))))) bytes) (λ x. guarded (is_head x.0 && is_first_version x.0.harts x.0.line) x) (h, rest) e in
    let g = guarded_takes (is_head p.0.0 && is_first_version p.0.0.harts p.0.0.line) p.0 (h, rest) p.2 in
    let b = both_true (is_head p.0.0) (is_first_version p.0.0.harts p.0.0.line) g.0 in
    let t = seen_takes first_law make_first first (λ h. Unit {0}) (λ x f. (refl, tt)) bytes p.0.0 p.0.1 p.1 in
    subst (λ (y : Head × List ℕ). (bytes ≡ head y.0 ++ y.1) × IsOne y.0) g.1 (t.0 ∙ ap (λ u. u ++ p.0.1) (sym (head_first p.0.0 b.1)), b.0)

second_takes : (bytes : List ℕ) (h : Head) (rest : List ℕ) → second_head_at bytes ≡ Some (h, rest) → (bytes ≡ head h ++ rest) × IsOne h
unfolding second_head_at second_fields_at ways_and_size_at
second_takes bytes h rest e =
    let p = bind_some (seen_at make_second (led_at (codes "rvtl-script 2 ") (pair_at (number_at 32 most) (pair_at (number_at 32 most) (pair_at (number_at 32 most) (pair_at (number_at 32 most) size_at))))) bytes) (λ x. guarded (is_head x.0 && not (is_first_version x.0.harts x.0.line)) x) (h, rest) e in
    let g = guarded_takes (is_head p.0.0 && not (is_first_version p.0.0.harts p.0.0.line)) p.0 (h, rest) p.2 in
    let b = both_true (is_head p.0.0) (not (is_first_version p.0.0.harts p.0.0.line)) g.0 in
    let t = seen_takes second_law make_second second (λ h. Unit {0}) (λ x f. (refl, tt)) bytes p.0.0 p.0.1 p.1 in
    subst (λ (y : Head × List ℕ). (bytes ≡ head y.0 ++ y.1) × IsOne y.0) g.1 (t.0 ∙ ap (λ u. u ++ p.0.1) (sym (head_second p.0.0 (not_true _ b.1))), b.0)

pub head_takes : (bytes : List ℕ) (h : Head) (rest : List ℕ) → head_at bytes ≡ Some (h, rest) → (bytes ≡ head h ++ rest) × IsOne h
unfolding head_at
head_takes bytes h rest e =
    elim (either_takes (first_head_at bytes) (second_head_at bytes) (h, rest) e) [
      | inl y ↦ first_takes bytes h rest y
      | inr n ↦ second_takes bytes h rest n.1
    ]

record Bounds (h : Head) : Type 0 where
  harts : h.harts ≤ most
  kib : h.kib ≤ most
  sets : h.sets ≤ most
  ways : h.ways ≤ most

bounds : (h : Head) → is_head h ≡ true → Bounds h
bounds h e =
    let both = both_true (is_within_limits h.harts h.sets h.ways) (is_memory_kib h.kib) e in
    let limits = limits_of h.harts h.sets h.ways both.0 in
    record {
      harts = omega (arith, limits.few_harts);
      kib = (memory_kib h.kib both.1).at_most;
      sets = omega (arith, limits.few_sets);
      ways = omega (arith, limits.few_ways);
    }

guard_passes : (k : Head → Bool) (m h : Head) (rest : List ℕ) → m ≡ h → k h ≡ true → guarded {A = Head × List ℕ} (k m) (m, rest) ≡ Some (h, rest)
guard_passes k m h rest same e = rw (same, e) refl

both_are : (a b : Bool) → a ≡ true → b ≡ true → (a && b) ≡ true
both_are a b e f = rw (e, f) refl

first_again : (h : Head) (rest : List ℕ) → is_head h ≡ true → is_first_version h.harts h.line ≡ true → first_head_at (head h ++ rest) ≡ Some (h, rest)
unfolding first_head_at first_fields_at last_two_at
first_again h rest e v =
    let b = bounds h e in
    let line : h.line ≡ Bytes16 = size_16 h.harts h.line v in
    let made : make_first (h.harts, (h.kib, (h.sets, h.ways))) ≡ h = rw (← line) refl in
    let read = seen_again first_law make_first (h.harts, (h.kib, (h.sets, h.ways))) rest (b.harts, (b.kib, (b.sets, b.ways))) in
    ap (λ t. first_head_at (t ++ rest)) (head_first h v)
    ∙ ap (λ (r : Option (Head × List ℕ)). r >>= λ x. guarded (is_head x.0 && is_first_version x.0.harts x.0.line) x) read
    ∙ guard_passes (λ m. is_head m && is_first_version m.harts m.line) (make_first (h.harts, (h.kib, (h.sets, h.ways)))) h rest made (both_are _ _ e v)

second_again : (h : Head) (rest : List ℕ) → is_head h ≡ true → is_first_version h.harts h.line ≡ false → second_head_at (head h ++ rest) ≡ Some (h, rest)
unfolding second_head_at second_fields_at ways_and_size_at
second_again h rest e v =
    let b = bounds h e in
    let read = seen_again second_law make_second (h.harts, (h.kib, (h.sets, (h.ways, h.line)))) rest (b.harts, (b.kib, (b.sets, (b.ways, tt)))) in
    let other : not (is_first_version h.harts h.line) ≡ true = ap not v in
    ap (λ t. second_head_at (t ++ rest)) (head_second h v)
    ∙ ap (λ (r : Option (Head × List ℕ)). r >>= λ x. guarded (is_head x.0 && not (is_first_version x.0.harts x.0.line)) x) read
    ∙ guard_passes (λ m. is_head m && not (is_first_version m.harts m.line)) h h rest refl (both_are _ _ e other)

first_not : (h : Head) (rest : List ℕ) → is_first_version h.harts h.line ≡ false → first_head_at (head h ++ rest) ≡ None
unfolding first_head_at first_fields_at last_two_at
first_not h rest v = ap (λ t. first_head_at (t ++ rest)) (head_second h v)

pub head_again : (h : Head) (rest : List ℕ) → is_head h ≡ true → head_at (head h ++ rest) ≡ Some (h, rest)
unfolding head_at
head_again h rest e = go (is_first_version h.harts h.line) refl
  where
    go : (v : Bool) → is_first_version h.harts h.line ≡ v → option_or (first_head_at (head h ++ rest)) (second_head_at (head h ++ rest)) ≡ Some (h, rest)
    go true v = ap (λ (r : Option (Head × List ℕ)). option_or r (second_head_at (head h ++ rest))) (first_again h rest e v)
    go false v = ap (λ (r : Option (Head × List ℕ)). option_or r (second_head_at (head h ++ rest))) (first_not h rest v) ∙ second_again h rest e v

-- ---- a script

abbrev Fits : Head → Type 0
Fits h = is_within_limits h.harts h.sets h.ways ≡ true

abbrev pub made_of : (h : Head) → List Event → Fits h → Script
made_of h es fits = record { harts = h.harts; kib = h.kib; sets = h.sets; ways = h.ways; line = h.line; events = es; within = fits }

pub head_fits : (h : Head) → is_head h ≡ true → Fits h
head_fits h e = (both_true (is_within_limits h.harts h.sets h.ways) (is_memory_kib h.kib) e).0

-- a script is its first line and its events
same_made : (h k : Head) (es fs : List Event) (v : Fits h) (w : Fits k) → h ≡ k → es ≡ fs → made_of h es v ≡ made_of k fs w
same_made h k es fs v w same events =
    subst (λ (j : Head). (u : Fits j) → made_of h es v ≡ made_of j fs u) same
    (λ u. ap (λ l. made_of h l v) events ∙ ap (made_of h fs) (Bool-set (is_within_limits h.harts h.sets h.ways) true v u)) w

pub same_script : (s t : Script) → content_of s ≡ content_of t → s ≡ t
same_script s t e = same_made (head_of s) (head_of t) s.events t.events s.within t.within (ap (λ (c : Head × List Event). c.0) e) (ap (λ (c : Head × List Event). c.1) e)

script_takes : (bytes : List ℕ) (s : Script) → script_at bytes ≡ Some (content_of s) → IsScript s × (bytes ≡ text s)
unfolding script_at
script_takes bytes s e =
    let p = bind_some (head_at bytes) (λ h. all_at event_at (length h.1) h.1 >>= λ es. Some (h.0, es)) (content_of s) e in
    let q = bind_some (all_at event_at (length p.0.1) p.0.1) (λ es. Some (p.0.0, es)) (content_of s) p.2 in
    let first = head_takes bytes p.0.0 p.0.1 p.1 in
    let others = all_takes event_reads (length p.0.1) p.0.1 q.0 q.1 in
    let x = subst (λ (c : Head × List Event). ((is_head c.0 ≡ true) × AllByRecursion IsEvent c.1) × (bytes ≡ head c.0 ++ flat_map event c.1)) (some_is (p.0.0, q.0) (content_of s) q.2)
    ((first.1, others.1), first.0 ∙ ap (λ t. head p.0.0 ++ t) others.0) in
    (record { head = x.0.0; events = x.0.1 }, x.1)

script_again : (s : Script) → IsScript s → script_at (text s) ≡ Some (content_of s)
unfolding script_at
script_again s fits =
    rw (head_again (head_of s) (flat_map event s.events) fits.head, all_again event_reads event_long (length (flat_map event s.events)) s.events fits.events (omega arith)) refl

-- ---- the clauses of read_script

pub is_found : (bytes : List ℕ) (r : Result Script TextError) → IsReadOrRefused content_of r (script_at bytes) → IfOk r (λ s. IsScript s × (bytes ≡ text s))
is_found bytes (Ok s) e = script_takes bytes s e
is_found bytes (Err e) h = tt

pub is_only : (bytes : List ℕ) (r : Result Script TextError) → IsReadOrRefused content_of r (script_at bytes) → (s : Script) → IsScript s → bytes ≡ text s → ¬ IsNoMemory r → r ≡ Ok s
is_only bytes (Ok x) h s fits e some = ap (λ (y : Script). Ok y) (same_script x s (some_is (content_of x) (content_of s) (sym h ∙ ap script_at e ∙ script_again s fits)))
is_only bytes (Err f) (inl gone) s fits e some = absurd (some gone)
is_only bytes (Err f) (inr none) s fits e some = absurd (clash (sym none ∙ ap script_at e ∙ script_again s fits))
  where
    clash : ◌≡◌ {A = Option (Head × List Event)} None (Some (content_of s)) → ⊥
    clash e = cc
