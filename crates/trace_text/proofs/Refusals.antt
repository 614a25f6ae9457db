-- Where the reader of scripts stops, and what it finds there.
use Rattle.std.proofs.Common.{◌≡◌, ℕ, suc, ◌+◌, ◌-◌, ◌^◌, ◌<◌, Bool, ◌||◌, true, false, cond, eqb, List, [], ◌∷◌, ◌++◌, length, take, drop, Some, None, refl, sym, ap, subst, ◌∙◌, append_assoc, arith, inl, inr}
use Rattle.std.specs.Prelude.{codes, IsTrue, ◌↔◌, Result, Ok, Err, IfErr, IsErrAnd}
use Rattle.std.specs.List.{flat_map, AllByRecursion, list_any}
use Rattle.std.proofs.lemmas.Bool.{eqb-true, eq-eqb}
use Rattle.std.proofs.lemmas.Option.{none-some}
use Rattle.std.proofs.lemmas.List.{flat_map_more, length-append}
use Rattle.std.proofs.lemmas.List.Sums.{count_by-le-length}
use Rattle.std.proofs.Math.Seq.{take-append_seam, drop-append_seam}
use Rattle.machine_types.specs.declared.event.Event.{Event}
use Rattle.machine_types.specs.declared.event.Event.TheVariants.{Step, Drain, Evict, Deliver, Local}
use Rattle.text_fields.specs.Reading.{after}
use Rattle.tl_types.specs.declared.message.Channel.TheVariants.{A}
use Rattle.trace_text.specs.Causes.{script_cause}
use Rattle.trace_text.specs.declared.cause.TextCause.{TextCause}
use Rattle.trace_text.specs.declared.fault.TextCode.{TextCode}
use Rattle.trace_text.specs.declared.fault.Stop.{Stop}
use Rattle.trace_text.specs.declared.fault.Stop.TheVariants.{Memory, Bytes}
use Rattle.trace_text.specs.declared.script.Head.{Head}
use Rattle.trace_text.specs.declared.script.Script.{Script}
use Rattle.trace_text.specs.Refusals.{line_feeds, has_line_feed, is_blank, first_word, IsNoHead, IsNoEvent, EndsScript, IsEventWord, IsScriptCode, IsScriptRefusal}
use Rattle.trace_text.specs.ScriptReading.{event_at, head_at}
use Rattle.trace_text.specs.Scripts.{event, head, text, IsEvent}
use Rattle.trace_text.specs.Stops.{is_parted, AreEventsBefore, StopsScript, IsEventStop, IsScriptStop, left_of, line_number}
use Rattle.trace_text.proofs.Scripts.{event_reads, head_fits, head_takes, head_again, made_of}

-- ---- where it stops

-- these events were read before the rest
pub record Passed (bytes : List ℕ) (events : List Event) (rest : List ℕ) : Type 0 where
  pub parts : bytes ≡ flat_map event events ++ rest
  pub each : AllByRecursion IsEvent events

pub passed_none : (bytes : List ℕ) → Passed bytes [] bytes
passed_none bytes = record { parts = refl; each = tt }

each_pushed : (xs : List Event) (x : Event) → AllByRecursion IsEvent xs → IsEvent x → AllByRecursion IsEvent (xs ++ x ∷ [])
each_pushed [] x h fits = (fits, tt)
each_pushed (y ∷ ys) x h fits = (h.0, each_pushed ys x h.1 fits)

pub passed_more : (bytes : List ℕ) (events : List Event) (rest later : List ℕ) (x : Event) → Some (x, later) ≡ event_at rest → Passed bytes events rest → Passed bytes (events ++ x ∷ []) later
passed_more bytes events rest later x read h =
    let t = event_reads.takes rest x later (sym read) in
    record {
      parts = h.parts ∙ ap (λ u. flat_map event events ++ u) t.0 ∙ sym (append_assoc (flat_map event events) (event x) later) ∙ ap (λ u. u ++ later) (flat_map_more event [] events x);
      each = each_pushed events x h.each t.1;
    }

pub passed_stops : (bytes : List ℕ) (events : List Event) (rest : List ℕ) → 0 < length rest → None ≡ event_at rest → Passed bytes events rest → AreEventsBefore bytes (length rest)
passed_stops bytes events rest some none h = record { events = events; rest = rest; parts = h.parts; each = h.each; some = some; none = sym none; long = refl }

no_event : (rest : List ℕ) → event_at rest ≡ None → IsNoEvent rest
no_event rest none x more fits at = none-some (x, more) (sym none ∙ ap event_at at ∙ event_reads.again x more fits)

no_head : (bytes : List ℕ) → head_at bytes ≡ None → IsNoHead bytes
no_head bytes none h more fits at = none-some (h, more) (sym none ∙ ap head_at at ∙ head_again h more fits)

pub stops_first : (bytes : List ℕ) → head_at bytes ≡ None → StopsScript bytes (length bytes)
stops_first bytes none = record { before = []; rest = bytes; parts = refl; ends = inl (refl, no_head bytes none); long = refl }

pub stops_later : (bytes : List ℕ) (h : Head) (behind : List ℕ) (left : ℕ) → head_at bytes ≡ Some (h, behind) → AreEventsBefore behind left → StopsScript bytes left
stops_later bytes h behind left read w =
    let t = head_takes bytes h behind read in
    let s : Script = made_of h w.events (head_fits h t.1) in
    record {
      before = text s;
      rest = w.rest;
      parts = t.0 ∙ ap (λ u. head h ++ u) w.parts ∙ sym (append_assoc (head h) (flat_map event w.events) w.rest);
      ends = inr (s, record { head = t.1; events = w.each }, refl, (λ e. omega (arith, ap length e, w.some)), no_event w.rest w.none);
      long = w.long;
    }

-- ---- the fault

few_lines : (before rest : List ℕ) → EndsScript before rest → length before + length rest < 2 ^ 64 → suc (line_feeds before) < 2 ^ 64
few_lines before rest (inl first) small = subst (λ u. suc (line_feeds u) < 2 ^ 64) (sym first.0) (omega arith)
few_lines before [] (inr later) small = absurd (later.3 refl)
few_lines before (b ∷ rest) (inr later) small = omega (arith, count_by-le-length (λ b. eqb b 10) before)

pub refused : (bytes : List ℕ) (left line : ℕ) (rest : List ℕ) (code : TextCode) (cause : TextCause) → length bytes < 2 ^ 64 → StopsScript bytes left
    → (suc (line_feeds (take (length bytes - left) bytes)) < 2 ^ 64 → line ≡ suc (line_feeds (take (length bytes - left) bytes)))
    → rest ≡ drop (length bytes - left) bytes → IsScriptCode code line rest → cause ≡ script_cause line rest → IsScriptRefusal bytes (record { line = line; code = code; cause = cause })
refused bytes left line rest code cause small w numbered at fault caused =
    let long : length bytes ≡ length w.before + length w.rest = ap length w.parts ∙ length-append w.before w.rest in
    let n : length bytes - left ≡ length w.before = omega (arith, w.long) in
    let front : take (length bytes - left) bytes ≡ w.before = (ap (λ i. take i bytes) n ∙ ap (take (length w.before)) w.parts ∙ take-append_seam w.before w.rest) in
    let back : rest ≡ w.rest = (at ∙ ap (λ i. drop i bytes) n ∙ ap (drop (length w.before)) w.parts ∙ drop-append_seam w.before w.rest) in
    let few = few_lines w.before w.rest w.ends (omega arith) in
    record {
      before = w.before;
      rest = w.rest;
      parts = w.parts;
      ends = w.ends;
      line = numbered (subst (λ u. suc (line_feeds u) < 2 ^ 64) (sym front) few) ∙ ap (λ u. suc (line_feeds u)) front;
      code = subst (λ u. IsScriptCode code line u) back fault;
      cause = subst (λ u. cause ≡ script_cause line u) back caused;
    }

pub refused_of : (bytes : List ℕ) (stop : Stop) (least left line : ℕ) (rest : List ℕ) (code : TextCode) (cause : TextCause) → stop ≡ Bytes least → left ≡ left_of stop → length bytes < 2 ^ 64 → IsScriptStop bytes stop
    → (line_number bytes left < 2 ^ 64 → line ≡ line_number bytes left) → rest ≡ drop (length bytes - left) bytes → IsScriptCode code line rest → cause ≡ script_cause line rest
    → IsScriptRefusal bytes (record { line = line; code = code; cause = cause })
refused_of bytes stop least left line rest code cause is same small w numbered at fault caused =
    let same_left : left ≡ least = same ∙ ap left_of is in
    refused bytes left line rest code cause small (subst (λ n. StopsScript bytes n) (sym same_left) (subst (IsScriptStop bytes) is w)) numbered at fault caused

-- ---- first words

pub word_is : (word line : List ℕ) → list_any is_blank word ≡ false → is_parted (after word line) ≡ true → first_word line ≡ word
word_is [] [] none e = refl
word_is [] (b ∷ line) none e = ap (λ t. cond t [] (b ∷ first_word line)) e
word_is (t ∷ word) [] none e = absurd cc
word_is (t ∷ word) (b ∷ line) none e = go (λ n p. word_is word line n p) (is_blank t) refl none (eqb b t) refl e
  where
    go : (list_any is_blank word ≡ false → is_parted (after word line) ≡ true → first_word line ≡ word) → (blank : Bool) → is_blank t ≡ blank → (blank || list_any is_blank word) ≡ false
        → (same : Bool) → eqb b t ≡ same → is_parted (cond same (after word line) None) ≡ true → first_word (b ∷ line) ≡ t ∷ word
    go others true blank none same at e = absurd cc
    go others false blank none false at e = absurd cc
    go others false blank none true at e =
        let is : b ≡ t = eqb-true b t at in
        ap (λ u. cond (is_blank u) [] (u ∷ first_word line)) is ∙ ap (λ u. cond u [] (t ∷ first_word line)) blank ∙ ap (λ u. t ∷ u) (others none e)

after_same : (b : ℕ) (word line : List ℕ) → after (b ∷ word) (b ∷ line) ≡ after word line
after_same b word line = ap (λ t. cond t (after word line) None) (eq-eqb b b refl)

feeds_later : (space feed later : Bool) → (space || feed) ≡ false → (feed || later) ≡ true → later ≡ true
feeds_later true feed later apart e = absurd cc
feeds_later false true later apart e = absurd cc
feeds_later false false later apart e = e

pub parts_word : (line : List ℕ) → has_line_feed line ≡ true → is_parted (after (first_word line) line) ≡ true
parts_word [] e = absurd cc
parts_word (b ∷ line) e = go (λ w. parts_word line w) (is_blank b) refl
  where
    go : (has_line_feed line ≡ true → is_parted (after (first_word line) line) ≡ true) → (blank : Bool) → is_blank b ≡ blank → is_parted (after (cond blank [] (b ∷ first_word line)) (b ∷ line)) ≡ true
    go others true blank = blank
    go others false blank = ap is_parted (after_same b (first_word line) line) ∙ others (feeds_later (eqb b 32) (eqb b 10) (has_line_feed line) blank e)

pub parted : (word line : List ℕ) → list_any is_blank word ≡ false → has_line_feed line ≡ true → (is_parted (after word line) ≡ true) ↔ (first_word line ≡ word)
parted word line none whole = (word_is word line none, λ e. subst (λ u. is_parted (after u line) ≡ true) e (parts_word line whole))

pub is_step : (line : List ℕ) → is_parted (after (codes "step") line) ≡ true → IsEventWord (first_word line)
is_step line e = (Step 0, word_is (codes "step") line refl e)

pub is_drain : (line : List ℕ) → is_parted (after (codes "drain") line) ≡ true → IsEventWord (first_word line)
is_drain line e = (Drain 0 0, word_is (codes "drain") line refl e)

pub is_evict : (line : List ℕ) → is_parted (after (codes "evict") line) ≡ true → IsEventWord (first_word line)
is_evict line e = (Evict 0 0, word_is (codes "evict") line refl e)

pub is_deliver : (line : List ℕ) → is_parted (after (codes "deliver") line) ≡ true → IsEventWord (first_word line)
is_deliver line e = (Deliver A 0, word_is (codes "deliver") line refl e)

pub is_local : (line : List ℕ) → is_parted (after (codes "local") line) ≡ true → IsEventWord (first_word line)
is_local line e = (Local 0 0, word_is (codes "local") line refl e)

pub not_both : (b : Bool) → b ≡ true → b ≡ false → ⊥
not_both true e f = cc
not_both false e f = cc

pub is_other : (line : List ℕ) → has_line_feed line ≡ true
    → is_parted (after (codes "step") line) ≡ false → is_parted (after (codes "drain") line) ≡ false → is_parted (after (codes "evict") line) ≡ false
    → is_parted (after (codes "deliver") line) ≡ false → is_parted (after (codes "local") line) ≡ false → ¬ IsEventWord (first_word line)
is_other line whole a b c d e (Step h, w) = not_both _ ((parted (codes "step") line refl whole).1 w) a
is_other line whole a b c d e (Drain h u, w) = not_both _ ((parted (codes "drain") line refl whole).1 w) b
is_other line whole a b c d e (Evict h l, w) = not_both _ ((parted (codes "evict") line refl whole).1 w) c
is_other line whole a b c d e (Deliver k h, w) = not_both _ ((parted (codes "deliver") line refl whole).1 w) d
is_other line whole a b c d e (Local h n, w) = not_both _ ((parted (codes "local") line refl whole).1 w) e

-- whether one of the five words of events is parted from what follows
abbrev pub is_parted_word : List ℕ → List ℕ → Bool
is_parted_word line word = is_parted (after word line)

some_word : (line : List ℕ) (a b c d e : Bool) → is_parted_word line (codes "step") ≡ a → is_parted_word line (codes "drain") ≡ b → is_parted_word line (codes "evict") ≡ c
    → is_parted_word line (codes "deliver") ≡ d → is_parted_word line (codes "local") ≡ e → ((((a || b) || c) || d) || e) ≡ true → IsEventWord (first_word line)
some_word line true b c d e pa pb pc pd pe t = is_step line pa
some_word line false true c d e pa pb pc pd pe t = is_drain line pb
some_word line false false true d e pa pb pc pd pe t = is_evict line pc
some_word line false false false true e pa pb pc pd pe t = is_deliver line pd
some_word line false false false false true pa pb pc pd pe t = is_local line pe
some_word line false false false false false pa pb pc pd pe t = absurd cc

sure_word : (line : List ℕ) → has_line_feed line ≡ true → (a b c d e : Bool) → is_parted_word line (codes "step") ≡ a → is_parted_word line (codes "drain") ≡ b → is_parted_word line (codes "evict") ≡ c
    → is_parted_word line (codes "deliver") ≡ d → is_parted_word line (codes "local") ≡ e → IsEventWord (first_word line) → ((((a || b) || c) || d) || e) ≡ true
sure_word line whole true b c d e pa pb pc pd pe w = refl
sure_word line whole false true c d e pa pb pc pd pe w = refl
sure_word line whole false false true d e pa pb pc pd pe w = refl
sure_word line whole false false false true e pa pb pc pd pe w = refl
sure_word line whole false false false false true pa pb pc pd pe w = refl
sure_word line whole false false false false false pa pb pc pd pe w = absurd (is_other line whole pa pb pc pd pe w)

pub known : (line : List ℕ) (v : Bool) → has_line_feed line ≡ true
    → v ≡ ((((is_parted_word line (codes "step") || is_parted_word line (codes "drain")) || is_parted_word line (codes "evict")) || is_parted_word line (codes "deliver")) || is_parted_word line (codes "local"))
    → IsTrue v ↔ IsEventWord (first_word line)
known line v whole e = (λ t. some_word line _ _ _ _ _ refl refl refl refl refl (sym e ∙ t), λ w. e ∙ sure_word line whole _ _ _ _ _ refl refl refl refl refl w)

pub or_then : (v a b : Bool) → a ≡ true → v ≡ true → v ≡ (a || b)
or_then v a b holds is = rw (holds, is) refl

pub or_else : (v a b : Bool) → a ≡ false → v ≡ b → v ≡ (a || b)
or_else v a b fails is = rw (fails, is) refl

-- ---- what a script's reader answers

pub script_fails : (bytes : List ℕ) (h : Head) (behind : List ℕ) (stop : Stop) → head_at bytes ≡ Some (h, behind) → IsEventStop behind stop → IsScriptStop bytes stop
script_fails bytes h behind (Memory left) read w = tt
script_fails bytes h behind (Bytes left) read w = stops_later bytes h behind left read w

pub fails_with : {T : Type 0} (bytes : List ℕ) (r : Result T Stop) (stop : Stop) → IsErrAnd r (λ y. y ≡ stop) → IsScriptStop bytes stop → IfErr r (IsScriptStop bytes)
fails_with bytes (Ok x) stop e h = tt
fails_with bytes (Err y) stop e h = subst (IsScriptStop bytes) (sym e) h
