-- Flat memory is the image with what was performed, behind each change; and a copy of a line of a machine has its bytes.
use Rattle.std.proofs.Common.{◌≡◌, ◌≢◌, ℕ, zero, suc, ◌+◌, ◌-◌, ◌%◌, ◌/◌, ◌^◌, ◌<◌, ◌≤◌, List, Bool, true, false, Some, None, refl, sym, ap, ◌∙◌, subst, cond, ◌&&◌, ◌⊎◌, inl, inr, arith, length}
use Rattle.std.specs.Prelude.{nat_eq, nat_le, nat_lt, slice_index, slice_set, unwrap_or}
use Rattle.std.proofs.lemmas.Bool.{and_parts, false_from_ne_true, le-leb, leb-true, lt-ltb, ltb-true}
use Rattle.std.proofs.lemmas.Bool.Decides.{eqb_tells}
use Rattle.std.proofs.lemmas.List.{get_or-set_other, get_or-set_same, length-set}
use Rattle.client_cache.specs.Cache.{copy_at}
use Rattle.client_cache.specs.Held.{bytes_in}
use Rattle.client_cache.specs.declared.held.Held.{Held}
use Rattle.machine_model.specs.Image.{Initial, end_of}
use Rattle.machine_model.specs.Size.{base}
use Rattle.flat_model.specs.Flat.{Flat, byte_in, with_place, with_word}
use Rattle.flat_model.specs.Flat as of_flat
use Rattle.flat_model.specs.Shown.{HoldsPerformed}
use Rattle.machine_model.specs.Coherent.{IsCoherent}
use Rattle.machine_model.specs.Events.{is_piece}
use Rattle.machine_model.specs.Views.{State, line_size, node_at}
use Rattle.machine_model.specs.Words.{bytes_of_word, word_in, word_of}
use Rattle.machine_model.specs.declared.act.Deed.{Deed}
use Rattle.machine_model.specs.declared.act.Deed.TheVariants as deed
use Rattle.machine_model.proofs.bytes.Always.{Joint}
use Rattle.machine_model.proofs.coherence.LinePlaces.{IsPiece, piece}
use Rattle.machine_model.proofs.coherence.LineStands.{IsLast, Side, newest}
use Rattle.machine_model.proofs.order.Bytes.{place_at}
use Rattle.machine_model.proofs.order.Joint.{coherent_holds}
use Rattle.machine_model.proofs.order.Last.{bytes_by}
use Rattle.machine_model.proofs.order.Returns.{AllHold}
use Rattle.machine_model.specs.Operations.{byte_of_number as number_byte}
use Rattle.machine_model.specs.Traces.{last_performed}
use Rattle.store_buffer.specs.ByteMask.{each_place, is_marked, marks_of_access}
use Rattle.tl_types.specs.Line.{bytes_of, length_of, line_of, size_of}
use Rattle.tl_types.specs.declared.line.LineSize.{LineSize}
use Rattle.tl_types.specs.declared.line.LineSize.TheVariants.{Bytes16, Bytes64}
use Rattle.machine_model.specs.History.{History}

-- ---- a write of a word

length-place : (word : ℕ) (marks : List Bool) (bytes : List ℕ) (k : ℕ) (memory : List ℕ) → length (with_place word marks bytes k memory) ≡ length memory
length-place word marks bytes k memory = go (is_marked marks k)
  where
    go : (b : Bool) → length (cond b (slice_set memory (word + k - base) (slice_index bytes k)) memory) ≡ length memory
    go true = length-set memory (word + k - base) (slice_index bytes k)
    go false = refl

place_same : (word : ℕ) (marks : List Bool) (bytes : List ℕ) (k : ℕ) (memory : List ℕ) → word + k - base < length memory → byte_in (with_place word marks bytes k memory) (word + k) ≡ cond (is_marked marks k) (slice_index bytes k) (byte_in memory (word + k))
place_same word marks bytes k memory l = go (is_marked marks k)
  where
    go : (b : Bool) → byte_in (cond b (slice_set memory (word + k - base) (slice_index bytes k)) memory) (word + k) ≡ cond b (slice_index bytes k) (byte_in memory (word + k))
    go true = get_or-set_same memory (word + k - base) (slice_index bytes k) 0 l
    go false = refl

place_other : (word : ℕ) (marks : List Bool) (bytes : List ℕ) (k : ℕ) (memory : List ℕ) (x : ℕ) → base ≤ word → base ≤ x → x ≢ word + k → byte_in (with_place word marks bytes k memory) x ≡ byte_in memory x
place_other word marks bytes k memory x low from ne = go (is_marked marks k)
  where
    apart : x - base ≢ word + k - base
    apart e = ne (omega (arith, low, from, e))

    go : (b : Bool) → byte_in (cond b (slice_set memory (word + k - base) (slice_index bytes k)) memory) x ≡ byte_in memory x
    go true = get_or-set_other memory (word + k - base) (x - base) (slice_index bytes k) 0 apart
    go false = refl

module _ (word : ℕ) (marks : List Bool) (bytes : List ℕ) (memory : List ℕ) (low : base ≤ word) where
  abbrev zeroth : List ℕ
  zeroth = with_place word marks bytes 0 memory

  abbrev first : List ℕ
  first = with_place word marks bytes 1 zeroth

  abbrev second : List ℕ
  second = with_place word marks bytes 2 first

  length-word : length (with_word word marks bytes memory) ≡ length memory
  length-word = length-place word marks bytes 3 second ∙ (length-place word marks bytes 2 first ∙ (length-place word marks bytes 1 zeroth ∙ length-place word marks bytes 0 memory))

  word_elsewhere : (x : ℕ) → base ≤ x → x ≢ word + 0 → x ≢ word + 1 → x ≢ word + 2 → x ≢ word + 3 → byte_in (with_word word marks bytes memory) x ≡ byte_in memory x
  word_elsewhere x from a b c d =
      place_other word marks bytes 3 second x low from d ∙ (place_other word marks bytes 2 first x low from c ∙ (place_other word marks bytes 1 zeroth x low from b ∙ place_other word marks bytes 0 memory x low from a))

  word_here : (k : ℕ) → k < 4 → word + 3 - base < length memory → byte_in (with_word word marks bytes memory) (word + k) ≡ cond (is_marked marks k) (slice_index bytes k) (byte_in memory (word + k))
  word_here zero l high =
      place_other word marks bytes 3 second (word + 0) low (omega (arith, low)) (λ e. absurd (omega (arith, e)))
      ∙ (place_other word marks bytes 2 first (word + 0) low (omega (arith, low)) (λ e. absurd (omega (arith, e)))
      ∙ (place_other word marks bytes 1 zeroth (word + 0) low (omega (arith, low)) (λ e. absurd (omega (arith, e)))
      ∙ place_same word marks bytes 0 memory (omega (arith, high))))
  word_here (suc zero) l high =
      place_other word marks bytes 3 second (word + 1) low (omega (arith, low)) (λ e. absurd (omega (arith, e)))
      ∙ (place_other word marks bytes 2 first (word + 1) low (omega (arith, low)) (λ e. absurd (omega (arith, e)))
      ∙ (place_same word marks bytes 1 zeroth (let n = length-place word marks bytes 0 memory in omega (arith, high, n))
      ∙ ap (λ v. cond (is_marked marks 1) (slice_index bytes 1) v) (place_other word marks bytes 0 memory (word + 1) low (omega (arith, low)) (λ e. absurd (omega (arith, e))))))
  word_here (suc (suc zero)) l high =
      place_other word marks bytes 3 second (word + 2) low (omega (arith, low)) (λ e. absurd (omega (arith, e)))
      ∙ (place_same word marks bytes 2 first (let n = length-place word marks bytes 1 zeroth ∙ length-place word marks bytes 0 memory in omega (arith, high, n))
      ∙ ap (λ v. cond (is_marked marks 2) (slice_index bytes 2) v)
      (place_other word marks bytes 1 zeroth (word + 2) low (omega (arith, low)) (λ e. absurd (omega (arith, e)))
      ∙ place_other word marks bytes 0 memory (word + 2) low (omega (arith, low)) (λ e. absurd (omega (arith, e)))))
  word_here (suc (suc (suc zero))) l high =
      place_same word marks bytes 3 second (let n = length-place word marks bytes 2 first ∙ (length-place word marks bytes 1 zeroth ∙ length-place word marks bytes 0 memory) in omega (arith, high, n))
      ∙ ap (λ v. cond (is_marked marks 3) (slice_index bytes 3) v)
      (place_other word marks bytes 2 first (word + 3) low (omega (arith, low)) (λ e. absurd (omega (arith, e)))
      ∙ (place_other word marks bytes 1 zeroth (word + 3) low (omega (arith, low)) (λ e. absurd (omega (arith, e)))
      ∙ place_other word marks bytes 0 memory (word + 3) low (omega (arith, low)) (λ e. absurd (omega (arith, e)))))
  word_here (suc (suc (suc (suc k)))) l high = absurd (omega (arith, l))

-- ---- memory behind a change

-- what is performed leaves the bytes of a word so, and no others change
pub record Wrote (old new : History) (word : ℕ) (marks : List Bool) (bytes : List ℕ) : Type 0 where
  pub image : new.image ≡ old.image
  pub here : (k : ℕ) → k < 4 → last_performed new (word + k) ≡ cond (is_marked marks k) (slice_index bytes k) (last_performed old (word + k))
  pub there : (x : ℕ) → word_of x ≢ word → last_performed new x ≡ last_performed old x

pub record InMemory (image : Initial) (word : ℕ) : Type 0 where
  pub aligned : word % 4 ≡ 0
  pub low : base ≤ word
  pub high : word + 4 ≤ end_of image

pub holds_still : (old new : History) (memory : List ℕ) → new.image ≡ old.image → ((x : ℕ) → last_performed new x ≡ last_performed old x) → HoldsPerformed old memory → HoldsPerformed new memory
holds_still old new memory i f k = record {
  size = k.size ∙ sym (ap (λ (j : Initial). length j.bytes) i);
  bytes = λ x low high. k.bytes x low (subst (λ (j : Initial). x < end_of j) i high) ∙ sym (f x);
}

pub holds_wrote : (old new : History) (word : ℕ) (marks : List Bool) (bytes memory : List ℕ) → InMemory old.image word → Wrote old new word marks bytes → HoldsPerformed old memory → HoldsPerformed new (with_word word marks bytes memory)
holds_wrote old new word marks bytes memory m w k = record {
  size = length-word word marks bytes memory m.low ∙ (k.size ∙ sym (ap (λ (j : Initial). length j.bytes) w.image));
  bytes = λ x low high. at x low (subst (λ (j : Initial). x < end_of j) w.image high) (eqb_tells (word_of x) word);
}
  where
    at : (x : ℕ) → base ≤ x → x < end_of old.image → ((nat_eq (word_of x) word ≡ true) × (word_of x ≡ word)) ⊎ ((nat_eq (word_of x) word ≡ false) × (word_of x ≢ word)) → byte_in (with_word word marks bytes memory) x ≡ last_performed new x
    at x low high (inr q) =
        word_elsewhere word marks bytes memory m.low x low (λ e. q.1 (let a = m.aligned in omega (arith, e, a))) (λ e. q.1 (let a = m.aligned in omega (arith, e, a))) (λ e. q.1 (let a = m.aligned in omega (arith, e, a))) (λ e. q.1 (let a = m.aligned in omega (arith, e, a)))
        ∙ (k.bytes x low high ∙ sym (w.there x q.1))
    at x low high (inl q) =
        let place = x - word in
        let is : x ≡ word + (x - word) = let e = q.1 in omega (arith, e) in
        let few : x - word < 4 = let e = q.1 in omega (arith, e) in
        let inside : word + 3 - base < length memory = let h = m.high in let l = m.low in let z = k.size in omega (arith, h, l, z) in
        subst (λ y. byte_in (with_word word marks bytes memory) y ≡ last_performed new y) (sym is)
        (word_here word marks bytes memory m.low (x - word) few inside
        ∙ (ap (λ v. cond (is_marked marks (x - word)) (slice_index bytes (x - word)) v) (k.bytes (word + (x - word)) (subst (λ y. base ≤ y) is low) (subst (λ y. y < end_of old.image) is high))
        ∙ sym (w.here (x - word) few)))

-- ---- a deed

pub marked_or : (b : Bool) (byte v : ℕ) → unwrap_or (cond b (Some byte) None) v ≡ cond b byte v
marked_or true byte v = refl
marked_or false byte v = refl

-- a whole word's write, told by addresses
module _ (old new : History) (word value : ℕ) (aligned : word % 4 ≡ 0) (f : (x : ℕ) → last_performed new x ≡ unwrap_or (cond (nat_le word x && nat_lt x (word + 4)) (Some (number_byte word value x)) None) (last_performed old x)) where
  by_test : (x : ℕ) (b : Bool) → (nat_le word x && nat_lt x (word + 4)) ≡ b → last_performed new x ≡ cond b (number_byte word value x) (last_performed old x)
  by_test x b e = f x ∙ (ap (λ t. unwrap_or (cond t (Some (number_byte word value x)) None) (last_performed old x)) e ∙ marked_or b (number_byte word value x) (last_performed old x))

  inside : (k : ℕ) → k < 4 → (nat_le word (word + k) && nat_lt (word + k) (word + 4)) ≡ true
  inside k l = rw (le-leb word (word + k) (omega arith), lt-ltb (word + k) (word + 4) (omega (arith, l))) refl

  outside : (x : ℕ) → word_of x ≢ word → (nat_le word x && nat_lt x (word + 4)) ≡ false
  outside x other = false_from_ne_true _ (λ e. let p = and_parts (nat_le word x) (nat_lt x (word + 4)) e in let low = leb-true word x p.0 in let high = ltb-true x (word + 4) p.1 in other (omega (arith, aligned, low, high)))

  all_marked : (k : ℕ) → k < 4 → is_marked (marks_of_access 0 4) k ≡ true
  all_marked zero l = refl
  all_marked (suc zero) l = refl
  all_marked (suc (suc zero)) l = refl
  all_marked (suc (suc (suc zero))) l = refl
  all_marked (suc (suc (suc (suc k)))) l = absurd (omega (arith, l))

  pub number_wrote : new.image ≡ old.image → Wrote old new word (marks_of_access 0 4) (bytes_of_word value)
  number_wrote image = record {
    image = image;
    here = λ k l. by_test (word + k) true (inside k l)
        ∙ (ap (λ p. value / 256 ^ p % 256) (omega arith)
        ∙ sym (ap (λ b. cond b (slice_index (bytes_of_word value) k) (last_performed old (word + k))) (all_marked k l) ∙ place_at (λ p. value / 256 ^ p % 256) k l));
    there = λ x other. by_test x false (outside x other);
  }

-- the word that a deed writes lies in memory
abbrev pub WritesIn : Initial → Deed → Type 0
WritesIn image (deed.Sc word value) = InMemory image word
WritesIn image (deed.Amo word value) = InMemory image word
WritesIn image _ = Unit {0}

abbrev pub memory_by : Deed → List ℕ → List ℕ
memory_by (deed.Sc word value) memory = with_word word (marks_of_access 0 4) (bytes_of_word value) memory
memory_by (deed.Amo word value) memory = with_word word (marks_of_access 0 4) (bytes_of_word value) memory
memory_by _ memory = memory

pub deed_holds : (old new : History) (d : Deed) (memory : List ℕ) → new.image ≡ old.image → WritesIn old.image d → ((x : ℕ) → last_performed new x ≡ unwrap_or (bytes_by d x) (last_performed old x)) → HoldsPerformed old memory → HoldsPerformed new (memory_by d memory)
deed_holds old new (deed.Sc word value) memory i w f k = holds_wrote old new word (marks_of_access 0 4) (bytes_of_word value) memory w (number_wrote old new word value w.aligned f i) k
deed_holds old new (deed.Amo word value) memory i w f k = holds_wrote old new word (marks_of_access 0 4) (bytes_of_word value) memory w (number_wrote old new word value w.aligned f i) k
deed_holds old new deed.Private memory i w f k = holds_still old new memory i f k
deed_holds old new (deed.Output n) memory i w f k = holds_still old new memory i f k
deed_holds old new deed.Load memory i w f k = holds_still old new memory i f k
deed_holds old new (deed.Store s) memory i w f k = holds_still old new memory i f k
deed_holds old new deed.Seal memory i w f k = holds_still old new memory i f k
deed_holds old new (deed.Lr word) memory i w f k = holds_still old new memory i f k
deed_holds old new deed.Fail memory i w f k = holds_still old new memory i f k

-- ---- copies

no_copy : (held : Held) → Some held ≡ None → ⊥
no_copy held e = cc

pub record IsCopy (s : State) (line : ℕ) (held : Held) : Type 0 where
  pub piece : IsPiece s.trace.image line (length_of (line_size s))
  pub sized : size_of (bytes_in held) ≡ line_size s

-- a copy is one of a line of memory
pub copy_is : (s : State) → Joint s → (h line : ℕ) (held : Held) → copy_at (node_at s h).cache line ≡ Some held → IsCopy s line held
copy_is s j h line held e = go (is_piece s.trace.image line (length_of (line_size s))) refl
  where
    go : (b : Bool) → is_piece s.trace.image line (length_of (line_size s)) ≡ b → IsCopy s line held
    go true on =
        let is_newest : bytes_in held ≡ j.0 line = subst (IsLast (j.0 line)) e (newest ((j.1.fit.well.kept line on).stands h)) in
        record { piece = piece s.trace.image line (length_of (line_size s)) on; sized = ap size_of is_newest ∙ (j.1.agrees line on).sized }
    go false off = absurd (no_copy held (sym e ∙ ap (λ (x : Side). x.copy) (j.1.fit.well.outside line off h)))

all_hold : (s : State) → Joint s → IsCoherent s → AllHold s
all_hold s j c = coherent_holds s c (record { caches = λ h l. j.1.fit.sized h; copies = λ h line held l e. (copy_is s j h line held e).sized })

-- the word of an address lies in memory where the address's line does
word_inside : (image : Initial) (size : LineSize) (address : ℕ) → IsPiece image (line_of size address) (length_of size) → InMemory image (word_of address)
word_inside image Bytes16 address p = let l = p.low in let h = p.high in let a = p.aligned in record { aligned = omega arith; low = omega (arith, l); high = omega (arith, h) }
word_inside image Bytes64 address p = let l = p.low in let h = p.high in let a = p.aligned in record { aligned = omega arith; low = omega (arith, l); high = omega (arith, h) }

pub copied_word : (s : State) → Joint s → (h address : ℕ) (held : Held) → copy_at (node_at s h).cache (line_of (node_at s h).cache.shape.size address) ≡ Some held → InMemory s.trace.image (word_of address)
copied_word s j h address held e =
    word_inside s.trace.image (line_size s) address (copy_is s j h (line_of (line_size s) address) held (subst (λ z. copy_at (node_at s h).cache (line_of z address) ≡ Some held) (j.1.fit.sized h) e)).piece

four : (f g : ℕ → ℕ) → ((k : ℕ) → k < 4 → f k ≡ g k) → each_place f ≡ each_place g
four f g e = let a : f 0 ≡ g 0 = e 0 (omega arith) in let b : f 1 ≡ g 1 = e 1 (omega arith) in let c : f 2 ≡ g 2 = e 2 (omega arith) in let d : f 3 ≡ g 3 = e 3 (omega arith) in cc

pub reads_memory : (s : State) → Joint s → IsCoherent s → (memory : List ℕ) → HoldsPerformed s.trace memory → (h address : ℕ) (held : Held) → h < s.views.config.harts → copy_at (node_at s h).cache (line_of (node_at s h).cache.shape.size address) ≡ Some held → word_in (bytes_in held) (word_of address) ≡ of_flat.word_in memory (word_of address)
reads_memory s j c memory k h address held l e =
    let at = copied_word s j h address held e in
    let line = bytes_in held in
    let byte : ℕ → ℕ = λ i. slice_index (bytes_of line) (word_of address % length_of (size_of line) + i) in
    four byte (λ i. byte_in memory (word_of address + i))
    (λ i m. sym (place_at byte i m)
    ∙ (all_hold s j c h l address i held m e
    ∙ sym (k.bytes (word_of address + i) (let low = at.low in omega (arith, low)) (let high = at.high in omega (arith, high, m)))))
