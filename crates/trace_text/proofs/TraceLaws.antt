-- What is read of a trace's line is spelled so, and what is spelled so is read, whatever follows.
use Rattle.std.proofs.Common.{◌≡◌, ℕ, ◌+◌, ◌-◌, ◌*◌, ◌%◌, ◌^◌, ◌<◌, ◌≤◌, Bool, ◌&&◌, true, false, eqb, leb, ltb, List, [], ◌∷◌, ◌++◌, Option, Some, None, refl, sym, ap, subst, ◌∙◌, arith, inl, inr}
use Rattle.std.specs.Prelude.{codes}
use Rattle.std.proofs.lemmas.Bool.{eqb-true, eq-eqb, leb-true, le-leb, ltb-true, lt-ltb}
use Rattle.std.specs.Option.{option_or}
use Rattle.machine_types.specs.declared.limits.TheConstants.{MAX_ENTRIES, MAX_HARTS, MAX_KIB}
use Rattle.elf_loader.specs.Size.{base}
use Rattle.text_fields.specs.Fields.{number, word, hex, IsBytes}
use Rattle.text_fields.specs.Reading.{◌>>=◌, seen_at, led_at, table_at, after, number_at, word_at}
use Rattle.text_fields.proofs.Laws.{Reads, bind_some, some_is, pair_reads, chain_reads, seen_reads, seen_takes, seen_again, led_reads, ended_reads, table_reads, number_reads, word_reads, hex_reads, after_takes, either_takes, text_takes, checked_reads, both_true}
use Rattle.hart.specs.declared.status.Status.{Status}
use Rattle.hart.specs.declared.status.Status.TheVariants.{Running, Stopped, Exited}
use Rattle.tl_types.specs.Line.{bytes_of, length_of}
use Rattle.tl_types.specs.Message.{channel_of}
use Rattle.tl_types.specs.declared.message.Channel.{Channel}
use Rattle.tl_types.specs.declared.message.Channel.TheVariants as channels
use Rattle.tl_types.specs.declared.line.LineSize.{LineSize}
use Rattle.tl_types.specs.declared.line.LineSize.TheVariants as sizes
use Rattle.tl_types.specs.declared.line.LineData.{LineData}
use Rattle.tl_types.specs.declared.line.LineData.TheVariants as lines
use Rattle.tl_types.specs.declared.message.Body.{Body}
use Rattle.tl_types.specs.declared.message.Body.TheVariants as bodies
use Rattle.tl_types.specs.declared.message.Msg.{Msg}
use Rattle.tl_types.specs.declared.permission.Cap.{Cap}
use Rattle.tl_types.specs.declared.permission.Cap.TheVariants.{ToT, ToB, ToN}
use Rattle.tl_types.specs.declared.permission.Change.{Change}
use Rattle.tl_types.specs.declared.permission.Change.TheVariants.{TtoB, TtoN, BtoN, TtoT, BtoB, NtoN}
use Rattle.tl_types.specs.declared.permission.Grow.{Grow}
use Rattle.tl_types.specs.declared.permission.Grow.TheVariants.{NtoB, NtoT, BtoT}
use Rattle.trace_recorder.specs.declared.operation.OpId.{OpId}
use Rattle.trace_recorder.specs.declared.logged.Direction.{Direction}
use Rattle.trace_recorder.specs.declared.logged.Direction.TheVariants.{Sent, Taken}
use Rattle.trace_text.specs.declared.message_reading.Name.{Name}
use Rattle.trace_text.specs.declared.message_reading.Name.TheVariants as names
use Rattle.trace_recorder.specs.declared.logged.Logged.{Logged}
use Rattle.trace_text.specs.declared.head.TraceHead.{TraceHead}
use Rattle.trace_text.specs.Traces.{retired_text, status_word}
use Rattle.trace_text.specs.TraceLimits.{IsLoaded, IsRetired, IsOperation, IsData, IsBody, IsLogged, IsStatus}
use Rattle.trace_text.specs.TraceReading.{directions, direction_at, grows, grow_at, caps, cap_at, changes, change_at, answers, answer_at, loaded_at, data_at, all_names, name_at, change_data_at, cap_data_at, carried_at, message_at}
use Rattle.trace_text.specs.TraceLines.{word_field_at, loaded_field_at, answer_line_at, retired_at, operation_at, stop_at, exit_at, status_at, is_line, letter_of, letter_at, is_logged, logged_at}
use Rattle.trace_text.specs.Words as words

-- ---- words by tables

direction_again : (x : Direction) (rest : List ℕ) → table_at directions (words.direction x ++ rest) ≡ Some (x, rest)
direction_again Sent rest = refl
direction_again Taken rest = refl

pub direction_reads : Reads words.direction (λ x. Unit {0}) direction_at
unfolding direction_at
direction_reads = table_reads words.direction directions (refl, (refl, tt)) direction_again

grow_again : (x : Grow) (rest : List ℕ) → table_at grows (words.grow x ++ rest) ≡ Some (x, rest)
grow_again NtoB rest = refl
grow_again NtoT rest = refl
grow_again BtoT rest = refl

pub grow_reads : Reads words.grow (λ x. Unit {0}) grow_at
unfolding grow_at
grow_reads = table_reads words.grow grows (refl, (refl, (refl, tt))) grow_again

cap_again : (x : Cap) (rest : List ℕ) → table_at caps (words.cap x ++ rest) ≡ Some (x, rest)
cap_again ToT rest = refl
cap_again ToB rest = refl
cap_again ToN rest = refl

pub cap_reads : Reads words.cap (λ x. Unit {0}) cap_at
unfolding cap_at
cap_reads = table_reads words.cap caps (refl, (refl, (refl, tt))) cap_again

change_again : (x : Change) (rest : List ℕ) → table_at changes (words.change x ++ rest) ≡ Some (x, rest)
change_again TtoB rest = refl
change_again TtoN rest = refl
change_again BtoN rest = refl
change_again TtoT rest = refl
change_again BtoB rest = refl
change_again NtoN rest = refl

pub change_reads : Reads words.change (λ x. Unit {0}) change_at
unfolding change_at
change_reads = table_reads words.change changes (refl, (refl, (refl, (refl, (refl, (refl, tt)))))) change_again

answer_again : (x : Option Bool) (rest : List ℕ) → table_at answers (words.answer x ++ rest) ≡ Some (x, rest)
answer_again None rest = refl
answer_again (Some true) rest = refl
answer_again (Some false) rest = refl

pub answer_reads : Reads words.answer (λ x. Unit {0}) answer_at
unfolding answer_at
answer_reads = table_reads words.answer answers (refl, (refl, (refl, tt))) answer_again

-- ---- retired instructions and operations

loaded_takes : (bytes : List ℕ) (x : Option ℕ) (rest : List ℕ) → loaded_at bytes ≡ Some (x, rest) → (bytes ≡ words.loaded x ++ rest) × IsLoaded x
unfolding loaded_at
loaded_takes bytes x rest e =
    elim (either_takes (after (codes "-") bytes >>= λ r. Some (None, r)) (seen_at (λ n. Some n) word_at bytes) (x, rest) e) [
      | inl y ↦
          let p = bind_some (after (codes "-") bytes) (λ r. Some (None, r)) (x, rest) y in
          let made : Option ℕ × List ℕ = (None, p.0) in
          subst (λ (z : Option ℕ × List ℕ). (bytes ≡ words.loaded z.0 ++ z.1) × IsLoaded z.0) (some_is made (x, rest) p.2) (after_takes (codes "-") bytes p.0 p.1, tt)
      | inr n ↦ seen_takes word_reads (λ n. Some n) words.loaded IsLoaded (λ x h. (refl, h)) bytes x rest n.1
    ]

loaded_again : (x : Option ℕ) (rest : List ℕ) → IsLoaded x → loaded_at (words.loaded x ++ rest) ≡ Some (x, rest)
unfolding loaded_at
loaded_again None rest h = refl
loaded_again (Some n) rest h = seen_again word_reads (λ n. Some n) n rest h

pub loaded_reads : Reads words.loaded IsLoaded loaded_at
loaded_reads = record { takes = loaded_takes; again = loaded_again }

pub retired_reads : Reads retired_text IsRetired retired_at
unfolding retired_at word_field_at loaded_field_at answer_line_at
retired_reads =
    seen_reads retired_text IsRetired (λ p. record { pc = p.0; word = p.1.0; loaded = p.1.1.0; sc_ok = p.1.1.1 }) (λ r. (r.pc, (r.word, (r.loaded, r.sc_ok))))
    (λ x h. (refl, record { pc = h.0; word = h.1.0; loaded = h.1.1.0 })) (λ y h. (refl, (h.pc, (h.word, (h.loaded, tt)))))
    (pair_reads (ended_reads 32 word_reads) (pair_reads (ended_reads 32 word_reads) (pair_reads (ended_reads 32 loaded_reads) (ended_reads 10 answer_reads))))

abbrev pub op : OpId → List ℕ
op o = number 32 o.hart ++ number 10 o.place

pub operation_reads : (harts : ℕ) → 0 < harts → harts ≤ MAX_HARTS → Reads op (IsOperation harts) (operation_at harts)
unfolding operation_at
operation_reads harts some le =
    seen_reads op (IsOperation harts) (λ p. record { hart = p.0; place = p.1 }) (λ o. (o.hart, o.place)) (λ x h. (refl, (omega (arith, h.0), omega (arith, h.1)))) (λ y h. (refl, (omega (arith, h.0), omega (arith, h.1))))
    (pair_reads (number_reads 32 (harts - 1) (omega arith) (omega arith)) (number_reads 10 (MAX_ENTRIES - 1) (omega arith) (omega arith)))

-- ---- data and messages

abbrev pub digits_of : LineData → List ℕ
digits_of d = hex (bytes_of d)

back16 : (y : LineData) → IsData sizes.Bytes16 y → (lines.Bytes16 (bytes_of y) ≡ y) × IsBytes 16 (bytes_of y)
back16 (lines.Bytes16 d) h = (refl, h)
back16 (lines.Bytes64 d) h = absurd h

back64 : (y : LineData) → IsData sizes.Bytes64 y → (lines.Bytes64 (bytes_of y) ≡ y) × IsBytes 64 (bytes_of y)
back64 (lines.Bytes16 d) h = absurd h
back64 (lines.Bytes64 d) h = (refl, h)

pub data_reads : (size : LineSize) → Reads digits_of (IsData size) (data_at size)
unfolding data_at
data_reads sizes.Bytes16 = seen_reads digits_of (IsData sizes.Bytes16) (λ d. lines.Bytes16 d) bytes_of (λ x h. (refl, h)) back16 (hex_reads 16)
data_reads sizes.Bytes64 = seen_reads digits_of (IsData sizes.Bytes64) (λ d. lines.Bytes64 d) bytes_of (λ x h. (refl, h)) back64 (hex_reads 64)

-- ---- messages

abbrev pub name_word : Name → List ℕ
name_word names.AcquireBlock = codes "AcquireBlock "
name_word names.ProbeBlock = codes "ProbeBlock "
name_word names.ProbeAck = codes "ProbeAck "
name_word names.ProbeAckData = codes "ProbeAckData "
name_word names.Release = codes "Release "
name_word names.ReleaseData = codes "ReleaseData "
name_word names.Grant = codes "Grant "
name_word names.GrantData = codes "GrantData "
name_word names.ReleaseAck = codes "ReleaseAck "
name_word names.GrantAck = codes "GrantAck "

name_again : (x : Name) (rest : List ℕ) → table_at all_names (name_word x ++ rest) ≡ Some (x, rest)
name_again names.AcquireBlock rest = refl
name_again names.ProbeBlock rest = refl
name_again names.ProbeAck rest = refl
name_again names.ProbeAckData rest = refl
name_again names.Release rest = refl
name_again names.ReleaseData rest = refl
name_again names.Grant rest = refl
name_again names.GrantData rest = refl
name_again names.ReleaseAck rest = refl
name_again names.GrantAck rest = refl

pub name_reads : Reads name_word (λ x. Unit {0}) name_at
unfolding name_at
name_reads = table_reads name_word all_names (refl, (refl, (refl, (refl, (refl, (refl, (refl, (refl, (refl, (refl, tt)))))))))) name_again

abbrev pub name_of : Body → Name
name_of (bodies.AcquireBlock g) = names.AcquireBlock
name_of (bodies.ProbeBlock c) = names.ProbeBlock
name_of (bodies.ProbeAck c) = names.ProbeAck
name_of (bodies.ProbeAckData c d) = names.ProbeAckData
name_of (bodies.Release c) = names.Release
name_of (bodies.ReleaseData c d) = names.ReleaseData
name_of (bodies.Grant c) = names.Grant
name_of (bodies.GrantData c d) = names.GrantData
name_of bodies.ReleaseAck = names.ReleaseAck
name_of bodies.GrantAck = names.GrantAck

name_is : (b : Body) → name_word (name_of b) ≡ words.name b
name_is (bodies.AcquireBlock g) = refl
name_is (bodies.ProbeBlock c) = refl
name_is (bodies.ProbeAck c) = refl
name_is (bodies.ProbeAckData c d) = refl
name_is (bodies.Release c) = refl
name_is (bodies.ReleaseData c d) = refl
name_is (bodies.Grant c) = refl
name_is (bodies.GrantData c d) = refl
name_is bodies.ReleaseAck = refl
name_is bodies.GrantAck = refl

change_data_reads : (size : LineSize) → Reads (λ (p : Change × LineData). words.change p.0 ++ words.payload p.1) (λ p. Unit {0} × IsData size p.1) (change_data_at size)
unfolding change_data_at
change_data_reads size = pair_reads change_reads (led_reads (32 ∷ []) (data_reads size))

cap_data_reads : (size : LineSize) → Reads (λ (p : Cap × LineData). words.cap p.0 ++ words.payload p.1) (λ p. Unit {0} × IsData size p.1) (cap_data_at size)
unfolding cap_data_at
cap_data_reads size = pair_reads cap_reads (led_reads (32 ∷ []) (data_reads size))

abbrev pub IsCarried : LineSize → Name → Body → Type 0
IsCarried size n b = (name_of b ≡ n) × IsBody size b

carried_takes : (size : LineSize) (n : Name) (bytes : List ℕ) (b : Body) (rest : List ℕ) → carried_at size n bytes ≡ Some (b, rest) → (bytes ≡ words.carried b ++ rest) × IsCarried size n b
unfolding carried_at
carried_takes size names.AcquireBlock bytes b rest e = seen_takes grow_reads (λ v. bodies.AcquireBlock v) words.carried (IsCarried size names.AcquireBlock) (λ x h. (refl, (refl, tt))) bytes b rest e
carried_takes size names.ProbeBlock bytes b rest e = seen_takes cap_reads (λ v. bodies.ProbeBlock v) words.carried (IsCarried size names.ProbeBlock) (λ x h. (refl, (refl, tt))) bytes b rest e
carried_takes size names.ProbeAck bytes b rest e = seen_takes change_reads (λ v. bodies.ProbeAck v) words.carried (IsCarried size names.ProbeAck) (λ x h. (refl, (refl, tt))) bytes b rest e
carried_takes size names.ProbeAckData bytes b rest e = seen_takes (change_data_reads size) (λ p. bodies.ProbeAckData p.0 p.1) words.carried (IsCarried size names.ProbeAckData) (λ x h. (refl, (refl, h.1))) bytes b rest e
carried_takes size names.Release bytes b rest e = seen_takes change_reads (λ v. bodies.Release v) words.carried (IsCarried size names.Release) (λ x h. (refl, (refl, tt))) bytes b rest e
carried_takes size names.ReleaseData bytes b rest e = seen_takes (change_data_reads size) (λ p. bodies.ReleaseData p.0 p.1) words.carried (IsCarried size names.ReleaseData) (λ x h. (refl, (refl, h.1))) bytes b rest e
carried_takes size names.Grant bytes b rest e = seen_takes cap_reads (λ v. bodies.Grant v) words.carried (IsCarried size names.Grant) (λ x h. (refl, (refl, tt))) bytes b rest e
carried_takes size names.GrantData bytes b rest e = seen_takes (cap_data_reads size) (λ p. bodies.GrantData p.0 p.1) words.carried (IsCarried size names.GrantData) (λ x h. (refl, (refl, h.1))) bytes b rest e
carried_takes size names.ReleaseAck bytes b rest e =
    let made : Body × List ℕ = (bodies.ReleaseAck, bytes) in
    subst (λ (y : Body × List ℕ). (bytes ≡ words.carried y.0 ++ y.1) × IsCarried size names.ReleaseAck y.0) (some_is made (b, rest) e) (refl, (refl, tt))
carried_takes size names.GrantAck bytes b rest e =
    let made : Body × List ℕ = (bodies.GrantAck, bytes) in
    subst (λ (y : Body × List ℕ). (bytes ≡ words.carried y.0 ++ y.1) × IsCarried size names.GrantAck y.0) (some_is made (b, rest) e) (refl, (refl, tt))

carried_again : (size : LineSize) (b : Body) (rest : List ℕ) → IsBody size b → carried_at size (name_of b) (words.carried b ++ rest) ≡ Some (b, rest)
unfolding carried_at
carried_again size (bodies.AcquireBlock g) rest h = seen_again grow_reads (λ v. bodies.AcquireBlock v) g rest tt
carried_again size (bodies.ProbeBlock c) rest h = seen_again cap_reads (λ v. bodies.ProbeBlock v) c rest tt
carried_again size (bodies.ProbeAck c) rest h = seen_again change_reads (λ v. bodies.ProbeAck v) c rest tt
carried_again size (bodies.ProbeAckData c d) rest h = seen_again (change_data_reads size) (λ p. bodies.ProbeAckData p.0 p.1) (c, d) rest (tt, h)
carried_again size (bodies.Release c) rest h = seen_again change_reads (λ v. bodies.Release v) c rest tt
carried_again size (bodies.ReleaseData c d) rest h = seen_again (change_data_reads size) (λ p. bodies.ReleaseData p.0 p.1) (c, d) rest (tt, h)
carried_again size (bodies.Grant c) rest h = seen_again cap_reads (λ v. bodies.Grant v) c rest tt
carried_again size (bodies.GrantData c d) rest h = seen_again (cap_data_reads size) (λ p. bodies.GrantData p.0 p.1) (c, d) rest (tt, h)
carried_again size bodies.ReleaseAck rest h = refl
carried_again size bodies.GrantAck rest h = refl

pub carried_reads : (size : LineSize) (n : Name) → Reads words.carried (IsCarried size n) (carried_at size n)
carried_reads size n = record {
  takes = carried_takes size n;
  again = λ b rest h. ap (λ k. carried_at size k (words.carried b ++ rest)) (sym h.0) ∙ carried_again size b rest h.1;
}

pub record IsMsg (size : LineSize) (m : Msg) : Type 0 where
  pub line : m.line < 2 ^ 32
  pub body : IsBody size m.body

pub message_reads : (size : LineSize) → Reads words.message (IsMsg size) (message_at size)
unfolding message_at
message_reads size =
    seen_reads words.message (IsMsg size) (λ p. record { line = p.1.0; body = p.1.1 }) (λ m. (name_of m.body, (m.line, m.body)))
    (λ x h. (ap (λ t. t ++ (word x.1.0 ++ words.carried x.1.1)) (ap name_word (sym h.1.1.0) ∙ name_is x.1.1), record { line = h.1.0; body = h.1.1.1 }))
    (λ m h. (refl, (tt, (h.line, (refl, h.body)))))
    (chain_reads name_reads (λ n u. pair_reads word_reads (carried_reads size n)))

-- ---- a message that was sent or taken

letter_takes : (bytes : List ℕ) (x : ℕ) (rest : List ℕ) → letter_at bytes ≡ Some (x, rest) → (bytes ≡ (x ∷ 32 ∷ []) ++ rest) × Unit {0}
unfolding letter_at
letter_takes [] x rest e = absurd cc
letter_takes (c ∷ bytes) x rest e =
    let p = bind_some (after (32 ∷ []) bytes) (λ r. Some (c, r)) (x, rest) e in
    let made : ℕ × List ℕ = (c, p.0) in
    subst (λ (z : ℕ × List ℕ). (c ∷ bytes ≡ (z.0 ∷ 32 ∷ []) ++ z.1) × Unit {0}) (some_is made (x, rest) p.2) (ap (λ t. c ∷ t) (after_takes (32 ∷ []) bytes p.0 p.1), tt)

letter_again : (x : ℕ) (rest : List ℕ) → letter_at ((x ∷ 32 ∷ []) ++ rest) ≡ Some (x, rest)
unfolding letter_at
letter_again x rest = refl

letter_reads : Reads (λ c. c ∷ 32 ∷ []) (λ c. Unit {0}) letter_at
letter_reads = record { takes = letter_takes; again = λ x rest h. letter_again x rest }

letter_is : (c : Channel) → letter_of c ∷ 32 ∷ [] ≡ words.channel c
letter_is channels.A = refl
letter_is channels.B = refl
letter_is channels.C = refl
letter_is channels.D = refl
letter_is channels.E = refl

abbrev pub logged_fields : Logged → List ℕ
logged_fields l = words.direction l.direction ++ (words.channel (channel_of l.message) ++ (number 32 l.hart ++ (words.message l.message ++ 10 ∷ [])))

-- the fields of a message's line as they stand there
abbrev Fields : Type 0
Fields = Direction × (ℕ × (ℕ × Msg))

abbrev logged_from : Fields → Logged
logged_from x = record { direction = x.0; hart = x.1.1.0; message = x.1.1.1 }

abbrev fields_of : Logged → Fields
fields_of l = (l.direction, (letter_of (channel_of l.message), (l.hart, l.message)))

abbrev AreFields : TraceHead → Fields → Type 0
AreFields h x = Unit {0} × (Unit {0} × ((x.1.1.0 ≤ h.harts - 1) × IsMsg h.line x.1.1.1))

logged_forth : (h : TraceHead) → 0 < h.harts → (x : Fields) → AreFields h x → is_logged h.kib h.line x.1.0 x.1.1.1 ≡ true
    → (words.direction x.0 ++ ((x.1.0 ∷ 32 ∷ []) ++ (number 32 x.1.1.0 ++ (words.message x.1.1.1 ++ 10 ∷ []))) ≡ logged_fields (logged_from x)) × IsLogged h (logged_from x)
logged_forth h some x f e =
    let m : Msg = x.1.1.1 in
    let width : ℕ = length_of h.line in
    let a = both_true (eqb x.1.0 (letter_of (channel_of m))) (is_line h.kib width m.line) e in
    let b = both_true (eqb (m.line % width) 0 && leb base m.line) (ltb m.line (base + h.kib * 1024)) a.1 in
    let c = both_true (eqb (m.line % width) 0) (leb base m.line) b.0 in
    let letter : x.1.0 ∷ 32 ∷ [] ≡ words.channel (channel_of m) = ap (λ l. l ∷ 32 ∷ []) (eqb-true _ _ a.0) ∙ letter_is (channel_of m) in (
      ap (λ t. words.direction x.0 ++ (t ++ (number 32 x.1.1.0 ++ (words.message m ++ 10 ∷ [])))) letter,
      record {
        hart = omega (arith, f.1.1.0);
        whole = eqb-true _ _ c.0;
        from = leb-true _ _ c.1;
        inside = ltb-true _ _ b.1;
        body = f.1.1.1.body;
      },
    )

logged_back : (h : TraceHead) → 0 < h.harts → h.kib ≤ MAX_KIB → (l : Logged) → IsLogged h l → (logged_from (fields_of l) ≡ l) × (AreFields h (fields_of l) × (is_logged h.kib h.line (letter_of (channel_of l.message)) l.message ≡ true))
logged_back h some small l f = (
  refl,
  (
    (tt, (tt, (omega (arith, f.hart), record { line = omega (arith, f.inside); body = f.body }))),
    rw (eq-eqb (letter_of (channel_of l.message)) (letter_of (channel_of l.message)) refl, f.whole, le-leb _ _ f.from, lt-ltb _ _ f.inside) refl,
  ),
)

pub logged_reads : (h : TraceHead) → 0 < h.harts → h.harts ≤ MAX_HARTS → h.kib ≤ MAX_KIB → Reads logged_fields (IsLogged h) (logged_at h.harts h.kib h.line)
unfolding logged_at
logged_reads h some le small =
    checked_reads (λ x. is_logged h.kib h.line x.1.0 x.1.1.1) logged_fields (IsLogged h) logged_from fields_of (logged_forth h some) (logged_back h some small)
    (pair_reads direction_reads (pair_reads letter_reads (pair_reads (number_reads 32 (h.harts - 1) (omega arith) (omega arith)) (ended_reads 10 (message_reads h.line)))))

-- ---- statuses

stop_law : Reads (λ c. codes "stop " ++ number 10 c) (λ c. c ≤ 8) (led_at (codes "stop ") (number_at 10 8))
stop_law = led_reads (codes "stop ") (number_reads 10 8 (omega arith) (omega arith))

exit_law : Reads (λ c. codes "exit " ++ number 10 c) (λ c. c ≤ 255) (led_at (codes "exit ") (number_at 10 255))
exit_law = led_reads (codes "exit ") (number_reads 10 255 (omega arith) (omega arith))

status_takes : (bytes : List ℕ) (x : Status) (rest : List ℕ) → status_at bytes ≡ Some (x, rest) → (bytes ≡ status_word x ++ rest) × IsStatus x
unfolding status_at stop_at exit_at
status_takes bytes x rest e =
    elim (either_takes (after (codes "run\n") bytes >>= λ r. Some (Running, r)) (option_or (stop_at bytes) (exit_at bytes)) (x, rest) e) [
      | inl y ↦ text_takes (codes "run\n") Running status_word IsStatus refl tt bytes x rest y
      | inr n ↦ elim (either_takes (stop_at bytes) (exit_at bytes) (x, rest) n.1) [
        | inl y ↦ seen_takes stop_law (λ c. Stopped c) status_word IsStatus (λ x h. (refl, h)) bytes x rest y
        | inr n ↦ seen_takes exit_law (λ c. Exited c) status_word IsStatus (λ x h. (refl, h)) bytes x rest n.1
      ]
    ]

stop_again : (c : ℕ) (rest : List ℕ) → c ≤ 8 → stop_at (status_word (Stopped c) ++ rest) ≡ Some (Stopped c, rest)
unfolding stop_at
stop_again c rest h = seen_again stop_law (λ c. Stopped c) c rest h

exit_again : (c : ℕ) (rest : List ℕ) → c ≤ 255 → (stop_at (status_word (Exited c) ++ rest) ≡ None) × (exit_at (status_word (Exited c) ++ rest) ≡ Some (Exited c, rest))
unfolding stop_at exit_at
exit_again c rest h = (refl, seen_again exit_law (λ c. Exited c) c rest h)

status_again : (x : Status) (rest : List ℕ) → IsStatus x → status_at (status_word x ++ rest) ≡ Some (x, rest)
unfolding status_at
status_again Running rest h = refl
status_again (Stopped c) rest h = rw (stop_again c rest h) refl
status_again (Exited c) rest h = let e = exit_again c rest h in rw (e.0, e.1) refl

pub status_reads : Reads status_word IsStatus status_at
status_reads = record { takes = status_takes; again = status_again }
