-- What is read of a log's line is spelled so, and what is spelled so is read, whatever follows.
use Rattle.std.proofs.Common.{◌≡◌, ℕ, ◌-◌, ◌%◌, ◌<◌, ◌≤◌, true, eqb, leb, List, [], ◌∷◌, ◌++◌, Option, Some, None, length, refl, sym, ap, subst, ◌∙◌, arith, inl, inr}
use Rattle.std.specs.Prelude.{codes}
use Rattle.std.proofs.lemmas.Bool.{eqb-true, eq-eqb, leb-true, le-leb}
use Rattle.std.proofs.lemmas.List.{length-append}
use Rattle.std.proofs.lemmas.Option.{none-some, same_Some}
use Rattle.text_fields.specs.Fields.{number}
use Rattle.text_fields.specs.Reading.{◌>>=◌, number_at, seen_at}
use Rattle.text_fields.proofs.Laws.{Reads, bind_some, some_is, pair_reads, chain_reads, seen_takes, seen_again, led_reads, ended_reads, number_reads, checked_reads, both_true, chosen}
use Rattle.tl_types.specs.Message.{channel_of}
use Rattle.tl_types.specs.declared.line.LineData.{LineData}
use Rattle.tl_types.specs.declared.message.Channel.{Channel}
use Rattle.tl_types.specs.declared.message.Channel.TheVariants as channels
use Rattle.tl_types.specs.declared.message.Msg.{Msg}
use Rattle.trace_recorder.specs.declared.logged.Direction.{Direction}
use Rattle.trace_text.specs.TraceLines.{letter_of}
use Rattle.trace_text.specs.TraceReading.{data_at}
use Rattle.trace_text.specs.Words as words
use Rattle.wide_logs.specs.Entries.{IsEntry, IsSecond, carries_second, fields, line, second_text}
use Rattle.wide_logs.specs.Logs.{head}
use Rattle.wide_logs.specs.Reading.{fields_at, is_entry, line_at, message_parts_at, second_at, shape_at, width_at}
use Rattle.wide_logs.specs.Shapes.{IsShape, bytes_of_width, part_of, width_of_bytes}
use Rattle.trace_text.proofs.Scripts.{channel_reads}
use Rattle.trace_text.proofs.TraceLaws.{IsMsg, data_reads, direction_reads, message_reads}
use Rattle.wide_logs.specs.declared.entry.WideLogged.{WideLogged}
use Rattle.wide_logs.specs.declared.shape.Shape.{Shape}
use Rattle.wide_logs.specs.declared.shape.Width.{Width}
use Rattle.wide_logs.specs.declared.shape.Width.TheVariants.{Bytes16, Bytes32, Bytes64, Bytes128}

-- ---- the first line

width_number : Reads (number 10) (λ n. n ≤ 128) (number_at 10 128)
width_number = number_reads 10 128 (omega arith) (omega arith)

width_is : (n : ℕ) (w : Width) → width_of_bytes n ≡ Some w → n ≡ bytes_of_width w
width_is n w e =
    elim (chosen (eqb n 16) (Some Bytes16) _ (Some w) e) [
      | inl y ↦ eqb-true n 16 y.0 ∙ ap bytes_of_width (same_Some Bytes16 w y.1)
      | inr m ↦ elim (chosen (eqb n 32) (Some Bytes32) _ (Some w) m.1) [
        | inl y ↦ eqb-true n 32 y.0 ∙ ap bytes_of_width (same_Some Bytes32 w y.1)
        | inr m ↦ elim (chosen (eqb n 64) (Some Bytes64) _ (Some w) m.1) [
          | inl y ↦ eqb-true n 64 y.0 ∙ ap bytes_of_width (same_Some Bytes64 w y.1)
          | inr m ↦ elim (chosen (eqb n 128) (Some Bytes128) None (Some w) m.1) [
            | inl y ↦ eqb-true n 128 y.0 ∙ ap bytes_of_width (same_Some Bytes128 w y.1)
            | inr m ↦ absurd (none-some w m.1)
          ]
        ]
      ]
    ]

width_takes : (bytes : List ℕ) (w : Width) (rest : List ℕ) → width_at bytes ≡ Some (w, rest) → (bytes ≡ number 10 (bytes_of_width w) ++ rest) × Unit {0}
unfolding width_at
width_takes bytes w rest e =
    let p = bind_some (number_at 10 128 bytes) (λ n. width_of_bytes n.0 >>= λ w. Some (w, n.1)) (w, rest) e in
    let q = bind_some (width_of_bytes p.0.0) (λ w. Some (w, p.0.1)) (w, rest) p.2 in
    let t = width_number.takes bytes p.0.0 p.0.1 p.1 in
    let made : Width × List ℕ = (q.0, p.0.1) in
    subst (λ (y : Width × List ℕ). (bytes ≡ number 10 (bytes_of_width y.0) ++ y.1) × Unit {0}) (some_is made (w, rest) q.2) (t.0 ∙ ap (λ n. number 10 n ++ p.0.1) (width_is p.0.0 q.0 q.1), tt)

width_again : (w : Width) (rest : List ℕ) → width_at (number 10 (bytes_of_width w) ++ rest) ≡ Some (w, rest)
unfolding width_at
width_again Bytes16 rest = rw (width_number.again 16 rest (omega arith)) refl
width_again Bytes32 rest = rw (width_number.again 32 rest (omega arith)) refl
width_again Bytes64 rest = rw (width_number.again 64 rest (omega arith)) refl
width_again Bytes128 rest = rw (width_number.again 128 rest (omega arith)) refl

width_reads : Reads (λ w. number 10 (bytes_of_width w)) (λ w. Unit {0}) width_at
width_reads = record { takes = width_takes; again = λ w rest h. width_again w rest }

abbrev shape_from : ℕ × Width → Shape
shape_from p = record { clients = p.0; width = p.1 }

pub shape_reads : Reads head IsShape shape_at
unfolding shape_at
shape_reads =
    checked_reads (λ (p : ℕ × Width). leb 1 p.0) head IsShape shape_from (λ s. (s.clients, s.width))
    (λ p f e. (refl, record { some_client = leb-true 1 p.0 e; few_clients = f.0 }))
    (λ s h. (refl, ((h.few_clients, tt), le-leb 1 s.clients h.some_client)))
    (led_reads (codes "rvtl-log 1 ") (pair_reads (number_reads 32 64 (omega arith) (omega arith)) width_reads))

-- ---- a message

second_takes : (width : Width) (m : Msg) (bytes : List ℕ) (x : Option LineData) (rest : List ℕ) → second_at width m bytes ≡ Some (x, rest) → (bytes ≡ second_text x ++ rest) × IsSecond width m.body x
unfolding second_at
second_takes width m bytes x rest e =
    elim (chosen (carries_second width m.body) (seen_at (λ d. Some d) (data_at (part_of width)) bytes) (Some (None, bytes)) (Some (x, rest)) e) [
      | inl y ↦ seen_takes (data_reads (part_of width)) (λ d. Some d) second_text (IsSecond width m.body) (λ d h. (refl, (y.0, h))) bytes x rest y.1
      | inr n ↦
          let made : Option LineData × List ℕ = (None, bytes) in
          subst (λ (z : Option LineData × List ℕ). (bytes ≡ second_text z.0 ++ z.1) × IsSecond width m.body z.0) (some_is made (x, rest) n.1) (refl, n.0)
    ]

second_again : (width : Width) (m : Msg) (x : Option LineData) (rest : List ℕ) → IsSecond width m.body x → second_at width m (second_text x ++ rest) ≡ Some (x, rest)
unfolding second_at
second_again width m None rest h = rw h refl
second_again width m (Some d) rest h = rw h.0 (seen_again (data_reads (part_of width)) (λ d. Some d) d rest h.1)

second_reads : (width : Width) (m : Msg) → Reads second_text (IsSecond width m.body) (second_at width m)
second_reads width m = record { takes = second_takes width m; again = second_again width m }

message_parts_reads : (width : Width) → Reads (λ (p : Msg × Option LineData). words.message p.0 ++ second_text p.1) (λ p. IsMsg (part_of width) p.0 × IsSecond width p.0.body p.1) (message_parts_at width)
unfolding message_parts_at
message_parts_reads width = chain_reads (message_reads (part_of width)) (λ m h. second_reads width m)

letter_is : (c : Channel) → letter_of c ∷ 32 ∷ [] ≡ words.channel c
letter_is channels.A = refl
letter_is channels.B = refl
letter_is channels.C = refl
letter_is channels.D = refl
letter_is channels.E = refl

-- the fields of a message's line as they stand there
abbrev Parts : Type 0
Parts = Direction × (Channel × (ℕ × (Msg × Option LineData)))

abbrev entry_from : Parts → WideLogged
entry_from x = record { first = record { direction = x.0; hart = x.1.1.0; message = x.1.1.1.0 }; second = x.1.1.1.1 }

abbrev parts_of : WideLogged → Parts
parts_of e = (e.first.direction, (channel_of e.first.message, (e.first.hart, (e.first.message, e.second))))

abbrev AreParts : Shape → Parts → Type 0
AreParts s x = Unit {0} × (Unit {0} × ((x.1.1.0 ≤ s.clients - 1) × (IsMsg (part_of s.width) x.1.1.1.0 × IsSecond s.width x.1.1.1.0.body x.1.1.1.1)))

parts_forth : (s : Shape) → IsShape s → (x : Parts) → AreParts s x → is_entry s.width x.1.0 x.1.1.1.0 ≡ true
    → (words.direction x.0 ++ (words.channel x.1.0 ++ (number 32 x.1.1.0 ++ ((words.message x.1.1.1.0 ++ second_text x.1.1.1.1) ++ 10 ∷ []))) ≡ fields (entry_from x)) × IsEntry s (entry_from x)
parts_forth s h x f e =
    let m : Msg = x.1.1.1.0 in
    let a = both_true (eqb (letter_of x.1.0) (letter_of (channel_of m))) (eqb (m.line % bytes_of_width s.width) 0) e in
    let channel : words.channel x.1.0 ≡ words.channel (channel_of m) = sym (letter_is x.1.0) ∙ ap (λ l. l ∷ 32 ∷ []) (eqb-true _ _ a.0) ∙ letter_is (channel_of m) in (
      ap (λ t. words.direction x.0 ++ (t ++ (number 32 x.1.1.0 ++ ((words.message m ++ second_text x.1.1.1.1) ++ 10 ∷ [])))) channel,
      record {
        client = omega (arith, f.1.1.0, h.some_client);
        whole = eqb-true _ _ a.1;
        inside = f.1.1.1.0.line;
        body = f.1.1.1.0.body;
        second = f.1.1.1.1;
      },
    )

parts_back : (s : Shape) → IsShape s → (e : WideLogged) → IsEntry s e → (entry_from (parts_of e) ≡ e) × (AreParts s (parts_of e) × (is_entry s.width (channel_of e.first.message) e.first.message ≡ true))
parts_back s h e f = (
  refl,
  (
    (tt, (tt, (omega (arith, f.client), (record { line = f.inside; body = f.body }, f.second)))),
    rw (eq-eqb (letter_of (channel_of e.first.message)) (letter_of (channel_of e.first.message)) refl, f.whole) refl,
  ),
)

fields_reads : (s : Shape) → IsShape s → Reads fields (IsEntry s) (fields_at s)
unfolding fields_at
fields_reads s h =
    checked_reads (λ (x : Parts). is_entry s.width x.1.0 x.1.1.1.0) fields (IsEntry s) entry_from parts_of (parts_forth s h) (parts_back s h)
    (pair_reads direction_reads (pair_reads channel_reads (pair_reads (number_reads 32 (s.clients - 1) (omega arith) (omega (arith, h.few_clients))) (ended_reads 10 (message_parts_reads s.width)))))

pub line_reads : (s : Shape) → IsShape s → Reads line (IsEntry s) (line_at s)
unfolding line_at
line_reads s h = led_reads (codes "M ") (fields_reads s h)

pub line_shortens : (s : Shape) → IsShape s → (bytes : List ℕ) (x : WideLogged) (rest : List ℕ) → line_at s bytes ≡ Some (x, rest) → length rest < length bytes
line_shortens s h bytes x rest e =
    let long : 0 < length (line x) = omega arith in
    omega (arith, ap length ((line_reads s h).takes bytes x rest e).0, length-append (line x) rest, long)
