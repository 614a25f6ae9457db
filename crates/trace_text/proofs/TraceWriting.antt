-- How a trace's parts stand in its text.
use Rattle.std.proofs.Common.{◌≡◌, ℕ, suc, ◌+◌, ◌-◌, ◌/◌, ◌<◌, ◌≤◌, List, [], ◌∷◌, ◌++◌, length, take, drop, refl, sym, ap, subst, ◌∙◌, append_assoc, arith, inl, inr}
use Rattle.std.proofs.lemmas.List.{append-nil, length-drop, take_all}
use Rattle.elf_loader.specs.Size.{base}
use Rattle.text_fields.specs.Fields.{number, word, numbered}
use Rattle.tl_types.specs.Line.{length_of}
use Rattle.tl_types.specs.Message.{channel_of}
use Rattle.tl_types.specs.declared.line.LineSize.{LineSize}
use Rattle.tl_types.specs.declared.line.LineSize.TheVariants.{Bytes16, Bytes64}
use Rattle.tl_types.specs.declared.message.Body.{Body}
use Rattle.tl_types.specs.declared.message.Body.TheVariants.{AcquireBlock, ProbeBlock, ProbeAck, ProbeAckData, Release, ReleaseData, Grant, GrantData, ReleaseAck, GrantAck}
use Rattle.trace_recorder.specs.declared.logged.Logged.{Logged}
use Rattle.trace_text.specs.MessageParts.{permissions, data_of, payload_of}
use Rattle.trace_text.specs.Traces.{image_line, image_lines, image, logged}
use Rattle.trace_text.specs.Widths.{IsWidth}
use Rattle.trace_text.specs.Words as words

pub width_is : (size : LineSize) → IsWidth (length_of size)
width_is Bytes16 = inl refl
width_is Bytes64 = inr refl

pub width_of : (width : ℕ) (size : LineSize) → width ≡ length_of size → IsWidth width
width_of width size e = subst IsWidth (sym e) (width_is size)

pub one_line_more : (width n : ℕ) → IsWidth width → width ≤ n → n / width ≡ suc ((n - width) / width)
one_line_more width n (inl e) le = let le16 : 16 ≤ n = omega arith in subst (λ w. n / w ≡ suc ((n - w) / w)) (sym e) (omega arith)
one_line_more width n (inr e) le = let le64 : 64 ≤ n = omega arith in subst (λ w. n / w ≡ suc ((n - w) / w)) (sym e) (omega arith)

no_line_more : (width n : ℕ) → IsWidth width → n < width → n / width ≡ 0
no_line_more width n (inl e) lt = let lt16 : n < 16 = omega arith in subst (λ w. n / w ≡ 0) (sym e) (omega arith)
no_line_more width n (inr e) lt = let lt64 : n < 64 = omega arith in subst (λ w. n / w ≡ 0) (sym e) (omega arith)

pub image_step : (width address : ℕ) (bytes : List ℕ) → IsWidth width → width ≤ length bytes → image_lines width (length bytes / width) address bytes ≡ image_line address (take width bytes) ++ image_lines width (length (drop width bytes) / width) (address + width) (drop width bytes)
unfolding image_lines
image_step width address bytes wide le =
    let count : length bytes / width ≡ suc (length (drop width bytes) / width) = one_line_more width (length bytes) wide le ∙ ap (λ n. suc (n / width)) (sym (length-drop width bytes)) in
    ap (λ n. image_lines width n address bytes) count

pub image_end : (width address : ℕ) (bytes : List ℕ) → IsWidth width → length bytes < width → image_lines width (length bytes / width) address bytes ≡ []
unfolding image_lines
image_end width address bytes wide lt = ap (λ n. image_lines width n address bytes) (no_line_more width (length bytes) wide lt)

pub image_is : (width : ℕ) (memory : List ℕ) (size : LineSize) (bytes : List ℕ) → width ≡ length_of size → memory ≡ bytes → image_lines width (length memory / width) base memory ≡ image size bytes
image_is width memory size bytes e f = rw (e, f) refl

-- a list that is cut from one on to its end
pub numbered_tail : {X : Type 0} (f : ℕ → X → List ℕ) (h : ℕ) (xs : List X) → numbered f h (take (length xs - 1) (drop 1 xs)) ≡ numbered f h (drop 1 xs)
numbered_tail f h xs = ap (numbered f h) (take_all (length xs - 1) (drop 1 xs) (omega (arith, length-drop 1 xs)))

-- ---- messages

carried_parts : (b : Body) → words.carried b ≡ permissions b ++ payload_of (data_of b)
carried_parts (AcquireBlock g) = sym (append-nil (words.grow g))
carried_parts (ProbeBlock c) = sym (append-nil (words.cap c))
carried_parts (ProbeAck c) = sym (append-nil (words.change c))
carried_parts (ProbeAckData c bytes) = refl
carried_parts (Release c) = sym (append-nil (words.change c))
carried_parts (ReleaseData c bytes) = refl
carried_parts (Grant c) = sym (append-nil (words.cap c))
carried_parts (GrantData c bytes) = refl
carried_parts ReleaseAck = refl
carried_parts GrantAck = refl

regrouped : (s d c n m w p q : List ℕ) → ((((((((s ++ 77 ∷ 32 ∷ []) ++ d) ++ c) ++ n) ++ m) ++ w) ++ p) ++ q) ++ 10 ∷ [] ≡ s ++ (77 ∷ 32 ∷ (d ++ (c ++ (n ++ ((m ++ (w ++ (p ++ q))) ++ 10 ∷ [])))))
regrouped s d c n m w p q = simp append_assoc

-- a message's words, one after another
pub logged_spelled : (l : Logged) (s : List ℕ) → ((((((((s ++ 77 ∷ 32 ∷ []) ++ words.direction l.direction) ++ words.channel (channel_of l.message)) ++ number 32 l.hart) ++ words.name l.message.body) ++ word l.message.line) ++ permissions l.message.body) ++ payload_of (data_of l.message.body)) ++ 10 ∷ [] ≡ s ++ logged l
logged_spelled l s =
    regrouped s (words.direction l.direction) (words.channel (channel_of l.message)) (number 32 l.hart) (words.name l.message.body) (word l.message.line) (permissions l.message.body) (payload_of (data_of l.message.body))
    ∙ ap (λ t. s ++ (77 ∷ 32 ∷ (words.direction l.direction ++ (words.channel (channel_of l.message) ++ (number 32 l.hart ++ ((words.name l.message.body ++ (word l.message.line ++ t)) ++ 10 ∷ [])))))) (sym (carried_parts l.message.body))
