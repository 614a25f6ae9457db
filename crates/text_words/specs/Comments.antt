-- Comments, which count as blanks: (* and *) enclose them, and they nest.
use Rattle.std.specs.Prelude.{◌≡◌, ℕ, zero, suc, ◌+◌, ◌-◌, Bool, true, false, ◌==◌, ◌||◌, ◌&&◌, List, [], ◌∷◌, ◌++◌, length, Option, Some, None, Result, Ok, Err, if◌then◌else◌}
use Rattle.text_words.specs.declared.comments.Place.{Place}
use Rattle.text_words.specs.declared.comments.Place.TheVariants.{Text, Quotation, Mark, Comment}
use Rattle.text_words.specs.declared.comments.CommentError.{CommentError}
use Rattle.text_words.specs.declared.comments.CommentError.TheVariants.{Open, NoMemory}

-- this byte stands first
abbrev pub is_next : ℕ → List ℕ → Bool
is_next byte [] = false
is_next byte (b ∷ bytes) = b == byte

-- so many comments are open behind a mark
abbrev pub behind_mark : ℕ → ℕ → Place
behind_mark zero start = Text
behind_mark (suc depth) start = Comment (suc depth) start

-- what stands for a byte of a comment: a line feed for itself
abbrev pub blank_for : ℕ → ℕ
blank_for b = if b == 10 then 10 else 32

-- Where one stands behind a byte, and what stands for it. A mark takes two bytes: Mark is between them. A quotation
-- ends with its line at the latest, and no comment begins in it.
abbrev pub pass_text : ℕ → List ℕ → Place × ℕ
pass_text b bytes =
    if b == 34 then (Quotation, b)
    else if b == 40 && is_next 42 bytes then (Mark 1 (length bytes), 32)
    else (Text, b)

abbrev pub pass_comment : ℕ → ℕ → ℕ → List ℕ → Place × ℕ
pass_comment depth start b bytes =
    if b == 40 && is_next 42 bytes then (Mark (depth + 1) start, 32)
    else if b == 42 && is_next 41 bytes then (Mark (depth - 1) start, 32)
    else (Comment depth start, blank_for b)

unfoldable pub pass : Place → ℕ → List ℕ → Place × ℕ
pass Text b bytes = pass_text b bytes
pass Quotation b bytes = if b == 34 || b == 10 then (Text, b) else (Quotation, b)
pass (Mark depth start) b bytes = (behind_mark depth start, 32)
pass (Comment depth start) b bytes = pass_comment depth start b bytes

-- what a reader has of the text before, and one more byte
abbrev pub with_byte : ℕ → Result (List ℕ) ℕ → Result (List ℕ) ℕ
with_byte b (Ok bytes) = Ok (b ∷ bytes)
with_byte b (Err left) = Err left

-- of the comment that is open, how many bytes stand behind its first
abbrev pub open_comment : Place → Option ℕ
open_comment Text = None
open_comment Quotation = None
open_comment (Mark depth start) = Some start
open_comment (Comment depth start) = Some start

-- at the end of the text no comment may be open
abbrev pub at_end : Option ℕ → Result (List ℕ) ℕ
at_end None = Ok []
at_end (Some left) = Err left

-- the text with blanks for its comments; or, of the comment that doesn't end, how many bytes stand behind its first
unfoldable pub uncommented : Place → List ℕ → Result (List ℕ) ℕ
uncommented place [] = at_end (open_comment place)
uncommented place (b ∷ bytes) = with_byte (pass place b bytes).1 (uncommented (pass place b bytes).0 bytes)

-- what stands for a text, behind what stands for the text before it
abbrev pub behind : List ℕ → Result (List ℕ) ℕ → Result (List ℕ) ℕ
behind front (Ok bytes) = Ok (front ++ bytes)
behind front (Err left) = Err left

-- how many comments are open
abbrev pub depth_of : Place → ℕ
depth_of Text = 0
depth_of Quotation = 0
depth_of (Mark depth start) = depth
depth_of (Comment depth start) = depth

-- What a function returned, seen by view, is what the text says, unless memory ran out.
abbrev pub Gives : {X : Type 0} → (X → List ℕ) → Result X CommentError → Result (List ℕ) ℕ → Type 0
Gives view (Ok x) read = read ≡ Ok (view x)
Gives view (Err (Open left)) read = read ≡ Err left
Gives view (Err NoMemory) read = Unit {0}
