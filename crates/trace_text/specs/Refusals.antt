-- Where a script is refused, and why.
use Rattle.std.specs.Prelude.{◌≡◌, ◌≢◌, ℕ, suc, Bool, true, false, ◌==◌, ◌||◌, if◌then◌else◌, List, [], ◌∷◌, ◌++◌, ◌⊎◌}
use Rattle.std.specs.List.{count_by, list_any}
use Rattle.machine_types.specs.declared.event.Event.{Event}
use Rattle.trace_text.specs.declared.fault.TextCode.{TextCode}
use Rattle.trace_text.specs.declared.fault.TextCode.TheVariants.{Header, Word, Fields, Order, End, NoMemory}
use Rattle.trace_text.specs.declared.fault.TextError.{TextError}
use Rattle.trace_text.specs.declared.script.Head.{Head}
use Rattle.trace_text.specs.declared.script.Script.{Script}
use Rattle.trace_text.specs.Causes.{script_cause}
use Rattle.trace_text.specs.Scripts.{event, head, is_head, text, IsEvent, IsScript}

-- how many lines these bytes end
abbrev pub line_feeds : List ℕ → ℕ
line_feeds bytes = count_by (λ b. b == 10) bytes

-- whether the line that begins here ends
abbrev pub has_line_feed : List ℕ → Bool
has_line_feed bytes = list_any (λ b. b == 10) bytes

abbrev pub is_blank : ℕ → Bool
is_blank b = b == 32 || b == 10

-- what stands before the first space or line feed
abbrev pub first_word : List ℕ → List ℕ
first_word [] = []
first_word (b ∷ bytes) = if is_blank b then [] else b ∷ first_word bytes

-- no script's first line stands here
abbrev pub IsNoHead : List ℕ → Type 0
IsNoHead bytes = (h : Head) (more : List ℕ) → is_head h ≡ true → ¬ (bytes ≡ head h ++ more)

-- no event's line stands here
abbrev pub IsNoEvent : List ℕ → Type 0
IsNoEvent bytes = (x : Event) (more : List ℕ) → IsEvent x → ¬ (bytes ≡ event x ++ more)

-- Nothing stands before, and no script begins here; or a script stands before, and what follows it is no event.
abbrev pub EndsScript : List ℕ → List ℕ → Type 0
EndsScript before rest = ((before ≡ []) × IsNoHead rest) ⊎ ((s : Script) × IsScript s × (before ≡ text s) × (rest ≢ []) × IsNoEvent rest)

-- the first word of some event's line
abbrev pub IsEventWord : List ℕ → Type 0
IsEventWord word = (x : Event) × (word ≡ first_word (event x))

-- what each code says of the line of this number, which begins here
abbrev pub IsScriptCode : TextCode → ℕ → List ℕ → Type 0
IsScriptCode End line rest = has_line_feed rest ≡ false
IsScriptCode Header line rest = (has_line_feed rest ≡ true) × (line ≡ 1)
IsScriptCode Word line rest = (has_line_feed rest ≡ true) × (line ≢ 1) × ¬ IsEventWord (first_word rest)
IsScriptCode Fields line rest = (has_line_feed rest ≡ true) × (line ≢ 1) × IsEventWord (first_word rest)
IsScriptCode Order line rest = ⊥
IsScriptCode NoMemory line rest = ⊥

-- The lines before the one that the fault names are as in a script, and that one isn't, for the reason that the fault gives.
pub record IsScriptRefusal (bytes : List ℕ) (fault : TextError) : Type 0 where
  pub before : List ℕ
  pub rest : List ℕ
  pub parts : bytes ≡ before ++ rest
  pub ends : EndsScript before rest
  pub line : fault.line ≡ suc (line_feeds before)
  pub code : IsScriptCode fault.code fault.line rest
  pub cause : fault.cause ≡ script_cause fault.line rest
