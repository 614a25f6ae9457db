-- Instructions that are put behind one another.
use Rattle.std.proofs.Common.{◌≡◌, ℕ, ◌+◌, ◌-◌, ◌<◌, ◌≤◌, List, [], ◌∷◌, ◌++◌, length, get_or, take, drop, refl, sym, ap, ◌∙◌, append_assoc, arith}
use Rattle.std.proofs.lemmas.List.{length-append, length-map, length-drop, drop_more, take_all}
use Rattle.std.specs.List.{flat_map}
use Rattle.std.specs.Prelude.{Result, Ok, Err, map, replicate}
use Rattle.rv32_decode.specs.Encoding.{encoded}
use Rattle.rv32_decode.specs.declared.instruction.Instr.{Instr}
use Rattle.litmus_image.specs.Code.{then_code, Stops}
use Rattle.litmus_image.specs.Image.{location, all_words, Both, Place, in_front, laid, laid_with, entry, part_code, StopsAt, of_hart}
use Rattle.litmus_image.specs.declared.code.CodeError.{CodeError}
use Rattle.litmus_image.specs.declared.code.CodeError.TheVariants.{Fault, NoMemory}
use Rattle.litmus_image.specs.declared.part.Part.{Part}
use Rattle.litmus_image.specs.declared.part.Cause.{Cause}

front_twice : (front code e c : List Instr) (rest : Result Both Place) → in_front (front ++ e) (code ++ c) rest ≡ in_front front code (in_front e c rest)
front_twice front code e c (Ok both) = ap (λ (b : Both). Ok b) (ap (λ (l : List Instr). (l, (code ++ c) ++ both.1)) (append_assoc front e both.0) ∙ ap (λ (l : List Instr). (front ++ (e ++ both.0), l)) (append_assoc code c both.1))
front_twice front code e c (Err fault) = refl

put_is : (old new : List Instr) (said : Result (List Instr) (ℕ × Cause)) → then_code old said ≡ Ok new → (instrs : List Instr) × ((said ≡ Ok instrs) × (new ≡ old ++ instrs))
put_is old new (Ok instrs) h = (instrs, (refl, cc))
put_is old new (Err fault) h = absurd cc

laid_at : (parts : List Part) (hart place : ℕ) (other : Part) → hart < length parts → laid hart place (drop hart parts) ≡ laid_with hart (entry hart place) (part_code (get_or parts hart other)) (λ n. laid (hart + 1) (place + n) (drop (hart + 1) parts))
laid_at parts hart place other lt = ap (λ (l : List Part). laid hart place l) (drop_more parts hart other lt)

-- one part more
pub parts_more : (parts : List Part) (hart base place : ℕ) (other : Part) (front front' code code' : List Instr) (total : Result Both Place) → hart < length parts → place ≡ base + length code → then_code front (entry hart place) ≡ Ok front' → then_code code (part_code (get_or parts hart other)) ≡ Ok code' → in_front front code (laid hart (base + length code) (drop hart parts)) ≡ total → in_front front' code' (laid (hart + 1) (base + length code') (drop (hart + 1) parts)) ≡ total
parts_more parts hart base place other front front' code code' total lt there e c h =
    let ep = put_is front front' (entry hart (base + length code)) (ap (λ (p : ℕ). then_code front (entry hart p)) (sym there) ∙ e) in
    let cp = put_is code code' (part_code (get_or parts hart other)) c in
    let rest = λ (n : ℕ). laid (hart + 1) (base + length code + n) (drop (hart + 1) parts) in
    let longer : base + length code' ≡ base + length code + length cp.0 = omega (arith, ap length cp.1.1, length-append code cp.0) in
    ap (λ (p : ℕ). in_front front' code' (laid (hart + 1) p (drop (hart + 1) parts))) longer
    ∙ ap (λ (l : List Instr). in_front l code' (rest (length cp.0))) ep.1.1
    ∙ ap (λ (l : List Instr). in_front (front ++ ep.0) l (rest (length cp.0))) cp.1.1
    ∙ front_twice front code ep.0 cp.0 (rest (length cp.0))
    ∙ ap (λ (s : Result (List Instr) (ℕ × Cause)). in_front front code (laid_with hart s (Ok cp.0) rest)) (sym ep.1.0)
    ∙ ap (λ (s : Result (List Instr) (ℕ × Cause)). in_front front code (laid_with hart (entry hart (base + length code)) s rest)) (sym cp.1.0)
    ∙ ap (in_front front code) (sym (laid_at parts hart (base + length code) other lt))
    ∙ h

only_place : (front code : List Instr) (said : Result Both Place) (fault : Place) → Err fault ≡ in_front front code said → said ≡ Err fault
only_place front code (Ok both) fault h = absurd cc
only_place front code (Err other) fault h = sym h

entry_at : (hart place : ℕ) (parts : List Part) (fault : ℕ × Cause) → 1 ≤ length parts → entry hart place ≡ Err fault → laid hart place parts ≡ Err (hart, fault)
entry_at hart place [] fault some e = absurd (omega arith)
entry_at hart place (part ∷ parts) fault some e = ap (λ (s : Result (List Instr) (ℕ × Cause)). laid_with hart s (part_code part) (λ n. laid (hart + 1) (place + n) parts)) e

-- a hart that can't be led to its part
pub entry_stops : (parts : List Part) (hart place base : ℕ) (front code first second : List Instr) (error : CodeError) (said : Result Both Place) → hart < length parts → place ≡ base → Stops error (entry hart place) → in_front front code (laid hart base (drop hart parts)) ≡ in_front first second said → StopsAt (of_hart hart error) said
entry_stops parts hart place base front code first second NoMemory said lt there put h = tt
entry_stops parts hart place base front code first second (Fault line cause) said lt there put h =
    let is : laid hart base (drop hart parts) ≡ Err (hart, (line, cause)) = entry_at hart base (drop hart parts) (line, cause) (omega (arith, length-drop hart parts)) (ap (entry hart) (sym there) ∙ put) in
    only_place first second said (hart, (line, cause)) (ap (in_front front code) (sym is) ∙ h)

-- ---- words

pub all_laid : (empty one two three four : List ℕ) (n : ℕ) (front code : List Instr) (locations : List ℕ) → empty ≡ [] → one ≡ empty ++ map encoded front → two ≡ one ++ map encoded code → n ≡ length two → three ≡ take 1024 two ++ replicate (1024 - n) 0 → four ≡ three ++ flat_map location locations → length front + length code ≤ 1024 → four ≡ all_words front code locations
all_laid empty one two three four n front code locations e0 e1 e2 count e3 e4 le =
    let is : two ≡ map encoded front ++ map encoded code = e2 ∙ ap (λ (l : List ℕ). l ++ map encoded code) (e1 ∙ ap (λ (l : List ℕ). l ++ map encoded front) e0) in
    let short : length two ≤ 1024 = omega (arith, ap length is, length-append (map encoded front) (map encoded code), length-map front encoded, length-map code encoded) in
    e4
    ∙ ap (λ (l : List ℕ). l ++ flat_map location locations) (e3 ∙ ap (λ (k : ℕ). take 1024 two ++ replicate (1024 - k) 0) count ∙ ap (λ (l : List ℕ). l ++ replicate (1024 - length two) 0) (take_all 1024 two short))
    ∙ append_assoc two (replicate (1024 - length two) 0) (flat_map location locations)
    ∙ ap (λ (l : List ℕ). l ++ (replicate (1024 - length l) 0 ++ flat_map location locations)) is
