-- One step of a loop that gathers a list or goes along one: what it has and what is still to come. The loops' answers cite these, since to search for them at the loops takes seconds each.
use Rattle.std.proofs.Common.{◌≡◌, ◌+◌, ◌-◌, ◌<◌, ◌≤◌, ◌&&◌, ℕ, Bool, true, false, List, [], ◌∷◌, ◌++◌, Option, Some, None, length, drop, take, get_or, cond, sym, ap, ◌∙◌}
use Rattle.std.specs.List.{cons_option, filter_map}
use Rattle.std.proofs.lemmas.List.{append_assoc, at_drop_all, at_drop_more, take_rest}
use Rattle.hart.specs.declared.retired.Retired.{Retired}
use Rattle.hart.specs.declared.state.Hart.{Hart}
use Rattle.hart.specs.Image.{Initial}
use Rattle.hart.specs.declared.status.Status.{Status}
use Rattle.hart.specs.Run.{after, are_steps, is_step, reached, status_fits}
use Rattle.memory_model.specs.Items.{Item, has_operation, item_of, items_from}
use Rattle.memory_model.specs.Traces.{names_from, names_of_harts}
use Rattle.trace_recorder.specs.declared.operation.OpId.{OpId}

-- what comes next goes behind what is there
pushed_next : {B : Type 0} (front pushed all left own more : List B) → pushed ≡ front ++ own → left ≡ own ++ more → all ≡ front ++ left → all ≡ pushed ++ more
pushed_next front pushed all left own more p e inv =
    inv ∙ (ap (λ xs. front ++ xs) e ∙ (sym (append_assoc front own more) ∙ ap (λ xs. xs ++ more) (sym p)))

-- ---- the items of a hart's list

pub items_next : (place : ℕ) (hart next : Hart) (es : List Retired) (d : Retired) (front pushed all : List Item) (m : Item) → place < length es → m ≡ item_of place hart (get_or es place d) → next ≡ after hart (get_or es place d)
    → pushed ≡ front ++ m ∷ [] → all ≡ front ++ items_from place hart (drop place es) → all ≡ pushed ++ items_from (place + 1) next (drop (place + 1) es)
items_next place hart next es d front pushed all m h e f p inv =
    pushed_next front pushed all (items_from place hart (drop place es)) (m ∷ []) (items_from (place + 1) next (drop (place + 1) es)) p
    (at_drop_more (items_from place hart) es place d h ∙ (ap (λ x. x ∷ items_from (place + 1) (after hart (get_or es place d)) (drop (place + 1) es)) (sym e) ∙ ap (λ n. m ∷ items_from (place + 1) n (drop (place + 1) es)) (sym f))) inv

-- ---- the names of operations

pub names_next : (hart place : ℕ) (es : List Retired) (d : Retired) (front pushed all : List OpId) (found : Bool) → place < length es → found ≡ has_operation (get_or es place d) → found ≡ true
    → pushed ≡ front ++ record { hart = hart; place = place } ∷ [] → all ≡ front ++ names_from hart place (drop place es) → all ≡ pushed ++ names_from hart (place + 1) (drop (place + 1) es)
names_next hart place es d front pushed all found h e f p inv =
    let more = names_from hart (place + 1) (drop (place + 1) es) in
    pushed_next front pushed all (names_from hart place (drop place es)) (record { hart = hart; place = place } ∷ []) more p
    (at_drop_more (names_from hart place) es place d h ∙ ap (λ (b : Bool). cond b (record { hart = hart; place = place } ∷ more) more) (sym e ∙ f)) inv

pub names_passed : (hart place : ℕ) (es : List Retired) (d : Retired) (front pushed all : List OpId) (found : Bool) → place < length es → found ≡ has_operation (get_or es place d) → found ≡ false
    → pushed ≡ front → all ≡ front ++ names_from hart place (drop place es) → all ≡ pushed ++ names_from hart (place + 1) (drop (place + 1) es)
names_passed hart place es d front pushed all found h e f p inv =
    let more = names_from hart (place + 1) (drop (place + 1) es) in
    inv ∙ (ap (λ xs. front ++ xs) (at_drop_more (names_from hart place) es place d h ∙ ap (λ (b : Bool). cond b (record { hart = hart; place = place } ∷ more) more) (sym e ∙ f)) ∙ ap (λ xs. xs ++ more) (sym p))

pub harts_next : (id : ℕ) (es : List (List Retired)) (own : List Retired) (front pushed all : List OpId) → id < length es → own ≡ get_or es id []
    → pushed ≡ front ++ names_from id 0 own → all ≡ front ++ names_of_harts id (drop id es) → all ≡ pushed ++ names_of_harts (id + 1) (drop (id + 1) es)
harts_next id es own front pushed all h e p inv =
    pushed_next front pushed all (names_of_harts id (drop id es)) (names_from id 0 own) (names_of_harts (id + 1) (drop (id + 1) es)) p
    (at_drop_more (names_of_harts id) es id [] h ∙ ap (λ xs. names_from id 0 xs ++ names_of_harts (id + 1) (drop (id + 1) es)) (sym e)) inv

-- ---- what a function gives of a list

pub some_next : {A B : Type 0} (g : A → Option B) (xs : List A) (i : ℕ) (d : A) (front pushed all : List B) (o : Option B) (b : B) → i < length xs → o ≡ g (get_or xs i d) → o ≡ Some b
    → pushed ≡ front ++ b ∷ [] → all ≡ front ++ filter_map g (drop i xs) → all ≡ pushed ++ filter_map g (drop (i + 1) xs)
some_next g xs i d front pushed all o b h e f p inv =
    pushed_next front pushed all (filter_map g (drop i xs)) (b ∷ []) (filter_map g (drop (i + 1) xs)) p
    (at_drop_more (filter_map g) xs i d h ∙ ap (λ y. cons_option y (filter_map g (drop (i + 1) xs))) (sym e ∙ f)) inv

pub none_next : {A B : Type 0} (g : A → Option B) (xs : List A) (i : ℕ) (d : A) (front pushed all : List B) (o : Option B) → i < length xs → o ≡ g (get_or xs i d) → o ≡ None
    → pushed ≡ front → all ≡ front ++ filter_map g (drop i xs) → all ≡ pushed ++ filter_map g (drop (i + 1) xs)
none_next g xs i d front pushed all o h e f p inv =
    inv ∙ (ap (λ xs. front ++ xs) (at_drop_more (filter_map g) xs i d h ∙ ap (λ y. cons_option y (filter_map g (drop (i + 1) xs))) (sym e ∙ f)) ∙ ap (λ ys. ys ++ filter_map g (drop (i + 1) xs)) (sym p))

-- ---- the rest of a list behind its first

pub rest_next : {A B : Type 0} (F G : List A → B) (xs : List A) (d : A) → 1 ≤ length xs → ((rest : List A) → F (get_or xs 0 d ∷ rest) ≡ G rest) → F xs ≡ G (take (length xs - 1) (drop 1 xs))
rest_next F G xs d h step = at_drop_more F xs 0 d h ∙ (step (drop 1 xs) ∙ ap G (sym (take_rest xs 1)))

abbrev fits : Initial → Status → Hart → List Retired → Bool
fits image status hart rest = are_steps image hart rest && status_fits image (reached hart rest) status

pub run_next : (image : Initial) (status : Status) (hart next : Hart) (rest : List Retired) (d : Retired) (step : Bool) → 1 ≤ length rest → step ≡ is_step image hart (get_or rest 0 d) → step ≡ true → next ≡ after hart (get_or rest 0 d)
    → fits image status hart rest ≡ fits image status next (take (length rest - 1) (drop 1 rest))
run_next image status hart next rest d step h e f g =
    rest_next (fits image status hart) (fits image status next) rest d h
    (λ r. ap (λ (b : Bool). (b && are_steps image (after hart (get_or rest 0 d)) r) && status_fits image (reached (after hart (get_or rest 0 d)) r) status) (sym e ∙ f) ∙ ap (λ (n : Hart). fits image status n r) (sym g))

-- the same of what is behind a place of the list
pub run_further : (image : Initial) (status : Status) (hart next : Hart) (es : List Retired) (place : ℕ) (d : Retired) (step : Bool) → place < length es → step ≡ is_step image hart (get_or es place d) → step ≡ true → next ≡ after hart (get_or es place d)
    → fits image status hart (drop place es) ≡ fits image status next (drop (place + 1) es)
run_further image status hart next es place d step h e f g =
    at_drop_more (fits image status hart) es place d h
    ∙ (ap (λ (b : Bool). (b && are_steps image (after hart (get_or es place d)) (drop (place + 1) es)) && status_fits image (reached (after hart (get_or es place d)) (drop (place + 1) es)) status) (sym e ∙ f) ∙ ap (λ (n : Hart). fits image status n (drop (place + 1) es)) (sym g))

pub run_stopped : (image : Initial) (status : Status) (hart : Hart) (es : List Retired) (place : ℕ) (d : Retired) (step : Bool) → place < length es → step ≡ is_step image hart (get_or es place d) → step ≡ false → fits image status hart (drop place es) ≡ false
run_stopped image status hart es place d step h e f =
    at_drop_more (fits image status hart) es place d h
    ∙ ap (λ (b : Bool). (b && are_steps image (after hart (get_or es place d)) (drop (place + 1) es)) && status_fits image (reached (after hart (get_or es place d)) (drop (place + 1) es)) status) (sym e ∙ f)

pub run_ended : (image : Initial) (status : Status) (hart : Hart) (es : List Retired) (place : ℕ) → length es ≤ place → fits image status hart (drop place es) ≡ status_fits image hart status
run_ended image status hart es place h = at_drop_all (fits image status hart) es place h
