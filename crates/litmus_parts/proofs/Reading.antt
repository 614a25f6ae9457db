-- Reading piece by piece.
use Rattle.std.proofs.Common.{◌≡◌, ℕ, List, [], ◌∷◌, ◌++◌, refl, sym, ap, ◌∙◌, append_assoc, Ok, Err}
use Rattle.std.specs.Prelude.{Result}
use Rattle.litmus_parts.specs.declared.stop.Stop.{Stop}
use Rattle.litmus_parts.specs.declared.stop.Stop.TheVariants.{Memory, At}
use Rattle.litmus_parts.specs.Stops.{Read, ◌>>=◌, onto, Refuses}

pub onto_none : {A : Type 0} (read : Read (List A)) → onto [] read ≡ read
onto_none (Ok x) = refl
onto_none (Err stop) = refl

pub onto_append : {A : Type 0} (front next : List A) (read : Read (List A)) → onto front (onto next read) ≡ onto (front ++ next) read
onto_append {A} front next (Ok x) = ap (λ (l : List A). Ok (l, x.1)) (sym (append_assoc front next x.0))
onto_append front next (Err stop) = refl

-- what goes on behind elements that were added
pub onto_then : {A : Type 0} (old new : List A) (rest : List ℕ) (read : Read (List A)) (more : List ℕ → Read (List A)) → onto old read ≡ Ok (new, rest) → onto old (read >>= λ x. onto x.0 (more x.1)) ≡ onto new (more rest)
onto_then {A} old new rest (Ok x) more h =
    let both : (old ++ x.0, x.1) ≡ (new, rest) = cc h in
    let front : old ++ x.0 ≡ new = ap (λ (p : List A × List ℕ). p.0) both in
    let same : x.1 ≡ rest = ap (λ (p : List A × List ℕ). p.1) both in
    onto_append old x.0 (more x.1) ∙ ap (λ (l : List A). onto l (more x.1)) front ∙ ap (λ (r : List ℕ). onto new (more r)) same
onto_then old new rest (Err stop) more h = cc h

pub onto_err : {A : Type 0} (old : List A) (stop : Stop) (read : Read (List A)) → onto old read ≡ Err stop → read ≡ Err stop
onto_err old stop (Ok x) h = cc h
onto_err old stop (Err e) h = cc h

-- a reader stops where its first part does
pub refuses_then : {Y W : Type 0} (stop : Stop) (read : Result Y Stop) (more : Y → Result W Stop) → Refuses stop read → Refuses stop (read >>= more)
refuses_then Memory read more h = tt
refuses_then (At cause left) read more h = rw h refl

pub refuses_plain : {Y W : Type 0} (stop : Stop) (read : Result Y Stop) (more : Y → Result W Stop) → Err stop ≡ read → Refuses stop (read >>= more)
refuses_plain Memory read more h = tt
refuses_plain (At cause left) read more h = rw (sym h) refl

pub refuses_is : {Y : Type 0} (stop : Stop) (read : Result Y Stop) → read ≡ Err stop → Refuses stop read
refuses_is Memory read h = tt
refuses_is (At cause left) read h = h

-- or where a later part does
pub refuses_later : {Y W : Type 0} (stop : Stop) (read : Result Y Stop) (x : Y) (more : Y → Result W Stop) → read ≡ Ok x → Refuses stop (more x) → Refuses stop (read >>= more)
refuses_later Memory read x more h k = tt
refuses_later (At cause left) read x more h k = rw h k

-- it stops, whatever stands before
pub refuses_onto : {A : Type 0} (old : List A) (stop : Stop) (read : Read (List A)) → Refuses stop (onto old read) → Refuses stop read
refuses_onto old Memory read h = tt
refuses_onto old (At cause left) read h = onto_err old (At cause left) read h

-- what is read stops only by want of memory
pub refuses_ok : {Y W : Type 0} (stop : Stop) (y : Y) (read : Result W Stop) → Refuses stop (Ok y) → Refuses stop read
refuses_ok Memory y read h = tt
refuses_ok (At cause left) y read h = absurd (cc h)
