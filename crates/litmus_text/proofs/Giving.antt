-- What is read is given, part by part.
use Rattle.std.proofs.Common.{◌≡◌, ℕ, List, [], ◌++◌, refl, sym, ◌∙◌, Ok, Err}
use Rattle.std.specs.Prelude.{Result}
use Rattle.litmus_parts.specs.declared.stop.Stop.{Stop}
use Rattle.litmus_parts.specs.declared.stop.Stop.TheVariants.{Memory, At}
use Rattle.litmus_parts.specs.Stops.{Read, ◌>>=◌, onto, Refuses, Gives, Adds}
use Rattle.litmus_parts.proofs.Reading.{onto_none}

pub gives_then : {X Y Z : Type 0} (view : X → Z) (result : Result X Stop) (read : Result Y Stop) (y : Y) (more : Y → Result Z Stop) → read ≡ Ok y → Gives view result (more y) → Gives view result (read >>= more)
gives_then view result read y more h k = rw h k

pub gives_stop : {X Y Z : Type 0} (view : X → Z) (stop : Stop) (read : Result Y Stop) (more : Y → Result Z Stop) → Refuses stop read → Gives view (Err stop) (read >>= more)
gives_stop view Memory read more h = tt
gives_stop view (At cause left) read more h = rw h refl

pub none_added : {A : Type 0} (old new : List A) (rest : List ℕ) (read : Read (List A)) → old ≡ [] → onto old read ≡ Ok (new, rest) → read ≡ Ok (new, rest)
none_added old new rest read e h = let h' : onto [] read ≡ Ok (new, rest) = rw e at h in sym (onto_none read) ∙ h'
