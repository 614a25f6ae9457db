-- Where the reader stops, and what it has read before.
use Rattle.std.proofs.Common.{◌≡◌, ℕ, List, [], ◌∷◌, ◌++◌, Ok, Err, Some, None, refl, subst, sym, ap, ◌∙◌, append_assoc, append-nil, inl, inr}
use Rattle.std.specs.Prelude.{IfErr, IsErrAnd, Result}
use Rattle.std.specs.List.{flat_map, AllByRecursion}
use Rattle.std.proofs.lemmas.Option.{none-some}
use Rattle.std.proofs.lemmas.List.{flat_map_more}
use Rattle.trace_text.specs.declared.fault.TextError.{TextError}
use Rattle.wide_logs.specs.Entries.{IsEntry, line}
use Rattle.wide_logs.specs.Logs.{BeginWithNoHead, BeginWithNoMessage, IsLogRefusal, StopsAt, head}
use Rattle.wide_logs.specs.Reading.{line_at, shape_at}
use Rattle.wide_logs.specs.Shapes.{IsShape}
use Rattle.wide_logs.specs.Stops.{IsEntriesStop, IsRead, Passed}
use Rattle.wide_logs.specs.declared.entry.WideLogged.{WideLogged}
use Rattle.wide_logs.specs.declared.shape.Shape.{Shape}
use Rattle.wide_logs.proofs.ReadBack.{line_reads, shape_reads}

-- an error is handed up as it is
pub handed_up : {T : Type 0} (P : TextError → Type 0) (r : Result T TextError) (error : TextError) → IsErrAnd r (λ told. told ≡ error) → P error → IfErr r P
handed_up P (Ok x) error is so = absurd is
handed_up P (Err told) error is so = subst P (sym is) so

pub passed_none : (s : Shape) (bytes : List ℕ) → Passed s bytes [] bytes
passed_none s bytes = record { each = tt; parts = refl }

each_pushed : (s : Shape) (xs : List WideLogged) (x : WideLogged) → AllByRecursion (IsEntry s) xs → IsEntry s x → AllByRecursion (IsEntry s) (xs ++ x ∷ [])
each_pushed s [] x h fits = (fits, tt)
each_pushed s (y ∷ ys) x h fits = (h.0, each_pushed s ys x h.1 fits)

pub passed_more : (s : Shape) → IsShape s → (bytes : List ℕ) (entries : List WideLogged) (rest later : List ℕ) (x : WideLogged) → Some (x, later) ≡ line_at s rest → Passed s bytes entries rest → Passed s bytes (entries ++ x ∷ []) later
passed_more s is bytes entries rest later x read h =
    let t = (line_reads s is).takes rest x later (sym read) in
    record {
      parts = h.parts ∙ ap (λ u. flat_map line entries ++ u) t.0 ∙ sym (append_assoc (flat_map line entries) (line x) later) ∙ ap (λ u. u ++ later) (flat_map_more line [] entries x);
      each = each_pushed s entries x h.each t.1;
    }

pub passed_all : (s : Shape) (bytes : List ℕ) (entries : List WideLogged) → Passed s bytes entries [] → IsRead s bytes entries
passed_all s bytes entries h = record { each = h.each; parts = h.parts ∙ append-nil (flat_map line entries) }

no_message : (s : Shape) → IsShape s → (rest : List ℕ) → line_at s rest ≡ None → BeginWithNoMessage s rest
no_message s is rest none e more fits at = none-some (e, more) (sym none ∙ ap (line_at s) at ∙ (line_reads s is).again e more fits)

pub no_head : (bytes : List ℕ) → shape_at bytes ≡ None → BeginWithNoHead bytes
no_head bytes none s more fits at = none-some (s, more) (sym none ∙ ap shape_at at ∙ shape_reads.again s more fits)

-- behind the first line
pub refused_behind : (s : Shape) (bytes behind : List ℕ) (error : TextError) → Some (s, behind) ≡ shape_at bytes → IsEntriesStop s behind error → IsLogRefusal bytes error
refused_behind s bytes behind error read (inl memory) = inl memory
refused_behind s bytes behind error read (inr stop) =
    let t = shape_reads.takes bytes s behind (sym read) in
    let there : StopsAt bytes error.line stop.rest = record {
      log = record { shape = s; entries = stop.entries };
      is_log = record { shape = t.1; entries = stop.passed.each };
      parts = t.0 ∙ ap (λ u. head s ++ u) stop.passed.parts ∙ sym (append_assoc (head s) (flat_map line stop.entries) stop.rest);
      some = stop.some;
      none = no_message s t.1 stop.rest stop.none;
      number_is = stop.number;
    } in
    inr (record { rest = stop.rest; stops = inr there; code = stop.code; cause = stop.cause })
