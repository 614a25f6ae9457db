-- How a hart ended, part by part.
use Rattle.std.proofs.Common.{◌≡◌, ℕ, ◌≤◌, List, [], ◌∷◌, ◌++◌, Option, append_assoc, ap, arith, length, refl, sym}
use Rattle.std.specs.Io.KnownBytes.{Appends}
use Rattle.std.specs.List.{flat_map}
use Rattle.std.specs.Prelude.{codes, decimal}
use Rattle.hart_ends.specs.Ends.{hart_text, number_text, output_text, status_text}
use Rattle.hart.specs.declared.status.Status.{Status}
use Rattle.text_fields.proofs.Written.{Going, going_as, going_more, going_starts}

-- what stands before a hart's status
abbrev pub lead : ℕ → List ℕ
lead hart = codes "hart " ++ (decimal hart ++ codes ": ")

module _ (hart : ℕ) (status : Status) (output : List ℕ) where
  abbrev pub behind_lead : List ℕ
  behind_lead = status_text status ++ output_text output

  pub at_lead : (a : Option (List ℕ)) → Going a a (lead hart ++ behind_lead) (hart_text hart status output)
  at_lead a = going_as a a (hart_text hart status output) (lead hart ++ behind_lead) (hart_text hart status output) (ap (λ (t : List ℕ). codes "hart " ++ t) (sym (append_assoc (decimal hart) (codes ": ") behind_lead))) (going_starts a (hart_text hart status output))

  pub at_status : (a b : Option (List ℕ)) → Appends a b (lead hart) → Going a b behind_lead (hart_text hart status output)
  at_status a b sent = going_more a a b (lead hart) behind_lead (hart_text hart status output) (at_lead a) sent

pub some_output : (output : List ℕ) → 1 ≤ length output → output_text output ≡ codes " output" ++ flat_map number_text output
some_output [] some = absurd (omega (arith, some))
some_output (n ∷ ns) some = refl
