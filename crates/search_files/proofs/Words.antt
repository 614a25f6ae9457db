-- Words of memory that are to be shown, one after the other.
use Rattle.std.proofs.Common.{◌≡◌, ◌∙◌, ◌≤◌, ◌-◌, ℕ, [], ◌∷◌, ◌++◌, All, arith, List, Option, Some, ap, drop, get_or, inl, length, map, refl, sym, take}
use Rattle.std.proofs.lemmas.List.{append_assoc, length-drop, map-append, take_all}
use Rattle.std.proofs.lemmas.List.Elements.{All-nil, All-push}
use Rattle.performed_words.specs.Words.{CanShow}
use Rattle.command_files.specs.Faults.{Name}
use Rattle.command_files.specs.declared.fault.Fault.{Fault}
use Rattle.elf_loader.specs.Image.{Initial}
use Rattle.elf_symbols.specs.Named.{Named}
use Rattle.search_files.specs.Targets.{IsTarget, IsUnplaced, IsUnshown, name_of, place_of}

pub first_is : {A : Type 0} (xs : List A) (d : A) → 1 ≤ length xs → xs ≡ get_or xs 0 d ∷ take (length xs - 1) (drop 1 xs)
first_is [] d some = absurd (omega (arith, some))
first_is {A} (x ∷ xs) d some = ap (λ (r : List A). x ∷ r) (sym (take_all (length (x ∷ xs) - 1) (drop 1 (x ∷ xs)) (omega (arith, length-drop 1 (x ∷ xs)))))

pub one_placed : (symbols : List Named) (words rest tail : List Name) (word : Name) (addresses new : List ℕ) (place : ℕ) → rest ≡ word ∷ tail → new ≡ addresses ++ place ∷ [] → place_of symbols (name_of word) ≡ Some place
    → map Some addresses ++ map (λ w. place_of symbols (name_of w)) rest ≡ map (λ w. place_of symbols (name_of w)) words
    → map Some new ++ map (λ w. place_of symbols (name_of w)) tail ≡ map (λ w. place_of symbols (name_of w)) words
one_placed symbols words rest tail word addresses new place first pushed at so =
    let f : Name → Option ℕ = λ w. place_of symbols (name_of w) in
    let behind : map f rest ≡ Some place ∷ map f tail = ap (map f) first ∙ ap (λ (o : Option ℕ). o ∷ map f tail) at in
    let before : map Some new ≡ map Some addresses ++ Some place ∷ [] = ap (map Some) pushed ∙ map-append Some addresses (place ∷ []) in
    ap (λ (xs : List (Option ℕ)). xs ++ map f tail) before ∙ (append_assoc (map Some addresses) (Some place ∷ []) (map f tail) ∙ (ap (λ (xs : List (Option ℕ)). map Some addresses ++ xs) (sym behind) ∙ so))

module _ (image : Initial) (symbols : List Named) where
  -- the words end with these, and each before them can be shown
  pub record HasShown (rest words : List Name) : Type 0 where
    pub before : List Name
    pub whole : before ++ rest ≡ words
    pub shown : All (IsTarget image symbols) before

  pub none_shown : (words : List Name) → HasShown words words
  none_shown words = record { before = []; whole = refl; shown = All-nil (IsTarget image symbols) }

  pub one_shown : (words rest tail : List Name) (word : Name) (place : ℕ) → rest ≡ word ∷ tail → place_of symbols (name_of word) ≡ Some place → CanShow image place → HasShown rest words → HasShown tail words
  one_shown words rest tail word place first at inside has = record {
    before = has.before ++ word ∷ [];
    whole = append_assoc has.before (word ∷ []) tail ∙ (ap (λ (xs : List Name). has.before ++ xs) (sym first) ∙ has.whole);
    shown = All-push (IsTarget image symbols) has.before word has.shown (place, at, inside);
  }

  pub first_unshown : (words rest tail : List Name) (word : Name) (fault : Fault) → rest ≡ word ∷ tail → HasShown rest words → IsUnplaced image symbols word fault → IsUnshown image symbols words fault
  first_unshown words rest tail word fault first has unplaced = inl (
    word,
    record { before = has.before; later = tail; whole = ap (λ (xs : List Name). has.before ++ xs) (sym first) ∙ has.whole; shown = has.shown },
    unplaced,
  )
