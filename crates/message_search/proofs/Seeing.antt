-- What one more run shows of a message.
use Rattle.std.proofs.Common.{ℕ, ◌≡◌, ◌∙◌, ◌+◌, ◌<◌, ◌≤◌, Bool, true, false, refl, sym, ap, subst, List, [], ◌∷◌, length, Option, Some, None, arith, take, drop}
use Rattle.std.specs.List.{AllByRecursion}
use Rattle.std.proofs.lemmas.Bool.{leb-false, leb-true}
use Rattle.std.proofs.lemmas.List.{length-take-le, take-append-drop, take-append-le}
use Rattle.elf_loader.specs.Image.{Initial}
use Rattle.machine_types.specs.declared.config.Config.{Config}
use Rattle.machine_types.specs.declared.event.Event.{Event}
use Rattle.message_search.specs.First.{IsBelow, IsFirst, IsUnsentBelow}
use Rattle.message_search.specs.Searched.{IsMeeting, IsNoLonger, IsSearched, IsSeen, has_within, length_of}
use Rattle.message_search.specs.Sought.{was_sent}
use Rattle.message_search.specs.declared.met.Met.{Met}
use Rattle.message_search.specs.declared.met.Searched.{Searched}
use Rattle.message_search.specs.declared.sought.Sought.{Sought}
use Rattle.schedules.specs.Schedules.{Replays, led}

module _ (image : Initial) (config : Config) (s : Sought) where
  all_seen : (old new : Option ℕ) → ((k : ℕ) → IsBelow k new → IsBelow k old) → (runs : List (List Event))
      → AllByRecursion (IsSeen image config s old) runs → AllByRecursion (IsSeen image config s new) runs
  all_seen old new fewer [] each = tt
  all_seen old new fewer (run ∷ runs) each =
      (record { replays = each.0.replays; unsent = λ k below. each.0.unsent k (fewer k below) }, all_seen old new fewer runs each.1)

  -- what is below a number that is no greater is below the other
  below_both : (new old : Option ℕ) → IsNoLonger new old → (k : ℕ) → IsBelow k new → IsBelow k old
  below_both None None lesser k below = tt
  below_both (Some new) (Some old) lesser k below = omega (arith, lesser, below)
  below_both (Some new) None lesser k below = absurd lesser
  below_both None (Some old) lesser k below = absurd lesser

  -- fewer events of what is known
  pub searched_with : (searched : Searched) (met : Option Met) (out_of_memory : Bool) → IsSearched image config s searched → IsMeeting image config s met → IsNoLonger (length_of met) (length_of searched.met)
      → IsSearched image config s (record { met = met; runs = searched.runs; out_of_memory = out_of_memory })
  searched_with searched met out_of_memory p meeting lesser = record {
    met = meeting;
    runs = p.runs;
    count = p.count;
    each = all_seen (length_of searched.met) (length_of met) (below_both (length_of met) (length_of searched.met) lesser) p.runs p.each;
  }

  -- one more run that sends it by no fewer events than are known
  more : (searched : Searched) (events : List Event) → IsSearched image config s searched → Replays image config events → IsUnsentBelow image config s events (length_of searched.met)
      → IsSearched image config s (record { met = searched.met; runs = searched.runs + 1; out_of_memory = searched.out_of_memory })
  more searched events p replays unsent = record {
    met = p.met;
    runs = events ∷ p.runs;
    count = omega (arith, p.count);
    each = (record { replays = replays; unsent = unsent }, p.each);
  }

  below_all : (n : Option ℕ) (first : Option ℕ) (events : List Event) → first ≡ None → IsFirst image config s events first → IsUnsentBelow image config s events n
  below_all n first events is p = λ k below. (subst (IsFirst image config s events) is p).unsent k tt

  none_of : (first : Option ℕ) → ((count : ℕ) → first ≡ Some count → ⊥) → first ≡ None
  none_of None none = refl
  none_of (Some count) none = absurd (none count refl)

  pub never_sent : (searched : Searched) (events : List Event) (first : Option ℕ) → ((count : ℕ) → first ≡ Some count → ⊥) → IsSearched image config s searched → Replays image config events → IsFirst image config s events first
      → IsSearched image config s (record { met = searched.met; runs = searched.runs + 1; out_of_memory = searched.out_of_memory })
  never_sent searched events first none p replays seen = more searched events p replays (below_all (length_of searched.met) first events (none_of first none) seen)

  within_below : (known : Option ℕ) (count k : ℕ) → has_within known count ≡ true → IsBelow k known → k < count
  within_below None count k has below = absurd (cc (has))
  within_below (Some known) count k has below = omega (arith, leb-true known count has, below)

  pub no_fewer : (searched : Searched) (events : List Event) (first : Option ℕ) (count : ℕ) → first ≡ Some count → has_within (length_of searched.met) count ≡ true
      → IsSearched image config s searched → Replays image config events → IsFirst image config s events first
      → IsSearched image config s (record { met = searched.met; runs = searched.runs + 1; out_of_memory = searched.out_of_memory })
  no_fewer searched events first count is has p replays seen =
      more searched events p replays
      (λ k below. (subst (IsFirst image config s events) is seen).unsent k (within_below (length_of searched.met) count k has below))

  take_twice : (k n : ℕ) (xs : List Event) → k ≤ n → n ≤ length xs → take k (take n xs) ≡ take k xs
  take_twice k n xs below within =
      sym (take-append-le k (take n xs) (drop n xs) (omega (arith, below, length-take-le n xs within)))
      ∙ ap (take k) (take-append-drop n xs)

  -- the first of the events, up to the one that sends it
  cut : (events : List Event) (n : ℕ) → IsFirst image config s events (Some n) → IsFirst image config s (take n events) (Some n)
  cut events n p =
      let long = length-take-le n events p.met.within in
      let same = take_twice n n events (omega arith) p.met.within in
      record {
        met = record {
          within = omega (arith, long);
          replays = subst (Replays image config) (sym same) p.met.replays;
          sent = ap (λ (xs : List Event). was_sent s (led image config xs)) same ∙ p.met.sent;
        };
        unsent = λ k below.
            ap (λ (xs : List Event). was_sent s (led image config xs)) (take_twice k n events (omega (arith, below)) p.met.within) ∙ p.unsent k below;
      }

  pub cut_first : (events short : List Event) (first : Option ℕ) (n : ℕ) → first ≡ Some n → short ≡ take n events → IsFirst image config s events first
      → IsFirst image config s short (Some (length short))
  cut_first events short first n is made p =
      let seen = subst (IsFirst image config s events) is p in
      let long : length (take n events) ≡ n = length-take-le n events seen.met.within in
      subst (λ (xs : List Event). IsFirst image config s xs (Some (length xs))) (sym made)
      (subst (λ (m : ℕ). IsFirst image config s (take n events) (Some m)) (sym long) (cut events n seen))

  below_new : (known : Option ℕ) (count : ℕ) → has_within known count ≡ false → (k : ℕ) → IsBelow k (Some count) → IsBelow k known
  below_new None count has k below = tt
  below_new (Some known) count has k below = omega (arith, leb-false known count has, below)

  -- fewer events than were known
  pub fewer : (searched : Searched) (events : List Event) (met : Met) (first : Option ℕ) (count : ℕ) → first ≡ Some count → has_within (length_of searched.met) count ≡ false
      → met.events.items ≡ take count events → IsSearched image config s searched → Replays image config events → IsFirst image config s events first
      → IsSearched image config s (record { met = Some met; runs = searched.runs + 1; out_of_memory = searched.out_of_memory })
  fewer searched events met first count is has made p replays seen =
      let here = subst (IsFirst image config s events) is seen in
      let long : length met.events.items ≡ count = ap (λ (xs : List Event). length xs) made ∙ length-take-le count events here.met.within in
      record {
        met = cut_first events met.events.items first count is made seen;
        runs = events ∷ p.runs;
        count = omega (arith, p.count);
        each = (
          record { replays = replays; unsent = λ k below. here.unsent k (omega (arith, long, below)) },
          all_seen (length_of searched.met) (Some (length met.events.items)) (λ k below. below_new (length_of searched.met) count has k (omega (arith, long, below))) p.runs p.each,
        );
      }
