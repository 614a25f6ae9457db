-- An arrow, and its label where it leaves.
use Rattle.std.proofs.Common.{◌≡◌, ℕ, ◌+◌, Bool, true, false, List, ◌++◌, Result, subst, sym}
use Rattle.std.specs.Prelude.{if◌then◌else◌}
use Rattle.std.specs.Result.{OnOk}
use Rattle.run_chart.specs.declared.plan.Plan.{Plan}
use Rattle.run_chart.specs.declared.shapes.Message.{Message}
use Rattle.run_chart.specs.Plan as place
use Rattle.run_chart.specs.Shapes.{arrow, channel_class, downward, is_from_cache, told, upward}
use Rattle.run_chart.proofs.Appending.{two_append}

abbrev labelled : Plan → Message → (short whole : List ℕ) → Bool → List ℕ
labelled p m short whole up =
    if up then upward p m ++ told (channel_class m.channel) (place.cache_side p m.hart + 5, place.baseline m.sent) (place.message_room p) short whole
    else downward p m ++ told (channel_class m.channel) (place.core p p.harts + 5, place.baseline m.sent) place.answer_room short whole

behind : {T E : Type 0} (r : Result T E) (a b short whole class k : List ℕ) (x y u v room most : ℕ) → class ≡ k → x ≡ u → y ≡ v → room ≡ most
    → OnOk r (b ≡ a ++ told class (x + 5, y) room short whole) → OnOk r (b ≡ a ++ told k (u + 5, v) most short whole)
behind r a b short whole class k x y u v room most class_is x_is y_is room_is last =
    subst (λ (t : List ℕ). OnOk r (b ≡ a ++ told t (u + 5, v) most short whole)) class_is
    (subst (λ (t : ℕ). OnOk r (b ≡ a ++ told class (t + 5, v) most short whole)) x_is
    (subst (λ (t : ℕ). OnOk r (b ≡ a ++ told class (x + 5, t) most short whole)) y_is
    (subst (λ (t : ℕ). OnOk r (b ≡ a ++ told class (x + 5, y) t short whole)) room_is last)))

module _ {T E : Type 0} (r : Result T E) (p : Plan) (m : Message) (short whole s a b class : List ℕ) (x y room : ℕ) where
  pub upward_arrow : is_from_cache m.channel ≡ true → class ≡ channel_class m.channel → y ≡ place.baseline m.sent → room ≡ place.message_room p
      → a ≡ s ++ upward p m → OnOk r (b ≡ a ++ told class (x + 5, y) room short whole) → x ≡ place.cache_side p m.hart → OnOk r (b ≡ s ++ arrow p m short whole)
  upward_arrow up class_is y_is room_is first last x_is =
      subst (λ (t : Bool). OnOk r (b ≡ s ++ labelled p m short whole t)) (sym up)
      (two_append r s a b (upward p m) _ first (behind r a b short whole class _ x y _ _ room _ class_is x_is y_is room_is last))

  pub downward_arrow : is_from_cache m.channel ≡ false → class ≡ channel_class m.channel → y ≡ place.baseline m.sent → room ≡ place.answer_room
      → a ≡ s ++ downward p m → OnOk r (b ≡ a ++ told class (x + 5, y) room short whole) → x ≡ place.core p p.harts → OnOk r (b ≡ s ++ arrow p m short whole)
  downward_arrow down class_is y_is room_is first last x_is =
      subst (λ (t : Bool). OnOk r (b ≡ s ++ labelled p m short whole t)) (sym down)
      (two_append r s a b (downward p m) _ first (behind r a b short whole class _ x y _ _ room _ class_is x_is y_is room_is last))
