-- What a walk pays, entry by entry.
use Rattle.std.proofs.Common.{◌≡◌, ℕ, List, [], ◌∷◌, ◌++◌, ap, ap₂, map, sym, ◌∙◌}
use Rattle.road_base.specs.declared.segments.Place.{Place}
use Rattle.search_graph.specs.declared.costs.WeightDurLen.{WeightDurLen}
use Rattle.search_graph.specs.Digraph.{Weighting}
use Rattle.road_places.specs.Paid.{cost_on, paid_along, paid_before, paid_behind}
use Rattle.road_places.specs.PaidLaws.{paid_along-ends}

-- the entries of a walk of two or more vertices, pushed one after another
pub entries-pushed : (w : Weighting WeightDurLen) (p q : Place) (walk : List ℕ) (s t : ℕ) (middle : List ℕ) (behind before : WeightDurLen) (none one more all : List WeightDurLen) → walk ≡ s ∷ (middle ++ t ∷ [])
    → behind ≡ paid_behind w p s → before ≡ paid_before w q t → none ≡ [] → one ≡ none ++ behind ∷ [] → more ≡ one ++ map (cost_on w) middle → all ≡ more ++ before ∷ [] → all ≡ paid_along w p q walk
entries-pushed w p q walk s t middle behind before none one more all is_walk is_behind is_before e0 e1 e2 e3 =
    e3 ∙ ap (λ l. l ++ before ∷ []) (e2 ∙ ap (λ l. l ++ map (cost_on w) middle) (e1 ∙ ap (λ l. l ++ behind ∷ []) e0))
    ∙ ap₂ (λ b l. b ∷ (map (cost_on w) middle ++ l ∷ [])) is_behind is_before ∙ sym (paid_along-ends w q p s middle t) ∙ sym (ap (paid_along w p q) is_walk)
