-- What holds however a walk is cut: its pieces cost together what is paid from the first cut on, and their lines joined
-- are the line from there on; and cuts at some of the places of a walk lead ahead.
use Rattle.std.proofs.Common.{◌≡◌, ℕ, zero, suc, ◌+◌, ◌-◌, ◌<◌, ◌≤◌, List, [], ◌∷◌, ◌++◌, Option, None, Some, arith, drop, take, map, refl, ap, ap₂, sym, ◌∙◌, append-nil}
use Rattle.std.specs.Prelude.{slice_range}
use Rattle.std.specs.List.{cons_option, filter_map, flat_map, range_with_len}
use Rattle.std.proofs.lemmas.List.{drop-drop, take-take}
use Rattle.std.proofs.lemmas.List.Elements.{All-cons, All-head, All-nil, All-tail}
use Rattle.std.proofs.lemmas.List.Folds.{drop_split}
use Rattle.std.proofs.lemmas.Slice.{between_is}
use Rattle.road_base.specs.declared.coordinates.Point.{Point}
use Rattle.search_graph.specs.declared.costs.WeightDurLen.{WeightDurLen}
use Rattle.search_graph.specs.RoadCosts.{parts-same, road_cost_laws, road_cost_ops}
use Rattle.road_places.specs.Paid.{total_of}
use Rattle.road_places.specs.PaidLaws.{total_of-append}
use Rattle.route_steps.specs.Steps.{AreAhead, LeadsAhead, cost_between, joined, pieces, points_between}
use Rattle.route_steps.specs.declared.begins.Begin.{Begin}

-- a part of a list, cut in two
range-cut : {X : Type 0} (xs : List X) (i j n : ℕ) → i ≤ j → j ≤ n → slice_range xs i n ≡ slice_range xs i j ++ slice_range xs j n
range-cut xs i j n h k =
    between_is xs i n ∙ drop_split (take n xs) i j h
    ∙ ap₂ (λ a b. a ++ b) (between_is (take n xs) i j ∙ ap (drop i) (take-take j n xs k) ∙ sym (between_is xs i j)) (sym (between_is xs j n))

-- and without its first element
range-rest : {X : Type 0} (xs : List X) (i j : ℕ) → drop 1 (slice_range xs i j) ≡ slice_range xs (i + 1) j
range-rest xs i j = ap (drop 1) (between_is xs i j) ∙ drop-drop 1 i (take j xs) ∙ sym (between_is xs (i + 1) j)

four-swapped : (a b c d : ℕ) → (a + b) + (c + d) ≡ (a + c) + (b + d)
four-swapped a b c d = omega arith

swapped : (a b c d : WeightDurLen) → road_cost_ops.plus (road_cost_ops.plus a b) (road_cost_ops.plus c d) ≡ road_cost_ops.plus (road_cost_ops.plus a c) (road_cost_ops.plus b d)
swapped a b c d = parts-same (four-swapped a.weight b.weight c.weight d.weight) (four-swapped a.duration b.duration c.duration d.duration) (four-swapped a.length b.length c.length d.length)

total-cut : (xs : List WeightDurLen) (i j n : ℕ) → i ≤ j → j ≤ n → total_of (slice_range xs i n) ≡ road_cost_ops.plus (total_of (slice_range xs i j)) (total_of (slice_range xs j n))
total-cut xs i j n h k = ap total_of (range-cut xs i j n h k) ∙ total_of-append (slice_range xs i j) (slice_range xs j n)

module _ (paid turns : List WeightDurLen) where
  abbrev pub cost_of : Begin × ℕ → WeightDurLen
  cost_of piece = cost_between paid turns piece.0.place piece.1

  -- what is paid between two places is paid up to a place between them and from there on
  pub cost-cut : (i j n : ℕ) → i ≤ j → j ≤ n → road_cost_ops.plus (cost_between paid turns i j) (cost_between paid turns j n) ≡ cost_between paid turns i n
  cost-cut i j n h k =
      swapped (total_of (slice_range paid i j)) (total_of (slice_range turns (i - 1) (j - 1))) (total_of (slice_range paid j n)) (total_of (slice_range turns (j - 1) (n - 1)))
      ∙ sym (ap₂ road_cost_ops.plus (total-cut paid i j n h k) (total-cut turns (i - 1) (j - 1) (n - 1) (omega arith) (omega arith)))

  -- however a walk is cut, its pieces cost what is paid from the first cut on
  pub pieces-cost : (b : Begin) (cuts : List Begin) (n : ℕ) → AreAhead n (pieces (b ∷ cuts) n) → total_of (map cost_of (pieces (b ∷ cuts) n)) ≡ cost_between paid turns b.place n
  pieces-cost b [] n ahead = road_cost_laws.neutral (cost_between paid turns b.place n) tt
  pieces-cost b (c ∷ cuts) n ahead =
      let first = All-head (LeadsAhead n) (b, c.place) (pieces (c ∷ cuts) n) ahead in
      let rest = All-tail (LeadsAhead n) (b, c.place) (pieces (c ∷ cuts) n) ahead in
      ap (road_cost_ops.plus (cost_of (b, c.place))) (pieces-cost c cuts n rest) ∙ cost-cut b.place c.place n (omega (arith, first.0)) first.1

module _ (points : List Point) where
  abbrev pub points_of : Begin × ℕ → List Point
  points_of piece = points_between points piece.0.place piece.1

  -- the lines of the pieces, each without its first point
  pub pieces-rest : (b : Begin) (cuts : List Begin) (n : ℕ) → AreAhead n (pieces (b ∷ cuts) n)
      → flat_map (λ points. drop 1 points) (map points_of (pieces (b ∷ cuts) n)) ≡ slice_range points (b.place + 1) (n + 1)
  pieces-rest b [] n ahead = append-nil (drop 1 (points_of (b, n))) ∙ range-rest points b.place (n + 1)
  pieces-rest b (c ∷ cuts) n ahead =
      let first = All-head (LeadsAhead n) (b, c.place) (pieces (c ∷ cuts) n) ahead in
      let rest = All-tail (LeadsAhead n) (b, c.place) (pieces (c ∷ cuts) n) ahead in
      ap₂ (λ a b. a ++ b) (range-rest points b.place (c.place + 1)) (pieces-rest c cuts n rest)
      ∙ sym (range-cut points (b.place + 1) (c.place + 1) (n + 1) (omega (arith, first.0)) (omega (arith, first.1)))

  -- and joined: the line from the first cut on
  pub pieces-line : (b : Begin) (cuts : List Begin) (n : ℕ) → AreAhead n (pieces (b ∷ cuts) n) → joined (map points_of (pieces (b ∷ cuts) n)) ≡ slice_range points b.place (n + 1)
  pieces-line b [] n ahead = append-nil (points_of (b, n))
  pieces-line b (c ∷ cuts) n ahead =
      let first = All-head (LeadsAhead n) (b, c.place) (pieces (c ∷ cuts) n) ahead in
      let rest = All-tail (LeadsAhead n) (b, c.place) (pieces (c ∷ cuts) n) ahead in
      ap (λ l. points_of (b, c.place) ++ l) (pieces-rest c cuts n rest)
      ∙ sym (range-cut points b.place (c.place + 1) (n + 1) (omega (arith, first.0)) (omega (arith, first.1)))

module _ (h : ℕ → Option Begin) (keeps : (k : ℕ) (c : Begin) → h k ≡ Some c → c.place ≡ k) (n : ℕ) where
  -- where those behind a cut at place a lead ahead, so do all
  cut-ahead : (b : Begin) (a m : ℕ) (o : Option Begin) → h a ≡ o → b.place < a → a < n
      → ((c : Begin) → c.place < a + 1 → AreAhead n (pieces (c ∷ filter_map h (range_with_len (a + 1) m)) n)) → AreAhead n (pieces (b ∷ cons_option o (filter_map h (range_with_len (a + 1) m))) n)
  cut-ahead b a m None is lt within rest = rest b (omega arith)
  cut-ahead b a m (Some c) is lt within rest =
      let at : c.place ≡ a = keeps a c is in
      All-cons (LeadsAhead n) (b, c.place) (pieces (c ∷ filter_map h (range_with_len (a + 1) m)) n) (omega arith, omega arith)
      (rest c (omega arith))

  -- cuts at some of the places up to n lead ahead
  pub cuts-ahead : (b : Begin) (a m : ℕ) → b.place < a → a + m ≡ n → AreAhead n (pieces (b ∷ filter_map h (range_with_len a m)) n)
  cuts-ahead b a zero lt e =
      All-cons (LeadsAhead n) (b, n) [] (omega arith, omega arith) (All-nil (LeadsAhead n))
  cuts-ahead b a (suc m) lt e = cut-ahead b a m (h a) refl lt (omega arith) (λ c le. cuts-ahead c (a + 1) m le (omega arith))
