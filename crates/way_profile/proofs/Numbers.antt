-- A number that is found is one of the list.
use Rattle.std.proofs.Common.{ℕ, Bool, true, false, cond, List, [], ◌∷◌, Option, Some, None, All}
use Rattle.std.specs.Option.{option_and_then}
use Rattle.std.specs.Prelude.{IfSome, bytes_eq}
use Rattle.std.proofs.lemmas.List.Elements.{All-head, All-tail}
use Rattle.road_base.specs.TagValue.{value_of}
use Rattle.way_profile.specs.WayTags.{number_by, number_of}

module _ (P : ℕ → Type 0) where
  either : (b : Bool) (number : ℕ) (more : Option ℕ) → P number → IfSome more P → IfSome (cond b (Some number) more) P
  either true number more here there = here
  either false number more here there = there

  number_of-all : (numbers : List (List ℕ × ℕ)) (word : List ℕ) → All (λ e. P e.1) numbers → IfSome (number_of numbers word) P
  number_of-all [] word h = tt
  number_of-all (e ∷ more) word h =
      either (bytes_eq e.0 word) e.1 _ (All-head (λ e. P e.1) e more h) (number_of-all more word (All-tail (λ e. P e.1) e more h))

  at : (numbers : List (List ℕ × ℕ)) (word : Option (List ℕ)) → All (λ e. P e.1) numbers → IfSome (option_and_then (λ word. number_of numbers word) word) P
  at numbers None h = tt
  at numbers (Some word) h = number_of-all numbers word h

  pub number_by-all : (key : List ℕ) (numbers : List (List ℕ × ℕ)) (tags : List (List ℕ × List ℕ)) → All (λ e. P e.1) numbers → IfSome (number_by key numbers tags) P
  number_by-all key numbers tags h = at numbers (value_of tags key) h
