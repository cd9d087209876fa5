-- A search by halves in a list that ascends, and what marks tell before it.
use Rattle.std.proofs.Common.{◌≡◌, ℕ, ◌+◌, ◌-◌, ◌<◌, ◌≤◌, inl, inr, Bool, false, List, length, get_or, Option, Some, Err, sym, ◌∙◌, ap, subst, arith}
use Rattle.std.specs.List.{Contains, slice_get}
use Rattle.std.specs.List.Sorted.{IsStrictlyIncreasing, IsBinarySearchResult}
use Rattle.std.specs.Prelude.{slice_index}
use Rattle.std.specs.Ordering.{nat_cmp}
use Rattle.std.proofs.lemmas.Bool.{cases_lt}
use Rattle.std.proofs.lemmas.List.Kept.{AllPairs-from_increasing}
use Rattle.std.proofs.lemmas.List.Sorted.{searched}
use Rattle.std.proofs.Math.Nat.{eq-or-lt_of_le}
use Rattle.std.proofs.lemmas.Option.{same_Some, slice_get_within, slice_get-get_or}
use Rattle.list_lemmas.proofs.Gets.{get_Contains, get_part, Contains_get}
use Rattle.cell_frame.specs.Borders.{Listed, HasList, list_at, list_of, at_cell}
use Rattle.cell_frame.specs.Marks.{AreUnlisted}
use Rattle.cell_frame.specs.declared.cells.Cell.{Cell}

-- what isn't found isn't in the list
pub not_found : (xs : List ℕ) (x i : ℕ) → IsStrictlyIncreasing xs → IsBinarySearchResult (λ y. nat_cmp y x) xs (Err i) → ¬ Contains xs x
not_found xs x i up found h =
    let pairs = AllPairs-from_increasing xs up in
    let rises : (k l : ℕ) → k ≤ l → l < length xs → get_or xs k 0 ≤ get_or xs l 0 = λ k l le lt. elim (eq-or-lt_of_le le) [
      | inl same ↦ let e : get_or xs k 0 ≡ get_or xs l 0 = ap (λ (n : ℕ). get_or xs n 0) same in omega arith
      | inr less ↦ omega (arith, pairs k l 0 less lt)
    ] in
    let r = searched xs x (Err i) found rises in
    let g = get_Contains xs x h in
    let within : g.0 < length xs = slice_get_within xs g.0 x g.1 in
    let here : get_or xs g.0 0 ≡ x = same_Some (get_or xs g.0 0) x (sym (slice_get-get_or xs g.0 0 within) ∙ g.1) in
    elim (cases_lt g.0 i) [
      | inl less ↦ omega (arith, r.1 g.0 less, here)
      | inr le ↦ omega (arith, r.2 g.0 le within, here)
    ]

-- a vertex whose mark is false is in no list of a cell
pub unlisted : (borders : List Listed) (marks : List Bool) (k : Cell) (v : ℕ) (b : Listed) → AreUnlisted borders (length borders) marks → slice_get marks v ≡ Some false → slice_get borders (k.level - 1) ≡ Some b → HasList b k.number → ¬ Contains (at_cell borders k) v
unlisted borders marks k v b none mark at has h =
    let inside : Contains (list_at b k.number) v = subst (λ (o : Option Listed). Contains (list_of o k.number) v) at h in
    let g = get_Contains (list_at b k.number) v inside in
    let place = get_part b.vertex (slice_index b.first k.number) (slice_index b.first (k.number + 1)) g.0 v has.within g.1 in
    none v (k.level - 1) b mark (slice_get_within borders (k.level - 1) b at) at (Contains_get b.vertex (slice_index b.first k.number + g.0) v place.1)
