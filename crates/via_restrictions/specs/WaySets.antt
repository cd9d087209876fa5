-- For private functions: sets of ways that have numbers.
use Rattle.std.specs.Prelude.{ℕ, ℤ, ◌==◌, Bool, false, not, ◌&&◌, ◌||◌}
use Rattle.std.specs.HashMap.{HashMap, get}
use Rattle.std.specs.HashSet.{HashSet, contains}
use Rattle.std.specs.Option.{option_map_or}
use Rattle.std.specs.Ordering.{int_eq}
use Rattle.std.specs.declared.hash.FoldHasher.{FoldHasher}
use Rattle.std.specs.declared.hash.BuildHasherDefault.{BuildHasherDefault}

abbrev pub member_eq : ℕ × ℤ → ℕ × ℤ → Bool
member_eq a b = (a.0 == b.0) && int_eq a.1 b.1

abbrev pub MemberSet : Type 0
MemberSet = HashSet (ℕ × ℤ) (BuildHasherDefault FoldHasher)

abbrev pub FirstMap : Type 0
FirstMap = HashMap ℕ (ℤ × Bool) (BuildHasherDefault FoldHasher)

-- a set has the way
abbrev pub has_way : MemberSet → ℕ → ℤ → Bool
has_way ways set way = contains member_eq ways (set, way)

-- a set has another way
abbrev pub has_other : FirstMap → ℕ → ℤ → Bool
has_other firsts set way = option_map_or (λ first. first.1 || not (int_eq first.0 way)) (get (λ a b. a == b) firsts set) false
