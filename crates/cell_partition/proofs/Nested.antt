-- The tables by which a vertex finds its cells.
use Rattle.std.proofs.Common.{◌≡◌, ℕ, ◌+◌, ◌-◌, ◌<◌, ◌≤◌, true, eqb, List, [], ◌∷◌, ◌++◌, Vec, length, length-append, map, get_or, All, refl, sym, ap, ◌∙◌, subst, arith, zero, suc, add-one, ⊎_elim}
use Rattle.std.specs.Global.{Global}
use Rattle.std.proofs.lemmas.Bool.{cases_lt}
use Rattle.std.proofs.lemmas.List.{length-map, get_or-map, get_or_append_left, get_or_push, get_or_default}
use Rattle.std.proofs.lemmas.List.Elements.{Contains-get_or}
use Rattle.std.proofs.lemmas.List.Sorted.{list_any-IsPermutation, length_permutation}
use Rattle.cell_partition.specs.declared.level.Level.{Level}
use Rattle.cell_partition.specs.Bounds.{joined, bounds_of, parts_at}
use Rattle.cell_partition.specs.Partition.{Partition, level_at, number_of, numbers_from, IsPartition, IsNested, IsKept, AreNumbered}
use Rattle.cell_partition.specs.Levels.{cells_of, IsLevel, partition_of, IsTable, AreAbove}
use Rattle.cell_partition.proofs.Numbers.{has, has_contains}
use Rattle.cell_partition.proofs.Kept.{within_from, has_from}

length-numbers : (first n : ℕ) → length (numbers_from first n) ≡ n
length-numbers first zero = refl
length-numbers first (suc n) = ap suc (length-numbers (first + 1) n)

pub partition_size : (n : ℕ) (cells : List (List ℕ)) → IsPartition n cells → length (joined cells) ≡ n
partition_size n cells p = length_permutation (numbers_from 0 n) (joined cells) p.whole ∙ length-numbers 0 n

pub partition_inside : (n : ℕ) (cells : List (List ℕ)) → IsPartition n cells → All (λ vertex. vertex < n) (joined cells)
partition_inside n cells p = λ k d l.
    let vertex = get_or (joined cells) k d in
    let r = within_from vertex 0 n (list_any-IsPermutation (eqb vertex) (numbers_from 0 n) (joined cells) p.whole ∙ has_contains vertex (joined cells) (Contains-get_or (joined cells) k d l)) in
    omega (arith, r.1)

pub partition_has : (n : ℕ) (cells : List (List ℕ)) → IsPartition n cells → (vertex : ℕ) → vertex < n → has vertex (joined cells) ≡ true
partition_has n cells p vertex h = sym (list_any-IsPermutation (eqb vertex) (numbers_from 0 n) (joined cells) p.whole) ∙ has_from vertex 0 n (omega arith) (omega arith)

-- the cells of the level at this place
pub level_is : (n : ℕ) (levels : List Level) (k : ℕ) (d : Level) → k < length levels → level_at (partition_of n levels) (k + 1) ≡ cells_of (get_or levels k d)
level_is n levels k d h =
    let at : k + 1 - 1 ≡ k = omega arith in
    ap (λ i. get_or (map cells_of levels) i []) at ∙ get_or-map cells_of levels k d [] h

-- what is known of the level at this place
pub record IsPlaced (n : ℕ) (levels : List Level) (k : ℕ) (level : Level) : Type 0 where
  pub is_level : IsLevel level
  pub cells : level_at (partition_of n levels) (k + 1) ≡ cells_of level
  pub parted : IsPartition n (cells_of level)
  pub size : length level.order.items ≡ n

pub level_placed : (n : ℕ) (levels : List Level) (k : ℕ) (level : Level) → k < length levels → level ≡ get_or levels k level → All IsLevel levels → IsKept (partition_of n levels) → IsPlaced n levels k level
level_placed n levels k level h is all kept =
    let is_level : IsLevel level = subst IsLevel (sym is) (all k level h) in
    let cells : level_at (partition_of n levels) (k + 1) ≡ cells_of level = level_is n levels k level h ∙ ap cells_of (sym is) in
    let parted : IsPartition n (cells_of level) = subst (IsPartition n) cells (kept.level (k + 1) (omega arith) (omega (arith, length-map levels cells_of))) in record {
      is_level = is_level;
      cells = cells;
      parted = parted;
      size = ap length is_level.order ∙ partition_size n (cells_of level) parted;
    }

-- what the numbers of a level ask for
pub numbers_ready : (level : Level) (order bounds : List ℕ) → order ≡ level.order.items → bounds ≡ level.bounds.items → IsLevel level → IsPartition (length level.order.items) (cells_of level)
    → (order ≡ joined (parts_at bounds order)) × ((bounds ≡ bounds_of (parts_at bounds order)) × ((length (parts_at bounds order) < 4294967296) × All (λ vertex. vertex < length order) order))
numbers_ready level order bounds o b kept parted =
    let inside : All (λ vertex. vertex < length level.order.items) level.order.items =
    subst (All (λ vertex. vertex < length level.order.items)) (sym kept.order) (partition_inside (length level.order.items) (cells_of level) parted) in
    rw (o, b) (kept.order, (kept.bounds, (kept.few, inside)))

pub numbers_made : (level : Level) (order bounds numbers : List ℕ) → order ≡ level.order.items → bounds ≡ level.bounds.items → IsPartition (length level.order.items) (cells_of level) → AreNumbered (parts_at bounds order) numbers
    → (vertex : ℕ) → vertex < length level.order.items → get_or numbers vertex 0 ≡ number_of (cells_of level) vertex
numbers_made level order bounds numbers o b parted numbered vertex h =
    let is : parts_at bounds order ≡ cells_of level = ap (λ (bs : List ℕ). parts_at bs order) b ∙ ap (parts_at level.bounds.items) o in
    let numbered' : AreNumbered (cells_of level) numbers = subst (λ (cells : List (List ℕ)). AreNumbered cells numbers) is numbered in
    numbered' vertex (partition_has (length level.order.items) (cells_of level) parted vertex h)

-- vertices that share a cell of the lowest level share one of each level
pub nested_all : (p : Partition) → IsKept p → (k : ℕ) → k < length p.levels → IsNested p.vertices (level_at p 1) (level_at p (suc k))
nested_all p kept zero h = λ one other a b same. same
nested_all p kept (suc k) h = λ one other a b same.
    let next : number_of (level_at p (suc k + 1)) one ≡ number_of (level_at p (suc k + 1)) other =
    kept.nested (suc k) (omega arith) (omega arith) one other a b (nested_all p kept k (omega arith) one other a b same) in
    let at : suc k + 1 ≡ suc (suc k) = add-one (suc k) in
    ap (λ n. number_of (level_at p n) one) (sym at) ∙ next ∙ ap (λ n. number_of (level_at p n) other) at

-- one more table
pub above_more : (p : Partition) (above : List (Vec ℕ Global)) (table : Vec ℕ Global) (level : ℕ) → AreAbove p above level → IsTable p.vertices (level_at p 1) (level_at p (level + 1)) table.items → AreAbove p (above ++ table ∷ []) (level + 1)
above_more p above table level so_far one = record {
  size = omega (arith, length-append above (table ∷ []), so_far.size);
  tables = λ k none h.
      ⊎_elim
      (λ (old : k < length above).
      subst (λ (t : Vec ℕ Global). IsTable p.vertices (level_at p 1) (level_at p (k + 2)) t.items) (sym (get_or_append_left above (table ∷ []) none k old)) (so_far.tables k none old))
      (λ (late : length above ≤ k).
      let last : length above ≡ k = omega (arith, length-append above (table ∷ [])) in
      let at : level + 1 ≡ k + 2 = omega (arith, so_far.size) in
      subst (λ (t : Vec ℕ Global). IsTable p.vertices (level_at p 1) (level_at p (k + 2)) t.items) (sym (get_or_push above table none k last))
      (subst (λ (n : ℕ). IsTable p.vertices (level_at p 1) (level_at p n) table.items) at one))
      (cases_lt k (length above));
}

-- what a table is made of, and what it is then, from the two cells of each vertex
pub record IsReady (p : Partition) (k count : ℕ) (lowest numbers : List ℕ) : Type 0 where
  pub inside : All (λ cell. cell < count) lowest
  pub same_size : length numbers ≡ length lowest
  pub nested : (one other : ℕ) → one < length lowest → other < length lowest → get_or lowest one 0 ≡ get_or lowest other 0 → get_or numbers one 0 ≡ get_or numbers other 0
  pub table : (table : List ℕ) → length table ≡ count → ((vertex : ℕ) → vertex < length lowest → get_or table (get_or lowest vertex 0) 0 ≡ get_or numbers vertex 0) → IsTable p.vertices (level_at p 1) (level_at p (k + 1)) table

pub table_ready : (p : Partition) (k count : ℕ) (lowest numbers : List ℕ) → IsKept p → k < length p.levels → count ≡ length (level_at p 1) → length lowest ≡ p.vertices → length numbers ≡ p.vertices
    → ((vertex : ℕ) → vertex < p.vertices → get_or lowest vertex 0 ≡ number_of (level_at p 1) vertex)
    → ((vertex : ℕ) → vertex < p.vertices → get_or numbers vertex 0 ≡ number_of (level_at p (k + 1)) vertex) → IsReady p k count lowest numbers
table_ready p k count lowest numbers kept within is_count size many low high = record {
  inside = λ i d l.
      let h : i < p.vertices = omega arith in
      let first = kept.level 1 (omega arith) (omega arith) in
      omega (arith, get_or_default lowest i d 0 l, low i h, first.placed i h);
  same_size = many ∙ sym size;
  nested = λ one other a b same.
      let above : IsNested p.vertices (level_at p 1) (level_at p (k + 1)) = subst (λ (n : ℕ). IsNested p.vertices (level_at p 1) (level_at p n)) (sym (add-one k)) (nested_all p kept k within) in
      high one (omega arith) ∙ above one other (omega arith) (omega arith) (sym (low one (omega arith)) ∙ same ∙ low other (omega arith)) ∙ sym (high other (omega arith));
  table = λ table counted held. record {
    size = counted ∙ is_count;
    held = λ vertex h. ap (λ n. get_or table n 0) (sym (low vertex h)) ∙ held vertex (omega arith) ∙ high vertex h;
  };
}

-- the same of levels
pub level_table : (lowest numbers : List ℕ) (levels : List Level) (k count : ℕ) (first upper : Level) → IsPlaced (length lowest) levels 0 first → IsPlaced (length lowest) levels k upper → IsKept (partition_of (length lowest) levels) → k < length levels → count ≡ length (cells_of first)
    → ((vertex : ℕ) → vertex < length lowest → get_or lowest vertex 0 ≡ number_of (level_at (partition_of (length lowest) levels) 1) vertex)
    → length numbers ≡ length upper.order.items → ((vertex : ℕ) → vertex < length upper.order.items → get_or numbers vertex 0 ≡ number_of (cells_of upper) vertex) → IsReady (partition_of (length lowest) levels) k count lowest numbers
level_table lowest numbers levels k count first upper f u kept within is_count low many high =
    let p = partition_of (length lowest) levels in
    table_ready p k count lowest numbers kept (omega (arith, length-map levels cells_of)) (is_count ∙ ap length (sym f.cells)) refl (many ∙ u.size) low
    (λ vertex h. high vertex (omega (arith, u.size)) ∙ ap (λ (cells : List (List ℕ)). number_of cells vertex) (sym u.cells))
