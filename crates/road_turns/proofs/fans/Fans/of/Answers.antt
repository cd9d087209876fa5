use Rattle.std.proofs.Common.{◌≡◌, inl, inr, Some, ◌+◌, ◌-◌, ◌<◌, ◌≤◌, ◌*◌, ◌++◌, ◌∷◌, [], ℕ, ℤ, List, Bool, true, false, filter, length, set, take, arith, rules, refl, sym, ap, ◌∙◌, w64, FitsSigned, to_z, of_z, length-append}
use Rattle.std.specs.List.{slice_get}
use Rattle.std.specs.Ordering.{int_eq}
use Rattle.std.proofs.lemmas.Bool.Decides.{Decides-int_eq}
use Rattle.std.proofs.lemmas.Int.{of_z-to_z, to_z-of_z}
use Rattle.std.proofs.lemmas.List.{length-take}
use Rattle.std.proofs.lemmas.List.Sums.{count_by-le-length, length-filter}
use Rattle.turn_rules.specs.Rules.{Rule}
use Rattle.road_turns.specs.Fans.{is_permitted}
use Rattle.list_lemmas.proofs.Gets.{All_get, get_is, get_some}
use Rattle.road_turns.specs.RestrictionParts.{has_via}
use Rattle.road_turns.specs.VertexLaws.{field-at}
use Rattle.road_segments.specs.Vertex.{Vertex, vertices}
use Rattle.road_segments.specs.Laws.{length-vertices}
use Rattle.road_turns.proofs.FanLemmas.{AreBegun, AreBegun-as, AreBegun-next, AreBegun-same, AreBegun-some, AreBegun-start, AreFans-all, AreRestricted-all}
use Rattle.road_turns.specs.declared.fans.Fans.{Fans}
use Rattle.road_turns.proofs.fans.Fans.of.Goals.{then-i-eq0+in_ok-begin, else-i-eq0+else-tail-node}
use Rattle.road_turns.proofs.fans.Fans.of.Goals as goal

pub loop-i-init : goal.loop-i-init
loop-i-init c =
    AreBegun-start (vertices c.args.roads.now) c.args.restrictions.now.kept c.args.departures.now.order.items _ c.in_ok-fans.fans.leaving.items c.in_ok-fans.fans.begins.items c.in_ok-fans.fans.restricted.items
    c.in_ok-fans.fans.nodes.items c.in_ok-fans.ensures.leaving c.in_ok-fans.ensures.begins c.in_ok-fans.ensures.restricted
    (omega (arith, c.in_ok-fans.ensures.nodes, length-vertices c.args.roads.now, c.len.ensures.value))

pub tail-tail-requires : goal.tail-tail-requires
tail-tail-requires c =
    let vs = vertices c.args.roads.now in
    let order = c.args.departures.now.order.items in
    let lt : c.loop-i.i < length order = omega arith in
    let within : c.index-v.result.now < length vs = All_get (λ (v : ℕ). v < length vs) order c.loop-i.i c.index-v.result.now c.requires.within (get_is order c.loop-i.i c.index-v.result.now lt (sym c.index-v.ensures)) in
    omega (arith, within, length-vertices c.args.roads.now)

-- no more vertices stand in a front than are there
passed-few : (vs : List Vertex) (rules : List Rule) (order : List ℕ) (i : ℕ) (last : ℤ) (leaving begins : List ℕ) (restricted : List Bool) (nodes : List ℕ) → AreBegun vs rules order i last leaving begins restricted nodes
    → length leaving ≤ length order
passed-few vs rules order i last leaving begins restricted nodes h =
    omega (
      arith,
      ap length h.passed,
      length-filter (is_permitted vs) (take i order),
      count_by-le-length (is_permitted vs) (take i order),
      length-take i order,
    )

-- two ids whose bits differ are not the same
apart : (tail : ℤ) (bits : ℕ) → of_z w64 (to_z w64 bits) ≡ bits → (of_z w64 tail ≡ bits → ⊥) → int_eq tail (to_z w64 bits) ≡ false
apart tail bits back other = by (int_eq tail (to_z w64 bits)) refl
  where
    by : (b : Bool) → int_eq tail (to_z w64 bits) ≡ b → int_eq tail (to_z w64 bits) ≡ false
    by true e = absurd (other (ap (of_z w64) ((Decides-int_eq tail (to_z w64 bits)).0 e) ∙ back))
    by false e = e

pub begin-requires : goal.begin-requires
begin-requires c =
    let few =
    passed-few (vertices c.args.roads.now) c.args.restrictions.now.kept c.args.departures.now.order.items c.loop-i.i (to_z w64 c.loop-i.node-bits) c.loop-i.fans.leaving.items c.loop-i.fans.begins.items c.loop-i.fans.restricted.items
    c.loop-i.fans.nodes.items c.loop-i.invariant in
    omega (arith, few, c.requires.as_many, length-vertices c.args.roads.now, c.len.ensures.value, c.len.ensures.fits)

pub add-requires-clause-vertex : goal.add-requires-clause-vertex
add-requires-clause-vertex c =
    let vs = vertices c.args.roads.now in
    let order = c.args.departures.now.order.items in
    let lt : c.loop-i.i < length order = omega arith in
    let within : c.index-v.result.now < length vs = All_get (λ (v : ℕ). v < length vs) order c.loop-i.i c.index-v.result.now c.requires.within (get_is order c.loop-i.i c.index-v.result.now lt (sym c.index-v.ensures)) in
    omega (arith, within, length-vertices c.args.roads.now)

pub add-requires-clause-nodes : goal.add-requires-clause-nodes
add-requires-clause-nodes c =
    let vs = vertices c.args.roads.now in
    let order = c.args.departures.now.order.items in
    let lt : c.loop-i.i < length order = omega arith in
    let within : c.index-v.result.now < length vs = All_get (λ (v : ℕ). v < length vs) order c.loop-i.i c.index-v.result.now c.requires.within (get_is order c.loop-i.i c.index-v.result.now lt (sym c.index-v.ensures)) in
    elim c.if-i-eq0.branch [
      | then-i-eq0+in_ok-begin w ↦ rw w.fans-is (omega (arith, within, c.loop-i.invariant.as_many, ap length w.in_ok-begin.ensures.nodes))
      | else-i-eq0+else-tail-node w ↦ rw w.fans-is (omega (arith, within, c.loop-i.invariant.as_many))
    ]

pub add-requires-clause-some : goal.add-requires-clause-some
add-requires-clause-some c =
    elim c.if-i-eq0.branch [
      | then-i-eq0+in_ok-begin w ↦
          rw w.fans-is (omega (arith, ap length w.in_ok-begin.ensures.restricted, length-append {A = Bool}))
      | else-i-eq0+else-tail-node w ↦
          let from : 0 < c.loop-i.i = omega (arith, w.if-i-eq0.false) in
          let some =
          AreBegun-some (vertices c.args.roads.now) c.args.restrictions.now.kept c.args.departures.now.order.items c.requires c.loop-i.i (to_z w64 c.loop-i.node-bits) c.loop-i.fans.leaving.items c.loop-i.fans.begins.items
          c.loop-i.fans.restricted.items c.loop-i.fans.nodes.items c.loop-i.invariant from (omega arith) in
          rw w.fans-is some
    ]

pub add-requires-clause-few : goal.add-requires-clause-few
add-requires-clause-few c =
    let i : c.loop-i.i < 2 * c.len.result = omega (arith, c.requires.as_many, length-vertices c.args.roads.now, c.len.ensures.value) in
    elim c.if-i-eq0.branch [
      | then-i-eq0+in_ok-begin w ↦
          rw w.fans-is (omega (arith, i, c.len.ensures.fits, c.loop-i.invariant.few, c.loop-i.invariant.flags, ap length w.in_ok-begin.ensures.restricted, length-append {A = Bool}))
      | else-i-eq0+else-tail-node w ↦ rw w.fans-is (omega (arith, i, c.len.ensures.fits, c.loop-i.invariant.few, c.loop-i.invariant.flags))
    ]

pub loop-i-preserved : goal.loop-i-preserved
loop-i-preserved c =
    let vs = vertices c.args.roads.now in
    let kept = c.args.restrictions.now.kept in
    let order = c.args.departures.now.order.items in
    let i = c.loop-i.i in
    let v = c.index-v.result.now in
    let last = to_z w64 c.loop-i.node-bits in
    let lt : i < length order = omega arith in
    let at : slice_get order i ≡ Some v = get_is order i v lt (sym c.index-v.ensures) in
    let within : v < length vs = All_get (λ (u : ℕ). u < length vs) order i v c.requires.within at in
    let x = get_some vs v within in
    let tail : x.0.tail ≡ c.tail-tail.result = field-at (λ y. y.tail) vs v x.0 c.tail-tail.result x.1 c.tail-tail.ensures in
    let fits : FitsSigned w64 c.tail-tail.result = search rules in
    let passed : List ℕ = filter (is_permitted vs) (v ∷ []) in
    elim c.if-i-eq0.branch [
      | then-i-eq0+in_ok-begin w ↦
          let begun = w.in_ok-begin.ensures in
          let flags = simp to_z-of_z at begun.restricted in
          let small : c.loop-i.node-bits < 18446744073709551616 = search (rules, c.loop-i.auto.node-fits) in
          let other : 0 < i → int_eq x.0.tail last ≡ false =
          λ (from : 0 < i). elim w.then-i-eq0.either [
            | inl first ↦ absurd (omega (arith, from, first))
            | inr both ↦ ap (λ (t : ℤ). int_eq t last) tail ∙ apart c.tail-tail.result c.loop-i.node-bits (of_z-to_z w64 c.loop-i.node-bits small) both.1
          ] in
          AreBegun-as vs kept order (i + 1) x.0.tail (to_z w64 c.if-i-eq0.node-bits) (c.loop-i.fans.leaving.items ++ passed) c.add.new.fans.leaving.items w.begin.new.fans.begins.items c.add.new.fans.begins.items
          w.begin.new.fans.restricted.items c.add.new.fans.restricted.items (set c.loop-i.fans.nodes.items v (length w.begin.new.fans.restricted.items - 1)) c.add.new.fans.nodes.items
          (w.node-is ∙ to_z-of_z w64 c.tail-tail.result fits ∙ sym tail)
          (c.in_ok-add.ensures.leaving ∙ ap (λ (f : Fans). f.leaving.items ++ passed) w.fans-is ∙ ap (λ (l : List ℕ). l ++ passed) begun.leaving)
          (c.in_ok-add.ensures.begins ∙ ap (λ (f : Fans). f.begins.items) w.fans-is)
          (c.in_ok-add.ensures.restricted ∙ ap (λ (f : Fans). f.restricted.items) w.fans-is)
          (c.in_ok-add.ensures.nodes
          ∙ ap (λ (f : Fans). set f.nodes.items v (length f.restricted.items - 1)) w.fans-is
          ∙ ap (λ (l : List ℕ). set l v (length w.begin.new.fans.restricted.items - 1)) begun.nodes)
          (AreBegun-next vs kept order c.requires i last c.loop-i.fans.leaving.items c.loop-i.fans.begins.items c.loop-i.fans.restricted.items c.loop-i.fans.nodes.items c.loop-i.invariant v x.0 at x.1
          w.begin.new.fans.begins.items w.begin.new.fans.restricted.items other begun.begins
          (flags ∙ ap (λ (t : ℤ). c.loop-i.fans.restricted.items ++ has_via kept t ∷ []) (sym tail)))
      | else-i-eq0+else-tail-node w ↦
          AreBegun-as vs kept order (i + 1) last (to_z w64 c.if-i-eq0.node-bits) (c.loop-i.fans.leaving.items ++ passed) c.add.new.fans.leaving.items c.loop-i.fans.begins.items c.add.new.fans.begins.items
          c.loop-i.fans.restricted.items c.add.new.fans.restricted.items (set c.loop-i.fans.nodes.items v (length c.loop-i.fans.restricted.items - 1)) c.add.new.fans.nodes.items
          w.node-is
          (c.in_ok-add.ensures.leaving ∙ ap (λ (f : Fans). f.leaving.items ++ passed) w.fans-is)
          (c.in_ok-add.ensures.begins ∙ ap (λ (f : Fans). f.begins.items) w.fans-is)
          (c.in_ok-add.ensures.restricted ∙ ap (λ (f : Fans). f.restricted.items) w.fans-is)
          (c.in_ok-add.ensures.nodes ∙ ap (λ (f : Fans). set f.nodes.items v (length f.restricted.items - 1)) w.fans-is)
          (AreBegun-same vs kept order c.requires i last c.loop-i.fans.leaving.items c.loop-i.fans.begins.items c.loop-i.fans.restricted.items c.loop-i.fans.nodes.items c.loop-i.invariant v x.0 at x.1
          (omega (arith, w.if-i-eq0.false)) (tail ∙ sym (to_z-of_z w64 c.tail-tail.result fits) ∙ ap (to_z w64) w.if-tail-node.false))
    ]

pub overflow_cast-len : goal.overflow_cast-len
overflow_cast-len c =
    let few =
    passed-few (vertices c.args.roads.now) c.args.restrictions.now.kept c.args.departures.now.order.items c.loop-i.i (to_z w64 c.loop-i.node-bits) c.loop-i.fans.leaving.items c.loop-i.fans.begins.items c.loop-i.fans.restricted.items
    c.loop-i.fans.nodes.items c.loop-i.invariant in
    omega (arith, few, c.requires.as_many, length-vertices c.args.roads.now, c.len.ensures.value, c.len.ensures.fits)

pub returns-clause-fans : goal.returns-clause-fans
returns-clause-fans c =
    let long : c.len-2.result ≡ length c.loop-i.fans.leaving.items = omega (arith, c.len-2.ensures, c.loop-i.fans.leaving.ok.0) in
    AreFans-all (vertices c.args.roads.now) c.args.restrictions.now.kept c.args.departures.now.order.items c.requires c.loop-i.i (to_z w64 c.loop-i.node-bits) c.loop-i.fans.leaving.items c.loop-i.fans.begins.items c.loop-i.fans.restricted.items
    c.loop-i.fans.nodes.items c.loop-i.invariant (omega arith) c.push.new.self.items (c.in_ok-push.ensures.items ∙ ap (λ (n : ℕ). c.loop-i.fans.begins.items ++ n ∷ []) long)

pub returns-clause-restricted : goal.returns-clause-restricted
returns-clause-restricted c =
    AreRestricted-all (vertices c.args.roads.now) c.args.restrictions.now.kept c.args.departures.now.order.items c.requires c.loop-i.i (to_z w64 c.loop-i.node-bits) c.loop-i.fans.leaving.items c.loop-i.fans.begins.items
    c.loop-i.fans.restricted.items c.loop-i.fans.nodes.items c.loop-i.invariant (omega arith)
