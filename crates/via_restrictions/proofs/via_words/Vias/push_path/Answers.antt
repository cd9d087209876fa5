use Rattle.std.proofs.Common.{◌≡◌, ℕ, ℤ, ◌*◌, [], List, true, filter, length, arith, rules, sym, ap, ◌∙◌, w64, FitsSigned}
use Rattle.std.specs.Prelude.{nat_lt}
use Rattle.std.proofs.lemmas.Bool.Decides.{nat_tests}
use Rattle.std.proofs.lemmas.Int.{to_z-of_z}
use Rattle.std.proofs.lemmas.List.{nil_from_length}
use Rattle.std.proofs.lemmas.List.Elements.{All-push, All-same}
use Rattle.std.proofs.lemmas.Option.{same_Some}
use Rattle.list_lemmas.proofs.Gets.{get_is}
use Rattle.turn_rules.specs.Rules.{ViaRule}
use Rattle.via_restrictions.specs.ViaWays.{ends_along, is_onto, is_shut, starts}
use Rattle.via_paths.specs.Forbidden.{IsBelow, words_in}
use Rattle.road_segments.specs.Vertex.{vertices}
use Rattle.via_restrictions.proofs.FindLemmas.{adds-none, adds-same, ends-started, ends-startless, words-endless, words-grouped, words-startless}
use Rattle.via_restrictions.proofs.ViaLemmas.{IsVertex, first-get, last-get}
use Rattle.via_restrictions.proofs.via_words.Vias.push_path.Goals as goal

pub returns-then-is_empty-clause-words : goal.returns-then-is_empty-clause-words
returns-then-is_empty-clause-words c = λ rule its.
    let vs = vertices c.args.self.now.turning.roads.now in
    let kept = c.args.self.now.turning.restrictions.now.kept in
    let all = c.args.self.now.rules.now in
    let path = c.args.path.now in
    let r = c.index-self-number.result in
    let here : r ≡ rule = same_Some r rule (sym (get_is all c.args.number r c.requires.number (sym c.index-self-number.is)) ∙ its) in
    let fits : FitsSigned w64 c.from.result = search rules in
    let value = simp (to_z-of_z, fits) at c.in_ok-starts.ensures.value in
    let is : c.in_ok-starts.starts.items ≡ starts vs kept rule.from path =
    value path (first-get path) ∙ ap (λ (w : ℤ). starts vs kept w path) (c.from.ensures ∙ ap (λ (x : ViaRule). x.from) (sym c.index-self-number.is ∙ here)) in
    let none : starts vs kept rule.from path ≡ [] = sym is ∙ nil_from_length c.in_ok-starts.starts.items (grind (arith, nat_tests, c.is_empty.ensures, c.if-is_empty.true)) in
    words-startless vs kept all c.args.number rule path (words_in c.args.groups.now.items) none

pub returns-then-is_empty-clause-reached : goal.returns-then-is_empty-clause-reached
returns-then-is_empty-clause-reached c = λ rule its.
    let vs = vertices c.args.self.now.turning.roads.now in
    let kept = c.args.self.now.turning.restrictions.now.kept in
    let all = c.args.self.now.rules.now in
    let path = c.args.path.now in
    let r = c.index-self-number.result in
    let here : r ≡ rule = same_Some r rule (sym (get_is all c.args.number r c.requires.number (sym c.index-self-number.is)) ∙ its) in
    let fits : FitsSigned w64 c.from.result = search rules in
    let value = simp (to_z-of_z, fits) at c.in_ok-starts.ensures.value in
    let is : c.in_ok-starts.starts.items ≡ starts vs kept rule.from path =
    value path (first-get path) ∙ ap (λ (w : ℤ). starts vs kept w path) (c.from.ensures ∙ ap (λ (x : ViaRule). x.from) (sym c.index-self-number.is ∙ here)) in
    let none : starts vs kept rule.from path ≡ [] = sym is ∙ nil_from_length c.in_ok-starts.starts.items (grind (arith, nat_tests, c.is_empty.ensures, c.if-is_empty.true)) in
    adds-same vs c.args.number [] (ends_along vs kept rule path) c.args.reached.now.ways c.args.reached.now.ways c.args.reached.now.firsts c.args.reached.now.firsts
    (sym (ends-startless vs kept all c.args.number rule path none)) (adds-none vs c.args.number c.args.reached.now.ways c.args.reached.now.firsts)

pub returns-in_ok-push-clause-words : goal.returns-in_ok-push-clause-words
returns-in_ok-push-clause-words c = λ rule its.
    let vs = vertices c.args.self.now.turning.roads.now in
    let kept = c.args.self.now.turning.restrictions.now.kept in
    let all = c.args.self.now.rules.now in
    let path = c.args.path.now in
    let r = c.index-self-number.result in
    let here : r ≡ rule = same_Some r rule (sym (get_is all c.args.number r c.requires.number (sym c.index-self-number.is)) ∙ its) in
    let fits : FitsSigned w64 c.from.result = search rules in
    let value = simp (to_z-of_z, fits) at c.in_ok-starts.ensures.value in
    let begin : c.in_ok-starts.starts.items ≡ starts vs kept rule.from path =
    value path (first-get path) ∙ ap (λ (w : ℤ). starts vs kept w path) (c.from.ensures ∙ ap (λ (x : ViaRule). x.from) (sym c.index-self-number.is ∙ here)) in
    let out = c.deref-2.ensures.value ∙ c.in_ok-exits.ensures.value path (last-get path) in
    let end = c.in_ok-ends.ensures.value ∙ ap (filter (is_onto vs (is_shut all c.args.number))) out in
    ap words_in c.in_ok-push.ensures.items
    ∙ words-grouped vs kept all c.args.number rule path c.args.groups.now.items (record { starts = c.in_ok-starts.starts; path = c.in_ok-path.path; ends = c.in_ok-ends.ends }) begin c.in_ok-path.ensures.items end

pub returns-in_ok-push-clause-below : goal.returns-in_ok-push-clause-below
returns-in_ok-push-clause-below c = λ h.
    let segments = c.args.self.now.turning.roads.now in
    let P = IsBelow (2 * length segments) in
    All-same P c.push.new.self.items _ c.in_ok-push.ensures.items
    (All-push P c.args.groups.now.items (record { starts = c.in_ok-starts.starts; path = c.in_ok-path.path; ends = c.in_ok-ends.ends }) h (
      c.in_ok-starts.ensures.below,
      All-same (IsVertex segments) c.in_ok-path.path.items c.args.path.now c.in_ok-path.ensures.items c.requires.below,
      c.in_ok-ends.ensures.below,
    ))

pub returns-in_ok-push-clause-reached : goal.returns-in_ok-push-clause-reached
returns-in_ok-push-clause-reached c = λ rule its.
    let vs = vertices c.args.self.now.turning.roads.now in
    let kept = c.args.self.now.turning.restrictions.now.kept in
    let all = c.args.self.now.rules.now in
    let path = c.args.path.now in
    let r = c.index-self-number.result in
    let here : r ≡ rule = same_Some r rule (sym (get_is all c.args.number r c.requires.number (sym c.index-self-number.is)) ∙ its) in
    let fits : FitsSigned w64 c.from.result = search rules in
    let value = simp (to_z-of_z, fits) at c.in_ok-starts.ensures.value in
    let begin : c.in_ok-starts.starts.items ≡ starts vs kept rule.from path =
    value path (first-get path) ∙ ap (λ (w : ℤ). starts vs kept w path) (c.from.ensures ∙ ap (λ (x : ViaRule). x.from) (sym c.index-self-number.is ∙ here)) in
    let some : nat_lt 0 (length c.in_ok-starts.starts.items) ≡ true = grind (arith, nat_tests, c.is_empty.ensures, c.if-is_empty.false) in
    let out = c.deref.ensures.value ∙ c.in_ok-exits.ensures.value path (last-get path) in
    adds-same vs c.args.number c.deref.result.now (ends_along vs kept rule path) c.args.reached.now.ways c.reach.new.reached.ways c.args.reached.now.firsts c.reach.new.reached.firsts
    (out ∙ sym (ends-started vs kept all c.args.number rule path (ap (λ (l : List ℕ). nat_lt 0 (length l)) (sym begin) ∙ some))) c.in_ok-reach.ensures

pub returns-else-not-is_empty-clause-words : goal.returns-else-not-is_empty-clause-words
returns-else-not-is_empty-clause-words c = λ rule its.
    let vs = vertices c.args.self.now.turning.roads.now in
    let kept = c.args.self.now.turning.restrictions.now.kept in
    let all = c.args.self.now.rules.now in
    let path = c.args.path.now in
    let out = c.deref-2.ensures.value ∙ c.in_ok-exits.ensures.value path (last-get path) in
    let end = c.in_ok-ends.ensures.value ∙ ap (filter (is_onto vs (is_shut all c.args.number))) out in
    let none = sym end ∙ nil_from_length c.in_ok-ends.ends.items (grind (arith, nat_tests, c.is_empty-2.ensures, c.if-not-is_empty.false)) in
    words-endless vs kept all c.args.number rule path (words_in c.args.groups.now.items) none

pub returns-else-not-is_empty-clause-reached : goal.returns-else-not-is_empty-clause-reached
returns-else-not-is_empty-clause-reached c = λ rule its.
    let vs = vertices c.args.self.now.turning.roads.now in
    let kept = c.args.self.now.turning.restrictions.now.kept in
    let all = c.args.self.now.rules.now in
    let path = c.args.path.now in
    let r = c.index-self-number.result in
    let here : r ≡ rule = same_Some r rule (sym (get_is all c.args.number r c.requires.number (sym c.index-self-number.is)) ∙ its) in
    let fits : FitsSigned w64 c.from.result = search rules in
    let value = simp (to_z-of_z, fits) at c.in_ok-starts.ensures.value in
    let begin : c.in_ok-starts.starts.items ≡ starts vs kept rule.from path =
    value path (first-get path) ∙ ap (λ (w : ℤ). starts vs kept w path) (c.from.ensures ∙ ap (λ (x : ViaRule). x.from) (sym c.index-self-number.is ∙ here)) in
    let some : nat_lt 0 (length c.in_ok-starts.starts.items) ≡ true = grind (arith, nat_tests, c.is_empty.ensures, c.if-is_empty.false) in
    let out = c.deref.ensures.value ∙ c.in_ok-exits.ensures.value path (last-get path) in
    adds-same vs c.args.number c.deref.result.now (ends_along vs kept rule path) c.args.reached.now.ways c.reach.new.reached.ways c.args.reached.now.firsts c.reach.new.reached.firsts
    (out ∙ sym (ends-started vs kept all c.args.number rule path (ap (λ (l : List ℕ). nat_lt 0 (length l)) (sym begin) ∙ some))) c.in_ok-reach.ensures
