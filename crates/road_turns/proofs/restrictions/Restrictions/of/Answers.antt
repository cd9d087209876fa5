use Rattle.std.proofs.Common.{◌≡◌, List, Bool, not, length, filter, arith, ap, ◌∙◌, ◌+◌}
use Rattle.std.specs.Prelude.{count_by}
use Rattle.std.specs.List.{items_where_true}
use Rattle.std.proofs.lemmas.List.{length-map}
use Rattle.road_turns.specs.RestrictionParts.{has_via}
use Rattle.road_turns.specs.Restrictions.{applies, is_forbidden_at}
use Rattle.road_turns.proofs.RuleLemmas.{count_by-map, items_where_true-map}
use Rattle.road_turns.proofs.restrictions.Restrictions.of.Goals as goal

pub nodes_of-requires : goal.nodes_of-requires
nodes_of-requires c =
    ap length c.deref.ensures.value ∙ ap length c.in_ok-applies.ensures ∙ length-map c.args.rules.kept (applies c.args.roads.now)

pub of-requires : goal.of-requires
of-requires c =
    ap length c.deref-2.ensures.value ∙ ap length c.in_ok-applies.ensures ∙ length-map c.args.rules.kept (applies c.args.roads.now)

pub overflow_add-ignored : goal.overflow_add-ignored
overflow_add-ignored c =
    omega (arith, c.requires, ap length c.deref-3.ensures.value, ap length c.in_ok-applies.ensures, length-map c.args.rules.kept (applies c.args.roads.now))

pub returns : goal.returns
returns c =
    let rules = c.args.rules in
    let segments = c.args.roads.now in
    let kept : items_where_true c.in_ok-applies.applies.items rules.kept ≡ filter (applies segments) rules.kept =
    ap (λ (l : List Bool). items_where_true l rules.kept) c.in_ok-applies.ensures ∙ items_where_true-map (applies segments) rules.kept in
    let counted : c.count_unmet.result ≡ count_by (λ r. not (applies segments r)) rules.kept =
    c.count_unmet.ensures.value
    ∙ ap (count_by (λ flag. not flag)) (c.deref-3.ensures.value ∙ c.in_ok-applies.ensures)
    ∙ count_by-map (applies segments) rules.kept in
    let ignored : c.ignored.result + c.count_unmet.result ≡ rules.ignored + count_by (λ r. not (applies segments r)) rules.kept = omega (arith, c.ignored.ensures, counted) in
    λ i. record { kept = kept i; along = rules.along; ignored = ignored i }

pub invariant_of-result : goal.invariant_of-result
invariant_of-result c =
    let kept = c.args.rules.kept in
    record {
      as_many = ap length c.in_ok-applies.ensures ∙ length-map kept (applies c.args.roads.now);
      at = λ node. c.in_ok-nodes.ensures node ∙ ap (λ (l : List Bool). has_via (items_where_true l kept) node) c.deref.ensures.value;
      decisions = λ node from to back. c.in_ok-decisions.ensures node from to back ∙ ap (λ (l : List Bool). is_forbidden_at (items_where_true l kept) node from to back) c.deref-2.ensures.value;
    }
