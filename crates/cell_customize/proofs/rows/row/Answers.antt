-- Each turn values one exit more.
use Rattle.std.proofs.Common.{rules, ◌≡◌, List, ◌∷◌, ◌++◌, [], Some, get_or, length, length-append, refl, sym, arith, ap, subst, ◌∙◌}
use Rattle.std.specs.List.{slice_get}
use Rattle.std.proofs.lemmas.Option.{slice_get-get_or, slice_get_within}
use Rattle.std.proofs.lemmas.List.{append_assoc, append-nil}
use Rattle.cell_frame.specs.Borders.{Holds}
use Rattle.cell_frame.specs.Inside.{IsInsideValue}
use Rattle.cell_customize.proofs.Numbered.{named_some}
use Rattle.cell_customize.specs.Filled.{small_space}
use Rattle.label_search.specs.Ranked.{AreArcRanks}
use Rattle.label_search.specs.declared.arc_ranks.ArcRank.{ArcRank}
use Rattle.cell_customize.specs.Leaping.{IsGoal, leap_space}
use Rattle.cell_customize.proofs.Ranked.{AreArcRanks-leaps}
use Rattle.cell_customize.proofs.Searched.{IsSpace-leapt}
use Rattle.cell_customize.specs.Piling.{get_nothing, one_more, row_from}
use Rattle.cell_customize.proofs.rows.row.Goals as goal

pub unwrap-start-requires : goal.unwrap-start-requires
unwrap-start-requires g c = named_some c.args.leaping.now.steps.now.local.now.numbers c.args.entry c.number.result c.number.ensures.none (c.requires.filled.named c.args.entry c.requires.entry)

pub search-requires-clause-space : goal.search-requires-clause-space
search-requires-clause-space g c =
    let o = c.args.leaping.now.steps.now.steps.now in
    IsSpace-leapt g.met.C.Cost.laws o.frame.now o.weights.now o.cliques.now o.parts.now.cell c.requires.inner c.args.leaping.now.steps.now.local.now c.requires.filled c.args.leaping.now.leaps.now c.requires.leapt

pub search-requires-clause-arcs : goal.search-requires-clause-arcs
search-requires-clause-arcs g c =
    let o = c.args.leaping.now.steps.now.steps.now in
    let local = c.args.leaping.now.steps.now.local.now in
    let leaps = c.args.leaping.now.leaps.now in
    let ops = g.C.Cost.ops in
    let small = small_space ops o.frame.now o.weights.now o.parts.now.cell local in
    let space = IsSpace-leapt g.met.C.Cost.laws o.frame.now o.weights.now o.cliques.now o.parts.now.cell c.requires.inner local c.requires.filled leaps c.requires.leapt in
    subst (λ (arcs : List ArcRank). AreArcRanks ops g.C.Cost.ranked (leap_space small leaps.bundles.items leaps.gathering.hops.items) arcs) (sym c.as_slice.ensures.value)
    (AreArcRanks-leaps {C = g.row.C.Denot} ops g.C.Cost.ranked small (IsGoal leaps.goals.items) leaps.bundles.items leaps.gathering.hops.items (length local.numbers) leaps.ranks.items c.requires.leapt.bundles space c.requires.ranks)

pub search-requires-clause-start : goal.search-requires-clause-start
search-requires-clause-start g c =
    let at : slice_get c.args.leaping.now.steps.now.local.now.numbers c.unwrap-start.result ≡ Some c.args.entry = search rules in
    rw c.len.ensures.count (slice_get_within c.args.leaping.now.steps.now.local.now.numbers c.unwrap-start.result c.args.entry at)

pub loop-exit-init : goal.loop-exit-init
loop-exit-init g c = record {
  row = [];
  behind = sym (append-nil _);
  count = refl;
  each = λ j v o ex er. absurd (get_nothing [] j o refl er);
}

pub loop-exit-preserved : goal.loop-exit-preserved
loop-exit-preserved g c =
    let before = c.loop-exit.invariant in
    let f = c.args.leaping.now.steps.now.steps.now.frame.now in
    let n : length before.row ≡ c.loop-exit.exit-index = before.count in
    record {
      row = before.row ++ c.inside.result ∷ [];
      behind = c.in_ok-push.ensures.pushed ∙ ap (λ xs. xs ++ c.inside.result ∷ []) before.behind ∙ append_assoc c.args.values.now before.row (c.inside.result ∷ []);
      count = omega (arith, length-append before.row (c.inside.result ∷ []), n);
      each = one_more (IsInsideValue g.C.Cost.ops f.graph c.args.leaping.now.steps.now.steps.now.weights.now (Holds f.cells c.args.leaping.now.steps.now.steps.now.parts.now.cell) c.args.entry) c.args.exits.now before.row c.loop-exit.exit-index (get_or c.args.exits.now c.loop-exit.exit-index 0) c.inside.result n
          (slice_get-get_or c.args.exits.now c.loop-exit.exit-index 0 c.loop-exit-test.true) c.inside.ensures before.each;
    }

pub returns : goal.returns
returns g c =
    let whole = c.loop-exit.invariant in
    let n : length whole.row ≡ c.loop-exit.exit-index = whole.count in
    let all : length whole.row ≡ length c.args.exits.now = omega (arith, c.loop-exit-test.false) in
    (whole.row, whole.behind, row_from g.C.Cost.ops c.args.leaping.now.steps.now.steps.now.frame.now c.args.leaping.now.steps.now.steps.now.weights.now c.args.leaping.now.steps.now.steps.now.parts.now.cell c.args.entry _ _ c.requires.exits all whole.each)
