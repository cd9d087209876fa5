use Rattle.std.proofs.Common.{◌≡◌, ◌+◌, ◌-◌, ◌<◌, ◌≤◌, List, [], ◌∷◌, length, drop, get_or, sym, subst, ap, ◌∙◌, arith}
use Rattle.std.proofs.lemmas.List.{drop_all}
use Rattle.cell_partition.specs.declared.spot.Spot.{Spot}
use Rattle.cell_partition.specs.declared.level.Level.{Level}
use Rattle.cell_partition.specs.Spots.{spots_of}
use Rattle.cell_partition.specs.Bounds.{parts_at}
use Rattle.cell_partition.proofs.InOrder.{found_standing, standing_whole}
use Rattle.cell_partition.proofs.Kept.{IsCut, Halves, length-spots, cut_start, cut_length, cut_apart, all_drop, level_ready, cut_more, cut_all, cut_few, cut_kept, cut_halved}
use Rattle.cell_partition.proofs.cutting.levels_of.Goals as goal

pub loop-rest-init : goal.loop-rest-init
loop-rest-init c = record {
  within = omega arith;
  standing = found_standing c.in_ok-parts.parts (spots_of c.args.midpoints.now ∷ [])
      (standing_whole c.in_ok-parts.parts (spots_of c.args.midpoints.now) c.in_ok-parts.ensures.along (c.in_ok-parts.ensures.bounds ∙ ap (λ n. 0 ∷ n ∷ []) (sym (length-spots 0 c.args.midpoints.now))) c.in_ok-parts.ensures.axes);
  cut = cut_start c.args.midpoints.now _ _ _ _ (drop_all (length c.args.limits.now) c.args.limits.now (omega arith)) c.in_ok-parts.ensures.along c.in_ok-parts.ensures.bounds c.new-levels.ensures.items;
}

pub halved-requires : goal.halved-requires
halved-requires c =
    let r = c.loop-rest.rest - 1 in
    let limits = c.args.limits.now in
    let spots = c.loop-rest.parts.along.items in
    let within : c.loop-rest.rest ≤ length limits = c.loop-rest.invariant.within in
    let inside : r < length limits = omega arith in
    let same : length spots ≡ length c.args.midpoints.now =
    cut_length c.args.midpoints.now (drop c.loop-rest.rest limits) spots c.loop-rest.parts.bounds.items c.loop-rest.levels.items (all_drop limits c.loop-rest.rest c.requires.some) c.loop-rest.invariant.cut in
    let size : length spots < 4294967296 = omega (arith, c.requires.few) in
    let apart = cut_apart c.args.midpoints.now (drop c.loop-rest.rest limits) spots c.loop-rest.parts.bounds.items c.loop-rest.levels.items (all_drop limits c.loop-rest.rest c.requires.some) c.loop-rest.invariant.cut in
    (c.requires.some r 0 inside, (size, (apart, c.loop-rest.invariant.standing)))

pub of-requires : goal.of-requires
of-requires c =
    let r = c.loop-rest.rest - 1 in
    let limits = c.args.limits.now in
    let at : c.loop-rest.rest ≡ r + 1 = omega arith in
    let next = c.in_ok-parts-2.ensures in
    let halves : Halves (get_or limits r 0) (parts_at c.loop-rest.parts.bounds.items c.loop-rest.parts.along.items) c.deref.result.now c.in_ok-parts-2.parts.bounds.items =
    (next.0, next.1, c.deref.ensures.value ∙ next.2.along, next.2.bounds) in
    level_ready c.args.midpoints.now limits r c.loop-rest.rest c.loop-rest.parts.along.items c.deref.result.now c.loop-rest.parts.bounds.items c.in_ok-parts-2.parts.bounds.items c.in_ok-from_slice.field-0.items c.loop-rest.levels.items at
    c.loop-rest.invariant.within c.requires.some c.requires.few c.loop-rest.invariant.cut halves (c.in_ok-from_slice.ensures.items ∙ c.deref-in-loop-rest.ensures.value)

pub loop-rest-preserved : goal.loop-rest-preserved
loop-rest-preserved c =
    let r = c.loop-rest.rest - 1 in
    let limits = c.args.limits.now in
    let at : c.loop-rest.rest ≡ r + 1 = omega arith in
    let within : c.loop-rest.rest ≤ length limits = c.loop-rest.invariant.within in
    let next = c.in_ok-parts-2.ensures in
    let ended = c.in_ok-parts-2.parts.bounds.items in
    let halves : Halves (get_or limits r 0) (parts_at c.loop-rest.parts.bounds.items c.loop-rest.parts.along.items) c.deref.result.now ended =
    (next.0, next.1, c.deref.ensures.value ∙ next.2.along, next.2.bounds) in
    let levels : c.insert.new.self.items ≡ c.in_ok-level.level ∷ c.loop-rest.levels.items = c.in_ok-insert.ensures.items in
    let cut : IsCut c.args.midpoints.now (drop r limits) c.deref.result.now ended (c.in_ok-level.level ∷ c.loop-rest.levels.items) =
    cut_more c.args.midpoints.now limits r c.loop-rest.rest c.loop-rest.parts.along.items c.deref.result.now c.loop-rest.parts.bounds.items ended c.in_ok-from_slice.field-0.items c.in_ok-level.level c.loop-rest.levels.items at
    within c.requires.some c.loop-rest.invariant.cut halves (c.in_ok-from_slice.ensures.items ∙ c.deref-in-loop-rest.ensures.value) c.in_ok-level.ensures.level c.in_ok-level.ensures.cells in record {
      within = omega arith;
      standing = found_standing c.in_ok-parts-2.parts next.0 next.2;
      cut = subst (λ (ls : List Level). IsCut c.args.midpoints.now (drop r limits) c.in_ok-parts-2.parts.along.items ended ls) (sym levels)
          (subst (λ (xs : List Spot). IsCut c.args.midpoints.now (drop r limits) xs ended (c.in_ok-level.level ∷ c.loop-rest.levels.items)) c.deref.ensures.value cut);
    }

pub returns-clause-halved : goal.returns-clause-halved
returns-clause-halved c =
    cut_halved c.args.midpoints.now c.args.limits.now c.loop-rest.parts.along.items c.loop-rest.parts.bounds.items c.loop-rest.levels.items (cut_all c.args.midpoints.now c.args.limits.now _ _ _ c.loop-rest.rest (omega arith) c.loop-rest.invariant.cut)

pub returns-clause-levels : goal.returns-clause-levels
returns-clause-levels c = c.loop-rest.invariant.cut.are_kept

pub returns-clause-few : goal.returns-clause-few
returns-clause-few c =
    let limits = c.args.limits.now in
    cut_few c.args.midpoints.now limits c.loop-rest.parts.along.items c.loop-rest.parts.bounds.items c.loop-rest.levels.items c.requires.some c.requires.ascending (λ k. omega (arith, (c.type_inv.limits k).fits))
    (cut_all c.args.midpoints.now limits _ _ _ c.loop-rest.rest (omega arith) c.loop-rest.invariant.cut)

pub returns-clause-kept : goal.returns-clause-kept
returns-clause-kept c =
    cut_kept c.args.midpoints.now c.args.limits.now c.loop-rest.parts.along.items c.loop-rest.parts.bounds.items c.loop-rest.levels.items c.requires.some (cut_all c.args.midpoints.now c.args.limits.now _ _ _ c.loop-rest.rest (omega arith) c.loop-rest.invariant.cut)
