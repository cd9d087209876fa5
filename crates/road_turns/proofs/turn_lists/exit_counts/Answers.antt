use Rattle.std.proofs.Common.{◌≡◌, [], ◌∷◌, List, ℕ, Some, length, arith, ap, inl, inr, sym, subst, ◌∙◌}
use Rattle.std.specs.List.{slice_get}
use Rattle.std.proofs.lemmas.List.{length-append}
use Rattle.list_lemmas.proofs.Gets.{get_push}
use Rattle.road_turns.specs.Turn.{exits}
use Rattle.road_segments.specs.Laws.{length-vertices}
use Rattle.road_segments.specs.Vertex.{vertices}
use Rattle.road_turns.proofs.turn_lists.exit_counts.Goals as goal

pub loop-v-preserved : goal.loop-v-preserved
loop-v-preserved c =
    let new = c.in_ok-push.ensures.items in
    record {
      as_many = omega (arith, ap length new, length-append c.loop-v.counts.items (c.exits_of.result ∷ []), c.loop-v.invariant.as_many);
      each = λ v n at.
          elim (get_push c.loop-v.counts.items c.exits_of.result v n (subst (λ (l : List ℕ). slice_get l v ≡ Some n) new at)) [
            | inl old ↦ c.loop-v.invariant.each v n old
            | inr last ↦ last.1 ∙ c.exits_of.ensures ∙ ap (exits (vertices c.args.roads.now)) (sym (last.0 ∙ c.loop-v.invariant.as_many))
          ];
    }

pub returns : goal.returns
returns c = record {
  as_many = omega (arith, c.loop-v.invariant.as_many, length-vertices c.args.roads.now, c.len-v-end.ensures.value);
  each = c.loop-v.invariant.each;
}
