use Rattle.std.proofs.Common.{◌≡◌, ℕ, ◌<◌, List, ◌++◌, Some, length, arith, refl, sym, ◌∙◌, ap}
use Rattle.std.specs.List.{slice_get}
use Rattle.std.proofs.lemmas.Option.{slice_get_read}
use Rattle.via_paths.specs.declared.barred.Barred.{Barred}
use Rattle.via_paths.specs.Stems.{firsts_of}
use Rattle.via_paths.proofs.Stemming.{firsts-more}
use Rattle.via_paths.proofs.stems.stems_of.Goals as goal

pub loop-g-preserved : goal.loop-g-preserved
loop-g-preserved c =
    let groups : List Barred = c.args.groups.now in
    let g : ℕ = c.loop-g.g in
    let b : Barred = c.index-groups-g.result in
    let lt : g < length groups = omega arith in
    let at : slice_get groups g ≡ Some b = slice_get_read groups (length groups) g b refl lt c.index-groups-g.is in
    record {
      words = c.in_ok-push_stems.ensures.words groups at ∙ ap (λ (l : List (List ℕ)). l ++ firsts_of b) c.loop-g.invariant.words ∙ sym (firsts-more groups g b at);
      groups = c.in_ok-push_stems.ensures.groups (length groups) lt c.loop-g.invariant.groups;
    }
