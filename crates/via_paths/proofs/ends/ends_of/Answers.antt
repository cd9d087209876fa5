use Rattle.std.proofs.Common.{◌≡◌, ℕ, ◌<◌, ◌≤◌, ◌==◌, ◌&&◌, ◌||◌, Bool, List, Some, length, take, arith, refl, sym, ◌∙◌, ap}
use Rattle.std.specs.List.{slice_get, list_any}
use Rattle.std.proofs.lemmas.List.{take_all}
use Rattle.std.proofs.lemmas.Option.{slice_get_read}
use Rattle.list_lemmas.proofs.Gets.{All_get}
use Rattle.via_paths.specs.declared.barred.Barred.{Barred}
use Rattle.via_paths.specs.Expansion.{word_of}
use Rattle.via_paths.specs.Forbidden.{HasPath, IsBelow}
use Rattle.via_paths.specs.Tries.{list_at}
use Rattle.via_paths.proofs.Gathering.{gathered, gathered-more, stands, ends_on, stems-held, ends-tell}
use Rattle.via_paths.proofs.ends.ends_of.Goals as goal

pub push_group-requires : goal.push_group-requires
push_group-requires c =
    let groups : List Barred = c.args.groups.now in
    let b : Barred = c.index-groups-g.result in
    let lt : c.loop-g.g < length groups = omega arith in
    All_get (IsBelow c.args.trie.now.vertices) groups c.loop-g.g b c.requires.ordinary (slice_get_read groups (length groups) c.loop-g.g b refl lt c.index-groups-g.is)

pub loop-g-preserved : goal.loop-g-preserved
loop-g-preserved c =
    let groups : List Barred = c.args.groups.now in
    let n : ℕ = c.args.trie.now.vertices in
    let g : ℕ = c.loop-g.g in
    let b : Barred = c.index-groups-g.result in
    let lt : g < length groups = omega arith in
    let at : slice_get groups g ≡ Some b = slice_get_read groups (length groups) g b refl lt c.index-groups-g.is in
    let one : HasPath b = All_get HasPath groups g b c.requires.paths at in
    record {
      kept = λ copies t are q h.
          let more : Bool = (g == h) && stands (word_of n copies q) b in
          c.in_ok-push_group.ensures copies t (stems-held groups copies g b are at one) q h
          ∙ ap (λ (d : Bool). d || more) (c.loop-g.invariant.kept copies t are q h)
          ∙ sym (gathered-more (stands (word_of n copies q)) groups g b h at);
      on = λ h e.
          let same : list_any (λ x. x == e) c.as_slice.result.now ≡ ends_on e b = ap (list_any (λ x. x == e)) c.as_slice.ensures.value in
          c.in_ok-push_ends.ensures h e
          ∙ ap (λ (d : Bool). d || ((g == h) && list_any (λ x. x == e) c.as_slice.result.now)) (c.loop-g.invariant.on h e)
          ∙ ap (λ (d : Bool). gathered (ends_on e) (take g groups) h || ((g == h) && d)) same
          ∙ sym (gathered-more (ends_on e) groups g b h at);
    }

pub returns : goal.returns
returns c = λ copies t are q e.
    let groups : List Barred = c.args.groups.now in
    let n : ℕ = c.args.trie.now.vertices in
    let all : length groups ≤ c.loop-g.g = omega arith in
    let whole : take c.loop-g.g groups ≡ groups = take_all c.loop-g.g groups all in
    ends-tell groups (list_at c.loop-g.by_state q) _ (word_of n copies q) e
    (λ h. c.loop-g.invariant.kept copies t are q h ∙ ap (λ (l : List Barred). gathered (stands (word_of n copies q)) l h) whole)
    (λ h. c.loop-g.invariant.on h e ∙ ap (λ (l : List Barred). gathered (ends_on e) l h) whole)
