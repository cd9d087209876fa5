use Rattle.std.proofs.Common.{ℕ, ◌≤◌, List, [], ◌∷◌, ◌++◌, length, map, take, arith, sym, ◌∙◌, ap}
use Rattle.std.proofs.lemmas.List.{map_push, take_all}
use Rattle.list_lemmas.proofs.Fronts.{take-get}
use Rattle.via_paths.specs.declared.stem.Stem.{Stem}
use Rattle.via_paths.proofs.layers.starts_of.Goals as goal

pub loop-i-preserved : goal.loop-i-preserved
loop-i-preserved c =
    let stems : List Stem = c.args.stems.now in
    let stem : Stem = c.stem_at.result in
    c.in_ok-push.ensures.items ∙ ap (λ (l : List ℕ). l ++ stem.start ∷ []) c.loop-i.invariant
    ∙ sym (ap (map {A = Stem} {B = ℕ} (λ s. s.start)) (take-get stems c.loop-i.i stem c.stem_at.ensures) ∙ map_push {X = Stem} {Y = ℕ} (λ s. s.start) (take c.loop-i.i stems) stem)

pub returns : goal.returns
returns c =
    let all : length c.args.stems.now ≤ c.loop-i.i = omega arith in
    c.loop-i.invariant ∙ ap (map {A = Stem} {B = ℕ} (λ s. s.start)) (take_all c.loop-i.i c.args.stems.now all)
