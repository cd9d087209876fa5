use Rattle.std.proofs.Common.{◌≡◌, ℕ, ◌+◌, ◌-◌, ◌<◌, ◌≤◌, max, List, Some, length, map, take, arith, ◌∙◌, ap}
use Rattle.std.specs.List.{slice_get}
use Rattle.std.proofs.lemmas.List.{length-map, take_all}
use Rattle.list_lemmas.proofs.Gets.{All_get}
use Rattle.via_paths.specs.declared.barred.Barred.{Barred}
use Rattle.via_paths.specs.declared.stem.Stem.{Stem}
use Rattle.via_paths.specs.Copies.{longest}
use Rattle.via_paths.specs.Stems.{path_by, end_by, word_by}
use Rattle.via_paths.proofs.Prefixes.{longest-more}
use Rattle.via_paths.proofs.Stemming.{path-length, stem-at}
use Rattle.via_paths.proofs.layers.longest.Goals as goal
use Rattle.via_paths.proofs.layers.longest.Goals.{then-length-most, else-length-most}

pub path_of-length-requires : goal.path_of-length-requires
path_of-length-requires c = All_get (λ s. s.group < length c.args.groups.now) c.args.stems.now c.loop-i.i c.stem_at.result c.requires c.stem_at.ensures

pub loop-i-preserved : goal.loop-i-preserved
loop-i-preserved c =
    let groups : List Barred = c.args.groups.now in
    let stem : Stem = c.stem_at.result in
    let words : List (List ℕ) = map (word_by groups) c.args.stems.now in
    let at : slice_get words c.loop-i.i ≡ Some (word_by groups stem) = stem-at groups c.args.stems.now c.loop-i.i stem c.stem_at.ensures in
    let more : longest (take (c.loop-i.i + 1) words) ≡ max (longest (take c.loop-i.i words)) (length (word_by groups stem)) = longest-more words c.loop-i.i (word_by groups stem) at in
    let size : length (word_by groups stem) ≡ (length (path_by groups stem) + 1) + 1 = path-length (path_by groups stem) stem.start (end_by groups stem) in
    let same : length c.path_of-length.result.now ≡ length (path_by groups stem) = ap length c.path_of-length.ensures in
    let was : c.loop-i.most ≡ longest (take c.loop-i.i words) - 2 = c.loop-i.invariant in
    let got : c.if-length-most.most ≡ max c.loop-i.most (length c.path_of-length.result.now) = elim c.if-length-most.branch [ then-length-most w ↦ omega arith | else-length-most w ↦ omega arith ] in
    let end : max c.loop-i.most (length c.path_of-length.result.now) ≡ longest (take (c.loop-i.i + 1) words) - 2 = omega arith in
    got ∙ end

pub returns : goal.returns
returns c =
    let words : List (List ℕ) = map (word_by c.args.groups.now) c.args.stems.now in
    let many : length words ≡ length c.args.stems.now = length-map c.args.stems.now (word_by c.args.groups.now) in
    let all : length words ≤ c.loop-i.i = omega arith in
    c.loop-i.invariant ∙ ap (λ (l : List (List ℕ)). longest l - 2) (take_all c.loop-i.i words all)
