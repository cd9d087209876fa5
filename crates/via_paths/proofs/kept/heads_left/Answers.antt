use Rattle.std.proofs.Common.{◌≡◌, ℕ, ◌+◌, ◌<◌, ◌≤◌, Bool, true, false, not, cond, List, [], ◌∷◌, ◌++◌, length, get_or, take, arith, sym, ◌∙◌, ap, append-nil}
use Rattle.std.specs.HashSet.{contains}
use Rattle.std.proofs.lemmas.List.{take_all}
use Rattle.std.proofs.lemmas.List.Elements.{filter_more}
use Rattle.via_paths.specs.Tries.{left_by, pair_eq}
use Rattle.via_paths.proofs.kept.heads_left.Goals as goal
use Rattle.via_paths.proofs.kept.heads_left.Goals.{then-not-contains+in_ok-push, else-not-contains}

pub loop-i-preserved : goal.loop-i-preserved
loop-i-preserved c =
    let heads : List ℕ = c.args.heads.now in
    let i : ℕ = c.loop-i.i in
    let lt : i < length heads = omega arith in
    let e : ℕ = get_or heads i 0 in
    let p : ℕ → Bool = λ e. not (contains pair_eq c.args.vertices.now (c.args.group, e)) in
    let before : List ℕ = left_by c.args.vertices.now c.args.group (take i heads) in
    let more : left_by c.args.vertices.now c.args.group (take (i + 1) heads) ≡ before ++ cond (p e) (e ∷ []) [] = filter_more p heads i 0 lt in
    elim c.if-not-contains.branch [
      | then-not-contains+in_ok-push w ↦
          let fine : contains pair_eq c.args.vertices.now (c.args.group, e) ≡ false = sym c.contains.ensures ∙ w.if-not-contains.true in
          ap (λ v. v.items) w.left-is ∙ w.in_ok-push.ensures.items
          ∙ ap (λ (l : List ℕ). l ++ e ∷ []) c.loop-i.invariant
          ∙ sym (more ∙ ap (λ (b : Bool). before ++ cond (not b) (e ∷ []) []) fine)
      | else-not-contains w ↦
          let ended : contains pair_eq c.args.vertices.now (c.args.group, e) ≡ true = sym c.contains.ensures ∙ w.if-not-contains.false in
          ap (λ v. v.items) w.left-is ∙ c.loop-i.invariant
          ∙ sym (more ∙ ap (λ (b : Bool). before ++ cond (not b) (e ∷ []) []) ended ∙ append-nil before)
    ]

pub returns : goal.returns
returns c =
    let all : length c.args.heads.now ≤ c.loop-i.i = omega arith in
    c.loop-i.invariant ∙ ap (left_by c.args.vertices.now c.args.group) (take_all c.loop-i.i c.args.heads.now all)
