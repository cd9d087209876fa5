use Rattle.std.proofs.Common.{◌≡◌, ℕ, ◌+◌, ◌<◌, ◌≤◌, List, Some, length, map, get_or, All, Result, Err, arith, refl, sym, ◌∙◌, ap, subst}
use Rattle.std.specs.List.{slice_get}
use Rattle.std.proofs.lemmas.List.{length-map}
use Rattle.std.proofs.lemmas.List.Elements.{All-set, All-weaker}
use Rattle.std.proofs.lemmas.Result.{err_from_is_err_and}
use Rattle.list_lemmas.proofs.Gets.{All_get}
use Rattle.via_paths.specs.declared.barred.Barred.{Barred}
use Rattle.via_paths.specs.declared.stem.Stem.{Stem}
use Rattle.via_paths.specs.declared.errors.ViaError.{ViaError}
use Rattle.via_paths.specs.declared.errors.ViaError.TheVariants.{TooManyVias}
use Rattle.via_paths.specs.Stems.{end_by, word_by}
use Rattle.via_paths.proofs.Laying.{laid-first, laid-step, laid-many, laid-all}
use Rattle.via_paths.proofs.Stemming.{path_by-below, stem-at}
use Rattle.via_paths.proofs.trie.Trie.lay.Goals as goal

same_error : {X : Type 0} (r : Result X ViaError) (x y z : ViaError) → r ≡ Err y → r ≡ Err z → y ≡ x → x ≡ z
same_error r x y z e f g = cc

pub path_of-path-requires : goal.path_of-path-requires
path_of-path-requires c = All_get (λ s. s.group < length c.args.groups.now) c.args.stems.now c.loop-i.i c.stem_at.result c.requires.groups c.stem_at.ensures

pub advance-requires-clause-ordinary : goal.advance-requires-clause-ordinary
advance-requires-clause-ordinary c =
    subst (λ (n : ℕ). All (λ v. v < n) c.path_of-path.result.now) (sym c.loop-i.invariant.vertices)
    (subst (λ (l : List ℕ). All (λ v. v < c.args.self.now.vertices) l) (sym c.path_of-path.ensures) (path_by-below c.args.self.now.vertices c.args.groups.now c.stem_at.result c.requires.ordinary))

pub returns-in_err-next-clause-many : goal.returns-in_err-next-clause-many
returns-in_err-next-clause-many c = λ failed copies laid.
    let groups : List Barred = c.args.groups.now in
    let stem : Stem = c.stem_at.result in
    let words : List (List ℕ) = map (word_by groups) c.args.stems.now in
    let at : slice_get words c.loop-i.i ≡ Some (word_by groups stem) = stem-at groups c.args.stems.now c.loop-i.i stem c.stem_at.ensures in
    let e = err_from_is_err_and c.from_residual.result c.from_residual.ensures.1 in
    let is : c.in_err-next.field-0.0 ≡ TooManyVias = same_error c.from_residual.result c.in_err-next.field-0.0 e.0 TooManyVias e.1 failed e.2 in
    laid-many _ copies words (c.args.m + 1) (omega arith) c.loop-i.self.vertices c.loop-i.invariant.vertices c.loop-i.i (get_or c.loop-i.states c.loop-i.i 0) (word_by groups stem) _ _ c.loop-i.states refl at
    (λ cs t word. let many = rw c.path_of-path.ensures at c.in_err-next.ensures.many in many (ap Err is) stem.start (end_by groups stem) cs t word) (c.loop-i.invariant.laid copies laid)

pub loop-i-preserved : goal.loop-i-preserved
loop-i-preserved c =
    let groups : List Barred = c.args.groups.now in
    let stem : Stem = c.stem_at.result in
    let words : List (List ℕ) = map (word_by groups) c.args.stems.now in
    let at : slice_get words c.loop-i.i ≡ Some (word_by groups stem) = stem-at groups c.args.stems.now c.loop-i.i stem c.stem_at.ensures in
    let in_states : c.loop-i.i < length c.loop-i.states = omega arith in
    let same : c.advance.new.self.vertices ≡ c.loop-i.self.vertices = c.advance.ensures.vertices in
    let grew : length c.loop-i.self.copied.items ≤ length c.advance.new.self.copied.items = c.advance.ensures.more in
    let before : length c.args.self.now.copied.items ≤ length c.loop-i.self.copied.items = c.loop-i.invariant.more in
    record {
      vertices = same ∙ c.loop-i.invariant.vertices;
      more = omega arith;
      within = All-set (λ q. q < c.advance.new.self.vertices + length c.advance.new.self.copied.items) c.loop-i.states c.loop-i.i c.in_ok-next.next c.in_ok-next.ensures.within
          (All-weaker (λ q. q < c.loop-i.self.vertices + length c.loop-i.self.copied.items) (λ q. q < c.advance.new.self.vertices + length c.advance.new.self.copied.items) (λ q h. omega arith) c.loop-i.states c.loop-i.invariant.within);
      laid = λ copies h. laid-step _ copies words (c.args.m + 1) (omega arith) c.loop-i.self.vertices c.loop-i.invariant.vertices c.loop-i.i (get_or c.loop-i.states c.loop-i.i 0) (word_by groups stem) _ _ _ _ c.loop-i.states c.in_ok-next.next in_states refl at
          (λ cs t upto word. let told = rw c.path_of-path.ensures at c.in_ok-next.ensures.is in told stem.start (end_by groups stem) cs t upto word) (c.loop-i.invariant.laid copies h);
    }

pub loop-i-init : goal.loop-i-init
loop-i-init c = record {
  vertices = refl;
  more = omega arith;
  within = c.requires.within;
  laid = λ copies h. laid-first _ copies (map (word_by c.args.groups.now) c.args.stems.now) (c.args.m + 1) (omega arith) _ _ c.args.states.now h;
}

pub returns-clause-is : goal.returns-clause-is
returns-clause-is c = λ copies h.
    let words : List (List ℕ) = map (word_by c.args.groups.now) c.args.stems.now in
    let all : length words ≤ c.loop-i.i = let len : length words ≡ length c.args.stems.now = length-map c.args.stems.now (word_by c.args.groups.now) in omega arith in
    laid-all _ copies words (c.args.m + 1) (omega arith) _ _ _ c.loop-i.i all (c.loop-i.invariant.laid copies h)
