use Rattle.std.proofs.Common.{◌≡◌, ℕ, ◌+◌, ◌-◌, ◌<◌, ◌≤◌, List, [], length, map, All, Result, Err, arith, sym, ◌∙◌, ap, subst}
use Rattle.std.proofs.lemmas.List.{length-map}
use Rattle.std.proofs.lemmas.List.Elements.{All-weaker}
use Rattle.std.proofs.lemmas.Result.{err_from_is_err_and}
use Rattle.via_paths.specs.declared.barred.Barred.{Barred}
use Rattle.via_paths.specs.declared.stem.Stem.{Stem}
use Rattle.via_paths.specs.declared.errors.ViaError.{ViaError}
use Rattle.via_paths.specs.declared.errors.ViaError.TheVariants.{TooManyVias}
use Rattle.via_paths.specs.Copies.{layer, layers, longest, copies_of}
use Rattle.via_paths.specs.Forbidden.{IsBelow, words_in}
use Rattle.via_paths.specs.Stems.{word_by, firsts_in}
use Rattle.via_paths.specs.Tries.{IsTrie, IsLaid, first_of}
use Rattle.via_paths.proofs.Grouping.{copies-firsts, firsts-below, layers-enough}
use Rattle.via_paths.proofs.Prefixes.{layers-more, layers-grow, laid-none, starts-below}
use Rattle.via_paths.proofs.Stemming.{starts-first, words-some}
use Rattle.via_paths.proofs.layers.trie_of.Goals as goal

same_error : {X : Type 0} (r : Result X ViaError) (x y z : ViaError) → r ≡ Err y → r ≡ Err z → y ≡ x → x ≡ z
same_error r x y z e f g = cc

pub loop-m-init : goal.loop-m-init
loop-m-init c =
    let groups : List Barred = c.args.groups.now in
    let stems : List Stem = c.as_slice-stems.result.now in
    let words : List (List ℕ) = map (word_by groups) stems in
    let words_are : words ≡ firsts_in groups = ap (map {A = Stem} {B = List ℕ} (word_by groups)) c.as_slice-stems.ensures.value ∙ c.in_ok-listed.ensures.words in
    let below : All (λ s. All (λ v. v < c.args.vertices) s) words = subst (All (λ s. All (λ v. v < c.args.vertices) s)) (sym words_are) (firsts-below c.args.vertices groups c.requires.ordinary) in
    let states : c.as_mut_slice-states.result.now ≡ map first_of words = c.as_mut_slice-states.ensures.value ∙ c.in_ok-starts.ensures ∙ starts-first groups stems in
    let none : c.new-trie.result.copied.items ≡ [] = c.new-trie.ensures.none in
    record {
      vertices = c.new-trie.ensures.vertices;
      each = ap length states ∙ length-map words first_of ∙ length-map stems (word_by groups);
      within = subst (λ (l : List ℕ). All (λ q. q < c.new-trie.result.vertices + length c.new-trie.result.copied.items) l) (sym states)
          (All-weaker (λ q. q < c.args.vertices) (λ q. q < c.new-trie.result.vertices + length c.new-trie.result.copied.items) (λ q h. let same : c.new-trie.result.vertices ≡ c.args.vertices = c.new-trie.ensures.vertices in omega arith)
          (map first_of words) (starts-below c.args.vertices words (words-some groups stems) below));
      laid = subst (λ (l : List ℕ). IsLaid c.args.vertices [] words 1 c.new-trie.result.next c.new-trie.result.copied.items l) (sym states)
          (laid-none c.args.vertices words c.new-trie.result.next c.new-trie.result.copied.items below c.new-trie.ensures.is);
    }

pub lay-requires-clause-ordinary : goal.lay-requires-clause-ordinary
lay-requires-clause-ordinary c = subst (λ (n : ℕ). All (IsBelow n) c.args.groups.now) (sym c.loop-m.invariant.vertices) c.requires.ordinary

pub returns-in_err-lay-clause-many : goal.returns-in_err-lay-clause-many
returns-in_err-lay-clause-many c = λ failed.
    let groups : List Barred = c.args.groups.now in
    let words : List (List ℕ) = map (word_by groups) c.as_slice-stems.result.now in
    let m : ℕ = c.loop-m.m in
    let e = err_from_is_err_and c.from_residual-in_err-lay.result c.from_residual-in_err-lay.ensures.1 in
    let is : c.in_err-lay.field-0.0 ≡ TooManyVias = same_error c.from_residual-in_err-lay.result c.in_err-lay.field-0.0 e.0 TooManyVias e.1 failed e.2 in
    let told = subst (λ (n : ℕ). (copies : List (List ℕ)) → IsLaid n copies words (m + 1) c.loop-m.trie.next c.loop-m.trie.copied.items c.loop-m.states → 1048576 < length (layer ((m + 1) + 1) copies words)) c.loop-m.invariant.vertices (c.in_err-lay.ensures.many (ap Err is)) in
    let here : 1048576 < length (layer ((m + 1) + 1) (layers m words) words) = told (layers m words) c.loop-m.invariant.laid in
    let two : (m + 1) + 1 ≡ m + 2 = omega arith in
    let more : length (layers (m + 1) words) ≡ length (layer ((m + 1) + 1) (layers m words) words) = ap length (layers-more m words) ∙ ap (λ (k : ℕ). length (layer k (layers m words) words)) (sym two) in
    let end : c.longest-m-end.result ≡ longest words - 2 = c.longest-m-end.ensures in
    let within : m + 1 ≤ longest words = omega arith in
    let grow : length (layers (m + 1) words) ≤ length (copies_of words) = layers-grow (m + 1) (longest words) words within in
    let all : length (copies_of words) ≡ length (copies_of (words_in groups)) = ap (λ (l : List (List ℕ)). length (copies_of l)) (ap (map {A = Stem} {B = List ℕ} (word_by groups)) c.as_slice-stems.ensures.value ∙ c.in_ok-listed.ensures.words) ∙ ap length (copies-firsts groups) in
    omega arith

pub loop-m-preserved : goal.loop-m-preserved
loop-m-preserved c =
    let words : List (List ℕ) = map (word_by c.args.groups.now) c.as_slice-stems.result.now in
    let m : ℕ = c.loop-m.m in
    let told = subst (λ (n : ℕ). (copies : List (List ℕ)) → IsLaid n copies words (m + 1) c.loop-m.trie.next c.loop-m.trie.copied.items c.loop-m.states →
    IsLaid n (layer ((m + 1) + 1) copies words) words ((m + 1) + 1) c.lay.new.self.next c.lay.new.self.copied.items c.lay.new.states) c.loop-m.invariant.vertices c.in_ok-lay.ensures.is in
    let two : (m + 1) + 1 ≡ m + 2 = omega arith in
    let is : layer ((m + 1) + 1) (layers m words) words ≡ layers (m + 1) words = ap (λ (k : ℕ). layer k (layers m words) words) two ∙ sym (layers-more m words) in
    record {
      vertices = c.in_ok-lay.ensures.vertices ∙ c.loop-m.invariant.vertices;
      each = let kept : length c.lay.new.states ≡ length c.loop-m.states = omega arith in kept ∙ c.loop-m.invariant.each;
      within = c.in_ok-lay.ensures.within;
      laid = subst (λ (copies : List (List ℕ)). IsLaid c.args.vertices copies words ((m + 1) + 1) c.lay.new.self.next c.lay.new.self.copied.items c.lay.new.states) is (told (layers m words) c.loop-m.invariant.laid);
    }

pub returns-clause-is : goal.returns-clause-is
returns-clause-is c =
    let groups : List Barred = c.args.groups.now in
    let words : List (List ℕ) = map (word_by groups) c.as_slice-stems.result.now in
    let end : c.longest-m-end.result ≡ longest words - 2 = c.longest-m-end.ensures in
    let all : c.loop-m.m ≡ longest words - 2 = omega arith in
    let copies : layers c.loop-m.m words ≡ copies_of (words_in groups) = ap (λ (k : ℕ). layers k words) all ∙ layers-enough words ∙ ap copies_of (ap (map {A = Stem} {B = List ℕ} (word_by groups)) c.as_slice-stems.ensures.value ∙ c.in_ok-listed.ensures.words) ∙ copies-firsts groups in
    subst (λ (cs : List (List ℕ)). IsTrie c.args.vertices cs c.loop-m.trie.next c.loop-m.trie.copied.items) copies c.loop-m.invariant.laid.trie
