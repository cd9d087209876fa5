use Rattle.std.proofs.Common.{◌≡◌, ℕ, ◌<◌, Some, map, length, All, arith, refl, sym, ◌∙◌, ap, subst, append-nil}
use Rattle.std.specs.List.{slice_get}
use Rattle.std.proofs.lemmas.List.Elements.{All-push}
use Rattle.std.proofs.lemmas.Option.{slice_get_read}
use Rattle.via_paths.specs.Stems.{word_by}
use Rattle.via_paths.proofs.Stemming.{stems-push}
use Rattle.via_paths.proofs.stems.push_stems.Goals as goal

pub loop-i-init : goal.loop-i-init
loop-i-init c = record {
  words = λ groups at. sym (append-nil (map (word_by groups) c.args.stems.now.items));
  groups = λ k lt all. all;
}

pub loop-i-preserved : goal.loop-i-preserved
loop-i-preserved c =
    let b = c.args.barred.now in
    let i : ℕ = c.loop-i.i in
    let lt : i < length b.starts.items = omega arith in
    let start : ℕ = c.index-start.result.now in
    let at : slice_get b.starts.items i ≡ Some start = slice_get_read b.starts.items (length b.starts.items) i start refl lt c.index-start.ensures in
    record {
      words = λ groups there. ap (map (word_by groups)) c.in_ok-push.ensures.items
          ∙ stems-push groups b c.args.group start i c.loop-i.stems.items (map (word_by groups) c.args.stems.now.items) there at (c.loop-i.invariant.words groups there);
      groups = λ k less all. subst (All (λ s. s.group < k)) (sym c.in_ok-push.ensures.items) (All-push (λ s. s.group < k) c.loop-i.stems.items _ (c.loop-i.invariant.groups k less all) less);
    }
