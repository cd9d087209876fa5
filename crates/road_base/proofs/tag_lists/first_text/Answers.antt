-- Behind the length of a text, or its first end, stand the texts that are left.
use Rattle.std.proofs.Common.{◌≡◌, ◌∷◌, List, ℕ, min, length, take, drop, sym, ap, ap₂, ◌∙◌}
use Rattle.std.proofs.lemmas.List.{take_min, drop_min}
use Rattle.road_base.specs.TagBytes.{texts_in}
use Rattle.road_base.proofs.TagBytes.{texts_in-long, texts_in-short}
use Rattle.road_base.proofs.tag_lists.first_text.Goals as goal

pub returns-then-size-clause-text : goal.returns-then-size-clause-text
returns-then-size-clause-text c =
    let size = c.in_ok-size.size.now in
    let behind = c.in_ok-size.behind.now in
    let all : c.args.bytes.now ≡ size ∷ behind = c.in_ok-size.ensures.cases.0 in
    ap texts_in all ∙ texts_in-long size behind c.if-size.true ∙ ap₂ (λ (a b : List ℕ). a ∷ texts_in b) (sym c.long_text.ensures.before) (sym c.long_text.ensures.behind)

pub returns-else-size-clause-text : goal.returns-else-size-clause-text
returns-else-size-clause-text c =
    let size = c.in_ok-size.size.now in
    let behind = c.in_ok-size.behind.now in
    let all : c.args.bytes.now ≡ size ∷ behind = c.in_ok-size.ensures.cases.0 in
    let at : c.min.result ≡ min size (length behind) = c.min.ensures ∙ ap (λ n. min n (length behind)) c.from.ensures in
    let front : c.split_at.result.0.now ≡ take size behind = c.split_at.ensures.front ∙ ap (λ n. take n behind) at ∙ take_min size behind in
    let back : c.split_at.result.1.now ≡ drop size behind = c.split_at.ensures.back ∙ ap (λ n. drop n behind) at ∙ drop_min size behind in
    ap texts_in all ∙ texts_in-short size behind c.if-size.false ∙ ap₂ (λ (a b : List ℕ). a ∷ texts_in b) (sym front) (sym back)
