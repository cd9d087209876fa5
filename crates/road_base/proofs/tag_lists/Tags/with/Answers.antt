use Rattle.std.proofs.Common.{◌≡◌, ap, ◌∙◌, ◌++◌, ◌∷◌, []}
use Rattle.road_base.specs.TagBytes.{text_bytes}
use Rattle.road_base.proofs.TagBytes.{tag_bytes, pushed, two_texts}
use Rattle.road_base.proofs.tag_lists.Tags.with.Goals as goal

pub invariant_of-result : goal.invariant_of-result
invariant_of-result c =
    let bytes = c.self.inside.bytes.items in
    let all : c.add_text-2.new.bytes.items ≡ bytes ++ tag_bytes c.args.key.now c.args.value.now =
    two_texts bytes c.args.key.now c.args.value.now c.add_text.new.bytes.items c.add_text-2.new.bytes.items
    (c.in_ok-add_text.ensures ∙ ap (λ l. bytes ++ text_bytes l) c.as_bytes.ensures.value) (c.in_ok-add_text-2.ensures ∙ ap (λ l. c.add_text.new.bytes.items ++ text_bytes l) c.as_bytes-2.ensures.value) in
    (pushed bytes c.args.key.now c.args.value.now c.add_text-2.new.bytes.items c.self.invariant c.utf8.key c.utf8.value all).are

pub returns : goal.returns
returns c =
    let bytes = c.self.inside.bytes.items in
    let all : c.add_text-2.new.bytes.items ≡ bytes ++ tag_bytes c.args.key.now c.args.value.now =
    two_texts bytes c.args.key.now c.args.value.now c.add_text.new.bytes.items c.add_text-2.new.bytes.items
    (c.in_ok-add_text.ensures ∙ ap (λ l. bytes ++ text_bytes l) c.as_bytes.ensures.value) (c.in_ok-add_text-2.ensures ∙ ap (λ l. c.add_text.new.bytes.items ++ text_bytes l) c.as_bytes-2.ensures.value) in
    (pushed bytes c.args.key.now c.args.value.now c.add_text-2.new.bytes.items c.self.invariant c.utf8.key c.utf8.value all).tags ∙ ap (λ l. l ++ (c.args.key.now, c.args.value.now) ∷ []) c.self.view_is
