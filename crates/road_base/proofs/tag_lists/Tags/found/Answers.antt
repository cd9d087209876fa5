-- The value that is found is a text, so it is given.
use Rattle.std.proofs.Common.{sym, ap, ap₂, ◌∙◌, List, ℕ, All, subst}
use Rattle.road_base.specs.TagValue.{value_of}
use Rattle.road_base.specs.TagBytes.{tags_in, IsTag}
use Rattle.road_base.proofs.TagBytes.{value_of-text}
use Rattle.road_base.proofs.tag_lists.Tags.found.Goals as goal

pub text_in-requires : goal.text_in-requires
text_in-requires c =
    let texts : All IsTag (tags_in c.as_slice.result.now) = subst (λ (bytes : List ℕ). All IsTag (tags_in bytes)) (sym c.as_slice.ensures.value) c.self.invariant.texts in
    value_of-text (tags_in c.as_slice.result.now) c.as_bytes.result.now c.in-Some.value.now texts (sym c.in-Some.ensures)

pub returns-in-Some : goal.returns-in-Some
returns-in-Some c =
    c.text_in.ensures ∙ c.in-Some.ensures
    ∙ ap₂ (λ bytes key. value_of (tags_in bytes) key) c.as_slice.ensures.value c.as_bytes.ensures.value
    ∙ ap (λ tags. value_of tags c.args.key.now) c.self.view_is
