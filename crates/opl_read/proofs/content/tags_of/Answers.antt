-- One tag more, and the last one.
use Rattle.std.proofs.Common.{◌≡◌, ◌++◌, ◌∷◌, [], Ok, ◌∙◌, sym, rules}
use Rattle.opl_read.specs.Content.{tag_of, tags_of}
use Rattle.opl_read.specs.Faults.{mapped}
use Rattle.opl_read.proofs.Entries.{onto-more, onto-last}
use Rattle.opl_read.proofs.Outcomes.{on_ok}
use Rattle.opl_read.proofs.content.tags_of.Goals as goal

pub loop-entry-preserved : goal.loop-entry-preserved
loop-entry-preserved c =
    (search rules, onto-more c.loop-entry.tags c.in_ok-tags-2.tags tag_of c.loop-entry.rest.now c.in-Some.entry.now c.in-Some.more.now c.in-Some.ensures.parts c.in_ok-tags-2.ensures.tag ∙ c.loop-entry.invariant.1)

pub returns-clause-tags : goal.returns-clause-tags
returns-clause-tags c =
    on_ok (λ kept. mapped (λ tag. c.loop-entry.tags ++ tag ∷ []) (tag_of c.loop-entry.rest.now) ≡ Ok kept) (λ tags. tags_of c.args.content.now ≡ Ok tags) c.with_tag-2.result
    (λ kept here. sym c.loop-entry.invariant.1 ∙ onto-last c.loop-entry.tags kept tag_of c.loop-entry.rest.now (search rules) here) c.with_tag-2.ensures.tag
