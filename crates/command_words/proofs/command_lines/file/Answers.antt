-- Each setting changes its field alone.
use Rattle.std.proofs.Common.{◌≡◌, ◌∙◌, false, true, Some, ap}
use Rattle.clap.specs.Words.{Rule, rule_of}
use Rattle.clap.specs.declared.builder.action.ArgAction.TheVariants.{Set}
use Rattle.clap.specs.declared.builder.arg.Arg.{Arg}
use Rattle.command_words.proofs.command_lines.file.Goals as goal

-- an argument that is read so, and is not global
abbrev Is : Rule → Arg → Type 0
Is r b = (rule_of b ≡ r) × (b.global ≡ false)

is-at : (b f : Arg) → b ≡ f → (r : Rule) → rule_of f ≡ r → f.global ≡ false → Is r b
is-at b f e r g h = (ap rule_of {y = f} e ∙ g, ap (λ (x : Arg). x.global) {y = f} e ∙ h)

needed : (a b : Arg) (r : Rule) → b ≡ record a { required = true } → Is r a → Is (record r { required = true }) b
needed a b r e h = is-at b (record a { required = true }) e _ (ap (λ (x : Rule). record x { required = true }) h.0) h.1

set : (a b : Arg) (r : Rule) → b ≡ record a { action = Some Set } → Is r a → Is (record r { action = Some Set }) b
set a b r e h = is-at b (record a { action = Some Set }) e _ (ap (λ (x : Rule). record x { action = Some Set }) h.0) h.1

pub returns : goal.returns
returns c =
    let all = set c.required.result _ _ c.action.ensures
    (needed c.new.result _ _ c.required.ensures (c.new.ensures.rule, c.new.ensures.optional.1)) in
    record { rule = all.0; local = all.1 }
