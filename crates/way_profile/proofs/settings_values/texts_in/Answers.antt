-- The values of the list are those of its items.
use Rattle.std.proofs.Common.{◌≡◌, ℕ, List, map, ap, subst, ◌∙◌}
use Rattle.std.specs.Prelude.{IfOk}
use Rattle.toml.specs.View.{view}
use Rattle.toml.specs.declared.value.Value.{Value}
use Rattle.way_profile.specs.SettingsValues.{text_in}
use Rattle.way_profile.proofs.Lists.{texts_in-array}
use Rattle.way_profile.proofs.settings_values.texts_in.Goals as goal

pub returns-in-Some : goal.returns-in-Some
returns-in-Some c =
    let same = ap (λ (vs : List Value). map (λ v. text_in (view v)) vs) c.deref.ensures.value ∙ texts_in-array (view c.args.value.now) _ c.in-Some.ensures in
    subst (λ (xs : List (List ℕ)). IfOk c.texts_of.result (λ texts. texts ≡ xs)) same c.texts_of.ensures
