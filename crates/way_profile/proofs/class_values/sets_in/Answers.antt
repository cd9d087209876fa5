-- The values of the list are those of its items.
use Rattle.std.proofs.Common.{◌≡◌, ℕ, List, map, ap, subst, ◌∙◌}
use Rattle.std.specs.Prelude.{IfOk}
use Rattle.toml.specs.View.{view}
use Rattle.toml.specs.declared.value.Value.{Value}
use Rattle.way_profile.specs.SettingsValues.{texts_in}
use Rattle.way_profile.proofs.Lists.{sets_in-array}
use Rattle.way_profile.proofs.class_values.sets_in.Goals as goal

pub returns-in-Some : goal.returns-in-Some
returns-in-Some c =
    let same = ap (λ (vs : List Value). map (λ v. texts_in (view v)) vs) c.deref.ensures.value ∙ sets_in-array (view c.args.value.now) _ c.in-Some.ensures in
    subst (λ (xs : List (List (List ℕ))). IfOk c.sets_of.result (λ sets. sets.items ≡ xs)) same c.sets_of.ensures
