-- The factors of a profile are in range.
use Rattle.std.proofs.Common.{ℕ, Option, codes, sym, ap, ◌∙◌, subst}
use Rattle.std.specs.Prelude.{IfSome}
use Rattle.way_profile.specs.Vehicle.{IsFactor}
use Rattle.way_profile.specs.WayTags.{number_by}
use Rattle.way_profile.proofs.Numbers.{number_by-all}
use Rattle.way_profile.proofs.vehicle_profile.Profile.factor.Goals as goal

pub returns-clause-range : goal.returns-clause-range
returns-clause-range c =
    let tags = c.args.tags.now in
    subst (λ (o : Option ℕ). IfSome o IsFactor) (sym (c.number_by.ensures ∙ ap (λ xs. number_by (codes "surface") xs tags) c.deref.ensures.value))
    (number_by-all IsFactor (codes "surface") c.self.inside.surfaces.items tags c.self.invariant.surfaces)
