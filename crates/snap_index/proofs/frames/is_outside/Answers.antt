use Rattle.std.proofs.Common.{rules, ℤ, ◌≤ℤ◌, ◌⊎◌, inl, inr, w32}
use Rattle.std.specs.Prelude.{◌<ℤ◌}
use Rattle.std.specs.Int.RustNames.{FitsSigned}
use Rattle.std.proofs.lemmas.Int.{to_z-of_z}
use Rattle.snap_index.specs.Index.{Fits}
use Rattle.snap_index.proofs.Fitting.{fits_within}
use Rattle.snap_index.proofs.frames.is_outside.Goals as goal

-- the extent's coordinates are numbers of their type, so that those between them are
pub returns-then-is_apart : goal.returns-then-is_apart
returns-then-is_apart c = λ t p within.
    let west : FitsSigned w32 c.args.extent.west = search rules in
    let east : FitsSigned w32 c.args.extent.east = search rules in
    let south : FitsSigned w32 c.args.extent.south = search rules in
    let north : FitsSigned w32 c.args.extent.north = search rules in
    let least : FitsSigned w32 c.args.frame.south = search rules in
    let greatest : FitsSigned w32 c.args.frame.north = search rules in
    let fits : Fits p = record { lon = fits_within c.args.extent.west p.lon c.args.extent.east west east within.west within.east; lat = fits_within c.args.extent.south p.lat c.args.extent.north south north within.south within.north } in
    let apart = c.is_apart.ensures c.if-is_apart.true in
    let plain : (y : ℤ) → c.args.extent.south ≤ℤ y → y ≤ℤ c.args.extent.north → (y <ℤ c.args.frame.south) ⊎ (c.args.frame.north <ℤ y) = simp to_z-of_z at apart in
    (fits, inl (plain p.lat within.south within.north))

pub returns : goal.returns
returns c = λ t p within.
    let west : FitsSigned w32 c.args.extent.west = search rules in
    let east : FitsSigned w32 c.args.extent.east = search rules in
    let south : FitsSigned w32 c.args.extent.south = search rules in
    let north : FitsSigned w32 c.args.extent.north = search rules in
    let least : FitsSigned w32 c.args.frame.west = search rules in
    let greatest : FitsSigned w32 c.args.frame.east = search rules in
    let fits : Fits p = record { lon = fits_within c.args.extent.west p.lon c.args.extent.east west east within.west within.east; lat = fits_within c.args.extent.south p.lat c.args.extent.north south north within.south within.north } in
    let apart = c.is_apart-2.ensures t in
    let plain : (y : ℤ) → c.args.extent.west ≤ℤ y → y ≤ℤ c.args.extent.east → (y <ℤ c.args.frame.west) ⊎ (c.args.frame.east <ℤ y) = simp to_z-of_z at apart in
    (fits, inr (plain p.lon within.west within.east))
