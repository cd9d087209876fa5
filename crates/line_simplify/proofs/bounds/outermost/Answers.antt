use lib.Signed.{le_z}
use mathlib.Core.Bool.{beq}
use Rattle.std.proofs.Common.{◌≡◌, inl, inr, Bool, true, false, refl, to_z, of_z, w32, arith}
use Rattle.std.specs.Prelude.{ℤ, pos, ◌-ℤ◌, ◌≤ℤ◌}
use Rattle.std.proofs.lemmas.Int.{ints}
use Rattle.line_simplify.specs.Bounds.{GoAlike, GoApart}
use Rattle.line_simplify.proofs.bounds.outermost.Goals as goal

alike-from : (s t : Bool) (a b x y i j k l : ℤ) → i ≡ a → j ≡ b → k ≡ x → l ≡ y → le_z i j ≡ s → le_z k l ≡ t → beq s t ≡ true → GoAlike (b -ℤ a) (y -ℤ x)
alike-from true true a b x y i j k l ei ej ek el east north h = inl (omega (arith, ints), omega (arith, ints))
alike-from false false a b x y i j k l ei ej ek el east north h = inr (omega (arith, ints), omega (arith, ints))
alike-from true false a b x y i j k l ei ej ek el east north h = cc
alike-from false true a b x y i j k l ei ej ek el east north h = cc

apart-from : (s t : Bool) (a b x y i j k l : ℤ) → i ≡ a → j ≡ b → k ≡ x → l ≡ y → le_z i j ≡ s → le_z k l ≡ t → beq s t ≡ false → GoApart (b -ℤ a) (y -ℤ x)
apart-from true true a b x y i j k l ei ej ek el east north h = cc
apart-from false false a b x y i j k l ei ej ek el east north h = cc
apart-from true false a b x y i j k l ei ej ek el east north h = inl (omega (arith, ints), omega (arith, ints))
apart-from false true a b x y i j k l ei ej ek el east north h = inr (omega (arith, ints), omega (arith, ints))

read-back : (z : ℤ) → (pos 0 -ℤ pos 180000000) ≤ℤ z → z ≤ℤ pos 180000000 → to_z w32 (of_z w32 z) ≡ z
read-back z low high = omega (arith, ints, low, high)

read-lat : (z : ℤ) → (pos 0 -ℤ pos 90000000) ≤ℤ z → z ≤ℤ pos 90000000 → to_z w32 (of_z w32 z) ≡ z
read-lat z low high = omega (arith, ints, low, high)

pub returns-then-line : goal.returns-then-line
returns-then-line c =
    let from = c.args.line.from in
    let to = c.args.line.to in
    let low = c.args.extent.low in
    let high = c.args.extent.high in
    let a = to_z w32 (of_z w32 from.lon) in
    let b = to_z w32 (of_z w32 to.lon) in
    let x = to_z w32 (of_z w32 from.lat) in
    let y = to_z w32 (of_z w32 to.lat) in
    record {
      west = read-back low.lon low.in_range.west low.in_range.east;
      east = read-back high.lon high.in_range.west high.in_range.east;
      sides = inl (
        alike-from (le_z a b) (le_z x y) from.lon to.lon from.lat to.lat a b x y
            (read-back from.lon from.in_range.west from.in_range.east) (read-back to.lon to.in_range.west to.in_range.east)
            (read-lat from.lat from.in_range.south from.in_range.north) (read-lat to.lat to.in_range.south to.in_range.north) refl refl c.if-line.true,
        read-lat high.lat high.in_range.south high.in_range.north,
        read-lat low.lat low.in_range.south low.in_range.north,
      );
    }

pub returns-else-line : goal.returns-else-line
returns-else-line c =
    let from = c.args.line.from in
    let to = c.args.line.to in
    let a = to_z w32 (of_z w32 from.lon) in
    let b = to_z w32 (of_z w32 to.lon) in
    let x = to_z w32 (of_z w32 from.lat) in
    let y = to_z w32 (of_z w32 to.lat) in
    record {
      west = refl;
      east = refl;
      sides = inr (
        apart-from (le_z a b) (le_z x y) from.lon to.lon from.lat to.lat a b x y
            (read-back from.lon from.in_range.west from.in_range.east) (read-back to.lon to.in_range.west to.in_range.east)
            (read-lat from.lat from.in_range.south from.in_range.north) (read-lat to.lat to.in_range.south to.in_range.north) refl refl c.if-line.false,
        refl,
        refl,
      );
    }
