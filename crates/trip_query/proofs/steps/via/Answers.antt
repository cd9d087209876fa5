-- A leg of the row, and the tail behind it.
use Rattle.std.proofs.Common.{◌≡◌, ℕ, ◌+◌, ◌-◌, ◌*◌, ◌%◌, ◌^◌, ◌<◌, ◌≤◌, length, None, Some, Option, slice_index_or, refl, sym, ap, ◌∙◌, arith, eq-eqb, if◌then◌else◌, ◌==◌}
use Rattle.std.specs.Int.{bit_at}
use Rattle.std.proofs.lemmas.Nat.Bits.{shr_and_one}
use Rattle.trip_query.specs.Trips.{both, leg, lists_of}
use Rattle.trip_query.proofs.Bits.{power_within, taken_out}
use Rattle.trip_query.proofs.Reading.{leg_at, read_or, row_read}
use Rattle.trip_query.proofs.steps.via.Goals as goal

pub overflow_sub-set : goal.overflow_sub-set
overflow_sub-set g c =
    let there : bit_at c.args.set c.args.place ≡ 1 = sym (shr_and_one c.args.set c.args.place) ∙ c.if-set-place-eq1.true in
    let within = power_within c.args.set c.args.place there in
    let out = taken_out c.args.set c.args.place there c.ranges.set.fits in
    omega (arith, within, out.0)

pub index-requires : goal.index-requires
index-requires g c =
    let there : bit_at c.args.set c.args.place ≡ 1 = sym (shr_and_one c.args.set c.args.place) ∙ c.if-set-place-eq1.true in
    let out = taken_out c.args.set c.args.place there c.ranges.set.fits in
    let rest : ℕ = c.args.set - 1 * 2 ^ c.args.place % 18446744073709551616 in
    let lt : rest < length c.args.tails.now = omega (arith, out.1, c.requires.filled) in
    let tail = row_read (length c.args.row.now) c.args.tails.now rest c.index-tails-set.result c.requires.wide lt c.index-tails-set.is in
    omega (arith, tail.1, c.requires.place, c.index-tails-set.result.ok.0)

pub both-requires : goal.both-requires
both-requires g c =
    let laws = g.met.C.Cost.laws in
    let there : bit_at c.args.set c.args.place ≡ 1 = sym (shr_and_one c.args.set c.args.place) ∙ c.if-set-place-eq1.true in
    let out = taken_out c.args.set c.args.place there c.ranges.set.fits in
    let rest : ℕ = c.args.set - 1 * 2 ^ c.args.place % 18446744073709551616 in
    let lt : rest < length c.args.tails.now = omega (arith, out.1, c.requires.filled) in
    let tail = row_read (length c.args.row.now) c.args.tails.now rest c.index-tails-set.result c.requires.wide lt c.index-tails-set.is in
    let inside : c.args.place < length c.index-tails-set.result.items = omega (arith, tail.1, c.requires.place) in
    λ x y e f.
    let first = c.requires.row c.args.place x (read_or c.args.row.now c.args.place c.index-row-place.result None c.requires.place c.index-row-place.is ∙ e) in
    let second = c.requires.tails rest c.args.place y (leg_at c.args.tails.now rest c.args.place c.index-tails-set.result (Some y) tail.0 (read_or c.index-tails-set.result.items c.args.place c.index.result.now None inside c.index.ensures ∙ f)) in
    laws.units_more _ (2 ^ 27 + 10 * 2 ^ 27) (2 ^ 31) (laws.plus_units x y (2 ^ 27) (10 * 2 ^ 27) first second) (omega arith)

pub returns-then-set-place-eq1 : goal.returns-then-set-place-eq1
returns-then-set-place-eq1 g c =
    let place = c.args.place in
    let there : bit_at c.args.set place ≡ 1 = sym (shr_and_one c.args.set place) ∙ c.if-set-place-eq1.true in
    let out = taken_out c.args.set place there c.ranges.set.fits in
    let rest : ℕ = c.args.set - 1 * 2 ^ place % 18446744073709551616 in
    let lt : rest < length c.args.tails.now = omega (arith, out.1, c.requires.filled) in
    let tail = row_read (length c.args.row.now) c.args.tails.now rest c.index-tails-set.result c.requires.wide lt c.index-tails-set.is in
    let inside : place < length c.index-tails-set.result.items = omega (arith, tail.1, c.requires.place) in
    let here = read_or c.args.row.now place c.index-row-place.result None c.requires.place c.index-row-place.is in
    let behind = leg_at c.args.tails.now rest place c.index-tails-set.result c.index.result.now tail.0 (read_or c.index-tails-set.result.items place c.index.result.now None inside c.index.ensures) in
    let sum_at : ℕ → Option _ = λ n. both g.C.Cost.ops (slice_index_or c.args.row.now place None) (leg (lists_of c.args.tails.now) (c.args.set - n) place) in
    let sum : sum_at (2 ^ place) ≡ c.both.result =
    ap sum_at (sym out.0) ∙ ap (λ o. both g.C.Cost.ops o (leg (lists_of c.args.tails.now) rest place)) here ∙ ap (both g.C.Cost.ops c.index-row-place.result) behind ∙ sym c.both.ensures in
    let whole : (if bit_at c.args.set place == 1 then sum_at (2 ^ place) else None) ≡ c.both.result = ap (λ b. if b then sum_at (2 ^ place) else None) (eq-eqb (bit_at c.args.set place) 1 there) ∙ sum in
    sym whole
