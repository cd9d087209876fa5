use Rattle.std.proofs.Common.{◌≡◌, ℕ, ◌*◌, ◌≤◌, inl, inr, sym, subst, to_z, w32, arith}
use Rattle.std.specs.Prelude.{ℤ, unsigned_abs}
use Rattle.std.specs.Int.{div_ceil}
use Rattle.std.proofs.lemmas.Int.{ints}
use Rattle.geo_integer.specs.Plane.{cosine_between}
use Rattle.geo_integer.specs.Position.{position_of}
use Rattle.line_simplify.proofs.Bounding.{IsLeast, cosine-within}
use Rattle.line_simplify.proofs.bounds.greatest_cosine.Goals as goal
use Rattle.line_simplify.proofs.bounds.greatest_cosine.Goals.{then-extent-half, else-extent-half+then-extent-half-2, else-extent-half+else-extent-half-2}

half-small : (width half : ℕ) → width ≤ 1000000000 → half ≡ div_ceil width 2 → half ≤ 500000000
half-small width half le e = omega (arith, e)

half-wide : (width half : ℕ) → half ≡ div_ceil width 2 → width ≤ 2 * half
half-wide width half e = omega (arith, e)

least-is : (c : goal.Joined-extent-half) → IsLeast c.args.extent.low.lat c.args.extent.high.lat c.div_ceil-half.result (to_z w32 c.if-extent-half.least-bits)
least-is c =
    let small = half-small c.args.width c.div_ceil-half.result c.requires c.div_ceil-half.ensures in
    let low = c.args.extent.low.in_range in
    let high = c.args.extent.high.in_range in
    elim c.if-extent-half.branch as (λ _. IsLeast c.args.extent.low.lat c.args.extent.high.lat c.div_ceil-half.result (to_z w32 c.if-extent-half.least-bits)) [
      | then-extent-half w ↦
          let test = w.if-extent-half.true in
          let e = w.least-is in
          inl (omega (arith, ints, test, small, low.south, low.north), omega (arith, ints, test, e, small, low.south, low.north))
      | else-extent-half+then-extent-half-2 w ↦
          let test = w.if-extent-half-2.true in
          let e = w.least-is in
          inr (inl (omega (arith, ints, test, small, high.south, high.north), omega (arith, ints, test, e, small, high.south, high.north)))
      | else-extent-half+else-extent-half-2 w ↦ inr (inr w.least-is)
    ]

least-small : (low high least : ℤ) (half : ℕ) → IsLeast low high half least → unsigned_abs low ≤ 90000000 → unsigned_abs high ≤ 90000000 → unsigned_abs least ≤ 90000000
least-small low high least half is l h = elim is as (λ _. unsigned_abs least ≤ 90000000) [
  | inl up ↦ let lt = up.0 in let e = up.1 in omega (arith, ints, lt, e, l)
  | inr other ↦ elim other as (λ _. unsigned_abs least ≤ 90000000) [
    | inl down ↦ let lt = down.0 in let e = down.1 in omega (arith, ints, lt, e, h)
    | inr none ↦ omega (arith, ints, none)
  ]
]

pub cosine-requires : goal.cosine-requires
cosine-requires c =
    let low = c.args.extent.low.in_range in
    let high = c.args.extent.high.in_range in
    least-small c.args.extent.low.lat c.args.extent.high.lat (to_z w32 c.if-extent-half.least-bits) c.div_ceil-half.result (least-is c) (omega (arith, ints, low.south, low.north)) (omega (arith, ints, high.south, high.north))

pub returns-clause-value : goal.returns-clause-value
returns-clause-value c = λ p spot has near.
    subst (λ (n : ℕ). cosine_between (position_of p) spot ≤ n) (sym c.cosine.ensures.value)
    (cosine-within (position_of p) spot c.args.extent.low.lat c.args.extent.high.lat (to_z w32 c.if-extent-half.least-bits) c.div_ceil-half.result c.args.width has.south has.north near (half-wide c.args.width c.div_ceil-half.result c.div_ceil-half.ensures) (least-is c.before))
