use Rattle.std.proofs.Common.{◌<◌, inl, inr, arith, subst, sym}
use Rattle.std.proofs.lemmas.Bool.{cases_lt}
use Rattle.snap_index.specs.Index.{IsFarther}
use Rattle.snap_index.proofs.SlotLemmas.{behind-last}
use Rattle.snap_index.proofs.searching.farthest.Goals as goal

pub returns-in-Some-Some : goal.returns-in-Some-Some
returns-in-Some-Some c = λ remote s lt.
    elim (cases_lt c.in-Some-Some.reach remote) [
      | inl out ↦ inl (subst (λ far. IsFarther far remote) (sym c.in-Some-Some.is-0) out)
      | inr in_reach ↦
          let less : c.in-Some-Some.last < remote = omega arith in
          inr (behind-last remote s c.last_remoteness.result c.args.slots.now c.requires c.last_remoteness.ensures (subst (λ far. IsFarther far remote) (sym c.in-Some-Some.is-1) less))
    ]

pub returns-in-None-default : goal.returns-in-None-default
returns-in-None-default c = λ remote s far. inr (behind-last remote s c.last_remoteness.result c.args.slots.now c.requires c.last_remoteness.ensures far)
