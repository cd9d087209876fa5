-- Each turn marks one vertex more.
use Rattle.std.proofs.Common.{◌≡◌, ◌<◌, inl, inr, Some, length, sym, ◌∙◌, ap, arith}
use Rattle.std.specs.List.{slice_get}
use Rattle.std.proofs.lemmas.Bool.{cases_lt}
use Rattle.std.proofs.lemmas.Option.{slice_get_within, get_or_from_slice_get}
use Rattle.list_lemmas.proofs.Gets.{get_Contains}
use Rattle.cell_frame.proofs.borders.Border.mark.Goals as goal

pub loop-place-preserved : goal.loop-place-preserved
loop-place-preserved c = λ v e.
    let m = c.set_mark.ensures v e in
    let b = c.loop-place.invariant v m.0 in (
      b.0,
      λ i lt at. elim (cases_lt i c.loop-place.place) [
        | inl less ↦ b.1 i less at
        | inr past ↦
            let same : i ≡ c.loop-place.place = omega (arith, lt, past) in
            let here : slice_get c.self.inside.vertex.items c.loop-place.place ≡ Some v = ap (λ b. slice_get b.vertex c.loop-place.place) c.self.view_is ∙ ap (slice_get c.args.self.now.vertex) (sym same) ∙ at in
            m.1 (sym (c.index.ensures ∙ get_or_from_slice_get c.self.inside.vertex.items c.loop-place.place v c.index.result.now here))
      ],
    )

pub returns : goal.returns
returns c = λ v e.
    let b = c.loop-place.invariant v e in (
      b.0,
      λ h.
          let g = get_Contains c.args.self.now.vertex v h in
          let here : slice_get c.self.inside.vertex.items g.0 ≡ Some v = ap (λ b. slice_get b.vertex g.0) c.self.view_is ∙ g.1 in
          let within : g.0 < length c.self.inside.vertex.items = slice_get_within c.self.inside.vertex.items g.0 v here in
          b.1 g.0 (omega (arith, within, c.loop-place-test.false, c.len-place-end.ensures)) g.1,
    )
