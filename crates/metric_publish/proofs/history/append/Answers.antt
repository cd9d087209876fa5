use Rattle.std.proofs.Common.{sym, ◌∙◌, ap}
use Rattle.metric_publish.proofs.Adding.{adds_moves}
use Rattle.metric_publish.proofs.Runs.{front_runs, follows}
use Rattle.metric_publish.proofs.Kin.{fronts_kin, kin_follows}
use Rattle.metric_publish.proofs.history.append.Goals as goal

pub compare_exchange-requires : goal.compare_exchange-requires
compare_exchange-requires g c =
    let me = c.args.reached.now in
    let h = c.requires.head in
    let offer = c.plain-offer.ensures in
    let pen = c.no_pen-pen.ensures in
    let runs = front_runs me.log c.learn.new.self.log c.learn.ensures.3 c.learn.ensures.4.1.runs in
    let kin = fronts_kin g.V.Kindred.akin me.log c.learn.new.self.log c.learn.ensures.3 c.learn.ensures.4.1.kin_is in (
      ap (λ w. w.tracked) h,
      sym (ap (λ w. w.book) h),
      pen.0 ∙ sym (ap (λ w. w.book) h),
      offer.0,
      rw (ap (λ w. w.key) h, pen.1, offer.1, offer.3) (adds_moves _ me.log _ c.args.len c.requires.sized (follows me.log _ runs c.requires.next) (kin_follows g.V.Kindred.akin g.V.Kindred.itself me.log _ kin c.requires.kin)),
    )
