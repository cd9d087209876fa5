-- Each turn goes through one leg more.
use Rattle.std.proofs.Common.{◌≡◌, ◌+◌, ◌∷◌, [], None, length, take, refl, sym, subst, ap, ◌∙◌, arith}
use Rattle.std.proofs.Math.Seq.{take-length}
use Rattle.std.proofs.lemmas.Option.{same_Some, slice_get_read}
use Rattle.search_graph.specs.RoadCosts.{road_cost_ops}
use Rattle.through_query.specs.Chains.{IsLeastChain}
use Rattle.through_query.specs.Layers.{AreArrivals, GoesBack, IsLeastStep, IsStart, IsStep, back, sum_at}
use Rattle.through_query.proofs.OneMore.{StandsFor, broken, least_is_last, stands_for_more, unbroken}
use Rattle.through_query.proofs.Standing.{Stands, least_back, stands_none}
use Rattle.through_query.proofs.chains.least_chain.Goals as goal

pub loop-number-init : goal.loop-number-init
loop-number-init c =
    let legs = c.args.legs.now in
    let begins = slice_get_read legs (length legs) 0 c.index-legs-0.result refl c.requires.some c.index-legs-0.is in
    let sums = c.in_ok-sums.sums.items in
    record {
      stands = λ first at.
          subst (λ b. Stands first.starts [] sums b) (sym c.new-befores.ensures.items)
          (stands_none first.starts sums (subst (λ l. IsStart l.starts sums) (sym c.index-legs-0.is ∙ same_Some c.index-legs-0.result first (sym begins ∙ at)) c.in_ok-sums.ensures.start));
      room = c.in_ok-sums.ensures.start.room;
      few = c.in_ok-sums.ensures.few;
      chain = (0 ∷ [], road_cost_ops.zero, refl);
      last = λ lt. absurd (omega (arith, lt));
    }

pub least_state-requires : goal.least_state-requires
least_state-requires c = record { few = let value = ap length c.as_slice-in-loop-number.ensures.value in omega (arith, value, c.in_ok-layer.ensures.few) }

pub returns-in_default : goal.returns-in_default
returns-in_default c =
    let legs = c.args.legs.now in
    let n = c.loop-number.number in
    let first = c.index-legs-0.result in
    let leg = c.index-legs-number.result in
    let row = c.in_ok-layer.layer.befores in
    let reached = c.in_ok-layer.layer.sums.items in
    let begins = slice_get_read legs (length legs) 0 first refl c.requires.some c.index-legs-0.is in
    let at = slice_get_read legs (length legs) n leg refl c.loop-number-test.true c.index-legs-number.is in
    let arrivals = subst (λ l. AreArrivals l leg leg.ends reached row.items) c.as_slice.ensures.value c.in_ok-layer.ensures.layer in
    let none = subst (λ l. IsStep (sum_at l) (length l) None) c.as_slice-in-loop-number.ensures.value c.in_default.ensures in
    broken legs n c.loop-number.sums.items c.loop-number.befores.items c.loop-number.invariant.stands leg at reached row arrivals first begins c.loop-number-test.true c.loop-number.invariant.chain none

pub loop-number-preserved : goal.loop-number-preserved
loop-number-preserved c =
    let legs = c.args.legs.now in
    let n = c.loop-number.number in
    let sums = c.loop-number.sums.items in
    let first = c.index-legs-0.result in
    let leg = c.index-legs-number.result in
    let row = c.in_ok-layer.layer.befores in
    let reached = c.in_ok-layer.layer.sums.items in
    let step = c.in-Some.least in
    let begins = slice_get_read legs (length legs) 0 first refl c.requires.some c.index-legs-0.is in
    let at = slice_get_read legs (length legs) n leg refl c.loop-number-test.true c.index-legs-number.is in
    let arrivals = subst (λ l. AreArrivals l leg leg.ends reached row.items) c.as_slice.ensures.value c.in_ok-layer.ensures.layer in
    let is = subst (λ l. IsLeastStep (sum_at l) (length l) step) c.as_slice-in-loop-number.ensures.value c.in-Some.ensures in
    record {
      stands = subst (λ b. StandsFor legs (n + 1) reached b) (sym c.in_ok-push.ensures.items) (stands_for_more legs n sums c.loop-number.befores.items c.loop-number.invariant.stands leg at reached row arrivals);
      room = arrivals.room n c.loop-number.invariant.room;
      few = c.in_ok-layer.ensures.few;
      chain = unbroken legs n sums c.loop-number.befores.items c.loop-number.invariant.stands leg at reached row arrivals first begins step is;
      last = λ _. least_is_last reached step is;
    }

pub states_back-requires : goal.states_back-requires
states_back-requires c =
    let legs = c.args.legs.now in
    let done : c.loop-number.number ≡ length legs = omega arith in
    let last = c.loop-number.invariant.last (omega (arith, done, c.requires.some)) in
    let begins = slice_get_read legs (length legs) 0 c.index-legs-0.result refl c.requires.some c.index-legs-0.is in
    subst (λ b. GoesBack (length b) b c.loop-number.last) (sym c.deref.ensures.value) ((c.loop-number.invariant.stands c.index-legs-0.result begins).goes c.loop-number.last last.cost last.is)

pub returns : goal.returns
returns c =
    let legs = c.args.legs.now in
    let sums = c.loop-number.sums.items in
    let befores = c.loop-number.befores.items in
    let first = c.index-legs-0.result in
    let done : c.loop-number.number ≡ length legs = omega arith in
    let last = c.loop-number.invariant.last (omega (arith, done, c.requires.some)) in
    let begins = slice_get_read legs (length legs) 0 first refl c.requires.some c.index-legs-0.is in
    let stands = subst (λ l. Stands first.starts l sums befores) (ap (λ m. take m legs) done ∙ take-length legs) (c.loop-number.invariant.stands first begins) in
    let states = c.in_ok-states.ensures ∙ ap (λ b. back (length b) b (c.loop-number.last ∷ [])) c.deref.ensures.value in
    subst (λ l. IsLeastChain legs l) (sym states) (least_back first legs sums befores stands c.loop-number.last begins last)
