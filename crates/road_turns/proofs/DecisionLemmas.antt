-- What the restrictions decide, one way more.
use Rattle.std.proofs.Common.{◌≡◌, ℕ, ℤ, ◌+◌, List, [], ◌∷◌, drop, filter, Option, Some, Vec, cond, Bool, true, false, not, refl, sym, ap, ◌∙◌, ◌&&◌, ◌||◌}
use Rattle.std.specs.Global.{Global}
use Rattle.std.specs.HashMap.{get}
use Rattle.std.specs.HashSet.{contains}
use Rattle.std.specs.Option.{option_map_or}
use Rattle.std.specs.List.{items_where_true, slice_get}
use Rattle.std.specs.Ordering.{int_eq}
use Rattle.std.proofs.lemmas.Bool.Decides.{Decides-int_eq}
use Rattle.turn_rules.specs.Rules.{Rule, forbids, forbids_onto, is_among}
use Rattle.road_turns.specs.Restrictions.{is_forbidden_at}
use Rattle.road_turns.specs.Decisions.{MatchOnto, OnlyMap, PassageSet, decides, passage_eq, rules_out}
use Rattle.road_turns.specs.RestrictionParts.{pair_eq}
use Rattle.road_turns.specs.declared.decisions.Onto.{Onto}
use Rattle.road_turns.specs.declared.decisions.Onto.TheVariants.{Any, One, Nothing}
use Rattle.road_turns.specs.DropLaws.{list_any-drop}
use Rattle.road_turns.proofs.RuleLemmas.{chosen-on}

-- what is forbidden as well, by where it stands in the decision
pub more-forbidden : (a b u o k : Bool) → (((a || k) || (b && u)) || o) ≡ (((a || (b && u)) || o) || k)
more-forbidden true true true true true = refl
more-forbidden true true true true false = refl
more-forbidden true true true false true = refl
more-forbidden true true true false false = refl
more-forbidden true true false true true = refl
more-forbidden true true false true false = refl
more-forbidden true true false false true = refl
more-forbidden true true false false false = refl
more-forbidden true false true true true = refl
more-forbidden true false true true false = refl
more-forbidden true false true false true = refl
more-forbidden true false true false false = refl
more-forbidden true false false true true = refl
more-forbidden true false false true false = refl
more-forbidden true false false false true = refl
more-forbidden true false false false false = refl
more-forbidden false true true true true = refl
more-forbidden false true true true false = refl
more-forbidden false true true false true = refl
more-forbidden false true true false false = refl
more-forbidden false true false true true = refl
more-forbidden false true false true false = refl
more-forbidden false true false false true = refl
more-forbidden false true false false false = refl
more-forbidden false false true true true = refl
more-forbidden false false true true false = refl
more-forbidden false false true false true = refl
more-forbidden false false true false false = refl
more-forbidden false false false true true = refl
more-forbidden false false false true false = refl
more-forbidden false false false false true = refl
more-forbidden false false false false false = refl

pub more-no_u_turn : (a b u o e m : Bool) → ((a || ((b || (e && m)) && u)) || o) ≡ (((a || (b && u)) || o) || (e && (m && u)))
more-no_u_turn true true true true true true = refl
more-no_u_turn true true true true true false = refl
more-no_u_turn true true true true false true = refl
more-no_u_turn true true true true false false = refl
more-no_u_turn true true true false true true = refl
more-no_u_turn true true true false true false = refl
more-no_u_turn true true true false false true = refl
more-no_u_turn true true true false false false = refl
more-no_u_turn true true false true true true = refl
more-no_u_turn true true false true true false = refl
more-no_u_turn true true false true false true = refl
more-no_u_turn true true false true false false = refl
more-no_u_turn true true false false true true = refl
more-no_u_turn true true false false true false = refl
more-no_u_turn true true false false false true = refl
more-no_u_turn true true false false false false = refl
more-no_u_turn true false true true true true = refl
more-no_u_turn true false true true true false = refl
more-no_u_turn true false true true false true = refl
more-no_u_turn true false true true false false = refl
more-no_u_turn true false true false true true = refl
more-no_u_turn true false true false true false = refl
more-no_u_turn true false true false false true = refl
more-no_u_turn true false true false false false = refl
more-no_u_turn true false false true true true = refl
more-no_u_turn true false false true true false = refl
more-no_u_turn true false false true false true = refl
more-no_u_turn true false false true false false = refl
more-no_u_turn true false false false true true = refl
more-no_u_turn true false false false true false = refl
more-no_u_turn true false false false false true = refl
more-no_u_turn true false false false false false = refl
more-no_u_turn false true true true true true = refl
more-no_u_turn false true true true true false = refl
more-no_u_turn false true true true false true = refl
more-no_u_turn false true true true false false = refl
more-no_u_turn false true true false true true = refl
more-no_u_turn false true true false true false = refl
more-no_u_turn false true true false false true = refl
more-no_u_turn false true true false false false = refl
more-no_u_turn false true false true true true = refl
more-no_u_turn false true false true true false = refl
more-no_u_turn false true false true false true = refl
more-no_u_turn false true false true false false = refl
more-no_u_turn false true false false true true = refl
more-no_u_turn false true false false true false = refl
more-no_u_turn false true false false false true = refl
more-no_u_turn false true false false false false = refl
more-no_u_turn false false true true true true = refl
more-no_u_turn false false true true true false = refl
more-no_u_turn false false true true false true = refl
more-no_u_turn false false true true false false = refl
more-no_u_turn false false true false true true = refl
more-no_u_turn false false true false true false = refl
more-no_u_turn false false true false false true = refl
more-no_u_turn false false true false false false = refl
more-no_u_turn false false false true true true = refl
more-no_u_turn false false false true true false = refl
more-no_u_turn false false false true false true = refl
more-no_u_turn false false false true false false = refl
more-no_u_turn false false false false true true = refl
more-no_u_turn false false false false true false = refl
more-no_u_turn false false false false false true = refl
more-no_u_turn false false false false false false = refl

pub more-only : (a b o k : Bool) → ((a || b) || (o || k)) ≡ (((a || b) || o) || k)
more-only true true true true = refl
more-only true true true false = refl
more-only true true false true = refl
more-only true true false false = refl
more-only true false true true = refl
more-only true false true false = refl
more-only true false false true = refl
more-only true false false false = refl
more-only false true true true = refl
more-only false true true false = refl
more-only false true false true = refl
more-only false true false false = refl
more-only false false true true = refl
more-only false false true false = refl
more-only false false false true = refl
more-only false false false false = refl

one-more : (d n w r k : Bool) → ((d || ((n && w) && k)) || (n && (r && k))) ≡ (d || (n && ((w || r) && k)))
one-more true true true true true = refl
one-more true true true true false = refl
one-more true true true false true = refl
one-more true true true false false = refl
one-more true true false true true = refl
one-more true true false true false = refl
one-more true true false false true = refl
one-more true true false false false = refl
one-more true false true true true = refl
one-more true false true true false = refl
one-more true false true false true = refl
one-more true false true false false = refl
one-more true false false true true = refl
one-more true false false true false = refl
one-more true false false false true = refl
one-more true false false false false = refl
one-more false true true true true = refl
one-more false true true true false = refl
one-more false true true false true = refl
one-more false true true false false = refl
one-more false true false true true = refl
one-more false true false true false = refl
one-more false true false false true = refl
one-more false true false false false = refl
one-more false false true true true = refl
one-more false false true true false = refl
one-more false false true false true = refl
one-more false false true false false = refl
one-more false false false true true = refl
one-more false false false true false = refl
one-more false false false false true = refl
one-more false false false false false = refl

in-front : (rest via from onto : Bool) → (rest || (via && (from && onto))) ≡ ((via && (from && onto)) || rest)
in-front true true true true = refl
in-front true true true false = refl
in-front true true false true = refl
in-front true true false false = refl
in-front true false true true = refl
in-front true false true false = refl
in-front true false false true = refl
in-front true false false false = refl
in-front false true true true = refl
in-front false true true false = refl
in-front false true false true = refl
in-front false true false false = refl
in-front false false true true = refl
in-front false false true false = refl
in-front false false false true = refl
in-front false false false false = refl

-- one of the `from` ways is added
pub from-step : (ways : List ℤ) (k : ℕ) (w f : ℤ) (d n onto d' : Bool) → slice_get ways k ≡ Some w → d' ≡ (d || ((n && int_eq w f) && onto))
    → (d' || (n && (is_among (drop (k + 1) ways) f && onto))) ≡ (d || (n && (is_among (drop k ways) f && onto)))
from-step ways k w f d n onto d' at new =
    ap (λ (b : Bool). b || (n && (is_among (drop (k + 1) ways) f && onto))) new
    ∙ one-more d n (int_eq w f) (is_among (drop (k + 1) ways) f) onto
    ∙ ap (λ (b : Bool). d || (n && (b && onto))) (sym (list_any-drop (λ v. int_eq v f) ways k w at))

-- a rule that applies is added
pub rule-step : (rules : List Rule) (flags : List Bool) (i : ℕ) (r : Rule) (node from to : ℤ) (back d d' : Bool) → slice_get rules i ≡ Some r → slice_get flags i ≡ Some true
    → d ≡ is_forbidden_at (items_where_true (drop (i + 1) flags) (drop (i + 1) rules)) node from to back
    → d' ≡ (d || (int_eq r.via node && (is_among r.from from && forbids_onto r.sense r.to from to back)))
    → d' ≡ is_forbidden_at (items_where_true (drop i flags) (drop i rules)) node from to back
rule-step rules flags i r node from to back d d' at on was new =
    new
    ∙ in-front d (int_eq r.via node) (is_among r.from from) (forbids_onto r.sense r.to from to back)
    ∙ ap (λ (b : Bool). (int_eq r.via node && forbids r from to back) || b) was
    ∙ ap (λ (l : List Rule). is_forbidden_at l node from to back) (sym (chosen-on rules flags i r at on))

-- nothing is left to add
pub last-way : (d n : Bool) → (d || (n && false)) ≡ d
last-way true n = refl
last-way false true = refl
last-way false false = refl

-- equal pairs
pub pair-same : (p q : ℤ × ℤ) → pair_eq p q ≡ true → p ≡ q
pair-same p q e =
    let parts = both (int_eq p.0 q.0) (int_eq p.1 q.1) e in
    let a = (Decides-int_eq p.0 q.0).0 parts.0 in
    let b = (Decides-int_eq p.1 q.1).0 parts.1 in
    ap (λ (z : ℤ). let r : ℤ × ℤ = (z, p.1) in r) a ∙ ap (λ (z : ℤ). let r : ℤ × ℤ = (q.0, z) in r) b
  where
    both : (x y : Bool) → (x && y) ≡ true → (x ≡ true) × (y ≡ true)
    both true y h = (refl, h)
    both false y h = cc

module _ (to : List ℤ) (way : ℤ) where
  and-false : (b : Bool) → (b && false) ≡ false
  and-false true = refl
  and-false false = refl

  found : (w : ℤ) (c : Bool) → int_eq w way ≡ true → is_among to w ≡ c → is_among to way ≡ c
  found w c e h = ap (is_among to) (sym ((Decides-int_eq w way).0 e)) ∙ h

  common-by : (w : ℤ) (rest ways : List ℤ) (b c : Bool) → is_among to w ≡ b → int_eq w way ≡ c → is_among rest way ≡ (is_among ways way && is_among to way)
      → is_among (cond b (w ∷ rest) rest) way ≡ (is_among (w ∷ ways) way && is_among to way)
  common-by w rest ways true true h e same =
      ap (λ (z : Bool). z || is_among rest way) e ∙ sym (found w true e h) ∙ ap (λ (z : Bool). (z || is_among ways way) && is_among to way) (sym e)
  common-by w rest ways true false h e same = ap (λ (z : Bool). z || is_among rest way) e ∙ same ∙ ap (λ (z : Bool). (z || is_among ways way) && is_among to way) (sym e)
  common-by w rest ways false true h e same =
      same
      ∙ ap (λ (z : Bool). is_among ways way && z) (found w false e h)
      ∙ and-false (is_among ways way)
      ∙ sym (found w false e h)
      ∙ ap (λ (z : Bool). (z || is_among ways way) && is_among to way) (sym e)
  common-by w rest ways false false h e same = same ∙ ap (λ (z : Bool). (z || is_among ways way) && is_among to way) (sym e)

  -- the ways among others are those that are both
  among-common : (ways : List ℤ) → is_among (filter (is_among to) ways) way ≡ (is_among ways way && is_among to way)
  among-common [] = refl
  among-common (w ∷ ways) = common-by w (filter (is_among to) ways) ways (is_among to w) (int_eq w way) refl refl (among-common ways)

  not-both : (a b : Bool) → not (a && b) ≡ (not a || not b)
  not-both true true = refl
  not-both true false = refl
  not-both false b = refl

  pub out_common : (ways common : List ℤ) → common ≡ filter (is_among to) ways → not (is_among common way) ≡ (not (is_among ways way) || not (is_among to way))
  out_common ways common e = ap (λ (l : List ℤ). not (is_among l way)) e ∙ ap not (among-common ways) ∙ not-both (is_among ways way) (is_among to way)

  -- what is allowed from one way is changed
  pub only-step : (only only' : OnlyMap) (key q : ℤ × ℤ) (ways : Vec ℤ Global) → get pair_eq only' q ≡ cond (pair_eq key q) (Some ways) (get pair_eq only q)
      → not (is_among ways.items way) ≡ (rules_out only key way || not (is_among to way))
      → rules_out only' q way ≡ (rules_out only q way || (pair_eq key q && not (is_among to way)))
  only-step only only' key q ways new e = by (pair_eq key q) refl
    where
      by : (b : Bool) → pair_eq key q ≡ b → rules_out only' q way ≡ (rules_out only q way || (pair_eq key q && not (is_among to way)))
      by true h =
          let its : rules_out only' q way ≡ not (is_among ways.items way) = ap (λ (o : Option (Vec ℤ Global)). option_map_or (λ ws. not (is_among ws.items way)) o false) (new ∙ ap (λ (b : Bool). cond b (Some ways) (get pair_eq only q)) h) in
          its
          ∙ e
          ∙ ap (λ (k : ℤ × ℤ). rules_out only k way || not (is_among to way)) (pair-same key q h)
          ∙ ap (λ (b : Bool). rules_out only q way || (b && not (is_among to way))) (sym h)
      by false h =
          let its : rules_out only' q way ≡ rules_out only q way = ap (λ (o : Option (Vec ℤ Global)). option_map_or (λ ws. not (is_among ws.items way)) o false) (new ∙ ap (λ (b : Bool). cond b (Some ways) (get pair_eq only q)) h) in
          its ∙ sym (or-false (rules_out only q way)) ∙ ap (λ (b : Bool). rules_out only q way || (b && not (is_among to way))) (sym h)
        where
          or-false : (b : Bool) → (b || false) ≡ b
          or-false true = refl
          or-false false = refl

-- what rules out as much tells as much
pub MatchOnto-map : (p q : ℤ → Bool) → ((to : ℤ) → p to ≡ true → q to ≡ true) → (onto : Onto) → MatchOnto p onto → MatchOnto q onto
MatchOnto-map p q more Any h = tt
MatchOnto-map p q more (One way) h = λ to apart. more to (h to apart)
MatchOnto-map p q more Nothing h = λ to. more to (h to)

-- a way that is ruled out is forbidden
pub decides-out : (forbidden no_u_turn : PassageSet) (only : OnlyMap) (node from to : ℤ) (back : Bool) → rules_out only (node, from) to ≡ true → decides forbidden no_u_turn only node from to back ≡ true
decides-out forbidden no_u_turn only node from to back out =
    let before = contains passage_eq forbidden (node, from, to) || (contains passage_eq no_u_turn (node, from, to) && (back || not (int_eq from to))) in
    ap (λ (b : Bool). before || b) out ∙ or-true before
  where
    or-true : (b : Bool) → (b || true) ≡ true
    or-true true = refl
    or-true false = refl
