-- A chain that ends in a set of vertices stays in it all the way, or comes into it for the last time by one of its hops.
use Rattle.std.proofs.Common.{◌≡◌, ℕ, ◌⊎◌, inl, inr, List, [], ◌∷◌, refl, sym, ◌∙◌, ap, subst}
use Rattle.search_graph.specs.Costs.{CostOps, CostLaws}
use Rattle.search_graph.specs.Walks.{Chain, Paying}
use Rattle.search_graph.specs.OrderLaws.{zero_plus}
use Rattle.search_graph.specs.ChainLaws.{Chain-valid, Chain-to_more}

-- a hop to a vertex of the set
abbrev pub HopIn : {C : Type 0} → (ℕ → ℕ → C → Type 0) → (ℕ → Type 0) → ℕ → ℕ → C → Type 0
HopIn Hop In u v s = In v × Hop u v s

-- a chain in the set, from u at c to z at d
pub record Stayed {C : Type 0} (ops : CostOps C) (Hop : ℕ → ℕ → C → Type 0) (In : ℕ → Type 0) (u z : ℕ) (c d : C) : Type 0 where
  pub inside : In u
  pub rest : List ℕ
  pub more : C
  pub stays : Chain (Paying ops (HopIn Hop In)) u ops.zero rest z more
  pub sum : d ≡ ops.plus c more

-- a chain from u at c to a vertex outside of the set, a hop from there into it, and a chain in it on to z at d
pub record Entered {C : Type 0} (ops : CostOps C) (Hop : ℕ → ℕ → C → Type 0) (In : ℕ → Type 0) (u z : ℕ) (c d : C) : Type 0 where
  pub before : List ℕ
  pub tail : ℕ
  pub paid : C
  pub comes : Chain (Paying ops Hop) u c before tail paid
  pub outside : ¬ In tail
  pub head : ℕ
  pub by : C
  pub hop : Hop tail head by
  pub inside : In head
  pub rest : List ℕ
  pub more : C
  pub stays : Chain (Paying ops (HopIn Hop In)) head ops.zero rest z more
  pub sum : d ≡ ops.plus (ops.plus paid by) more

module _ {C : Type 0} {ops : CostOps C} (laws : CostLaws ops) {Hop : ℕ → ℕ → C → Type 0} (hops : (u v : ℕ) (s : C) → Hop u v s → ops.valid s) (In : ℕ → Type 0) (in_or_not : (v : ℕ) → In v ⊎ (¬ In v)) where
  in_valid : (u v : ℕ) (s : C) → HopIn Hop In u v s → ops.valid s
  in_valid u v s h = hops u v s h.1

  pub entered : (u z : ℕ) (c d : C) (vs : List ℕ) → ops.valid c → In z → Chain (Paying ops Hop) u c vs z d → Stayed ops Hop In u z c d ⊎ Entered ops Hop In u z c d
  entered u z c d [] k i h = inl (record { inside = subst In h.0 i; rest = []; more = ops.zero; stays = (h.0, refl); sum = h.1 ∙ sym (laws.neutral c k) })
  entered u z c d (v ∷ vs) k i h =
      let s : C = h.1.0 in
      let hop : Hop u v s = h.1.1 in
      let vs0 : ops.valid s = hops u v s hop in
      let vn : ops.valid h.0 = subst ops.valid (sym h.1.2) (laws.plus_valid c s k vs0) in
      elim (entered v z h.0 d vs vn i h.2) [
        | inl q ↦
            let vq : ops.valid q.more = Chain-valid laws in_valid v z ops.zero q.more q.rest laws.zero_valid q.stays in
            let sum : d ≡ ops.plus (ops.plus c s) q.more = q.sum ∙ ap (λ x. ops.plus x q.more) h.1.2 in
            elim (in_or_not u) [
              | inl here ↦ inl (record {
                inside = here;
                rest = v ∷ q.rest;
                more = ops.plus s q.more;
                stays = (s, (s, (q.inside, hop), sym (zero_plus laws s vs0)), Chain-to_more laws in_valid v z s q.more q.rest vs0 q.stays);
                sum = sum ∙ laws.assoc c s q.more k vs0 vq;
              })
              | inr out ↦ inr (record {
                before = [];
                tail = u;
                paid = c;
                comes = (refl, refl);
                outside = out;
                head = v;
                by = s;
                hop = hop;
                inside = q.inside;
                rest = q.rest;
                more = q.more;
                stays = q.stays;
                sum = sum;
              })
            ]
        | inr q ↦ inr (record {
          before = v ∷ q.before;
          tail = q.tail;
          paid = q.paid;
          comes = (h.0, h.1, q.comes);
          outside = q.outside;
          head = q.head;
          by = q.by;
          hop = q.hop;
          inside = q.inside;
          rest = q.rest;
          more = q.more;
          stays = q.stays;
          sum = q.sum;
        })
      ]
