-- What follows from the laws of costs: the order, and how sums keep it.
use Rattle.std.proofs.Common.{◌≡◌, false, refl, sym, ◌∙◌, ap, subst, ◌⊎◌, inl, inr}
use Rattle.std.specs.declared.cmp.Ordering.{Ordering}
use Rattle.std.specs.declared.cmp.Ordering.TheVariants.{Less, Equal, Greater}
use Rattle.std.specs.Ordering.{is_gt, is_lt, ordering_reverse}
use Rattle.std.proofs.lemmas.Bool.{true≢false}
use Rattle.std.proofs.lemmas.Cmp.{upto, tied_itself}
use Rattle.search_graph.specs.Costs.{CostOps, CostLaws, NoDearer}

gt_from_flipped : (r s : Ordering) → r ≡ ordering_reverse s → is_lt s ≡ false → is_gt r ≡ false
gt_from_flipped r Less e h = absurd (true≢false h)
gt_from_flipped r Equal e h = ap is_gt e
gt_from_flipped r Greater e h = ap is_gt e

less_or_not : (r : Ordering) → (r ≡ Less) ⊎ (is_lt r ≡ false)
less_or_not Less = inl refl
less_or_not Equal = inr refl
less_or_not Greater = inr refl

-- an answer that isn't greater is less or equal
by_not_gt : {G : Type 0} (r : Ordering) → is_gt r ≡ false → (r ≡ Less → G) → (r ≡ Equal → G) → G
by_not_gt Less h p q = p refl
by_not_gt Equal h p q = q refl
by_not_gt Greater h p q = absurd (true≢false h)

module _ {C : Type 0} {ops : CostOps C} (laws : CostLaws ops) where
  -- a cost is no dearer than itself
  pub le_refl : (a : C) → NoDearer ops a a
  le_refl a = ap is_gt (tied_itself laws.total a)

  -- and than its equal
  pub le_from_same : (a b : C) → a ≡ b → NoDearer ops a b
  le_from_same a b e = subst (λ x. NoDearer ops a x) e (le_refl a)

  pub le_trans : (a b c : C) → NoDearer ops a b → NoDearer ops b c → NoDearer ops a c
  le_trans a b c h k = upto laws.total a b c h k

  pub le_from_less : (a b : C) → ops.cmp a b ≡ Less → NoDearer ops a b
  le_from_less a b e = ap is_gt e

  pub le_from_not_less : (a b : C) → is_lt (ops.cmp a b) ≡ false → NoDearer ops b a
  le_from_not_less a b h = gt_from_flipped (ops.cmp b a) (ops.cmp a b) (laws.total.antisymm b a) h

  -- no cost is both no dearer and dearer than another
  pub not_both : (a b : C) → NoDearer ops a b → ops.cmp b a ≡ Less → ⊥
  not_both a b h e = let r : ops.cmp a b ≡ Greater = laws.total.antisymm a b ∙ ap ordering_reverse e in true≢false (sym (ap is_gt r) ∙ h)

  -- two costs of which neither is the dearer are one
  pub same_from_le : (a b : C) → ops.valid a → ops.valid b → NoDearer ops a b → NoDearer ops b a → a ≡ b
  same_from_le a b va vb h k = by_not_gt (ops.cmp a b) h (λ e. absurd (not_both b a k e)) (λ e. laws.same a b va vb e)

  -- a sum keeps the order, from the right
  pub plus_le : (a b c : C) → ops.valid a → ops.valid b → ops.valid c → NoDearer ops a b → NoDearer ops (ops.plus a c) (ops.plus b c)
  plus_le a b c va vb vc h = by_not_gt (ops.cmp a b) h (λ e. ap is_gt (laws.keeps_order a b c va vb vc e)) (λ e. le_from_same (ops.plus a c) (ops.plus b c) (ap (λ x. ops.plus x c) (laws.same a b va vb e)))

  -- and from the left
  pub plus_le_left : (a b c : C) → ops.valid a → ops.valid b → ops.valid c → NoDearer ops a b → NoDearer ops (ops.plus c a) (ops.plus c b)
  plus_le_left a b c va vb vc h = subst (λ x. NoDearer ops x (ops.plus c b)) (laws.comm a c va vc) (subst (λ x. NoDearer ops (ops.plus a c) x) (laws.comm b c vb vc) (plus_le a b c va vb vc h))

  -- nothing is neutral from the left, too
  pub zero_plus : (a : C) → ops.valid a → ops.plus ops.zero a ≡ a
  zero_plus a v = laws.comm ops.zero a laws.zero_valid v ∙ laws.neutral a v

  -- what is added makes nothing cheaper
  pub plus_grows : (a b : C) → ops.valid a → ops.valid b → NoDearer ops a (ops.plus a b)
  plus_grows a b va vb = subst (λ x. NoDearer ops x (ops.plus a b)) (laws.neutral a va) (plus_le_left ops.zero b a laws.zero_valid vb va (laws.zero_least b vb))

  -- and nothing cheaper that it is added to
  pub plus_grows_left : (a b : C) → ops.valid a → ops.valid b → NoDearer ops b (ops.plus a b)
  plus_grows_left a b va vb = subst (λ x. NoDearer ops b x) (laws.comm b a vb va) (plus_grows b a vb va)

  -- b costs less, or a is no dearer
  pub less_or_le : (a b : C) → (ops.cmp b a ≡ Less) ⊎ NoDearer ops a b
  less_or_le a b = elim (less_or_not (ops.cmp b a)) [ inl e ↦ inl e | inr h ↦ inr (le_from_not_less b a h) ]

  -- what is no dearer with c is no dearer without
  pub plus_le_back : (a b c : C) → ops.valid a → ops.valid b → ops.valid c → NoDearer ops (ops.plus a c) (ops.plus b c) → NoDearer ops a b
  plus_le_back a b c va vb vc h = elim (less_or_le a b) [
    | inl e ↦ absurd (not_both (ops.plus a c) (ops.plus b c) h (laws.keeps_order b a c vb va vc e))
    | inr le ↦ le
  ]
