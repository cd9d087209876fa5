-- Each turn packs one hop more.
use Rattle.std.proofs.Common.{◌≡◌, ℕ, ◌+◌, ◌-◌, ◌<◌, ◌++◌, ◌∷◌, [], List, Some, get_or, length, length-append, inl, inr, arith, sym, ◌∙◌, ap, subst}
use Rattle.std.specs.List.{slice_get}
use Rattle.std.proofs.lemmas.Option.{same_Some, slice_get-get_or}
use Rattle.list_lemmas.proofs.Gets.{get_push}
use Rattle.cell_partition.specs.Partition.{Partition}
use Rattle.overlay_query.specs.declared.packed.Hop.{Hop}
use Rattle.overlay_query.specs.Packed.{IsByPart}
use Rattle.overlay_query.proofs.hops.pack.Goals as goal

-- one hop more
hop_more : (p : Partition) (level : ℕ → ℕ) (walk : List ℕ) (hops : List Hop) (i a b : ℕ) (new : Hop) → length hops + 1 ≡ i → slice_get walk (i - 1) ≡ Some a → slice_get walk i ≡ Some b →
    new.to ≡ b → IsByPart p level a b new.by →
    ((k n u v : ℕ) (h : Hop) → n ≡ k + 1 → slice_get walk k ≡ Some u → slice_get walk n ≡ Some v → slice_get hops k ≡ Some h → (h.to ≡ v) × IsByPart p level u v h.by) →
    (k n u v : ℕ) (h : Hop) → n ≡ k + 1 → slice_get walk k ≡ Some u → slice_get walk n ≡ Some v → slice_get (hops ++ new ∷ []) k ≡ Some h → (h.to ≡ v) × IsByPart p level u v h.by
hop_more p level walk hops i a b new count ea eb to by before k n u v h e eu ev eh = elim (get_push hops new k h eh) [
  | inl g ↦ before k n u v h e eu ev g
  | inr g ↦
      let k_is : k ≡ i - 1 = omega (arith, g.0) in
      let n_is : n ≡ i = omega (arith, g.0) in
      let same_u : a ≡ u = same_Some a u (sym ea ∙ ap (slice_get walk) (sym k_is) ∙ eu) in
      let same_v : b ≡ v = same_Some b v (sym eb ∙ ap (slice_get walk) (sym n_is) ∙ ev) in
      let is : IsByPart p level u v new.by = subst (λ (x : ℕ). IsByPart p level x v new.by) same_u (subst (λ (x : ℕ). IsByPart p level a x new.by) same_v by) in
      subst (λ (x : Hop). (x.to ≡ v) × IsByPart p level u v x.by) (sym g.1) (to ∙ same_v, is)
]

pub loop-i-preserved : goal.loop-i-preserved
loop-i-preserved g c =
    let lt : c.loop-i.i < length c.args.walk.now = c.loop-i-test.true in
    let before : c.loop-i.i - 1 < length c.args.walk.now = omega (arith, lt) in
    record {
      count = rw c.in_ok-push.ensures.items (omega (arith, length-append c.loop-i.hops.items (c.hop_by-hop.result ∷ []), c.loop-i.invariant.count));
      each = rw c.in_ok-push.ensures.items (hop_more c.args.frame.now.cells (g.P.Parts.level c.args.parts.now c.args.frame.now) c.args.walk.now c.loop-i.hops.items c.loop-i.i (get_or c.args.walk.now (c.loop-i.i - 1) 0) (get_or c.args.walk.now c.loop-i.i 0) c.hop_by-hop.result c.loop-i.invariant.count
          (slice_get-get_or c.args.walk.now (c.loop-i.i - 1) 0 before) (slice_get-get_or c.args.walk.now c.loop-i.i 0 lt) c.hop_by-hop.ensures.to c.hop_by-hop.ensures.by c.loop-i.invariant.each);
    }
