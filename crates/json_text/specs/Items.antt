-- Lists that are written item by item.
use Rattle.std.proofs.Common.{◌≡◌, ℕ, ◌+◌, ◌<◌, ◌≤◌, List, [], ◌∷◌, ◌++◌, length, take, refl, sym, ap, subst, ◌∙◌, get_or}
use Rattle.std.specs.Prelude.{map}
use Rattle.std.proofs.lemmas.List.{map_push, take_all, take_more}
use Rattle.json_text.specs.declared.draft.Container.TheVariants as container
use Rattle.json_text.specs.Values.{JsonValue}
use Rattle.json_text.specs.Drafts.{Draft, TakesValue, TakesEnd, begun, ended, with_value}
use Rattle.json_text.specs.Wholes.{array_of, with_items}
use Rattle.json_text.specs.WholeLaws.{array_written, with_items-snoc, TakesValue-with_items, TakesEnd-with_items}

module _ {X : Type 0} (f : X → JsonValue) (xs : List X) (d : Draft) where
  -- an array that has begun, with the items so far
  abbrev pub so_far : ℕ → Draft
  so_far k = with_items (map f (take k xs)) (begun container.Array d)

  -- another may come
  pub may_come : (k : ℕ) (now : Draft) → now ≡ so_far k → TakesValue now
  may_come k now is = subst TakesValue (sym is) (TakesValue-with_items (map f (take k xs)) d)

  -- or its end
  pub may_end : (k : ℕ) (now : Draft) → now ≡ so_far k → TakesEnd container.Array now
  may_end k now is = subst (TakesEnd container.Array) (sym is) (TakesEnd-with_items (map f (take k xs)) d)

  -- one item more
  pub one_more : (k : ℕ) (default : X) (now after : Draft) → k < length xs → now ≡ so_far k → after ≡ with_value (f (get_or xs k default)) now → after ≡ so_far (k + 1)
  one_more k default now after lt is next =
      let x = get_or xs k default in
      let grown : map f (take (k + 1) xs) ≡ map f (take k xs) ++ f x ∷ [] =
      ap (map f) (take_more xs k default lt) ∙ map_push f (take k xs) x in
      next ∙ ap (with_value (f x)) is ∙ sym (with_items-snoc (map f (take k xs)) (f x) (begun container.Array d))
      ∙ ap (λ (vs : List JsonValue). with_items vs (begun container.Array d)) (sym grown)

  -- all of them
  pub all_written : (k : ℕ) (now after : Draft) → length xs ≤ k → now ≡ so_far k → after ≡ ended container.Array now → after ≡ with_value (array_of (map f xs)) d
  all_written k now after most is ends =
      ends ∙ ap (ended container.Array) (is ∙ ap (λ (ys : List X). with_items (map f ys) (begun container.Array d)) (take_all k xs most))
      ∙ array_written (map f xs) d
