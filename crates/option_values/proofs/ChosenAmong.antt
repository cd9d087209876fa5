-- Chosen coordinates, where they are there.
use Rattle.std.proofs.Common.{◌≡◌, ℕ, true, false, cond, ltb, List, codes, Some, None, ◌∙◌, ap, option_map}
use Rattle.std.specs.List.{list_all}
use Rattle.std.specs.Str.{bytes_eq}
use Rattle.option_values.specs.Entries.{among, chosen_among}
use Rattle.option_values.specs.Values.{all_read, short_number_of}
use Rattle.option_values.specs.declared.option_types.Chosen.TheVariants.{All, Only}

module _ (count : ℕ) (value indexes : List ℕ) (other : bytes_eq value (codes "all") ≡ false) (read : all_read short_number_of value ≡ Some indexes) where
  numbers : chosen_among count (Some value) ≡ cond (list_all (λ i. ltb i count) indexes) (Some (Only indexes)) None
  numbers =
      ap (λ b. among count (cond b (Some All) (option_map Only (all_read short_number_of value)))) other
      ∙ ap (λ o. among count (option_map Only o)) read

  -- all are there
  pub chosen_among-low : list_all (λ i. ltb i count) indexes ≡ true → chosen_among count (Some value) ≡ Some (Only indexes)
  chosen_among-low low = numbers ∙ ap (λ b. cond b (Some (Only indexes)) None) low

  -- one is not
  pub chosen_among-high : list_all (λ i. ltb i count) indexes ≡ false → chosen_among count (Some value) ≡ None
  chosen_among-high high = numbers ∙ ap (λ b. cond b (Some (Only indexes)) None) high
