-- Paths of more than four pieces.
use Rattle.std.proofs.Common.{◌≡◌, ℕ, Bool, true, false, cond, eqb, List, [], ◌∷◌, Bor, Option, Some, None, refl, ◌∙◌, ap}
use Rattle.std.specs.Option.{MatchOption, is_some}
use Rattle.std.specs.List.{onto_first, slice_split}
use Rattle.option_values.specs.Cutting.{IsCut, IsUncut}
use Rattle.url_read.specs.Target.{Pieces, four_pieces}

module _ (front service version profile first : List ℕ) where
  abbrev five_and : List (List ℕ) → Option Pieces
  five_and more = four_pieces (front ∷ service ∷ version ∷ profile ∷ first ∷ more)

  five_and-onto : (b : ℕ) (parts : List (List ℕ)) → five_and (onto_first b parts) ≡ None
  five_and-onto b [] = refl
  five_and-onto b (part ∷ parts) = refl

  five_and-either : (b : ℕ) (parts : List (List ℕ)) (here : Bool) → five_and (cond here ([] ∷ parts) (onto_first b parts)) ≡ None
  five_and-either b parts true = refl
  five_and-either b parts false = five_and-onto b parts

  -- a text has at least one part, which would be the fifth piece
  pub five_and-parts : (p : ℕ → Bool) (text : List ℕ) → five_and (slice_split p text) ≡ None
  five_and-parts p [] = refl
  five_and-parts p (b ∷ text) = five_and-either b (slice_split p text) (p b)

-- a path whose last piece has another slash has no four pieces
pub four_pieces-slashed : (front service version profile rest : List ℕ) (found : Option (Bor (List ℕ) × Bor (List ℕ))) → MatchOption found (IsUncut 47 rest) (λ parts. IsCut 47 rest parts.0.now parts.1.now) → is_some found ≡ true
    → four_pieces (front ∷ service ∷ version ∷ profile ∷ slice_split (λ b. eqb b 47) rest) ≡ None
four_pieces-slashed front service version profile rest None h some = cc
four_pieces-slashed front service version profile rest (Some parts) h some =
    ap (λ more. four_pieces (front ∷ service ∷ version ∷ profile ∷ more)) h.parts
    ∙ five_and-parts front service version profile parts.0.now (λ b. eqb b 47) parts.1.now
