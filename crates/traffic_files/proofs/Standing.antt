-- One more record, and how many there are.
use Rattle.std.proofs.Common.{◌≡◌, List, [], ◌∷◌, ◌++◌, length, sym, ◌∙◌, ap, ap₂}
use Rattle.std.specs.Prelude.{Result, Ok}
use Rattle.std.proofs.lemmas.List.{map-append, length-map}
use Rattle.traffic_files.specs.Files.{Record, StandFor}
use Rattle.traffic_files.specs.declared.rows.RowKind.{RowKind}

module _ {A : Type 0} (row_of : Record → Result A RowKind) (records : List Record) (rows : List A) (h : StandFor row_of records rows) where
  -- a good record more is a row more
  pub StandFor-more : (record_next : Record) (row : A) → row_of record_next ≡ Ok row → StandFor row_of (records ++ record_next ∷ []) (rows ++ row ∷ [])
  StandFor-more record_next row e =
      map-append row_of records (record_next ∷ [])
      ∙ ap₂ ◌++◌ h (ap (λ (r : Result A RowKind). r ∷ []) e)
      ∙ sym (map-append (λ (a : A). Ok a) rows (row ∷ []))

  -- as many records as rows
  pub StandFor-length : length rows ≡ length records
  StandFor-length =
      sym (length-map rows (λ (a : A). Ok a)) ∙ ap length (sym h) ∙ length-map records row_of
