-- What offers have cost so far, by the rows that they go along: a row has the number of a level and its own number there, and
-- as many places as its span says, each with a value or none.
use Rattle.std.specs.Prelude.{◌≡◌, ◌⊎◌, ℕ, ◌+◌, ◌<◌, List, [], Option, Some, None, nat_lt, if◌then◌else◌, slice_index_or}
use Rattle.std.specs.List.{Contains, slice_get}
use Rattle.search_graph.specs.Costs.{CostOps, NoDearer}
use Rattle.row_labels.specs.declared.blocks.Span.{Span}

-- the span of a row without values
abbrev pub no_span : Span
no_span = record { first = 0; count = 0 }

-- the span of row n of a level
abbrev pub span_on : List Span → ℕ → Span
span_on spans n = slice_index_or spans n no_span

-- the spans of a level
abbrev pub spans_of : List (List Span) → ℕ → List Span
spans_of levels l = slice_index_or levels l []

-- the span of the row of a name
abbrev pub span_of : List (List Span) → ℕ × ℕ → Span
span_of levels row = span_on (spans_of levels row.0) row.1

-- the value at place j of a span
abbrev pub value_in : {C : Type 0} → List (Option C) → Span → ℕ → Option C
value_in values span j = if nat_lt j span.count then slice_index_or values (span.first + j) None else None

-- what is kept at place j of the row of a name
abbrev pub value_of : {C : Type 0} → List (List Span) × List (Option C) → ℕ × ℕ → ℕ → Option C
value_of rows row j = value_in rows.1 (span_of rows.0 row) j

-- Place j costs s, and is among the improved ones with what is paid and s as its value.
abbrev pub IsImproved : {C : Type 0} → CostOps C → C → List (Option C) → List ℕ → ℕ → C → Type 0
IsImproved {C} ops paid costs improved j d = Contains improved j × (s : C) × (slice_get costs j ≡ Some (Some s)) × (d ≡ ops.plus paid s)

-- What offers along the first `count` places of a row leave of what is kept, by row and place: a value that wasn't kept is an
-- offer, and its place is improved; and an offered place is improved, or its value costs no more than the offer. Values may be forgotten.
pub record LowersRow {C : Type 0} (ops : CostOps C) (old new : ℕ × ℕ → ℕ → Option C) (name : ℕ × ℕ) (paid : C) (costs : List (Option C)) (count : ℕ) (improved : List ℕ) : Type 0 where
  pub kept : (row : ℕ × ℕ) (j : ℕ) (d : C) → new row j ≡ Some d → (old row j ≡ Some d) ⊎ ((row ≡ name) × IsImproved ops paid costs improved j d)
  pub found : (j : ℕ) (s : C) → j < count → slice_get costs j ≡ Some (Some s) → Contains improved j ⊎ ((d : C) × (new name j ≡ Some d) × NoDearer ops d (ops.plus paid s))
  pub within : (j : ℕ) → Contains improved j → j < count
