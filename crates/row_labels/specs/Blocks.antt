-- Private to this crate: which rows have blocks, and that no two blocks share a place.
use Rattle.std.specs.Prelude.{◌≡◌, ◌⊎◌, ℕ, ◌+◌, ◌<◌, ◌≤◌, List}
use Rattle.std.specs.List.{Contains}
use Rattle.row_labels.specs.Rowed.{no_span, spans_of, span_on, span_of}
use Rattle.row_labels.specs.declared.blocks.Span.{Span}

-- each row that has a block is among the touched ones
pub record AreTouched (levels : List (List Span)) (touched : List (ℕ × ℕ)) : Type 0 where
  pub each : (l n : ℕ) → (span_on (spans_of levels l) n ≡ no_span) ⊎ Contains touched (l, n)

-- i is a place of a span
abbrev pub InSpan : Span → ℕ → Type 0
InSpan span i = (span.first ≤ i) × (i < span.first + span.count)

-- the spans are within so many places, and each place is in the span of one row at most
pub record AreApart (levels : List (List Span)) (places : ℕ) : Type 0 where
  pub within : (row : ℕ × ℕ) → (span_of levels row).first + (span_of levels row).count ≤ places
  pub apart : (row other : ℕ × ℕ) (i : ℕ) → InSpan (span_of levels row) i → InSpan (span_of levels other) i → row ≡ other
