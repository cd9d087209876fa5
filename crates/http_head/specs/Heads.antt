-- The three answers about the head at the front of the bytes that a connection has not yet read
-- (RFC 9112, sections 2 to 5, in the grammar of `httparse`; the two limits are this project's rule).
use Rattle.std.specs.Prelude.{◌≡◌, ℕ, ◌≤◌, ◌⊎◌, List, ◌++◌, length, drop, slice_range}
use Rattle.std.specs.List.{list_any}
use Rattle.httparse.specs.Grammar.{RequestHead, print_request, ReadsRequest, NeverHasRequest, EndsInTarget}
use Rattle.httparse.specs.Spans.{RequestExceeds}
use Rattle.http_head.specs.Fields.{fields_of, closes, announces_body}
use Rattle.http_head.specs.declared.parts.Span.{Span}
use Rattle.http_head.specs.declared.parts.Head.{Head}
use Rattle.http_head.specs.declared.parts.Front.{Front}
use Rattle.http_head.specs.declared.parts.Front.TheVariants.{Whole, More, Bad}

-- the bytes are the head h and then rest, and h has at most 64 fields and 8192 bytes
abbrev pub HasFront : List ℕ → RequestHead → List ℕ → Type 0
HasFront bytes h rest =
    ReadsRequest bytes h rest × (length h.fields ≤ 64) × (length (print_request h) ≤ 8192)

-- no front of the bytes is such a head
abbrev pub HasNoFront : List ℕ → Type 0
HasNoFront bytes = (h : RequestHead) (rest : List ℕ) → ¬ (HasFront bytes h rest)

-- no continuation of the bytes has a front that is a head, with any number of fields and bytes
abbrev pub IsDead : List ℕ → Type 0
IsDead bytes = NeverHasRequest bytes

-- some continuation of the bytes has a front that is a head, with any number of fields and bytes
abbrev pub IsAlive : List ℕ → Type 0
IsAlive bytes =
    (more : List ℕ) × (h : RequestHead) × (rest : List ℕ) × ReadsRequest (bytes ++ more) h rest

-- the span lies in the first n bytes
abbrev pub IsWithin : ℕ → Span → Type 0
IsWithin n s = (s.from ≤ s.to) × (s.to ≤ n)

-- the bytes that the span covers
abbrev pub span_bytes : List ℕ → Span → List ℕ
span_bytes bytes s = slice_range bytes s.from s.to

-- found is the head h at the front of the bytes, which is `size` bytes long
pub record IsHeadOf (bytes : List ℕ) (found : Head) (size : ℕ) (h : RequestHead) : Type 0 where
  pub front : HasFront bytes h (drop size bytes)
  pub size_is : size ≡ length (print_request h)
  pub size_fits : size ≤ length bytes
  pub method_within : IsWithin size found.method
  pub method : span_bytes bytes found.method ≡ h.method
  pub target_within : IsWithin size found.target
  pub target : span_bytes bytes found.target ≡ h.target
  pub minor : found.minor ≡ h.minor
  pub close : found.close ≡ closes h.minor (fields_of h)
  pub announced : found.announced ≡ list_any announces_body (fields_of h)

-- Whole: a front is whole. Bad: the bytes are dead. More: no front is whole, and the bytes are
-- alive, or end inside a target, or have more than 64 fields.
abbrev pub AnswersHead : List ℕ → Front → Type 0
AnswersHead bytes (Whole found size) = (h : RequestHead) × IsHeadOf bytes found size h
AnswersHead bytes More =
    HasNoFront bytes × (IsAlive bytes ⊎ EndsInTarget bytes ⊎ RequestExceeds 64 bytes)
AnswersHead bytes Bad = IsDead bytes
