use Rattle.std.proofs.Common.{◌≡◌, ℕ, ◌<◌, ◌≤◌, Bool, List, [], length, map, take, drop, slice_range, sym, ap, ap₂, ◌∙◌, subst, inl, arith, append-nil, length-take-le}
use Rattle.std.proofs.lemmas.List.{length-map}
use Rattle.std.specs.List.{list_any}
use Rattle.httparse.specs.declared.spans.HeaderSpan.{HeaderSpan}
use Rattle.httparse.specs.declared.spans.RequestSpans.{RequestSpans}
use Rattle.httparse.specs.Grammar.{Field, RequestHead, print_request, ReadsRequest}
use Rattle.httparse.specs.Spans.{header_bytes, name_and_value, AreFieldsAt, IsRequestOf, IsRequestAt, IsRequestWithin}
use Rattle.httparse.proofs.GrammarLemmas.{request_unique}
use Rattle.http_head.specs.Fields.{closes, announces_body}
use Rattle.http_head.specs.Heads.{HasNoFront, IsAlive, IsHeadOf}
use Rattle.http_head.specs.declared.parts.Span.{Span}
use Rattle.http_head.proofs.Lists.{list_any-map}
use Rattle.http_head.proofs.reading.whole.Goals as goal

-- a front that is too long is the only head at the front of the bytes
too_long : (bytes : List ℕ) (fields : List HeaderSpan) (found : RequestSpans)
    → IsRequestOf bytes fields found → 8192 < found.len → HasNoFront bytes
too_long bytes fields found (h, at) long k rest front =
    let same = request_unique bytes h k (drop found.len bytes) rest at.reads front.0 in
    let fits : length (print_request h) ≤ 8192 = subst (λ (x : RequestHead). length (print_request x) ≤ 8192) (sym same.0) front.2 in
    omega (arith, at.len)

-- where a front of them is a head, the bytes are alive
alive : (bytes : List ℕ) (h : RequestHead) (rest : List ℕ) → ReadsRequest bytes h rest → IsAlive bytes
alive bytes h rest reads =
    let same = subst (λ (x : List ℕ). ReadsRequest x h rest) (sym (append-nil bytes)) reads in
    ([], h, rest, same)

-- as many fields as headers were written
count_fields : (bytes : List ℕ) (headers : List HeaderSpan) (count : ℕ) (fields : List Field)
    → count ≤ length headers → AreFieldsAt bytes headers count fields → length headers ≤ 64 → length fields ≤ 64
count_fields bytes headers count fields fit are room =
    let counts = ap length are in
    omega (arith, counts, length-map (take count headers) (header_bytes bytes), length-map fields name_and_value, length-take-le count headers)

-- what our answer holds is what the parser's does
is_head : (bytes : List ℕ) (fields : List HeaderSpan) (found : RequestSpans) (h : RequestHead)
    (method target : Span) (close announced : Bool)
    → IsRequestWithin bytes fields found → IsRequestAt bytes fields found h
    → length fields ≤ 64 → found.len ≤ 8192
    → method.from ≡ found.method.start → method.to ≡ found.method.end
    → target.from ≡ found.path.start → target.to ≡ found.path.end
    → close ≡ closes found.version (map (header_bytes bytes) (take found.headers fields))
    → announced ≡ list_any (λ field. announces_body (header_bytes bytes field)) (take found.headers fields)
    → IsHeadOf bytes (record { method = method; target = target; minor = found.version; close = close; announced = announced }) found.len h
is_head bytes fields found h method target close announced within at room short method_from method_to target_from target_to closing announcing = record {
  front = (at.reads, count_fields bytes fields found.headers h.fields within.section.count_fits at.fields room, omega (arith, at.len));
  size_is = at.len;
  size_fits = within.section.len_fits;
  method_within = (omega (arith, method_from, method_to, within.method), omega (arith, method_to, within.method));
  method = ap₂ (slice_range bytes) method_from method_to ∙ at.method;
  target_within = (omega (arith, target_from, target_to, within.path), omega (arith, target_to, within.path));
  target = ap₂ (slice_range bytes) target_from target_to ∙ at.path;
  minor = at.version;
  close = closing ∙ ap₂ closes at.version at.fields;
  announced = announcing ∙ sym (list_any-map announces_body (header_bytes bytes) (take found.headers fields)) ∙ ap (list_any announces_body) at.fields;
}

pub returns-then-found-gt-HEAD_LIMIT : goal.returns-then-found-gt-HEAD_LIMIT
returns-then-found-gt-HEAD_LIMIT c = (
  too_long _ _ _ c.requires.complete c.if-found-gt-HEAD_LIMIT.true,
  inl (alive _ _ _ c.requires.complete.1.reads),
)

pub returns : goal.returns
returns c = (
  c.requires.complete.0,
  is_head _ _ _ _ _ _ _ _ c.requires.within c.requires.complete.1 c.requires.room c.if-found-gt-HEAD_LIMIT.false
      c.span.ensures.from c.span.ensures.to c.span-2.ensures.from c.span-2.ensures.to c.closes.ensures c.announces.ensures,
)
