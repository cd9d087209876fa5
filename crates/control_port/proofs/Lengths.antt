-- What the `Content-Length` fields announce, one by one.
use Rattle.std.proofs.Common.{◌≡◌, ℕ, ◌∙◌, ap, refl, sym, Bool, true, false, cond, ◌||◌, List, [], ◌∷◌, ◌++◌, Option, Some, None, append-nil, codes, map, take, length, get_or, ◌<◌, ◌+◌, add-one}
use Rattle.std.specs.Prelude.{filter}
use Rattle.std.specs.List.{list_any}
use Rattle.std.proofs.lemmas.List.Elements.{filter-append}
use Rattle.std.proofs.Math.Seq.{take-suc}
use Rattle.std.proofs.lemmas.List.{map-append}
use Rattle.httparse.specs.Spans.{header_bytes}
use Rattle.httparse.specs.declared.spans.HeaderSpan.{HeaderSpan}
use Rattle.http_head.specs.Fields.{NameValue, is_named}
use Rattle.control_port.specs.Asking.{by_lengths, length_of, number_of, with_field, with_length}
use Rattle.control_port.specs.declared.asking.Announced.{Announced}
use Rattle.control_port.specs.declared.asking.Announced.TheVariants as announced

-- behind one length there is no other
one_more : (number length : Option ℕ) → with_length (length_of number) length ≡ announced.Other
one_more None length = refl
one_more (Some n) length = refl

first_length : (length : Option ℕ) → with_length announced.Nothing length ≡ length_of length
first_length length = refl

-- one field more
pub by_lengths-snoc : (fields : List NameValue) (field : NameValue) → by_lengths (fields ++ field ∷ []) ≡ with_length (by_lengths fields) (number_of field.1)
by_lengths-snoc [] field = refl
by_lengths-snoc (x ∷ []) field = sym (one_more (number_of x.1) (number_of field.1))
by_lengths-snoc (x ∷ y ∷ fields) field = refl

last_field : (fields : List NameValue) (field : NameValue) (named : Bool) → is_named (codes "content-length") field ≡ named → by_lengths (fields ++ filter (is_named (codes "content-length")) (field ∷ [])) ≡ with_field (by_lengths fields) field
last_field fields field true is = rw is (by_lengths-snoc fields field)
last_field fields field false is = rw is (ap by_lengths (append-nil fields))

-- one field more, of whatever name
pub announced-snoc : (fields : List NameValue) (field : NameValue) → by_lengths (filter (is_named (codes "content-length")) (fields ++ field ∷ [])) ≡ with_field (by_lengths (filter (is_named (codes "content-length")) fields)) field
announced-snoc fields field = ap by_lengths (filter-append (is_named (codes "content-length")) fields (field ∷ [])) ∙ last_field (filter (is_named (codes "content-length")) fields) field (is_named (codes "content-length") field) refl

-- a test of what f makes of the elements
pub list_any-map : {X Y : Type 0} (p : Y → Bool) (f : X → Y) (xs : List X) → list_any p (map f xs) ≡ list_any (λ x. p (f x)) xs
list_any-map p f [] = refl
list_any-map p f (x ∷ xs) = ap (λ rest. p (f x) || rest) (list_any-map p f xs)

-- one turn of the loop over the fields
pub one_field : (bytes : List ℕ) (fields : List HeaderSpan) (i : ℕ) (d : HeaderSpan) (body next : Announced)
    → i < length fields
    → body ≡ by_lengths (filter (is_named (codes "content-length")) (map (header_bytes bytes) (take i fields)))
    → next ≡ with_field body (header_bytes bytes (get_or fields i d))
    → next ≡ by_lengths (filter (is_named (codes "content-length")) (map (header_bytes bytes) (take (i + 1) fields)))
one_field bytes fields i d body next lt so_far is =
    let field = get_or fields i d in
    let longer : take (i + 1) fields ≡ take i fields ++ field ∷ [] = ap (λ n. take n fields) (add-one i) ∙ take-suc fields i d lt in
    is
    ∙ ap (λ b. with_field b (header_bytes bytes field)) so_far
    ∙ sym (announced-snoc (map (header_bytes bytes) (take i fields)) (header_bytes bytes field))
    ∙ ap (λ xs. by_lengths (filter (is_named (codes "content-length")) xs)) (sym (ap (map (header_bytes bytes)) longer ∙ map-append (header_bytes bytes) (take i fields) (field ∷ [])))
