-- The bytes in which tags are kept, and the tags in them.
use Rattle.std.proofs.Common.{◌≡◌, ℕ, zero, suc, ◌+◌, ◌/◌, ◌%◌, ◌<◌, ◌≤◌, inl, inr, Bool, true, false, not, ◌&&◌, eqb, ltb, List, [], ◌∷◌, ◌++◌, length, take, drop, refl, sym, ap, ap₂, subst, cond, Some, ◌∙◌, All, arith, append_assoc, length-append, length-drop, eq-eqb}
use Rattle.std.proofs.Math.Seq.{take-append_seam, drop-append_seam}
use Rattle.std.specs.List.{position_or_len, before_first, after_first}
use Rattle.std.specs.Str.{IsUtf8}
use Rattle.std.proofs.lemmas.Bool.{ne_eqb, ltb-true}
use Rattle.std.proofs.lemmas.List.{append-nil}
use Rattle.std.proofs.lemmas.List.Elements.{All-nil, All-cons, All-head, All-tail, All-append, All-push}
use lib.Utf8.{scalar, scalars, encode, encodes, scalar_cases, next}
use Rattle.std.specs.Prelude.{bytes_eq}
use Rattle.std.proofs.lemmas.Option.{same_Some}
use Rattle.road_base.specs.TagValue.{value_of}
use Rattle.road_base.specs.TagBytes.{is_end, texts_within, texts_in, text_bytes, tags_in, in_pairs, bytes_of, IsTag, AreTagBytes}

abbrev IsNoEnd : ℕ → Type 0
IsNoEnd b = eqb b 255 ≡ false

none : (b : ℕ) → b < 255 → IsNoEnd b
none b h = ne_eqb b 255 (λ e. omega arith)

none_next : (c : ℕ) → IsNoEnd (next c)
none_next c = none (next c) (let h : c % 64 < 64 = omega arith in omega arith)

nones : (b : ℕ) (bs : List ℕ) → b < 255 → All IsNoEnd bs → All IsNoEnd (b ∷ bs)
nones b bs h all = All-cons IsNoEnd b bs (none b h) all

one_next : (c : ℕ) → All IsNoEnd (next c ∷ [])
one_next c = All-cons IsNoEnd (next c) [] (none_next c) (All-nil IsNoEnd)

two_next : (c d : ℕ) → All IsNoEnd (next c ∷ next d ∷ [])
two_next c d = All-cons IsNoEnd (next c) (next d ∷ []) (none_next c) (one_next d)

three_next : (c d e : ℕ) → All IsNoEnd (next c ∷ next d ∷ next e ∷ [])
three_next c d e = All-cons IsNoEnd (next c) (next d ∷ next e ∷ []) (none_next c) (two_next d e)

char_bytes : (c : ℕ) → c < 1114112 → (x y z : Bool) → ltb c 128 ≡ x → ltb c 2048 ≡ y → ltb c 65536 ≡ z
    → All IsNoEnd (cond x (c ∷ []) (cond y ((192 + c / 64) ∷ next c ∷ []) (cond z ((224 + c / 4096) ∷ next (c / 64) ∷ next c ∷ []) ((240 + c / 262144) ∷ next (c / 4096) ∷ next (c / 64) ∷ next c ∷ []))))
char_bytes c h true y z one two three = nones c [] (omega (arith, ltb-true c 128 one)) (All-nil IsNoEnd)
char_bytes c h false true z one two three = nones (192 + c / 64) (next c ∷ []) (omega (arith, ltb-true c 2048 two)) (one_next c)
char_bytes c h false false true one two three = nones (224 + c / 4096) (next (c / 64) ∷ next c ∷ []) (omega (arith, ltb-true c 65536 three)) (two_next (c / 64) c)
char_bytes c h false false false one two three = nones (240 + c / 262144) (next (c / 4096) ∷ next (c / 64) ∷ next c ∷ []) (omega arith) (three_next (c / 4096) (c / 64) c)

none_in_char : (c : ℕ) → c < 1114112 → All IsNoEnd (encode c)
unfolding encode
none_in_char c h = char_bytes c h (ltb c 128) (ltb c 2048) (ltb c 65536) refl refl refl

both : (x y : Bool) → (x && y) ≡ true → (x ≡ true) × (y ≡ true)
both true y h = (refl, h)
both false y h = cc

small : (c : ℕ) → scalar c ≡ true → c < 1114112
small c h = elim (scalar_cases c h) [
  | inl low ↦ omega arith
  | inr high ↦ high.1
]

none_in_chars : (cs : List ℕ) → scalars cs ≡ true → All IsNoEnd (encodes cs)
none_in_chars [] h = All-nil IsNoEnd
none_in_chars (c ∷ cs) h =
    let each = both (scalar c) (scalars cs) h in
    All-append IsNoEnd (encode c) (encodes cs) (none_in_char c (small c each.0)) (none_in_chars cs each.1)

-- no text has a 255
none_in_text : (text : List ℕ) → IsUtf8 text → All IsNoEnd text
none_in_text text utf8 = subst (λ (l : List ℕ). All IsNoEnd l) utf8.1.1 (none_in_chars utf8.0 utf8.1.0)

-- the first end stands behind a text
end_behind : (text more : List ℕ) → All IsNoEnd text → position_or_len is_end (text ++ 255 ∷ more) ≡ length text
end_behind [] more all = refl
end_behind (b ∷ text) more all =
    let first : eqb b 255 ≡ false = All-head IsNoEnd b text all in
    let next = end_behind text more (All-tail IsNoEnd b text all) in
    let n = position_or_len is_end (text ++ 255 ∷ more) in
    let step : 1 + n ≡ suc (length text) = omega arith in
    ap (λ t. cond (not t) (1 + n) 0) first ∙ step

after_seam : (text more : List ℕ) → drop (length text + 1) (text ++ 255 ∷ more) ≡ more
after_seam [] more = refl
after_seam (b ∷ text) more =
    let one : suc (length text) + 1 ≡ suc (length text + 1) = omega arith in
    ap (λ n. drop n (b ∷ (text ++ 255 ∷ more))) one ∙ after_seam text more

before_end : (text more : List ℕ) → All IsNoEnd text → before_first is_end (text ++ 255 ∷ more) ≡ text
before_end text more all = ap (λ n. take n (text ++ 255 ∷ more)) (end_behind text more all) ∙ take-append_seam text (255 ∷ more)

after_end : (text more : List ℕ) → All IsNoEnd text → after_first is_end (text ++ 255 ∷ more) ≡ more
after_end text more all = ap (λ n. drop (n + 1) (text ++ 255 ∷ more)) (end_behind text more all) ∙ after_seam text more

-- the bytes of a text, for a test whether it is short
abbrev written : Bool → List ℕ → List ℕ
written short text = cond short (length text ∷ text) (255 ∷ (text ++ 255 ∷ []))

texts_case : (most : ℕ) (text more : List ℕ) (short : Bool) → All IsNoEnd text → ltb (length text) 255 ≡ short
    → texts_within (suc most) (written short text ++ more) ≡ text ∷ texts_within most more
texts_case most text more true all h =
    let few : eqb (length text) 255 ≡ false = none (length text) (ltb-true (length text) 255 h) in
    let rest = text ++ more in
    ap (λ t. cond t (before_first is_end rest ∷ texts_within most (after_first is_end rest)) (take (length text) rest ∷ texts_within most (drop (length text) rest))) few
    ∙ ap₂ (λ (a b : List ℕ). a ∷ texts_within most b) (take-append_seam text more) (drop-append_seam text more)
texts_case most text more false all h =
    ap (λ (bytes : List ℕ). before_first is_end bytes ∷ texts_within most (after_first is_end bytes)) (append_assoc text (255 ∷ []) more)
    ∙ ap₂ (λ (a b : List ℕ). a ∷ texts_within most b) (before_end text more all) (after_end text more all)

-- the first text in the bytes of a text and more is that one
texts_within-text : (most : ℕ) (text more : List ℕ) → IsUtf8 text → texts_within (suc most) (text_bytes text ++ more) ≡ text ∷ texts_within most more
texts_within-text most text more utf8 = texts_case most text more (ltb (length text) 255) (none_in_text text utf8) refl

none_within : (most : ℕ) → texts_within most [] ≡ []
none_within zero = refl
none_within (suc most) = refl

-- as many as there are bytes are all
enough : (a b : ℕ) (bytes : List ℕ) → length bytes ≤ a → length bytes ≤ b → texts_within a bytes ≡ texts_within b bytes
enough a b [] ha hb = none_within a ∙ sym (none_within b)
enough zero b (size ∷ bytes) ha hb = absurd (omega arith)
enough (suc a) zero (size ∷ bytes) ha hb = absurd (omega arith)
enough (suc a) (suc b) (size ∷ bytes) ha hb =
    let long = after_first is_end bytes in
    let short = drop size bytes in
    let first : texts_within a long ≡ texts_within b long = enough a b long (omega (arith, length-drop (position_or_len is_end bytes + 1) bytes)) (omega (arith, length-drop (position_or_len is_end bytes + 1) bytes)) in
    let second : texts_within a short ≡ texts_within b short = enough a b short (omega (arith, length-drop size bytes)) (omega (arith, length-drop size bytes)) in
    ap₂ (λ (u v : List (List ℕ)). cond (eqb size 255) (before_first is_end bytes ∷ u) (take size bytes ∷ v)) first second

-- behind a long text stand the texts that are left
pub texts_in-long : (size : ℕ) (bytes : List ℕ) → size ≡ 255 → texts_in (size ∷ bytes) ≡ before_first is_end bytes ∷ texts_in (after_first is_end bytes)
texts_in-long size bytes is =
    let long = after_first is_end bytes in
    let short = drop size bytes in
    let n = length bytes in
    let left : texts_within n long ≡ texts_in long = enough n (length long) long (omega (arith, length-drop (position_or_len is_end bytes + 1) bytes)) (omega arith) in
    ap (λ t. cond t (before_first is_end bytes ∷ texts_within n long) (take size bytes ∷ texts_within n short)) (eq-eqb size 255 is)
    ∙ ap (λ (more : List (List ℕ)). before_first is_end bytes ∷ more) left

-- and behind a short one
pub texts_in-short : (size : ℕ) (bytes : List ℕ) → (size ≡ 255 → ⊥) → texts_in (size ∷ bytes) ≡ take size bytes ∷ texts_in (drop size bytes)
texts_in-short size bytes not =
    let long = after_first is_end bytes in
    let short = drop size bytes in
    let n = length bytes in
    let left : texts_within n short ≡ texts_in short = enough n (length short) short (omega (arith, length-drop size bytes)) (omega arith) in
    ap (λ t. cond t (before_first is_end bytes ∷ texts_within n long) (take size bytes ∷ texts_within n short)) (ne_eqb size 255 not)
    ∙ ap (λ (more : List (List ℕ)). take size bytes ∷ more) left

-- the bytes of a text are one more than it has, at least
longer : (text : List ℕ) (short : Bool) → length text < length (written short text)
longer text true = omega arith
longer text false = omega (arith, length-append text (255 ∷ []))

fewer : (text more : List ℕ) (most : ℕ) → length (text_bytes text ++ more) ≤ most → length more < most
fewer text more most h = omega (arith, length-append (text_bytes text) more, longer text (ltb (length text) 255))

one_tag : (most : ℕ) (tag : List ℕ × List ℕ) (more : List ℕ) → IsTag tag → in_pairs (texts_within (suc (suc most)) (text_bytes tag.0 ++ (text_bytes tag.1 ++ more))) ≡ tag ∷ in_pairs (texts_within most more)
one_tag most tag more texts =
    ap in_pairs (texts_within-text (suc most) tag.0 (text_bytes tag.1 ++ more) texts.key ∙ ap (λ l. tag.0 ∷ l) (texts_within-text most tag.1 more texts.value))

tags_within : (most : ℕ) (tags : List (List ℕ × List ℕ)) → All IsTag tags → length (bytes_of tags) ≤ most → in_pairs (texts_within most (bytes_of tags)) ≡ tags
tags_within most [] all room = ap in_pairs (none_within most)
tags_within zero (tag ∷ tags) all room = absurd (omega (arith, fewer tag.0 (text_bytes tag.1 ++ bytes_of tags) zero room))
tags_within (suc zero) (tag ∷ tags) all room =
    absurd (omega (arith, fewer tag.1 (bytes_of tags) 0 (let less = fewer tag.0 (text_bytes tag.1 ++ bytes_of tags) 1 room in omega arith)))
tags_within (suc (suc most)) (tag ∷ tags) all room =
    let behind_key = fewer tag.0 (text_bytes tag.1 ++ bytes_of tags) (suc (suc most)) room in
    let behind = fewer tag.1 (bytes_of tags) (suc most) (omega arith) in
    one_tag most tag (bytes_of tags) (All-head IsTag tag tags all)
    ∙ ap (λ l. tag ∷ l) (tags_within most tags (All-tail IsTag tag tags all) (omega arith))

-- the tags in the bytes of tags are these
pub tags_in-bytes_of : (tags : List (List ℕ × List ℕ)) → All IsTag tags → tags_in (bytes_of tags) ≡ tags
tags_in-bytes_of tags all = tags_within (length (bytes_of tags)) tags all (omega arith)

-- the bytes of one tag
abbrev pub tag_bytes : List ℕ → List ℕ → List ℕ
tag_bytes key value = text_bytes key ++ text_bytes value

bytes_of-push : (tags : List (List ℕ × List ℕ)) (key value : List ℕ) → bytes_of (tags ++ (key, value) ∷ []) ≡ bytes_of tags ++ tag_bytes key value
bytes_of-push [] key value = ap (λ l. text_bytes key ++ l) (append-nil (text_bytes value))
bytes_of-push (tag ∷ tags) key value =
    ap (λ l. text_bytes tag.0 ++ (text_bytes tag.1 ++ l)) (bytes_of-push tags key value)
    ∙ ap (λ l. text_bytes tag.0 ++ l) (sym (append_assoc (text_bytes tag.1) (bytes_of tags) (tag_bytes key value)))
    ∙ sym (append_assoc (text_bytes tag.0) (text_bytes tag.1 ++ bytes_of tags) (tag_bytes key value))

-- the bytes with one more tag's behind them
pub record HasPushed (bytes key value all : List ℕ) : Type 0 where
  pub tags : tags_in all ≡ tags_in bytes ++ (key, value) ∷ []
  pub are : AreTagBytes all

pub pushed : (bytes key value all : List ℕ) → AreTagBytes bytes → IsUtf8 key → IsUtf8 value → all ≡ bytes ++ tag_bytes key value → HasPushed bytes key value all
pushed bytes key value all old utf8_key utf8_value same =
    let more = tags_in bytes ++ (key, value) ∷ [] in
    let tag : IsTag (key, value) = record { key = utf8_key; value = utf8_value } in
    let texts : All IsTag more = All-push IsTag (tags_in bytes) (key, value) old.texts tag in
    let whole : bytes_of more ≡ all = bytes_of-push (tags_in bytes) key value ∙ ap (λ l. l ++ tag_bytes key value) old.whole ∙ sym same in
    let tags : tags_in all ≡ more = ap tags_in (sym whole) ∙ tags_in-bytes_of more texts in
    record {
      tags = tags;
      are = record {
        whole = ap bytes_of tags ∙ whole;
        texts = subst (λ (l : List (List ℕ × List ℕ)). All IsTag l) (sym tags) texts;
      };
    }

-- that is how they are written, one text after another
pub two_texts : (bytes key value a all : List ℕ) → a ≡ bytes ++ text_bytes key → all ≡ a ++ text_bytes value → all ≡ bytes ++ tag_bytes key value
two_texts bytes key value a all e1 e2 = e2 ∙ ap (λ l. l ++ text_bytes value) e1 ∙ append_assoc bytes (text_bytes key) (text_bytes value)

text_case : (first : List ℕ × List ℕ) (tags : List (List ℕ × List ℕ)) (key value : List ℕ) (same : Bool) → IsTag first → (value_of tags key ≡ Some value → IsUtf8 value)
    → cond same (Some first.1) (value_of tags key) ≡ Some value → IsUtf8 value
text_case first tags key value true tag more h = subst (λ (l : List ℕ). IsUtf8 l) (same_Some first.1 value h) tag.value
text_case first tags key value false tag more h = more h

-- the value of a key is a text
pub value_of-text : (tags : List (List ℕ × List ℕ)) (key value : List ℕ) → All IsTag tags → value_of tags key ≡ Some value → IsUtf8 value
value_of-text [] key value all h = cc
value_of-text (tag ∷ tags) key value all h =
    text_case tag tags key value (bytes_eq tag.0 key) (All-head IsTag tag tags all) (value_of-text tags key value (All-tail IsTag tag tags all)) h
