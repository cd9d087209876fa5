-- How whole heads at the front of bytes stand to each other, and to the bytes that follow.
use Rattle.std.specs.Prelude.{◌≡◌, ℕ, ◌<◌, ◌≤◌, List, [], ◌∷◌, ◌++◌, length, take, drop, IsTrue, ⊤, refl}
use Rattle.std.proofs.Common.{◌∙◌, sym, ap, subst, append_assoc, append-nil, take-append-drop, le_trans, le-add_right, lt_of_lt_of_le, not-le_of_lt, length-append, lit<, lit≤}
use Rattle.std.proofs.Math.Seq.{take-append_seam}
use Rattle.std.proofs.lemmas.List.{take-append-le}
use Rattle.std.proofs.lemmas.List.Elements.{All-cons, All-nil}
use Rattle.httparse.proofs.GrammarLemmas.{ReadsRequest-append, print_request-append, request_unique}
use Rattle.httparse.specs.Grammar.{IsField, IsRequestHead, ReadsRequest, RequestHead, is_token_byte, is_uri_byte, lf, print_blank, print_end, print_request, print_section, print_version}
use Rattle.list_lemmas.proofs.Counts.{none_less}
use Rattle.http_head.specs.Heads.{HasFront, HasNoFront, IsDead}

-- there are bytes
abbrev IsSome : List ℕ → Type 0
IsSome [] = ⊥
IsSome (b ∷ bytes) = ⊤

-- a list with an element in it is not empty
some_within : (a b c : List ℕ) (x : ℕ) → IsSome (a ++ (b ++ x ∷ c))
some_within [] [] c x = tt
some_within [] (b ∷ bs) c x = tt
some_within (a ∷ more) b c x = tt

-- two texts that are nothing together are nothing each
pub first_none : (a b : List ℕ) → a ++ b ≡ [] → a ≡ []
first_none [] b none = refl
first_none (x ∷ a) b none = absurd (subst IsSome none tt)

-- there is no head at the front of nothing
pub no_front_of_none : (h : RequestHead) (rest : List ℕ) → HasFront [] h rest → ⊥
no_front_of_none h rest front =
    subst IsSome (sym (front.0.1 ∙ print_request-append h rest))
    (some_within (print_blank h.blank) h.method (h.target ++ 32 ∷ (print_version h.minor ++ (print_end h.line_end ++ (print_section h.fields h.last ++ rest)))) 32)

-- bytes that follow change neither the head nor what stands behind it in front of them
pub front_more : (bytes more : List ℕ) (h : RequestHead) (rest : List ℕ) → HasFront bytes h rest → HasFront (bytes ++ more) h (rest ++ more)
front_more bytes more h rest front = (ReadsRequest-append bytes h rest more front.0, front.1, front.2)

-- there is one head at the front at most
pub front_only : (bytes : List ℕ) (h k : RequestHead) (rest other : List ℕ) → HasFront bytes h rest → HasFront bytes k other → (h ≡ k) × (rest ≡ other)
front_only bytes h k rest other one two = request_unique bytes h k rest other one.0 two.0

-- as many bytes as a head may have hold it whole
pub front_within : (bytes more : List ℕ) (h : RequestHead) (rest : List ℕ) → 8192 ≤ length bytes → HasFront (bytes ++ more) h rest → HasFront bytes h (drop (length (print_request h)) bytes)
front_within bytes more h rest long front = ((front.0.0, split), front.1, front.2)
  where
    size : ℕ
    size = length (print_request h)

    within : size ≤ length bytes
    within = le_trans front.2 long

    same : take size bytes ≡ print_request h
    same = sym (take-append-le size bytes more within) ∙ ap (take size) front.0.1 ∙ take-append_seam (print_request h) rest

    split : bytes ≡ print_request h ++ drop size bytes
    split = sym (take-append-drop size bytes) ∙ ap (λ (xs : List ℕ). xs ++ drop size bytes) same

-- dead bytes stay dead
pub dead_more : (bytes more : List ℕ) → IsDead bytes → IsDead (bytes ++ more)
dead_more bytes more dead then = λ h rest reads. dead (more ++ then) h rest (subst (λ (xs : List ℕ). ReadsRequest xs h rest) (append_assoc bytes more then) reads)

-- and no head is at their front
pub dead_no_front : (bytes : List ℕ) → IsDead bytes → HasNoFront bytes
dead_no_front bytes dead h rest front = dead [] h rest (subst (λ (xs : List ℕ). ReadsRequest xs h rest) (sym (append-nil bytes)) front.0)

-- the shortest request: a method and a target of a letter each, and no fields
abbrev shortest : RequestHead
shortest = record { blank = []; method = 71 ∷ []; target = 47 ∷ []; minor = 1; line_end = lf; fields = []; last = lf }

letter : IsTrue (is_token_byte 71)
unfolding is_token_byte
letter = refl

is_shortest : IsRequestHead shortest
unfolding lib.Utf8.encode
is_shortest = record {
  method = (lit< tt, All-cons (λ b. IsTrue (is_token_byte b)) 71 [] letter (All-nil (λ b. IsTrue (is_token_byte b))));
  target = (lit< tt, All-cons (λ b. IsTrue (is_uri_byte b)) 47 [] refl (All-nil (λ b. IsTrue (is_uri_byte b))));
  target_text = (47 ∷ [], (refl, refl));
  minor = lit≤ tt;
  fields = All-nil IsField;
}

-- nothing is not dead: any head may follow it
pub none_not_dead : IsDead [] → ⊥
none_not_dead dead = dead (print_request shortest) shortest [] (is_shortest, sym (append-nil (print_request shortest)))

-- fewer bytes than a head may have aren't that many and more
pub not_long : (bytes front more : List ℕ) → bytes ≡ front ++ more → length bytes < 8192 → 8192 ≤ length front → ⊥
not_long bytes front more split short long =
    not-le_of_lt short (le_trans long (subst (λ (n : ℕ). length front ≤ n) (sym (ap length split ∙ length-append front more)) (le-add_right (length front) (length more))))

-- and nothing isn't
pub none_not_long : 8192 ≤ 0 → ⊥
none_not_long long = let some : 0 < 8192 = lit< tt in none_less (lt_of_lt_of_le some long)
