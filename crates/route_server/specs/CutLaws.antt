-- The cut of the input of a connection into requests is the only one: one head at most stands at the front of bytes,
-- and it tells how long the body behind it is.
use Rattle.std.specs.Prelude.{◌≡◌, ℕ, ◌+◌, ◌<◌, ◌≤◌, List, [], ◌∷◌, ◌++◌, take, drop, length, refl}
use Rattle.std.proofs.Common.{◌∙◌, sym, ap, subst, append_assoc, le-add_right, length-append, not-le_of_lt}
use Rattle.std.proofs.lemmas.List.{drop_at, take_at}
use Rattle.std.specs.List.{AllZip}
use Rattle.httparse.specs.Grammar.{print_request}
use Rattle.http_head.specs.Heads.{HasFront}
use Rattle.http_session.specs.Exchanges.{Exchange, Follow, requests_of}
use Rattle.http_session.specs.FrontLaws.{front_only}
use Rattle.route_server.specs.HeadRules.{AreRequests, GoesBy, HasNoneServed, HeadRule, IsRequest, are_requests}

-- exchanges by a port's rule whose requests are these bytes, one behind the other, up to bytes at whose front no whole
-- request that is served is left
pub record IsCut {S : Type 0} (Rule : ℕ → S → Exchange S → Type 0) (heads : HeadRule) (bytes : List ℕ) (all : List (Exchange S)) : Type 0 where
  pub number : ℕ
  pub first : S
  pub last : S
  pub follow : Follow Rule number first all last
  pub rest : List ℕ
  pub split : bytes ≡ requests_of all ++ rest
  pub behind : HasNoneServed heads rest

module _ {S T : Type 0} where
  -- one head and one body
  pub record IsSameRequest (x : Exchange S) (y : Exchange T) : Type 0 where
    pub head : x.head ≡ y.head
    pub body : x.body ≡ y.body

  -- as many requests, each the same as the other in its place
  abbrev pub AreSameRequests : List (Exchange S) → List (Exchange T) → Type 0
  AreSameRequests xs ys = AllZip (λ (x : Exchange S) (y : Exchange T). IsSameRequest x y) xs ys

-- texts of one length, before others in the same bytes, are one text, and so are those behind them
append_same : (a b c d : List ℕ) → length a ≡ length b → a ++ c ≡ b ++ d → (a ≡ b) × (c ≡ d)
append_same a b c d sizes same = (
  sym (take_at a c (length b) sizes) ∙ ap (λ (xs : List ℕ). take (length b) xs) same ∙ take_at b d (length b) refl,
  sym (drop_at a c (length b) sizes) ∙ ap (λ (xs : List ℕ). drop (length b) xs) same ∙ drop_at b d (length b) refl,
)

-- a text with more behind it is no shorter
not_shorter : (text more : List ℕ) (n : ℕ) → length text ≡ n → length (text ++ more) < n → ⊥
not_shorter text more n size short = not-le_of_lt short (subst (λ (k : ℕ). k ≤ length (text ++ more)) size within)
  where
    within : length text ≤ length (text ++ more)
    within = subst (λ (k : ℕ). length text ≤ k) (sym (length-append text more)) (le-add_right (length text) (length more))

module _ {S : Type 0} (heads : HeadRule) where
  -- the first head stands whole at the front of the bytes, and behind it its body and the other requests
  pub first_front : (n : ℕ) (x : Exchange S) (xs : List (Exchange S)) (rest bytes : List ℕ) → IsRequest heads n x → bytes ≡ requests_of (x ∷ xs) ++ rest → HasFront bytes x.head (x.body ++ (requests_of xs ++ rest))
  first_front n x xs rest bytes request cut = (
    (
      request.whole.valid,
      cut
          ∙ append_assoc (print_request x.head ++ x.body) (requests_of xs) rest
          ∙ append_assoc (print_request x.head) x.body (requests_of xs ++ rest),
    ),
    request.whole.fields,
    request.whole.size,
  )

  -- so no request stands where there is none
  pub none_first : (n : ℕ) (x : Exchange S) (xs : List (Exchange S)) (rest bytes : List ℕ) → IsRequest heads n x → bytes ≡ requests_of (x ∷ xs) ++ rest → HasNoneServed heads bytes → ⊥
  none_first n x xs rest bytes request cut none =
      not_shorter x.body (requests_of xs ++ rest) (heads.body x.head) request.size
      (none x.head (x.body ++ (requests_of xs ++ rest)) (first_front n x xs rest bytes request cut) request.served)

module _ {S T : Type 0} (heads : HeadRule) where
  -- the first of the requests in the same bytes are the same, and so is what stands behind them
  pub first_same : (n m : ℕ) (x : Exchange S) (y : Exchange T) (xs : List (Exchange S)) (ys : List (Exchange T)) (rest behind bytes : List ℕ) → IsRequest heads n x → IsRequest heads m y → bytes ≡ requests_of (x ∷ xs) ++ rest → bytes ≡ requests_of (y ∷ ys) ++ behind → IsSameRequest x y × (requests_of xs ++ rest ≡ requests_of ys ++ behind)
  first_same n m x y xs ys rest behind bytes one two cut other_cut = (record { head = same.0; body = parts.0 }, parts.1)
    where
      same : (x.head ≡ y.head) × (x.body ++ (requests_of xs ++ rest) ≡ y.body ++ (requests_of ys ++ behind))
      same = front_only bytes x.head y.head (x.body ++ (requests_of xs ++ rest)) (y.body ++ (requests_of ys ++ behind))
          (first_front heads n x xs rest bytes one cut) (first_front heads m y ys behind bytes two other_cut)

      sizes : length x.body ≡ length y.body
      sizes = one.size ∙ ap heads.body same.0 ∙ sym two.size

      parts : (x.body ≡ y.body) × (requests_of xs ++ rest ≡ requests_of ys ++ behind)
      parts = append_same x.body y.body (requests_of xs ++ rest) (requests_of ys ++ behind) sizes same.1

  same_requests : (n m : ℕ) (xs : List (Exchange S)) (ys : List (Exchange T)) (rest behind bytes : List ℕ) → AreRequests heads n xs → AreRequests heads m ys → bytes ≡ requests_of xs ++ rest → bytes ≡ requests_of ys ++ behind → HasNoneServed heads rest → HasNoneServed heads behind → AreSameRequests xs ys
  same_requests n m [] [] rest behind bytes one two cut other_cut none none_other = tt
  same_requests n m [] (y ∷ ys) rest behind bytes one two cut other_cut none none_other =
      absurd (none_first heads m y ys behind rest two.0 (sym cut ∙ other_cut) none)
  same_requests n m (x ∷ xs) [] rest behind bytes one two cut other_cut none none_other =
      absurd (none_first heads n x xs rest behind one.0 (sym other_cut ∙ cut) none_other)
  same_requests n m (x ∷ xs) (y ∷ ys) rest behind bytes one two cut other_cut none none_other =
      let same = first_same n m x y xs ys rest behind bytes one.0 two.0 cut other_cut in
      (same.0, same_requests (n + 1) (m + 1) xs ys rest behind (requests_of xs ++ rest) one.1 two.1 refl same.1 none none_other)

-- Two cuts of the same bytes are into the same requests, by any two rules that go by the same heads.
pub cuts_agree : {S T : Type 0} (heads : HeadRule) (Rule : ℕ → S → Exchange S → Type 0) (Other : ℕ → T → Exchange T → Type 0) → GoesBy Rule heads → GoesBy Other heads → (bytes : List ℕ) (xs : List (Exchange S)) (ys : List (Exchange T)) → IsCut Rule heads bytes xs → IsCut Other heads bytes ys → AreSameRequests xs ys
cuts_agree heads Rule Other goes other_goes bytes xs ys one two =
    same_requests heads one.number two.number xs ys one.rest two.rest bytes
    (are_requests Rule heads goes one.number one.first one.last xs one.follow)
    (are_requests Other heads other_goes two.number two.first two.last ys two.follow)
    one.split two.split one.behind two.behind
