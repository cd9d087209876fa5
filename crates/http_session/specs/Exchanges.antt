-- A connection as its exchanges: requests one behind the other, and one reply to each (RFC 9112, section 9.3).
-- `S` is what a port knows between two of them.
use Rattle.std.specs.Prelude.{◌≡◌, ℕ, ◌+◌, ◌≤◌, List, [], ◌∷◌, ◌++◌, Bool, false, length}
use Rattle.httparse.specs.Grammar.{RequestHead, IsRequestHead, print_request}

-- a head within both limits
pub record IsWhole (h : RequestHead) : Type 0 where
  pub valid : IsRequestHead h
  pub fields : length h.fields ≤ 64
  pub size : length (print_request h) ≤ 8192

-- a request, its reply, whether the reply closes the connection, and what the port knows after it
pub record Exchange (S : Type 0) : Type 0 where
  pub head : RequestHead
  pub body : List ℕ
  pub close : Bool
  pub reply : List ℕ
  pub after : S

module _ {S : Type 0} where
  -- the bytes of the requests
  abbrev pub requests_of : List (Exchange S) → List ℕ
  requests_of [] = []
  requests_of (x ∷ more) = (print_request x.head ++ x.body) ++ requests_of more

  -- the bytes of the replies
  abbrev pub replies_of : List (Exchange S) → List ℕ
  replies_of [] = []
  replies_of (x ∷ more) = x.reply ++ replies_of more

  -- none of them closes
  abbrev pub AreOpen : List (Exchange S) → Type 0
  AreOpen [] = Unit {0}
  AreOpen (x ∷ more) = (x.close ≡ false) × AreOpen more

  -- there is a last one, and none before it closes
  pub record HasLast (all : List (Exchange S)) : Type 0 where
    pub front : List (Exchange S)
    pub last : Exchange S
    pub are : all ≡ front ++ last ∷ []
    pub stay : AreOpen front

  -- each follows the port's rule, the first as number n, from what the port knew before
  abbrev pub Follow : (ℕ → S → Exchange S → Type 0) → ℕ → S → List (Exchange S) → S → Type 0
  Follow Rule n before [] after = after ≡ before
  Follow Rule n before (x ∷ more) after = Rule n before x × Follow Rule (n + 1) x.after more after
