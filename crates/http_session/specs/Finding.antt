-- For private functions: what is found at the front of the bytes that are not yet read.
use Rattle.std.specs.Prelude.{◌≡◌, ℕ, ◌⊎◌, List, [], Option, None, Some}
use Rattle.httparse.specs.Grammar.{RequestHead}
use Rattle.http_head.specs.Heads.{IsHeadOf}
use Rattle.http_session.specs.Coming.{IsNoHead, IsPartOfHead}
use Rattle.http_session.specs.declared.coming.Coming.{Coming}
use Rattle.http_session.specs.declared.coming.Coming.TheVariants as coming

-- a whole head, or that they are none; or nothing so far, where there are no bytes or a part of a head
abbrev pub Finds : Option Coming → List ℕ → Type 0
Finds None unread = (unread ≡ []) ⊎ IsPartOfHead unread
Finds (Some (coming.Whole head size)) unread = (h : RequestHead) × IsHeadOf unread head size h
Finds (Some coming.NoHead) unread = IsNoHead unread
Finds (Some coming.End) unread = ⊥
Finds (Some coming.Short) unread = ⊥
Finds (Some coming.Fault) unread = ⊥
