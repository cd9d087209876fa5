-- What was taken of a body, step by step.
use Rattle.std.proofs.Common.{◌≡◌, ◌∙◌, ℕ, ◌+◌, ◌<◌, ◌≤◌, List, [], ◌++◌, Option, Vec, Result, Ok, Err, length, take, drop, refl, sym, ap, subst, arith, append_assoc, append-nil, length-append, length-take, take-append-drop}
use Rattle.std.specs.Global.{Global}
use Rattle.std.specs.Io.KnownBytes.{Consumes}
use Rattle.road_io.specs.Told.{consumes_kept, consumes_none, consumes_then}
use Rattle.road_io.specs.declared.failures.Failed.{Failed}
use Rattle.http_session.specs.Bodies.{Holds, ReadsPart, ReadsWhole}
use Rattle.http_session.specs.Filling.{BodySoFar, Fills, FillsNone, FillsSome}
use Rattle.http_session.specs.Coming.{Grows, IsSteady}
use Rattle.road_io.specs.Views.{ConnState}
use Rattle.http_session.specs.Taking.{Takes}
use Rattle.http_session.proofs.GrowLaws.{grows_start, keeps_sink_then, no_bytes}

-- one call of `take` where nothing was unread
pub fills_taken : (before after : ConnState) (unread now : List ℕ) (result : Result ℕ Failed) → unread ≡ [] → Takes before after unread now result → Fills before after unread now result
fills_taken before after unread now (Ok count) empty takes = record {
  grows = record { got = takes.got; longer = takes.longer; given = takes.took.given; sink = takes.sink };
  steady = takes.steady;
  size = ap length takes.longer ∙ ap (λ (xs : List ℕ). length (xs ++ takes.got)) empty ∙ takes.size;
  at_end = takes.at_end;
}
fills_taken before after unread now (Err e) empty takes = record { empty = empty; takes = takes }

-- and none where some are
pub fills_held : (state : ConnState) (unread : List ℕ) (count : ℕ) → count ≡ length unread → 0 < count → FillsSome state state unread unread count
fills_held state unread count size some = record {
  grows = grows_start state unread;
  steady = refl;
  size = sym size;
  at_end = λ none. absurd (omega arith);
}

pub body_start : (state : ConnState) (unread : List ℕ) (kept : Option (Vec ℕ Global)) → Holds kept [] → BodySoFar state state unread unread kept 0
body_start state unread kept holds = record {
  part = [];
  size = refl;
  holds = holds;
  reads = record { got = []; split = append-nil unread; given = consumes_none state.source.left; sink = record { sink = refl; opening = refl } };
  steady = refl;
}

-- some of the bytes that are unread go on with it
pub body_more : (first mid now : ConnState) (unread held longer rest bytes : List ℕ) (kept more : Option (Vec ℕ Global)) (count step : ℕ) → BodySoFar first mid unread held kept count → Grows mid now held longer → IsSteady mid now → step ≤ length longer → bytes ≡ take step longer → ((front : List ℕ) → Holds kept front → Holds more (front ++ bytes)) → rest ≡ drop step longer → BodySoFar first now unread rest more (count + step)
body_more first mid now unread held longer rest bytes kept more count step so_far grows steady few bytes_are keeps rest_is = record {
  part = so_far.part ++ bytes;
  size = omega (arith, length-append so_far.part bytes, ap length bytes_are, length-take step longer, so_far.size, few);
  holds = keeps so_far.part so_far.holds;
  reads = record {
    got = so_far.reads.got ++ grows.got;
    split =
        sym (append_assoc unread so_far.reads.got grows.got)
        ∙ ap (λ (xs : List ℕ). xs ++ grows.got) so_far.reads.split
        ∙ append_assoc so_far.part held grows.got
        ∙ ap (λ (xs : List ℕ). so_far.part ++ xs) (sym grows.longer ∙ sym (take-append-drop step longer))
        ∙ sym (append_assoc so_far.part (take step longer) (drop step longer))
        ∙ ap (λ (xs : List ℕ). (so_far.part ++ xs) ++ drop step longer) (sym bytes_are)
        ∙ ap (λ (xs : List ℕ). (so_far.part ++ bytes) ++ xs) (sym rest_is);
    given = consumes_then first.source.left mid.source.left now.source.left so_far.reads.got grows.got so_far.reads.given grows.given;
    sink = keeps_sink_then first mid now so_far.reads.sink grows.sink;
  };
  steady = steady ∙ so_far.steady;
}

-- the input ended inside it
pub body_short : (first mid now : ConnState) (unread held longer : List ℕ) (kept : Option (Vec ℕ Global)) (count size more : ℕ) → BodySoFar first mid unread held kept count → count < size → FillsSome mid now held longer more → more ≡ 0 → ReadsPart first now unread size
body_short first mid now unread held longer kept count size more so_far below fills none =
    let empty : longer ≡ [] = no_bytes longer (fills.size ∙ none) in
    record {
      part = so_far.part;
      short = omega (arith, so_far.size, below);
      reads = record {
        got = so_far.reads.got ++ fills.grows.got;
        split =
            sym (append_assoc unread so_far.reads.got fills.grows.got)
            ∙ ap (λ (xs : List ℕ). xs ++ fills.grows.got) so_far.reads.split
            ∙ append_assoc so_far.part held fills.grows.got
            ∙ ap (λ (xs : List ℕ). so_far.part ++ xs) (sym fills.grows.longer ∙ empty);
        given = consumes_then first.source.left mid.source.left now.source.left so_far.reads.got fills.grows.got so_far.reads.given fills.grows.given;
        sink = keeps_sink_then first mid now so_far.reads.sink fills.grows.sink;
      };
    }

-- the input failed inside it
pub body_fault : (first mid now : ConnState) (unread held longer : List ℕ) (kept : Option (Vec ℕ Global)) (count size : ℕ) → BodySoFar first mid unread held kept count → count < size → FillsNone mid now held longer → ReadsPart first now unread size
body_fault first mid now unread held longer kept count size so_far below fills = record {
  part = so_far.part;
  short = omega (arith, so_far.size, below);
  reads = record {
    got = so_far.reads.got;
    split = so_far.reads.split ∙ ap (λ (xs : List ℕ). so_far.part ++ xs) fills.empty;
    given = subst (λ (xs : List ℕ). Consumes first.source.left now.source.left xs) (append-nil so_far.reads.got) (consumes_then first.source.left mid.source.left now.source.left so_far.reads.got [] so_far.reads.given (consumes_kept mid.source.left now.source.left fills.takes.left));
    sink = keeps_sink_then first mid now so_far.reads.sink fills.takes.sink;
  };
}

pub body_whole : (first now : ConnState) (unread rest : List ℕ) (kept : Option (Vec ℕ Global)) (count size : ℕ) → BodySoFar first now unread rest kept count → size ≤ count → count ≤ size → ReadsWhole first now unread rest size kept
body_whole first now unread rest kept count size so_far full within = record {
  body = so_far.part;
  size_is = omega (arith, so_far.size, full, within);
  holds = so_far.holds;
  reads = so_far.reads;
  steady = so_far.steady;
}
