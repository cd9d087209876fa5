-- What the answering of lines leaves at each of its ends.
use Rattle.std.proofs.Common.{◌≡◌, ℕ, ◌+◌, ◌-◌, ◌^◌, ◌<◌, ◌≤◌, ◌⊎◌, min, List, [], ◌++◌, length, take, refl, sym, ap, ◌∙◌, subst, inl, inr, append-nil, arith, length-append, length-take}
use Rattle.std.specs.Io.KnownBytes.{Consumes, IsAtEnd, Keeps}
use Rattle.std.specs.Str.Lines.{lines}
use Rattle.road_io.specs.Faults.{InputRose}
use Rattle.road_io.specs.Outside.{outside}
use Rattle.road_io.specs.Taking.{Took}
use Rattle.road_io.specs.TakingLaws.{took_all, took_end, took_kept, took_none, took_piece}
use Rattle.road_io.specs.Views.{InputView}
use Rattle.line_session.specs.Growing.{Sides}
use Rattle.line_session.specs.Leading.{Goes, GoesHalted, Halts, Puts, StopsAt, TakenSoFar}
use Rattle.line_session.specs.Publication.{Publication}
use Rattle.line_session.specs.Stopping.{InputFailed, Stopped, ToldAll, TookSome, TookToEnd, TookTooMuch}
use Rattle.line_session.specs.Told.{whole_lines}
use Rattle.line_session.specs.declared.asking.Stop.{Stop}
use Rattle.line_session.specs.declared.asking.Stop.TheVariants as stop
use Rattle.line_session.proofs.LeadLaws.{answered_last, answered_whole, halted_last, so_far_none}

-- what one call took: so many bytes of a piece, or none at the end of the input
abbrev pub TakesPiece : InputView → InputView → List ℕ → ℕ → Type 0
TakesPiece mid now piece count = Consumes mid.left now.left (take count piece) × (count ≤ length piece) × (now.taken ≡ min (mid.taken + count) (2 ^ 64 - 1))

abbrev pub TakesEnd : InputView → InputView → List ℕ → ℕ → Type 0
TakesEnd mid now piece count = (count ≡ 0) × Consumes mid.left now.left (take count piece) × (now.taken ≡ min (mid.taken + count) (2 ^ 64 - 1)) × IsAtEnd now.left

-- before the first piece
pub taken_none : (first : Publication) (input : InputView) (s : Sides) → TakenSoFar first first input input [] s s 0
taken_none first input s = record { taken = []; length_is = refl; took = took_none input; so_far = so_far_none first s }

-- where it stopped
stopped_at : (why : Stop) (first last : Publication) (input now : InputView) (start after : Sides) (all : List (List ℕ)) → TookSome input now all ⊎ TookToEnd input now all → now.faults ≡ input.faults
    → Halts why first last all start after → Stopped why first last (outside start.files input start.output) (outside after.files now after.output)
stopped_at stop.Output first last input now start after all took steady halts = record { all = all; took = took; halted = halts; steady = steady }
stopped_at (stop.File name) first last input now start after all took steady halts = record { all = all; took = took; halted = halts; steady = steady }
stopped_at stop.Input first last input now start after all took steady halts = absurd halts
stopped_at stop.TooLong first last input now start after all took steady halts = absurd halts
stopped_at stop.Memory first last input now start after all took steady halts = absurd halts

module _ (first mid last : Publication) (input between now : InputView) (held piece : List ℕ) (start before after : Sides) (count taken : ℕ) (so_far : TakenSoFar first mid input between held start before taken) where
  -- one piece more
  pub taken_piece : (rest : List ℕ) → TakesPiece between now piece count → Goes mid last held (take count piece) rest before after → TakenSoFar first last input now rest start after (taken + count)
  taken_piece rest takes goes = record {
    taken = so_far.taken ++ take count piece;
    length_is = omega (arith, length-append so_far.taken (take count piece), length-take count piece, so_far.length_is, takes.1);
    took = took_piece input between now so_far.taken piece count so_far.took takes.0 takes.1 takes.2;
    so_far = goes first start so_far.taken so_far.so_far;
  }

  to_end : taken < 2 ^ 63 → TakesEnd between now piece count → TookToEnd input now (lines so_far.taken)
  to_end short ends = record {
    input = so_far.taken;
    took = took_end input between now so_far.taken piece count so_far.took ends.0 ends.1 ends.2;
    at_end = ends.3;
    short = omega (arith, so_far.length_is);
    are = refl;
  }

  -- the end of the input
  pub told_all : taken < 2 ^ 63 → TakesEnd between now piece count → now.faults ≡ input.faults → Puts mid held before after last → ToldAll first last (outside start.files input start.output) (outside after.files now after.output)
  told_all short ends steady puts = record {
    all = lines so_far.taken;
    took = to_end short ends;
    answered = answered_last first mid last so_far.taken held start before after so_far.so_far puts;
    steady = steady;
  }

  pub stopped_last : (why : Stop) → taken < 2 ^ 63 → TakesEnd between now piece count → now.faults ≡ input.faults → StopsAt why mid held before after last → Stopped why first last (outside start.files input start.output) (outside after.files now after.output)
  stopped_last why short ends steady stops =
      stopped_at why first last input now start after (lines so_far.taken) (inr (to_end short ends)) steady
      (halted_last first mid last so_far.taken held start before after so_far.so_far why stops)

  -- within a piece
  pub stopped_within : (why : Stop) → TakesPiece between now piece count → now.faults ≡ input.faults → GoesHalted why mid last held (take count piece) before after → Stopped why first last (outside start.files input start.output) (outside after.files now after.output)
  stopped_within why takes steady halted =
      let all : List ℕ = so_far.taken ++ take count piece in
      stopped_at why first last input now start after (whole_lines all)
      (inl (record { taken = all; took = took_piece input between now so_far.taken piece count so_far.took takes.0 takes.1 takes.2; are = refl })) steady
      (subst (λ (xs : List ℕ). Halts why first last (whole_lines (so_far.taken ++ xs)) start after) (append-nil (take count piece)) (halted first start so_far.taken [] so_far.so_far))

-- the input failed between two pieces
pub input_failed : (first last : Publication) (input between now : InputView) (held : List ℕ) (start after : Sides) (taken : ℕ) → TakenSoFar first last input between held start after taken
    → Keeps between.left now.left → now.taken ≡ between.taken → InputRose input now → InputFailed first last (outside start.files input start.output) (outside after.files now after.output)
input_failed first last input between now held start after taken so_far kept same rose = record {
  all = whole_lines so_far.taken;
  took = record { taken = so_far.taken; took = took_kept input between now so_far.taken so_far.took kept same; are = refl };
  answered = answered_whole first last so_far.taken held start after so_far.so_far;
  rose = rose;
}

-- where 2^63 bytes were taken, they were taken in a call
pub took_long : (first last : Publication) (input now : InputView) (held : List ℕ) (start after : Sides) (taken : ℕ) → TakenSoFar first last input now held start after taken
    → 2 ^ 63 ≤ taken → now.faults ≡ input.faults → TookTooMuch first last (outside start.files input start.output) (outside after.files now after.output)
took_long first last input now held start after taken so_far long steady =
    let many : 2 ^ 63 ≤ length so_far.taken = omega (arith, so_far.length_is) in
    record {
      all = whole_lines so_far.taken;
      took = record { taken = so_far.taken; took = took_all input now so_far.taken so_far.took (omega arith); long = many; are = refl };
      answered = answered_whole first last so_far.taken held start after so_far.so_far;
      steady = steady;
    }
