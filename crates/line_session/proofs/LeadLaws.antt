-- How the answering of lines goes on, byte by byte and piece by piece.
use Rattle.std.proofs.Common.{◌≡◌, ℕ, ◌+◌, ◌<◌, ◌⊎◌, inl, inr, Bool, true, false, ◌==◌, Option, Some, None, List, [], ◌∷◌, ◌++◌, length, map, take, drop, get_or, add-one, take-suc, take-append-drop, drop-cons, refl, sym, ap, ◌∙◌, subst, append_assoc, append-nil, arith}
use Rattle.std.specs.Prelude.{if◌then◌else◌}
use Rattle.std.specs.Str.{is_utf8}
use Rattle.std.specs.Str.Lines.{lines, strip_carriage_return}
use Rattle.std.proofs.lemmas.List.Elements.{All-nil, All-push}
use Rattle.line_session.specs.Growing.{Grows, GrowsFront, GrowsUnread, Sides}
use Rattle.line_session.specs.Leading.{Goes, GoesHalted, Halts, NoNewline, Puts, PutsFront, PutsNone, SoFar, Steps, StopsAt, StopsWith, ended}
use Rattle.line_session.specs.Publication.{Publication}
use Rattle.line_session.specs.Stopping.{Answered, CutOff, Unread}
use Rattle.line_session.specs.Told.{Contents, Adds, Telling, Told, also, nothing, whole_lines}
use Rattle.line_session.specs.Traffic.{traffic_names}
use Rattle.line_session.specs.declared.asking.Stop.{Stop}
use Rattle.line_session.specs.declared.asking.Stop.TheVariants as stop
use Rattle.line_session.proofs.GrowLaws.{grows_none, grows_then, grows_then_front, grows_then_unread}
use Rattle.line_session.proofs.LineLaws.{clean_push, ended_push, lines_ended, lines_last, map_push, whole_at, whole_ended, whole_none}
use Rattle.line_session.proofs.LineTold.{Alike, adds_alike, alike_held, alike_strip, held_more, names_alike, told_one, told_then}

-- before the first byte
pub so_far_none : (first : Publication) (s : Sides) → SoFar first first [] [] s s
so_far_none first s = record {
  parts = [];
  part = [];
  are = refl;
  clean = tt;
  begun = All-nil (λ b. (b == 10) ≡ false);
  held_is = refl;
  told = nothing;
  is_told = (refl, refl);
  grows = grows_none s;
}

module _ (first last next : Publication) (taken held : List ℕ) (start before after : Sides) (so_far : SoFar first last taken held start before) where
  -- what was told before, by the files as they stand now
  here : before.files.content ≡ start.files.content
  here = so_far.grows.read.content

  -- lines are told behind those
  told_more : (more : List (List ℕ)) (added : Telling) → Told before.files.content last more added next → Told start.files.content first (map strip_carriage_return so_far.parts ++ more) (also so_far.told added) next
  told_more more added told =
      told_then start.files.content first last next (map strip_carriage_return so_far.parts) more so_far.told added so_far.is_told
      (subst (λ (content : Contents). Told content last more added next) here told)

  told_line : (line : List ℕ) (added : Telling) → Adds before.files.content last line added next → Told start.files.content first (map strip_carriage_return so_far.parts ++ line ∷ []) (also so_far.told added) next
  told_line line added adds = told_more (line ∷ []) added (told_one before.files.content last next line added adds)

  -- a byte was held or dropped
  held_byte : (b : ℕ) (rest : List ℕ) → (b == 10) ≡ false → rest ≡ take 8194 (held ++ b ∷ []) → next ≡ last → after ≡ before → SoFar first next (taken ++ b ∷ []) rest start after
  held_byte b rest other rest_is same stays = record {
    parts = so_far.parts;
    part = so_far.part ++ b ∷ [];
    are = ap (λ (xs : List ℕ). xs ++ b ∷ []) so_far.are ∙ append_assoc (ended so_far.parts) so_far.part (b ∷ []);
    clean = so_far.clean;
    begun = All-push (λ c. (c == 10) ≡ false) so_far.part b so_far.begun other;
    held_is = rest_is ∙ held_more so_far.part held b so_far.held_is;
    told = so_far.told;
    is_told = subst (λ (p : Publication). Told start.files.content first (map strip_carriage_return so_far.parts) so_far.told p) (sym same) so_far.is_told;
    grows = subst (λ (s : Sides). Grows so_far.told start s) (sym stays) so_far.grows;
  }

  all_taken : (more : List ℕ) → taken ++ more ≡ ended so_far.parts ++ (so_far.part ++ more)
  all_taken more = ap (λ (xs : List ℕ). xs ++ more) so_far.are ∙ append_assoc (ended so_far.parts) so_far.part more

  -- a newline ended a line, which was answered
  line_byte : Puts last (strip_carriage_return held) before after next → SoFar first next (taken ++ 10 ∷ []) [] start after
  line_byte puts = record {
    parts = so_far.parts ++ so_far.part ∷ [];
    part = [];
    are = all_taken (10 ∷ []) ∙ ended_push so_far.parts so_far.part ∙ sym (append-nil (ended (so_far.parts ++ so_far.part ∷ [])));
    clean = clean_push so_far.parts so_far.part so_far.clean so_far.begun;
    begun = All-nil (λ b. (b == 10) ≡ false);
    held_is = refl;
    told = also so_far.told puts.told;
    is_told = subst (λ (all : List (List ℕ)). Told start.files.content first all (also so_far.told puts.told) next) (sym (map_push so_far.parts so_far.part))
        (told_line (strip_carriage_return so_far.part) puts.told
        (adds_alike before.files.content last next (strip_carriage_return held) (strip_carriage_return so_far.part) puts.told (alike_strip so_far.part held so_far.held_is) puts.adds));
    grows = grows_then so_far.told puts.told start before after so_far.grows puts.grows;
  }

  whole_taken : (more : List ℕ) → whole_lines (taken ++ (10 ∷ more)) ≡ map strip_carriage_return so_far.parts ++ (strip_carriage_return so_far.part ∷ whole_lines more)
  whole_taken more =
      ap whole_lines (all_taken (10 ∷ more))
      ∙ whole_ended so_far.parts (so_far.part ++ (10 ∷ more)) so_far.clean
      ∙ ap (λ (all : List (List ℕ)). map strip_carriage_return so_far.parts ++ all) (whole_at so_far.part more so_far.begun)

  -- the reply to a line was cut off, or a file of it could not be read
  cut_line : (line : List ℕ) (rest all : List (List ℕ)) → all ≡ map strip_carriage_return so_far.parts ++ (line ∷ rest) → (given : List ℕ) → Alike given line → PutsFront last given before after next → CutOff first next all start after
  cut_line line rest all are given alike puts = record {
    answered = map strip_carriage_return so_far.parts ++ line ∷ [];
    rest = rest;
    are = are ∙ sym (append_assoc (map strip_carriage_return so_far.parts) (line ∷ []) rest);
    told = also so_far.told puts.told;
    is_told = told_line line puts.told (adds_alike before.files.content last next given line puts.told alike puts.adds);
    grows = grows_then_front so_far.told puts.told start before after so_far.grows puts.grows;
  }

  unread_line : (name line : List ℕ) (rest all : List (List ℕ)) → all ≡ map strip_carriage_return so_far.parts ++ (line ∷ rest) → (given : List ℕ) → Alike given line → PutsNone name last given before after next → Unread name first next all start after
  unread_line name line rest all are given alike puts = record {
    answered = map strip_carriage_return so_far.parts;
    line = line;
    rest = rest;
    are = are;
    told = so_far.told;
    is_told = subst (λ (p : Publication). Told start.files.content first (map strip_carriage_return so_far.parts) so_far.told p) (sym puts.stays) so_far.is_told;
    names = puts.names;
    are_names = names_alike given line puts.names alike puts.are_names;
    reads = puts.reads;
    up_to = puts.up_to;
    grows = grows_then_unread so_far.told puts.reads name start before after so_far.grows puts.grows;
  }

  halted_line : (why : Stop) (line : List ℕ) (rest all : List (List ℕ)) → all ≡ map strip_carriage_return so_far.parts ++ (line ∷ rest) → (given : List ℕ) → Alike given line → StopsAt why last given before after next → Halts why first next all start after
  halted_line stop.Output line rest all are given alike stops = cut_line line rest all are given alike stops
  halted_line (stop.File name) line rest all are given alike stops = unread_line name line rest all are given alike stops
  halted_line stop.Input line rest all are given alike stops = stops
  halted_line stop.TooLong line rest all are given alike stops = stops
  halted_line stop.Memory line rest all are given alike stops = stops

  halted_byte : (why : Stop) (more : List ℕ) → StopsAt why last (strip_carriage_return held) before after next → Halts why first next (whole_lines (taken ++ (10 ∷ more))) start after
  halted_byte why more stops =
      halted_line why (strip_carriage_return so_far.part) (whole_lines more) (whole_lines (taken ++ (10 ∷ more))) (whole_taken more) (strip_carriage_return held) (alike_strip so_far.part held so_far.held_is) stops

  -- what stands behind the last newline is a line, if there is something
  last_lines : lines taken ≡ map strip_carriage_return so_far.parts ++ lines so_far.part
  last_lines = ap lines so_far.are ∙ lines_ended so_far.parts so_far.part so_far.clean

  told_last : (part : List ℕ) (added : Telling) → NoNewline part → Adds before.files.content last part added next → Told before.files.content last (lines part) added next
  told_last [] added none adds = adds
  told_last (b ∷ part) added none adds =
      subst (λ (all : List (List ℕ)). Told before.files.content last all added next) (sym (lines_last (b ∷ part) none (omega arith)))
      (told_one before.files.content last next (b ∷ part) added adds)

  pub answered_last : Puts last held before after next → Answered first next (lines taken) start after
  answered_last puts = record {
    told = also so_far.told puts.told;
    is_told = subst (λ (all : List (List ℕ)). Told start.files.content first all (also so_far.told puts.told) next) (sym last_lines)
        (told_more (lines so_far.part) puts.told
        (told_last so_far.part puts.told so_far.begun (adds_alike before.files.content last next held so_far.part puts.told (alike_held so_far.part held so_far.held_is) puts.adds)));
    grows = grows_then so_far.told puts.told start before after so_far.grows puts.grows;
  }

  cut_last : PutsFront last held before after next → CutOff first next (lines taken) start after
  cut_last puts = record {
    answered = lines taken;
    rest = [];
    are = sym (append-nil (lines taken));
    told = also so_far.told puts.told;
    is_told = subst (λ (all : List (List ℕ)). Told start.files.content first all (also so_far.told puts.told) next) (sym last_lines)
        (told_more (lines so_far.part) puts.told
        (told_last so_far.part puts.told so_far.begun (adds_alike before.files.content last next held so_far.part puts.told (alike_held so_far.part held so_far.held_is) puts.adds)));
    grows = grows_then_front so_far.told puts.told start before after so_far.grows puts.grows;
  }

  none_anyway : (b : Bool) → ◌≡◌ {A = Option (List ℕ × List ℕ)} (if b then None else None) None
  none_anyway true = refl
  none_anyway false = refl

  one_last : (part : List ℕ) (names : List ℕ × List ℕ) → NoNewline part → traffic_names part ≡ Some names → lines part ≡ part ∷ []
  one_last [] names none are = let clash : None ≡ Some names = sym (none_anyway (is_utf8 [])) ∙ are in cc
  one_last (b ∷ part) names none are = lines_last (b ∷ part) none (omega arith)

  unread_last : (name : List ℕ) → PutsNone name last held before after next → Unread name first next (lines taken) start after
  unread_last name puts =
      let alike = alike_held so_far.part held so_far.held_is in
      let one = one_last so_far.part puts.names so_far.begun (names_alike held so_far.part puts.names alike puts.are_names) in
      unread_line name so_far.part [] (lines taken) (last_lines ∙ ap (λ (all : List (List ℕ)). map strip_carriage_return so_far.parts ++ all) one) held alike puts

  pub halted_last : (why : Stop) → StopsAt why last held before after next → Halts why first next (lines taken) start after
  halted_last stop.Output stops = cut_last stops
  halted_last (stop.File name) stops = unread_last name stops
  halted_last stop.Input stops = stops
  halted_last stop.TooLong stops = stops
  halted_last stop.Memory stops = stops

-- the whole lines taken were answered
pub answered_whole : (first last : Publication) (taken held : List ℕ) (start now : Sides) → SoFar first last taken held start now → Answered first last (whole_lines taken) start now
answered_whole first last taken held start now so_far =
    let all : whole_lines taken ≡ map strip_carriage_return so_far.parts =
    ap whole_lines so_far.are ∙ whole_ended so_far.parts so_far.part so_far.clean
    ∙ ap (λ (more : List (List ℕ)). map strip_carriage_return so_far.parts ++ more) (whole_none so_far.part so_far.begun)
    ∙ append-nil (map strip_carriage_return so_far.parts) in
    record {
      told = so_far.told;
      is_told = subst (λ (ls : List (List ℕ)). Told start.files.content first ls so_far.told last) (sym all) so_far.is_told;
      grows = so_far.grows;
    }

-- a byte more
so_far_byte : (first last next : Publication) (taken held rest : List ℕ) (b : ℕ) (start before after : Sides) → SoFar first last taken held start before → Steps last next held b rest before after → SoFar first next (taken ++ b ∷ []) rest start after
so_far_byte first last next taken held rest b start before after so_far (inl ended_line) =
    subst (λ (c : ℕ). SoFar first next (taken ++ c ∷ []) rest start after) (sym ended_line.0)
    (subst (λ (xs : List ℕ). SoFar first next (taken ++ 10 ∷ []) xs start after) (sym ended_line.1)
    (line_byte first last next taken held start before after so_far ended_line.2))
so_far_byte first last next taken held rest b start before after so_far (inr kept) =
    held_byte first last next taken held start before after so_far b rest kept.0 kept.1 kept.2 kept.3

-- of a piece the first bytes, one more, and all
pub goes_none : (last : Publication) (held piece : List ℕ) (s : Sides) → Goes last last held (take 0 piece) held s s
goes_none last held piece s first start taken so_far = subst (λ (xs : List ℕ). SoFar first last xs held start s) (sym (append-nil taken)) so_far

pub goes_byte : (last mid next : Publication) (held held_mid rest piece : List ℕ) (index : ℕ) (before middle after : Sides) → index < length piece → Goes last mid held (take index piece) held_mid before middle
    → Steps mid next held_mid (get_or piece index 0) rest middle after → Goes last next held (take (index + 1) piece) rest before after
goes_byte last mid next held held_mid rest piece index before middle after bound goes steps first start taken so_far =
    subst (λ (xs : List ℕ). SoFar first next xs rest start after)
    (append_assoc taken (take index piece) (get_or piece index 0 ∷ []) ∙ ap (λ (xs : List ℕ). taken ++ xs) (sym (ap (λ (n : ℕ). take n piece) (add-one index) ∙ take-suc piece index 0 bound)))
    (so_far_byte first mid next (taken ++ take index piece) held_mid rest (get_or piece index 0) start middle after (goes first start taken so_far) steps)

pub goes_halted : (why : Stop) (last mid next : Publication) (held held_mid piece : List ℕ) (index : ℕ) (before middle after : Sides) → index < length piece → Goes last mid held (take index piece) held_mid before middle
    → StopsWith why mid next held_mid (get_or piece index 0) middle after → GoesHalted why last next held piece before after
goes_halted why last mid next held held_mid piece index before middle after bound goes stops first start taken more so_far =
    let rest : List ℕ = drop (index + 1) piece in
    let piece_is : piece ≡ take index piece ++ (10 ∷ rest) =
    sym (take-append-drop (index + 1) piece)
    ∙ ap (λ (xs : List ℕ). xs ++ rest) (ap (λ (n : ℕ). take n piece) (add-one index) ∙ take-suc piece index 0 bound ∙ ap (λ (b : ℕ). take index piece ++ b ∷ []) stops.0)
    ∙ append_assoc (take index piece) (10 ∷ []) rest in
    let all : (taken ++ take index piece) ++ (10 ∷ (rest ++ more)) ≡ taken ++ (piece ++ more) =
    append_assoc taken (take index piece) (10 ∷ (rest ++ more))
    ∙ ap (λ (xs : List ℕ). taken ++ xs) (sym (append_assoc (take index piece) (10 ∷ rest) more) ∙ ap (λ (xs : List ℕ). xs ++ more) (sym piece_is)) in
    subst (λ (xs : List ℕ). Halts why first next (whole_lines xs) start after) all
    (halted_byte first mid next (taken ++ take index piece) held_mid start middle after (goes first start taken so_far) why (rest ++ more) stops.1)
