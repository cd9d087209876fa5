-- What each use of an argument keeps of the rows, the whole of a command's words keeps: a walk changes the rows by
-- uses and defaults alone.
use Rattle.std.proofs.Common.{◌≡◌, ◌&&◌, zero, suc, ℕ, Bool, true, false, List, [], ◌∷◌, length, drop, is_some, Option, Some, None, refl}
use Rattle.std.specs.Option.{option_map_or}
use Rattle.std.specs.Prelude.{encode_utf8, find, fold, slice_get, if◌then◌else◌}
use Rattle.std.specs.Str.{bytes_eq, chars}
use Rattle.clap.specs.Faults.{bundle_fault, bundle_step_fault, check_fault, defaults_fault, flag_word_fault, flags_fault, level_fault, long_fault, option_fault, other_fault, positional_fault, react_fault, settle_fault, short_fault, step_fault, stray_fault, turn_fault, use_fault, walk_fault, word_fault}
use Rattle.clap.specs.Kinds.{Kinds, or_else}
use Rattle.clap.specs.Lexer.{long_of, short_of}
use Rattle.clap.specs.Simple.{Shape}
use Rattle.clap.specs.declared.error.kind.ErrorKind.TheVariants.{TooManyValues}
use Rattle.clap.specs.Walk.{Held, Names, Outcome, Row, Rule, Step, Text, Waiting, Walk, after_flag, after_step, arg_by_id, arg_by_index, arg_by_long, arg_by_short, attached_value, bundle_met, bundle_step, done, flag_met, idle, is_pending, long_met, long_or_other, next, nothing_held, option, option_met, option_word, plain, plain_word, positional, pushed, reacted, refused, rows_after, settled, settled_rows, short_met, short_or_plain, subcommand, subcommand_met, subcommand_or_other, takes_several, takes_values, to_positional, trailing, used, used_by_id, value, waits, walk, walk_from, walked, walked_from, with_default, word_met}

-- each of a list, and what an option holds
abbrev pub AllIn : {X : Type 0} → (X → Type 0) → List X → Type 0
AllIn P [] = Unit {0}
AllIn P (x ∷ xs) = P x × AllIn P xs

abbrev pub Holds : {X : Type 0} → (X → Type 0) → Option X → Type 0
Holds P None = Unit {0}
Holds P (Some x) = P x

pub find-holds : {X : Type 0} (P : X → Type 0) (p : X → Bool) (xs : List X) → AllIn P xs → Holds P (find p xs)
find-holds P p [] all = tt
find-holds P p (x ∷ xs) all = go (p x) (find-holds P p xs all.1)
  where
    go : (t : Bool) → Holds P (find p xs) → Holds P (if t then Some x else find p xs)
    go true rest = all.0
    go false rest = rest

-- nothing is refused only where neither part refuses
pub neither : (one two : Kinds) → or_else one two ≡ [] → (one ≡ []) × (two ≡ [])
neither [] two e = (refl, e)
neither (k ∷ ks) two e = absurd (cc)

module _ (P : Row → Type 0) (s : Shape) (names : Names) where
  -- a use that is not refused leaves P, and so does the default
  pub record Keeps (a : Rule) : Type 0 where
    pub uses : (values : List Text) (rows : List Row) → use_fault s.args_override_self a values rows ≡ [] → AllIn P rows → AllIn P (used a values rows)
    pub default : (rows : List Row) → AllIn P rows → AllIn P (with_default rows a)

  abbrev rules : List Rule
  rules = s.rules

  abbrev again : Bool
  again = s.args_override_self

  -- what stands between two words: P of each row
  abbrev Sound : Held → Type 0
  Sound h = AllIn P h.rows

  module _ (keep : AllIn Keeps rules) where
    used-all : (o : Option Rule) (values : List Text) (rows : List Row) → Holds Keeps o
        → option_map_or (λ a. use_fault again a values rows) o [] ≡ [] → AllIn P rows → AllIn P (used_by_id o values rows)
    used-all None values rows keeps e all = all
    used-all (Some a) values rows keeps e all = keeps.uses values rows e all

    settled-all : (pending : Option (Text × List Text)) (rows : List Row)
        → option_map_or (λ p. option_map_or (λ a. use_fault again a p.1 rows) (arg_by_id rules p.0) []) pending [] ≡ []
        → AllIn P rows → AllIn P (settled_rows rules pending rows)
    settled-all None rows e all = all
    settled-all (Some p) rows e all = used-all (arg_by_id rules p.0) p.1 rows (find-holds Keeps (λ a. bytes_eq a.id p.0) rules keep) e all

    settled-sound : (h : Held) → Sound h → settle_fault rules again h ≡ [] → Sound (settled rules h)
    settled-sound h sound e = settled-all h.pending h.rows e sound

    reacted-sound : (a : Rule) (values : List Text) (h : Held) → Keeps a → Sound h → react_fault rules again a values h ≡ [] → Sound (reacted rules a values h)
    reacted-sound a values h keeps sound e =
        let both = neither (settle_fault rules again h) _ e in
        keeps.uses values (settled rules h).rows both.1 (settled-sound h sound both.0)

    -- an option, and a flag
    option-sound : (a : Rule) (v : Option Text) (h : Held) → Keeps a → Sound h → option_fault rules again a v h ≡ [] → Sound (option_met rules a v h).0
    option-sound a (Some v) h keeps sound e = reacted-sound a (v ∷ []) h keeps sound e
    option-sound a None h keeps sound e = settled-sound h sound e

    long-sound : (o : Option Rule) (v : Option Text) (h : Held) → Holds Keeps o → Sound h → long_fault rules again o v h ≡ [] → Sound (long_met rules o v h).0
    long-sound None v h keeps sound e = sound
    long-sound (Some a) v h keeps sound e = go (takes_values a) v e
      where
        go : (t : Bool) (v : Option Text) → (if t then option_fault rules again a v h else (if is_some v then TooManyValues ∷ [] else react_fault rules again a [] h)) ≡ []
            → Sound (if t then option_met rules a v h else flag_met rules a v h).0
        go true v e = option-sound a v h keeps sound e
        go false (Some v) e = sound
        go false None e = reacted-sound a [] h keeps sound e

    -- a character of a bundle, and what follows it
    module _ (refusals : Held → Kinds) (more : Held → Held × Outcome) (follows : (h : Held) → Sound h → refusals h ≡ [] → Sound (more h).0) where
      short-sound : (o : Option Rule) (rest : Text) (h : Held) → Holds Keeps o → Sound h → short_fault rules again o rest h refusals ≡ [] → Sound (short_met rules o rest h more).0
      short-sound None rest h keeps sound e = sound
      short-sound (Some a) rest h keeps sound e = go (takes_values a) e
        where
          go : (t : Bool) → (if t then option_fault rules again a (attached_value rest) h else or_else (react_fault rules again a [] h) (refusals (reacted rules a [] h))) ≡ []
              → Sound (if t then option_met rules a (attached_value rest) h else more (reacted rules a [] h)).0
          go true e = option-sound a (attached_value rest) h keeps sound e
          go false e =
              let both = neither (react_fault rules again a [] h) _ e in
              follows (reacted rules a [] h) (reacted-sound a [] h keeps sound both.0) both.1

    bundle-step : (o : Option ℕ) (flags : Text) (skip : ℕ) (so_far : Outcome) (h : Held) (refusals : Text → ℕ → Held → Kinds) (more : Text → ℕ → Outcome → Held → Held × Outcome)
        → ((flags : Text) (skip : ℕ) (so_far : Outcome) (h : Held) → Sound h → refusals flags skip h ≡ [] → Sound (more flags skip so_far h).0)
        → Sound h → bundle_step_fault rules again o flags skip h refusals ≡ [] → Sound (bundle_step rules o flags skip so_far h more).0
    bundle-step None flags skip so_far h refusals more follows sound e = sound
    bundle-step (Some x) flags zero so_far h refusals more follows sound e =
        let rest = drop (length (encode_utf8 x)) flags in
        short-sound (refusals rest 0) (more rest 0 done) (follows rest 0 done) (arg_by_short rules x) rest h
        (find-holds Keeps _ rules keep) sound e
    bundle-step (Some x) flags (suc skip) so_far h refusals more follows sound e = follows _ skip so_far h sound e

    bundle-sound : (k : ℕ) (flags : Text) (skip : ℕ) (so_far : Outcome) (h : Held) → Sound h
        → flags_fault rules again k flags skip h ≡ [] → Sound (bundle_met rules k flags skip so_far h).0
    unfolding flags_fault bundle_met
    bundle-sound zero flags skip so_far h sound e = sound
    bundle-sound (suc k) flags skip so_far h sound e =
        bundle-step (slice_get (chars flags) 0) flags skip so_far h (flags_fault rules again k) (bundle_met rules k) (bundle-sound k) sound e

    -- a word that is no flag
    word-held : (o : Option Rule) (id word : Text) (h : Held) → Sound h → Sound (option_word o id word h).0
    word-held None id word h sound = sound
    word-held (Some a) id word h sound = sound

    plain-sound : (waiting : Waiting) (word : Text) (h : Held) → Sound h → Sound (plain_word rules waiting word h).0
    plain-sound idle word h sound = sound
    plain-sound (option id) word h sound = word-held (arg_by_id rules id) id word h sound
    plain-sound positional word h sound = sound

    flagged-sound : (outcome : Outcome) (waiting : Waiting) (word : Text) (h : Held) → Sound h → Sound (after_flag rules waiting word h outcome).0
    flagged-sound done waiting word h sound = sound
    flagged-sound (waits id) waiting word h sound = sound
    flagged-sound plain waiting word h sound = plain-sound waiting word h sound
    flagged-sound refused waiting word h sound = plain-sound waiting word h sound

    short-word : (o : Option Text) (waiting : Waiting) (word : Text) (h : Held) → Sound h
        → option_map_or (λ flags. bundle_fault rules again flags h) o [] ≡ [] → Sound (short_or_plain rules waiting word o h).0
    short-word None waiting word h sound e = plain-sound waiting word h sound
    short-word (Some flags) waiting word h sound e =
        flagged-sound (bundle_met rules (length flags) flags h.skip plain (record h { skip = 0 })).1 waiting word _
        (bundle-sound (length flags) flags h.skip plain (record h { skip = 0 }) sound e)

    other-sound : (o : Option (Text × Option Text)) (waiting : Waiting) (word : Text) (h : Held) → Sound h
        → flag_word_fault rules again o word h ≡ [] → Sound (long_or_other rules waiting word o h).0
    other-sound (Some p) waiting word h sound e =
        flagged-sound (long_met rules (arg_by_long rules p.0) p.1 h).1 waiting word _
        (long-sound (arg_by_long rules p.0) p.1 h (find-holds Keeps _ rules keep) sound e)
    other-sound None waiting word h sound e = short-word (short_of word) waiting word h sound e

    met-sound : (o : Option Text) (waiting : Waiting) (position : ℕ) (word : Text) (h : Held) → Sound h
        → other_fault s o word h ≡ [] → Sound (subcommand_or_other rules o waiting position word h).0
    met-sound (Some found) waiting position word h sound e = sound
    met-sound None waiting position word h sound e = go (bytes_eq word (45 ∷ 45 ∷ [])) e
      where
        go : (t : Bool) → (if t then [] else flag_word_fault rules again (long_of word) word h) ≡ []
            → Sound (if t then (h, trailing position) else long_or_other rules waiting word (long_of word) h).0
        go true e = sound
        go false e = other-sound (long_of word) waiting word h sound e

    word-sound : (is_trailing : Bool) (waiting : Waiting) (position : ℕ) (word : Text) (h : Held) → Sound h
        → word_fault s names is_trailing waiting word h ≡ [] → Sound (word_met rules names is_trailing waiting position word h).0
    word-sound true waiting position word h sound e = sound
    word-sound false waiting position word h sound e = met-sound (subcommand_met names waiting word) waiting position word h sound e

    -- a word that goes to a positional
    value-sound : (o : Option Rule) (stray : Kinds) (word : Text) (w : Walk) (h : Held) → Sound h
        → option_map_or (λ a. positional_fault rules again a h) o stray ≡ [] → Sound (to_positional rules o word w h).held
    value-sound None stray word w h sound e = sound
    value-sound (Some a) stray word w h sound e = go (is_pending a h.pending && takes_several a) e
      where
        go : (t : Bool) → (if t then [] else settle_fault rules again h) ≡ [] → Sound (pushed a.id word (if t then h else settled rules h))
        go true e = sound
        go false e = settled-sound h sound e

    step-sound : (step : Step) (word : Text) (w : Walk) (h : Held) → Sound h
        → step_fault s w.position h step ≡ [] → Sound (after_step rules word w h step).held
    step-sound (next waiting) word w h sound e = sound
    step-sound (trailing position) word w h sound e = sound
    step-sound (subcommand found) word w h sound e = sound
    step-sound value word w h sound e = value-sound (arg_by_index rules w.position) (stray_fault s) word w h sound e

    turn-sound : (stopped : Option (Text × List Text)) (w : Walk) (word : Text) → Sound w.held
        → (let met = word_met rules names w.is_trailing w.waiting w.position word w.held in
        if is_some stopped then [] else or_else (word_fault s names w.is_trailing w.waiting word w.held) (step_fault s w.position met.0 met.1)) ≡ []
        → Sound (walked_from rules names stopped w word).held
    turn-sound (Some p) w word sound e = sound
    turn-sound None w word sound e =
        let met = word_met rules names w.is_trailing w.waiting w.position word w.held in
        let both = neither (word_fault s names w.is_trailing w.waiting word w.held) (step_fault s w.position met.0 met.1) e in
        step-sound met.1 word w met.0 (word-sound w.is_trailing w.waiting w.position word w.held sound both.0) both.1

    walk-sound : (words : List Text) (w : Walk) → Sound w.held → walk_fault s names w words ≡ [] → Sound (fold (walked rules names) w words).held
    unfolding walk_fault walked
    walk-sound [] w sound e = sound
    walk-sound (word ∷ words) w sound e =
        let both = neither (turn_fault s names w word) (walk_fault s names (walked rules names w word) words) e in
        walk-sound words (walked rules names w word) (turn-sound w.stopped w word sound both.0) both.1

    defaults-all : (more : List Rule) → AllIn Keeps more → (rows : List Row) → AllIn P rows → AllIn P (fold with_default rows more)
    defaults-all [] keeps rows all = all
    defaults-all (a ∷ more) keeps rows all = defaults-all more keeps.1 (with_default rows a) (keeps.0.default rows all)

    -- the rows of words that are not refused
    pub rows-kept : (words : List Text) (entered : Bool) (below : Kinds) → level_fault s names nothing_held words entered below ≡ [] → AllIn P (rows_after rules names words)
    rows-kept words entered below e =
        let end = (walk rules names nothing_held words).held in
        let walks = neither (walk_fault s names (walk_from nothing_held) words) _ e in
        let enters = neither below _ walks.1 in
        let settles = neither (settle_fault rules again end) _ enters.1 in
        defaults-all rules keep (settled rules end).rows (settled-sound end (walk-sound words (walk_from nothing_held) tt walks.0) settles.0)

  -- nor do the last checks refuse them
  pub checks-pass : (words : List Text) (entered : Bool) (below : Kinds) → level_fault s names nothing_held words entered below ≡ [] → check_fault s (rows_after s.rules names words) entered ≡ []
  checks-pass words entered below e =
      let end = (walk s.rules names nothing_held words).held in
      let walks = neither (walk_fault s names (walk_from nothing_held) words) _ e in
      let enters = neither below _ walks.1 in
      let settles = neither (settle_fault s.rules s.args_override_self end) _ enters.1 in
      (neither (defaults_fault (settled s.rules end).rows s.rules) _ settles.1).1
