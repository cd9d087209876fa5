-- Rows that are fit: each has a value, and that of the argument which takes a number has what `clap` takes for one in
-- its range.
use Rattle.std.proofs.Common.{◌≡◌, ◌<◌, ◌++◌, ◌||◌, ℕ, Bool, true, false, List, [], ◌∷◌, length, is_some, Option, Some, None, refl, subst, arith}
use Rattle.std.specs.Option.{option_map_or, option_and_then}
use Rattle.std.specs.Prelude.{find, pos, slice_get, if◌then◌else◌}
use Rattle.std.specs.Str.{bytes_eq}
use Rattle.std.proofs.lemmas.Slice.Eq.{bytes_eq-Decides}
use Rattle.clap.specs.Facts.{explicit_source}
use Rattle.clap.specs.Faults.{repeat_fault, use_fault}
use Rattle.clap.specs.Kinds.{range_kinds, value_kinds, values_kinds}
use Rattle.clap.specs.Takes.{is_given}
use Rattle.clap.specs.ValueTests.{accepts}
use Rattle.clap.specs.Values.{reading_of, refused_kind}
use Rattle.clap.specs.Walk.{Row, Rule, Text, at_row, default_rows, first_of, has_row, more_values, reading_by, used, with_default, with_values, without}
use Rattle.clap.specs.declared.builder.action.ArgAction.TheVariants.{Set}
use Rattle.clap.specs.declared.builder.value_parser.Reading.{Reading}
use Rattle.clap.specs.declared.builder.value_parser.Reading.TheVariants.{WithoutMinus}
use Rattle.clap.specs.declared.builder.value_parser.ValueParser.{ValueParser}
use Rattle.clap.specs.declared.builder.value_parser.ValueParser.TheVariants as vp
use Rattle.clap.specs.declared.parser.matches.ValueSource.{ValueSource}
use Rattle.clap.specs.declared.parser.matches.ValueSource.TheVariants.{CommandLine, DefaultValue}
use Rattle.clap.specs.Simple.{new_rule}
use Rattle.command_words.proofs.RowWalks.{AllIn, Holds, find-holds, neither}

-- an argument of one value, as building fills it in
abbrev pub one_value : Text → Option Text → Option ℕ → List Text → ValueParser → Bool → Rule
one_value id long index defaults parser required = record (new_rule id) {
  long = long;
  index = index;
  action = Some Set;
  range = Some (record { start_inclusive = 1; end_inclusive = 1 });
  defaults = defaults;
  parser = Some parser;
  required = required;
}

append-all : {X : Type 0} (P : X → Type 0) (xs ys : List X) → AllIn P xs → AllIn P ys → AllIn P (xs ++ ys)
append-all P [] ys one two = two
append-all P (x ∷ xs) ys one two = (one.0, append-all P xs ys one.1 two)

longer : (xs ys : List Text) → 0 < length xs → 0 < length (xs ++ ys)
longer [] ys h = absurd (omega arith)
longer (x ∷ xs) ys h = omega arith

-- there is a row once values were put down
put-found : (id : Text) (how : Reading) (s : ValueSource) (values : List Text) (rows : List Row) → bytes_eq id id ≡ true → has_row id (with_values id how s values rows) ≡ true
put-found id how s values [] same = rw same refl
put-found id how s values (r ∷ rs) same = go (bytes_eq r.id id) refl (put-found id how s values rs same)
  where
    go : (t : Bool) → bytes_eq r.id id ≡ t → has_row id (with_values id how s values rs) ≡ true → has_row id (if t then more_values s values r ++ rs else r ∷ with_values id how s values rs) ≡ true
    go true e rest = rw e refl
    go false e rest = rw (e, rest) refl

-- an argument with a default has a row
pub default-found : (a : Rule) (v : Text) (vs : List Text) (rows : List Row) → a.defaults ≡ v ∷ vs → bytes_eq a.id a.id ≡ true → has_row a.id (with_default rows a) ≡ true
default-found a v vs rows is same = go (has_row a.id rows) refl
  where
    go : (t : Bool) → has_row a.id rows ≡ t → has_row a.id (if t then rows else default_rows a.id (reading_by a) a.defaults rows) ≡ true
    go true e = e
    go false e = rw is (put-found a.id (reading_by a) DefaultValue (v ∷ vs) rows same)

-- one without leaves the rows as they are
pub no-default : (a : Rule) (rows : List Row) → a.defaults ≡ [] → with_default rows a ≡ rows
no-default a rows none = rw none (go (has_row a.id rows))
  where
    go : (t : Bool) → (if t then rows else rows) ≡ rows
    go true = refl
    go false = refl

-- the argument of this id takes a number in this range
module _ (key : Text) (low high : ℕ) where
  abbrev pub IsNumber : Text → Type 0
  IsNumber text = accepts false (vp.Signed (pos low) (pos high)) text ≡ true

  -- values of an argument of this id, read so
  abbrev pub AreFit : Text → Reading → List Text → Type 0
  AreFit id how values = (0 < length values) × (bytes_eq id key ≡ true → (how ≡ WithoutMinus) × AllIn IsNumber values)

  abbrev pub IsFit : Row → Type 0
  IsFit r = AreFit r.id r.reading r.values

  at_row-all : (id : Text) (change : Row → List Row) (missing rows : List Row)
      → ((r : Row) → r.id ≡ id → IsFit r → AllIn IsFit (change r)) → AllIn IsFit missing → AllIn IsFit rows → AllIn IsFit (at_row id change missing rows)
  at_row-all id change missing [] changed absent all = absent
  at_row-all id change missing (r ∷ rs) changed absent all =
      go (bytes_eq r.id id) refl (at_row-all id change missing rs changed absent all.1)
    where
      go : (t : Bool) → bytes_eq r.id id ≡ t → AllIn IsFit (at_row id change missing rs) → AllIn IsFit (if t then change r ++ rs else r ∷ at_row id change missing rs)
      go true e rest = append-all IsFit (change r) rs (changed r ((bytes_eq-Decides r.id id).0 e) all.0) all.1
      go false e rest = (all.0, rest)

  with_values-all : (id : Text) (how : Reading) (s : ValueSource) (values : List Text) (rows : List Row)
      → AreFit id how values → AllIn IsFit rows → AllIn IsFit (with_values id how s values rows)
  with_values-all id how s values rows fit all = at_row-all id (more_values s values) _ rows more (fit, tt) all
    where
      more : (r : Row) → r.id ≡ id → IsFit r → AllIn IsFit (more_values s values r)
      more r same has = (
        (
          longer r.values values has.0,
          λ is. ((has.1 is).0, append-all IsNumber r.values values (has.1 is).1 (fit.1 (subst (λ (x : Text). bytes_eq x key ≡ true) same is)).1),
        ),
        tt,
      )

  without-all : (id : Text) (rows : List Row) → AllIn IsFit rows → AllIn IsFit (without id rows)
  without-all id rows all = at_row-all id (λ _. []) [] rows (λ r same has. tt) tt all

  module _ (id : Text) (long : Option Text) (index : Option ℕ) (defaults : List Text) (parser : ValueParser) (required : Bool) where
    abbrev rule : Rule
    rule = one_value id long index defaults parser required

    -- the values that the parser takes are fit
    abbrev pub Suits : Type 0
    Suits = (v : Text) (vs : List Text) → values_kinds false parser (v ∷ vs) ≡ [] → AreFit id (reading_of parser) (v ∷ vs)

    pub use-fits : Suits → (values : List Text) (rows : List Row) → use_fault false rule values rows ≡ [] → AllIn IsFit rows → AllIn IsFit (used rule values rows)
    use-fits suits [] rows e all = absurd (cc)
    use-fits suits (v ∷ vs) rows e all =
        let counted = neither (range_kinds 1 1 (length (v ∷ vs))) _ e in
        let once = neither (repeat_fault false id rows) _ counted.1 in
        with_values-all id (reading_of parser) CommandLine (v ∷ vs) (without id rows) (suits v vs once.1) (without-all id rows all)

    pub default-fits : Suits → values_kinds false parser defaults ≡ [] → (rows : List Row) → AllIn IsFit rows → AllIn IsFit (with_default rows rule)
    default-fits suits passes rows all = go (has_row id rows)
      where
        given : (values : List Text) → values_kinds false parser values ≡ [] → AllIn IsFit (default_rows id (reading_of parser) values rows)
        given [] e = all
        given (v ∷ vs) e = with_values-all id (reading_of parser) DefaultValue (v ∷ vs) rows (suits v vs e) all

        go : (t : Bool) → AllIn IsFit (if t then rows else default_rows id (reading_of parser) defaults rows)
        go true = all
        go false = given defaults passes

  -- what is not the number is fit where it is there
  pub others-suit : (id : Text) (how : Reading) → bytes_eq id key ≡ false → (v : Text) (vs : List Text) → AreFit id how (v ∷ vs)
  others-suit id how other v vs = (omega arith, λ is. let bad : true ≡ false = rw is at other in absurd (cc))

  -- what `clap` takes for the number
  pub numbers-pass : (values : List Text) → values_kinds false (vp.Signed (pos low) (pos high)) values ≡ [] → AllIn IsNumber values
  numbers-pass [] e = tt
  numbers-pass (v ∷ vs) e =
      let both = neither (value_kinds false (vp.Signed (pos low) (pos high)) v) _ e in
      (go (accepts false (vp.Signed (pos low) (pos high)) v) refl both.0, numbers-pass vs both.1)
    where
      go : (t : Bool) → accepts false (vp.Signed (pos low) (pos high)) v ≡ t → (if t then [] else refused_kind (vp.Signed (pos low) (pos high)) ∷ []) ≡ [] → IsNumber v
      go true is e = is
      go false is e = absurd (cc)

  -- a row that is given has a value
  given-value : (o : Option Row) → Holds IsFit o → option_map_or (λ r. explicit_source r.source) o false ≡ true
      → is_some (option_and_then (λ r. slice_get r.values 0) o) ≡ true
  given-value None has e = absurd (cc)
  given-value (Some r) has e = go r.values has.0
    where
      go : (values : List Text) → 0 < length values → is_some (slice_get values 0) ≡ true
      go [] some = absurd (omega arith)
      go (v ∷ vs) some = refl

  pub given-first : (id : Text) (rows : List Row) → AllIn IsFit rows → is_given id rows ≡ true → is_some (first_of id rows) ≡ true
  given-first id rows all given = given-value (find (λ r. bytes_eq r.id id) rows) (find-holds IsFit (λ r. bytes_eq r.id id) rows all) given

  -- where there is a row, it is found, and is fit
  pub row-found : (id : Text) (rows : List Row) → AllIn IsFit rows → has_row id rows ≡ true
      → (r : Row) × (find (λ r. bytes_eq r.id id) rows ≡ Some r) × (r.id ≡ id) × IsFit r
  row-found id [] all has = absurd (cc)
  row-found id (r ∷ rs) all has = go (bytes_eq r.id id) refl has (row-found id rs all.1)
    where
      go : (t : Bool) → bytes_eq r.id id ≡ t → (t || has_row id rs) ≡ true
          → (has_row id rs ≡ true → (found : Row) × (find (λ r. bytes_eq r.id id) rs ≡ Some found) × (found.id ≡ id) × IsFit found)
          → (found : Row) × ((if t then Some r else find (λ r. bytes_eq r.id id) rs) ≡ Some found) × (found.id ≡ id) × IsFit found
      go true e has rest = (r, refl, (bytes_eq-Decides r.id id).0 e, all.0)
      go false e has rest = rest has

  -- where an argument is given there is a row
  given-has : (id : Text) (rows : List Row) → is_given id rows ≡ true → has_row id rows ≡ true
  given-has id [] given = absurd (cc)
  given-has id (r ∷ rs) given = go (bytes_eq r.id id) given (given-has id rs)
    where
      go : (t : Bool) → option_map_or (λ (x : Row). explicit_source x.source) (if t then Some r else find (λ x. bytes_eq x.id id) rs) false ≡ true
          → (is_given id rs ≡ true → has_row id rs ≡ true) → (t || has_row id rs) ≡ true
      go true e rest = refl
      go false e rest = rest e

  -- so that it is found, and is fit
  pub given-found : (id : Text) (rows : List Row) → AllIn IsFit rows → is_given id rows ≡ true
      → (r : Row) × (find (λ r. bytes_eq r.id id) rows ≡ Some r) × (r.id ≡ id) × IsFit r
  given-found id rows all given = row-found id rows all (given-has id rows given)
