-- A traffic file reads as one thing: its rows, or its first faulty row, and never both.
use Rattle.std.proofs.Common.{◌≡◌, ◌+◌, ℕ, suc, List, [], ◌∷◌, ◌++◌, None, length, map, refl, sym, ◌∙◌, ap, ap₂, subst}
use Rattle.std.specs.Prelude.{Result, Ok, Err}
use Rattle.std.proofs.lemmas.Option.{same_Some}
use Rattle.csv.specs.Machine.{Read, next_record}
use Rattle.csv.specs.Reading.{Reached, default_config}
use Rattle.csv.specs.declared.parser.State.{State}
use Rattle.traffic_files.specs.Files.{Record, StandFor, ReadsAs}
use Rattle.traffic_files.specs.declared.rows.RowKind.{RowKind}
use Rattle.traffic_files.specs.declared.rows.RowFault.{RowFault}
use Rattle.traffic_files.specs.declared.rows.TrafficFile.{TrafficFile}

-- a text has one list of records
one_list : (a b : List Record) (s : State) (xs : List ℕ) (sa sb : State) (ya yb : List ℕ)
    → Reached default_config s xs a sa ya
    → next_record default_config sa [] [] ya ≡ None
    → Reached default_config s xs b sb yb
    → next_record default_config sb [] [] yb ≡ None
    → a ≡ b
unfolding Reached
one_list [] [] s xs sa sb ya yb h e k f = refl
one_list [] (q ∷ qs) s xs sa sb ya yb h e k f = let x = h.0 in let y = h.1 in let m = k.1 in cc
one_list (r ∷ rs) [] s xs sa sb ya yb h e k f = let x = k.0 in let y = k.1 in let m = h.1 in cc
one_list (r ∷ rs) (q ∷ qs) s xs sa sb ya yb h e k f =
    let p : Read = h.0 in
    let o : Read = k.0 in
    let same : o ≡ p = same_Some o p (sym k.1 ∙ h.1) in
    let more : Reached default_config p.1 p.2 qs sb yb = subst (λ (x : Read). Reached default_config x.1 x.2 qs sb yb) same k.3 in
    ap₂ ◌∷◌ (h.2 ∙ ap (λ (x : Read). x.0) (sym same) ∙ sym k.2) (one_list rs qs p.1 p.2 sa sb ya yb h.3 e more f)

-- rows that are all good
abbrev good_of : {A : Type 0} → List A → List (Result A RowKind)
good_of rows = map (λ row. Ok row) rows

same_rows : {A : Type 0} (xs ys : List A) → good_of xs ≡ good_of ys → xs ≡ ys
same_rows [] [] h = refl
same_rows [] (y ∷ ys) h = cc
same_rows (x ∷ xs) [] h = cc
same_rows (x ∷ xs) (y ∷ ys) h =
    let first : x ≡ y = cc in
    let others : good_of xs ≡ good_of ys = cc in
    ap₂ ◌∷◌ first (same_rows xs ys others)

fault_of : TrafficFile → ℕ → RowKind → RowFault
fault_of file row kind = record { file = file; row = row; kind = kind }

same_fault : (f g : RowFault) → f.file ≡ g.file → f.row ≡ g.row → f.kind ≡ g.kind → f ≡ g
unfolding fault_of
same_fault f g a b c =
    ap (λ x. fault_of x f.row f.kind) a ∙ ap (λ x. fault_of g.file x f.kind) b ∙ ap (λ x. fault_of g.file g.row x) c

module _ {A : Type 0} (row_of : Record → Result A RowKind) where
  clash : (r : Record) (a : A) (kind : RowKind) → row_of r ≡ Ok a → row_of r ≡ Err kind → ⊥
  clash r a kind h e = cc

  no_rows : (q : Record) (qs : List Record) → StandFor row_of (q ∷ qs) [] → ⊥
  no_rows q qs h = cc

  first_row : (q : Record) (qs : List Record) (a : A) (rows : List A) → StandFor row_of (q ∷ qs) (a ∷ rows) → row_of q ≡ Ok a
  first_row q qs a rows h = cc

  other_rows : (q : Record) (qs : List Record) (a : A) (rows : List A) → StandFor row_of (q ∷ qs) (a ∷ rows) → StandFor row_of qs rows
  other_rows q qs a rows h = cc

  -- a text whose records all stand for rows has no faulty one
  never_both : (good : List Record) (bad : Record) (kind : RowKind) (records : List Record) (rows : List A) (s : State) (xs : List ℕ) (sa sb : State) (ya yb : List ℕ)
      → Reached default_config s xs (good ++ bad ∷ []) sa ya
      → row_of bad ≡ Err kind
      → Reached default_config s xs records sb yb
      → next_record default_config sb [] [] yb ≡ None
      → StandFor row_of records rows
      → ⊥
  unfolding Reached
  never_both [] bad kind [] rows s xs sa sb ya yb h e k f st = let x = k.0 in let y = k.1 in let m = h.1 in cc
  never_both (g ∷ gs) bad kind [] rows s xs sa sb ya yb h e k f st = let x = k.0 in let y = k.1 in let m = h.1 in cc
  never_both good bad kind (q ∷ qs) [] s xs sa sb ya yb h e k f st = no_rows q qs st
  never_both [] bad kind (q ∷ qs) (a ∷ rows) s xs sa sb ya yb h e k f st =
      let same : k.0 ≡ h.0 = same_Some k.0 h.0 (sym k.1 ∙ h.1) in
      let it : q ≡ bad = k.2 ∙ ap (λ (x : Read). x.0) same ∙ sym h.2 in
      clash q a kind (first_row q qs a rows st) (ap row_of it ∙ e)
  never_both (g ∷ gs) bad kind (q ∷ qs) (a ∷ rows) s xs sa sb ya yb h e k f st =
      let p : Read = h.0 in
      let o : Read = k.0 in
      let same : o ≡ p = same_Some o p (sym k.1 ∙ h.1) in
      let more : Reached default_config p.1 p.2 qs sb yb = subst (λ (x : Read). Reached default_config x.1 x.2 qs sb yb) same k.3 in
      never_both gs bad kind qs rows p.1 p.2 sa sb ya yb h.3 e more f (other_rows q qs a rows st)

  -- the first faulty record stands at one place
  one_place : (good other : List Record) (bad worse : Record) (kind sort : RowKind) (rows lines : List A) (s : State) (xs : List ℕ) (sa sb : State) (ya yb : List ℕ)
      → Reached default_config s xs (good ++ bad ∷ []) sa ya
      → StandFor row_of good rows
      → row_of bad ≡ Err kind
      → Reached default_config s xs (other ++ worse ∷ []) sb yb
      → StandFor row_of other lines
      → row_of worse ≡ Err sort
      → (length good ≡ length other) × (bad ≡ worse)
  unfolding Reached
  one_place [] [] bad worse kind sort rows lines s xs sa sb ya yb h u e k v f =
      let same : k.0 ≡ h.0 = same_Some k.0 h.0 (sym k.1 ∙ h.1) in
      (refl, h.2 ∙ ap (λ (x : Read). x.0) (sym same) ∙ sym k.2)
  one_place [] (q ∷ qs) bad worse kind sort rows [] s xs sa sb ya yb h u e k v f = absurd (no_rows q qs v)
  one_place [] (q ∷ qs) bad worse kind sort rows (a ∷ lines) s xs sa sb ya yb h u e k v f =
      let same : k.0 ≡ h.0 = same_Some k.0 h.0 (sym k.1 ∙ h.1) in
      let it : q ≡ bad = k.2 ∙ ap (λ (x : Read). x.0) same ∙ sym h.2 in
      absurd (clash q a kind (first_row q qs a lines v) (ap row_of it ∙ e))
  one_place (g ∷ gs) other bad worse kind sort [] lines s xs sa sb ya yb h u e k v f = absurd (no_rows g gs u)
  one_place (g ∷ gs) [] bad worse kind sort (a ∷ rows) lines s xs sa sb ya yb h u e k v f =
      let same : k.0 ≡ h.0 = same_Some k.0 h.0 (sym k.1 ∙ h.1) in
      let it : g ≡ worse = h.2 ∙ ap (λ (x : Read). x.0) (sym same) ∙ sym k.2 in
      absurd (clash g a sort (first_row g gs a rows u) (ap row_of it ∙ f))
  one_place (g ∷ gs) (q ∷ qs) bad worse kind sort (a ∷ rows) [] s xs sa sb ya yb h u e k v f = absurd (no_rows q qs v)
  one_place (g ∷ gs) (q ∷ qs) bad worse kind sort (a ∷ rows) (b ∷ lines) s xs sa sb ya yb h u e k v f =
      let p : Read = h.0 in
      let o : Read = k.0 in
      let same : o ≡ p = same_Some o p (sym k.1 ∙ h.1) in
      let more : Reached default_config p.1 p.2 (qs ++ worse ∷ []) sb yb = subst (λ (x : Read). Reached default_config x.1 x.2 (qs ++ worse ∷ []) sb yb) same k.3 in
      let m = one_place gs qs bad worse kind sort rows lines p.1 p.2 sa sb ya yb h.3 (other_rows g gs a rows u) e more (other_rows q qs b lines v) f in
      (ap suc m.0, m.1)

  pub one_reading : (file : TrafficFile) (bytes : List ℕ) (a b : Result (List A) RowFault) → ReadsAs file row_of bytes a → ReadsAs file row_of bytes b → a ≡ b
  one_reading file bytes (Ok rows) (Ok lines) h k =
      let one = one_list h.0 k.0 _ _ h.1.0 k.1.0 h.1.1 k.1.1 h.1.2 h.1.3 k.1.2 k.1.3 in
      ap Ok (same_rows rows lines (sym h.2 ∙ ap (map row_of) one ∙ k.2))
  one_reading file bytes (Ok rows) (Err g) h k =
      absurd (never_both k.0 k.2 g.kind h.0 rows _ _ k.3.begins.0 h.1.0 k.3.begins.1 h.1.1 k.3.begins.2 k.3.bad_row h.1.2 h.1.3 h.2)
  one_reading file bytes (Err f) (Ok lines) h k =
      absurd (never_both h.0 h.2 f.kind k.0 lines _ _ h.3.begins.0 k.1.0 h.3.begins.1 k.1.1 h.3.begins.2 h.3.bad_row k.1.2 k.1.3 k.2)
  one_reading file bytes (Err f) (Err g) h k =
      let m = one_place h.0 k.0 h.2 k.2 f.kind g.kind h.1 k.1 _ _ h.3.begins.0 k.3.begins.0 h.3.begins.1 k.3.begins.1 h.3.begins.2 h.3.good_rows h.3.bad_row k.3.begins.2 k.3.good_rows k.3.bad_row in
      let kinds = sym h.3.bad_row ∙ ap row_of m.1 ∙ k.3.bad_row in
      ap Err (same_fault f g (h.3.of_file ∙ sym k.3.of_file) (h.3.number ∙ ap (λ n. n + 1) m.0 ∙ sym k.3.number) (let kind : f.kind ≡ g.kind = cc in kind))
