-- What is written between an opening bracket and its closing one is the text of one value.
use Rattle.std.specs.Prelude.{◌≡◌, ℕ, List, [], ◌∷◌, ◌++◌, refl}
use Rattle.std.proofs.Common.{sym, ap, ◌∙◌, subst, append_assoc, append-nil}
use Rattle.json.specs.Print.{quoted}
use Rattle.json_text.specs.declared.draft.Container.{Container}
use Rattle.json_text.specs.declared.draft.Container.TheVariants as container
use Rattle.json_text.specs.declared.draft.Last.TheVariants as last
use Rattle.json_text.specs.Values.{JsonValue, compact_text, later_items_text, later_members_text}
use Rattle.json_text.specs.Drafts.{Draft, TakesValue, TakesKey, TakesEnd, comma_text, begun, ended, with_value}
use Rattle.json_text.specs.Wholes.{items_of, members_of, array_of, object_of, with_items, with_member, with_members}

-- a draft behind a value
abbrev pub behind : List ℕ → List Container → Draft
behind bytes containers = record { bytes = bytes; containers = containers; latest = last.Value }

behind_same : (a b : List ℕ) (c : List Container) → a ≡ b → behind a c ≡ behind b c
behind_same a b c same = ap (λ (t : List ℕ). behind t c) same

-- a comma, an item and what follows, grouped from the right
item_first : (b comma v rest : List ℕ) → ((b ++ comma) ++ v) ++ rest ≡ b ++ ((comma ++ v) ++ rest)
item_first b comma v rest = ap (λ (t : List ℕ). t ++ rest) (append_assoc b comma v) ∙ append_assoc b (comma ++ v) rest

-- the same of a member
member_first : (b comma name v rest : List ℕ) → (((((b ++ comma) ++ name) ++ 58 ∷ []) ++ []) ++ v) ++ rest ≡ b ++ ((comma ++ (name ++ (58 ∷ v))) ++ rest)
member_first b comma name v rest =
    ap (λ (t : List ℕ). (t ++ v) ++ rest) (append-nil (((b ++ comma) ++ name) ++ 58 ∷ []))
    ∙ (ap (λ (t : List ℕ). t ++ rest) (append_assoc ((b ++ comma) ++ name) (58 ∷ []) v ∙ (append_assoc (b ++ comma) name (58 ∷ v) ∙ append_assoc b comma (name ++ (58 ∷ v))))
    ∙ append_assoc b (comma ++ (name ++ (58 ∷ v))) rest)

-- an opening bracket, what stands behind it, and a closing one, grouped from the right
bracketed : (b : List ℕ) (opening closing : ℕ) (inner : List ℕ) → ((b ++ opening ∷ []) ++ inner) ++ closing ∷ [] ≡ b ++ (opening ∷ (inner ++ closing ∷ []))
bracketed b opening closing inner = append_assoc (b ++ opening ∷ []) inner (closing ∷ []) ∙ append_assoc b (opening ∷ []) (inner ++ closing ∷ [])

-- behind a value a comma stands in front of each item
later_items : (vs : List JsonValue) (bytes : List ℕ) (containers : List Container)
    → with_items vs (behind bytes containers) ≡ behind (bytes ++ later_items_text (items_of vs)) containers
later_items [] bytes containers = behind_same _ _ containers (sym (append-nil bytes))
later_items (v ∷ vs) bytes containers =
    later_items vs ((bytes ++ 44 ∷ []) ++ compact_text v) containers
    ∙ behind_same _ _ containers (item_first bytes (44 ∷ []) (compact_text v) (later_items_text (items_of vs)))

-- and in front of each member
later_members : (ms : List (List ℕ × JsonValue)) (bytes : List ℕ) (containers : List Container)
    → with_members ms (behind bytes containers) ≡ behind (bytes ++ later_members_text (members_of ms)) containers
later_members [] bytes containers = behind_same _ _ containers (sym (append-nil bytes))
later_members (m ∷ ms) bytes containers =
    later_members ms (((((bytes ++ 44 ∷ []) ++ quoted m.0) ++ 58 ∷ []) ++ []) ++ compact_text m.1) containers
    ∙ behind_same _ _ containers (member_first bytes (44 ∷ []) (quoted m.0) (compact_text m.1) (later_members_text (members_of ms)))

-- an array that is begun, its items and its end are the array
pub array_written : (vs : List JsonValue) (d : Draft) → ended container.Array (with_items vs (begun container.Array d)) ≡ with_value (array_of vs) d
array_written [] d = behind_same _ _ d.containers (append_assoc (d.bytes ++ comma_text d.latest) (91 ∷ []) (93 ∷ []))
array_written (v ∷ vs) d =
    let front : List ℕ = d.bytes ++ comma_text d.latest in
    let begin : List ℕ = front ++ 91 ∷ [] in
    let later : List ℕ = later_items_text (items_of vs) in
    ap (ended container.Array) (later_items vs ((begin ++ []) ++ compact_text v) (container.Array ∷ d.containers))
    ∙ behind_same _ _ d.containers (ap (λ (t : List ℕ). t ++ 93 ∷ []) (item_first begin [] (compact_text v) later) ∙ bracketed front 91 93 (compact_text v ++ later))

-- an object that is begun, its members and its end are the object
pub object_written : (ms : List (List ℕ × JsonValue)) (d : Draft) → ended container.Object (with_members ms (begun container.Object d)) ≡ with_value (object_of ms) d
object_written [] d = behind_same _ _ d.containers (append_assoc (d.bytes ++ comma_text d.latest) (123 ∷ []) (125 ∷ []))
object_written (m ∷ ms) d =
    let front : List ℕ = d.bytes ++ comma_text d.latest in
    let begin : List ℕ = front ++ 123 ∷ [] in
    let later : List ℕ = later_members_text (members_of ms) in
    ap (ended container.Object) (later_members ms (((((begin ++ []) ++ quoted m.0) ++ 58 ∷ []) ++ []) ++ compact_text m.1) (container.Object ∷ d.containers))
    ∙ behind_same _ _ d.containers (ap (λ (t : List ℕ). t ++ 125 ∷ []) (member_first begin [] (quoted m.0) (compact_text m.1) later) ∙ bracketed front 123 125 ((quoted m.0 ++ (58 ∷ compact_text m.1)) ++ later))

-- one item more
pub with_items-snoc : (vs : List JsonValue) (v : JsonValue) (d : Draft) → with_items (vs ++ v ∷ []) d ≡ with_value v (with_items vs d)
with_items-snoc [] v d = refl
with_items-snoc (w ∷ vs) v d = with_items-snoc vs v (with_value w d)

-- some members, and others behind them
pub with_members-append : (ms ns : List (List ℕ × JsonValue)) (d : Draft) → with_members (ms ++ ns) d ≡ with_members ns (with_members ms d)
with_members-append [] ns d = refl
with_members-append (m ∷ ms) ns d = with_members-append ms ns (with_member m.0 m.1 d)

-- behind the items of an array that is begun another may come, or its end
pub TakesValue-with_items : (vs : List JsonValue) (d : Draft) → TakesValue (with_items vs (begun container.Array d))
TakesValue-with_items [] d = refl
TakesValue-with_items (v ∷ vs) d =
    subst TakesValue (sym (later_items vs ((((d.bytes ++ comma_text d.latest) ++ 91 ∷ []) ++ []) ++ compact_text v) (container.Array ∷ d.containers))) refl

pub TakesEnd-with_items : (vs : List JsonValue) (d : Draft) → TakesEnd container.Array (with_items vs (begun container.Array d))
TakesEnd-with_items [] d = refl
TakesEnd-with_items (v ∷ vs) d =
    subst (TakesEnd container.Array) (sym (later_items vs ((((d.bytes ++ comma_text d.latest) ++ 91 ∷ []) ++ []) ++ compact_text v) (container.Array ∷ d.containers))) refl

-- behind the members of an object that is begun another key may come, or its end
pub TakesKey-with_members : (ms : List (List ℕ × JsonValue)) (d : Draft) → TakesKey (with_members ms (begun container.Object d))
TakesKey-with_members [] d = refl
TakesKey-with_members (m ∷ ms) d =
    subst TakesKey (sym (later_members ms (((((((d.bytes ++ comma_text d.latest) ++ 123 ∷ []) ++ []) ++ quoted m.0) ++ 58 ∷ []) ++ []) ++ compact_text m.1) (container.Object ∷ d.containers))) refl

pub TakesEnd-with_members : (ms : List (List ℕ × JsonValue)) (d : Draft) → TakesEnd container.Object (with_members ms (begun container.Object d))
TakesEnd-with_members [] d = refl
TakesEnd-with_members (m ∷ ms) d =
    subst (TakesEnd container.Object) (sym (later_members ms (((((((d.bytes ++ comma_text d.latest) ++ 123 ∷ []) ++ []) ++ quoted m.0) ++ 58 ∷ []) ++ []) ++ compact_text m.1) (container.Object ∷ d.containers))) refl
