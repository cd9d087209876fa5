-- What the last Learns and Enters of seats leave, and how they add up.
use Rattle.std.proofs.Common.{◌≡◌, ℕ, List, [], ◌∷◌, ◌++◌, Option, Some, refl, ap, subst, sym, ◌∙◌}
use Rattle.std.specs.Prelude.{MatchOption, Ok, ⊤}
use Rattle.std.proofs.lemmas.Option.{same_Some}
use Rattle.metric_publish.specs.Calls.{EnterGives}
use Rattle.metric_publish.specs.History.{last_number, last_of}
use Rattle.metric_publish.specs.declared.entry.Entry.{Entry}
use Rattle.door_workers.specs.declared.posts.Post.{Post}
use Rattle.door_workers.specs.Settling.{HasReadAll, IsSettled}
use Rattle.door_workers.proofs.Fronts.{prefix_self, prefix_trans}

module _ {V : Type 0} where
  last_number_is : (list : List (Entry V)) (e : Entry V) → last_of list ≡ Some e → last_number list ≡ e.number
  last_number_is [] e is = absurd (subst (λ (o : Option (Entry V)). MatchOption o ⊤ (λ _. ⊥)) is tt)
  last_number_is (x ∷ xs) e is = ap (λ (u : Entry V). u.number) (same_Some _ _ is)

  -- an Enter that read this list read its last number last
  pub has_read_all : (seen learned now list : List (Entry V)) (reads after : List ℕ) (held : Entry V) → EnterGives seen learned now (Some reads) (Some after) (Ok held) → now ≡ list → HasReadAll list now after
  has_read_all seen learned now list reads after held gives same =
      let number = ap (λ (l : List (Entry V)). last_number l) (sym same) ∙ last_number_is now _ gives.2 in record {
        all = same;
        last = (reads, same_Some _ _ gives.3 ∙ ap (λ (n : ℕ). reads ++ n ∷ []) (sym number));
      }

module _ {D S E : Type 0} (seen : S → List E) where
  pub settled_self : (p : Post D S) → IsSettled p p seen
  settled_self p = record { door = refl; connections = refl; later = prefix_self (seen p.seat) }

  pub settled_then : (p q r : Post D S) → IsSettled p q seen → IsSettled q r seen → IsSettled p r seen
  settled_then p q r one two = record {
    door = two.door ∙ one.door;
    connections = two.connections ∙ one.connections;
    later = prefix_trans (seen p.seat) (seen q.seat) (seen r.seat) one.later two.later;
  }
