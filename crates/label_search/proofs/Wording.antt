-- What a list of labels is by its words and costs.
use Rattle.std.proofs.Common.{◌≡◌, ℕ, zero, suc, ◌<◌, ◌≤◌, ◌-◌, true, Option, Some, None, List, [], ◌∷◌, ◌++◌, length, length-set, set, take, replicate, inl, inr, refl, sym, ◌∙◌, ap, subst, arith}
use Rattle.std.specs.Bool.{OnTrue}
use Rattle.std.specs.List.{slice_get}
use Rattle.std.proofs.Math.Dec.{leb}
use Rattle.std.proofs.lemmas.Bool.{OnTrue_from}
use Rattle.std.proofs.lemmas.Bool.Decides.{nat_tests}
use Rattle.std.proofs.lemmas.Option.{slice_get_within, same_Some}
use Rattle.list_lemmas.proofs.Gets.{get_set, get_some}
use Rattle.label_search.specs.Ranked.{AreRankedWords, IsWithinRank, label_of, labels_of, no_label, unranked_label}

no_more : (a b : ℕ) → leb a b ≡ true → a ≤ b
no_more a b e = grind (arith, nat_tests)

take_none : {X : Type 0} (n : ℕ) → take {A = X} n [] ≡ []
take_none zero = refl
take_none (suc n) = refl

get_none : {X : Type 0} (v : ℕ) (x : X) → slice_get [] v ≡ Some x → ⊥
get_none {X} v x e = let lt : v < length {A = X} [] = slice_get_within [] v x e in omega (arith, lt)

module _ {C : Type 0} (unranked : ℕ → C) where
  -- there are as many labels as words
  pub length-labels : (words : List ℕ) (costs : List C) → length (labels_of unranked words costs) ≡ length words
  length-labels [] costs = refl
  length-labels (word ∷ words) [] = ap suc (length-labels words [])
  length-labels (word ∷ words) (cost ∷ costs) = ap suc (length-labels words costs)

  -- each is what its word says
  get-labels : (words : List ℕ) (costs : List C) (v word : ℕ) (cost : C) → slice_get words v ≡ Some word → slice_get costs v ≡ Some cost → slice_get (labels_of unranked words costs) v ≡ Some (label_of unranked word cost)
  get-labels [] costs v word cost e f = absurd (get_none v word e)
  get-labels (x ∷ words) [] v word cost e f = absurd (get_none v cost f)
  get-labels (x ∷ words) (c ∷ costs) zero word cost e f = ap Some (ap (λ n. label_of unranked n c) (same_Some x word e) ∙ ap (label_of unranked word) (same_Some c cost f))
  get-labels (x ∷ words) (c ∷ costs) (suc v) word cost e f = get-labels words costs v word cost e f

  -- a word and the cost beside it are written
  set-labels : (words : List ℕ) (costs : List C) (v word : ℕ) (cost : C) → v < length costs → labels_of unranked (set words v word) (set costs v cost) ≡ set (labels_of unranked words costs) v (label_of unranked word cost)
  set-labels [] costs v word cost lt = refl
  set-labels (x ∷ words) [] v word cost lt = absurd (omega (arith, lt))
  set-labels (x ∷ words) (c ∷ costs) zero word cost lt = refl
  set-labels (x ∷ words) (c ∷ costs) (suc v) word cost lt = ap (λ xs. label_of unranked x c ∷ xs) (set-labels words costs v word cost (omega (arith, lt)))

  -- or the word alone
  set-word : (words : List ℕ) (costs : List C) (v word : ℕ) (label : Option C) → v < length costs → ((c : C) → label_of unranked word c ≡ label) → labels_of unranked (set words v word) costs ≡ set (labels_of unranked words costs) v label
  set-word [] costs v word label lt is = refl
  set-word (x ∷ words) [] v word label lt is = absurd (omega (arith, lt))
  set-word (x ∷ words) (c ∷ costs) zero word label lt is = ap (λ l. l ∷ labels_of unranked words costs) (is c)
  set-word (x ∷ words) (c ∷ costs) (suc v) word label lt is = ap (λ xs. label_of unranked x c ∷ xs) (set-word words costs v word label (omega (arith, lt)) is)

  -- words of no label are labels that aren't there
  pub labels-none : (n : ℕ) (costs : List C) → labels_of unranked (replicate n no_label) costs ≡ replicate n None
  labels-none zero costs = refl
  labels-none (suc n) [] = ap (λ xs. None ∷ xs) (labels-none n [])
  labels-none (suc n) (c ∷ costs) = ap (λ xs. None ∷ xs) (labels-none n costs)

  -- a word below the two others is a rank
  label-rank : (word : ℕ) (cost : C) → word < unranked_label → label_of unranked word cost ≡ Some (unranked word)
  label-rank word cost lt = grind (arith, nat_tests)

  label-none : (word : ℕ) (cost : C) → word ≡ no_label → label_of unranked word cost ≡ None
  label-none word cost e = grind (arith, nat_tests)

  label-cost : (word : ℕ) (cost : C) → (word < unranked_label → ⊥) → (word ≡ no_label → ⊥) → label_of unranked word cost ≡ Some cost
  label-cost word cost long some = grind (arith, nat_tests)

-- words and costs that are these labels
module _ {C : Type 0} {ranked : C → Option ℕ} {unranked : ℕ → C} (words : List ℕ) (costs : List C) (labels : List (Option C)) (are : AreRankedWords ranked unranked words costs) (is : labels_of unranked words costs ≡ labels) (v : ℕ) (lt : v < length labels) where
  pub in-words : v < length words
  in-words = let size : length labels ≡ length words = ap length (sym is) ∙ length-labels unranked words costs in omega (arith, size, lt)

  pub in-costs : v < length costs
  in-costs = let below = in-words in let room = are.room in omega (arith, below, room)

  pub label-by : (word : ℕ) (cost : C) → slice_get words v ≡ Some word → slice_get costs v ≡ Some cost → slice_get labels v ≡ Some (label_of unranked word cost)
  label-by word cost e f = ap (λ xs. slice_get xs v) (sym is) ∙ get-labels unranked words costs v word cost e f

  pub label-by-rank : (word : ℕ) → slice_get words v ≡ Some word → word < unranked_label → slice_get labels v ≡ Some (Some (unranked word))
  label-by-rank word e short =
      let cost = get_some costs v in-costs in
      label-by word cost.0 e cost.1 ∙ ap Some (label-rank unranked word cost.0 short)

  pub label-by-none : (word : ℕ) → slice_get words v ≡ Some word → word ≡ no_label → slice_get labels v ≡ Some None
  label-by-none word e none =
      let cost = get_some costs v in-costs in
      label-by word cost.0 e cost.1 ∙ ap Some (label-none unranked word cost.0 none)

  pub label-by-cost : (word : ℕ) (cost : C) → slice_get words v ≡ Some word → slice_get costs v ≡ Some cost → (word < unranked_label → ⊥) → (word ≡ no_label → ⊥) → slice_get labels v ≡ Some (Some cost)
  label-by-cost word cost e f long some = label-by word cost e f ∙ ap Some (label-cost unranked word cost long some)

  -- a rank is written in place of a word
  pub put-rank : (label : C) (rank : ℕ) → rank < unranked_label → unranked rank ≡ label → labels_of unranked (set words v rank) costs ≡ set labels v (Some label)
  put-rank label rank short back =
      set-word unranked words costs v rank (Some label) in-costs (λ c. label-rank unranked rank c short ∙ ap Some back) ∙ ap (λ xs. set xs v (Some label)) is

  -- or a cost beside the word that tells so
  pub put-cost : (label : C) → labels_of unranked (set words v unranked_label) (set costs v label) ≡ set labels v (Some label)
  put-cost label = set-labels unranked words costs v unranked_label label in-costs ∙ ap (λ xs. set xs v (Some label)) is

  pub ranked-put : (label : C) (rank : ℕ) → ranked label ≡ Some rank → unranked rank ≡ label → AreRankedWords ranked unranked (set words v rank) costs
  ranked-put label rank has back = record {
    room = let size = length-set words v rank in let room = are.room in omega (arith, size, room);
    each = λ u word e short. elim (get_set words v u rank word e) [
      | inl p ↦ subst (λ n. ranked (unranked n) ≡ Some n) (sym p.1) (ap ranked back ∙ has)
      | inr p ↦ are.each u word p.1 short
    ];
  }

  pub ranked-cost : (label : C) → AreRankedWords ranked unranked (set words v unranked_label) (set costs v label)
  ranked-cost label = record {
    room = let size = length-set words v unranked_label in let long = length-set costs v label in let room = are.room in omega (arith, size, long, room);
    each = λ u word e short. elim (get_set words v u unranked_label word e) [
      | inl p ↦ let same : word ≡ unranked_label = p.1 in absurd (omega (arith, same, short))
      | inr p ↦ are.each u word p.1 short
    ];
  }

  -- a word that is no more than a number below the two others is the rank of a label
  pub within-rank : (word n : ℕ) → slice_get words v ≡ Some word → n < unranked_label → OnTrue (leb word n) (IsWithinRank ranked labels v n)
  within-rank word n e short = OnTrue_from (leb word n) (IsWithinRank ranked labels v n) (λ t.
      let le : word ≤ n = no_more word n t in
      let below : word < unranked_label = omega (arith, le, short) in
      (unranked word, word, label-by-rank word e below, are.each v word e below, le))

-- the words that are written over an empty list
pub restarted : {C : Type 0} (unranked : ℕ → C) (n len : ℕ) (cleared words : List ℕ) (costs : List C) → cleared ≡ [] → len ≡ 0 → words ≡ take n cleared ++ replicate (n - len) no_label → labels_of unranked words costs ≡ replicate n None
restarted unranked n len cleared words costs empty none is =
    let same : n - 0 ≡ n = omega arith in
    let all : words ≡ replicate n no_label = is ∙ ap (λ xs. take n xs ++ replicate (n - len) no_label) empty ∙ ap (λ xs. xs ++ replicate (n - len) no_label) (take_none n) ∙ ap (λ k. replicate (n - k) no_label) none ∙ ap (λ k. replicate k no_label) same in
    ap (λ xs. labels_of unranked xs costs) all ∙ labels-none unranked n costs
