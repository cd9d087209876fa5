-- What is moved from the end of one list to the end of another.
use Rattle.std.proofs.Common.{◌≡◌, List, [], ◌∷◌, ◌++◌, length, map, reverse, ℕ, refl, sym, ap, subst, ◌∙◌, append_assoc, arith}
use Rattle.std.proofs.lemmas.List.{length-map, length-reverse, map-append, reverse-append, reverse-reverse}
use Rattle.std.proofs.lemmas.List.Elements.{All-nil, All-cons, All-head, All-tail, All-same, All-map, All-push, AllZip-push}
use Rattle.std.specs.List.{All, AllZip, sum_by}
use Rattle.std.proofs.lemmas.List.Sums.{sum_by-cons, sum_by_push}

-- the last of what is left stands in front of what was moved
pub moved_last : {X Y : Type 0} (f : X → Y) (old left : List Y) (ps : List X) (p : X) → old ≡ left ++ f p ∷ [] → left ++ reverse (map f (ps ++ p ∷ [])) ≡ old ++ reverse (map f ps)
moved_last f old left ps p is =
    ap (λ l. left ++ l) (ap reverse (map-append f ps (p ∷ [])) ∙ reverse-append (map f ps) (f p ∷ []))
    ∙ sym (append_assoc left (f p ∷ []) (reverse (map f ps)))
    ∙ ap (λ l. l ++ reverse (map f ps)) (sym is)

-- and the other way
pub back_last : {X Y : Type 0} (f : X → Y) (moved : List Y) (old left : List X) (p : X) → old ≡ left ++ p ∷ [] → (moved ++ f p ∷ []) ++ reverse (map f left) ≡ moved ++ reverse (map f old)
back_last f moved old left p is =
    append_assoc moved (f p ∷ []) (reverse (map f left))
    ∙ ap (λ l. moved ++ l) (sym (ap (λ l. reverse (map f l)) is ∙ (ap reverse (map-append f left (p ∷ [])) ∙ reverse-append (map f left) (f p ∷ []))))

turned : {X : Type 0} (x : X) (xs : List X) → reverse (x ∷ xs) ≡ reverse xs ++ x ∷ []
turned x xs = reverse-append (x ∷ []) xs

pub all_turned : {X : Type 0} (P : X → Type 0) (xs : List X) → All P xs → All P (reverse xs)
all_turned P [] all = All-nil P
all_turned P (x ∷ xs) all = All-same P (reverse (x ∷ xs)) (reverse xs ++ x ∷ []) (turned x xs) (All-push P (reverse xs) x (all_turned P xs (All-tail P x xs all)) (All-head P x xs all))

-- what holds of each image holds of each
pub all_mapped : {X Y : Type 0} (f : X → Y) (P : Y → Type 0) (ps : List X) → All P (map f ps) → All (λ p. P (f p)) ps
all_mapped f P [] all = All-nil (λ p. P (f p))
all_mapped f P (p ∷ ps) all = All-cons (λ p. P (f p)) p ps (All-head P (f p) (map f ps) all) (all_mapped f P ps (All-tail P (f p) (map f ps) all))

-- what holds of each part holds of each whole
pub all_of_parts : {X Y : Type 0} (f : X → Y) (P : Y → Type 0) (ps : List X) (ys : List Y) → map f ps ≡ reverse ys → All P ys → All (λ p. P (f p)) ps
all_of_parts f P ps ys is all = all_mapped f P ps (All-same P (map f ps) (reverse ys) is (all_turned P ys all))

-- and what holds of each whole's part holds of each part
pub all_to_parts : {X Y : Type 0} (f : X → Y) (P : Y → Type 0) (ps : List X) (ys : List Y) → ys ≡ reverse (map f ps) → All (λ p. P (f p)) ps → All P ys
all_to_parts f P ps ys is all = All-same P ys (reverse (map f ps)) is (all_turned P (map f ps) (All-map P f ps all))

zip_turned : {X : Type 0} (R : X → X → Type 0) (xs ys : List X) → AllZip R xs ys → AllZip R (reverse xs) (reverse ys)
zip_turned R [] [] zip = tt
zip_turned R [] (y ∷ ys) zip = absurd zip
zip_turned R (x ∷ xs) [] zip = absurd zip
zip_turned R (x ∷ xs) (y ∷ ys) zip =
    subst (λ l. AllZip R l (reverse (y ∷ ys))) (sym (turned x xs)) (subst (λ l. AllZip R (reverse xs ++ x ∷ []) l) (sym (turned y ys)) (AllZip-push R (reverse xs) (reverse ys) x y (zip_turned R xs ys zip.1) zip.0))

-- a relation of each two, as one of their images
pub zip_mapped : {X Y : Type 0} (f : X → Y) (R : X → X → Type 0) (T : Y → Y → Type 0) → ((p q : X) → R p q → T (f p) (f q)) → (ps qs : List X) → AllZip R ps qs → AllZip T (map f ps) (map f qs)
zip_mapped f R T gives [] [] zip = tt
zip_mapped f R T gives [] (q ∷ qs) zip = absurd zip
zip_mapped f R T gives (p ∷ ps) [] zip = absurd zip
zip_mapped f R T gives (p ∷ ps) (q ∷ qs) zip = (gives p q zip.0, zip_mapped f R T gives ps qs zip.1)

-- a relation of two lists of wholes, as one of the lists of their parts
pub zip_of_parts : {X Y : Type 0} (f : X → Y) (R : X → X → Type 0) (T : Y → Y → Type 0) → ((p q : X) → R p q → T (f p) (f q)) → (ps qs : List X) (ds es : List Y) → map f ps ≡ reverse ds → es ≡ reverse (map f qs) → AllZip R ps qs → AllZip T ds es
zip_of_parts f R T gives ps qs ds es one two zip =
    subst (λ l. AllZip T l es) (ap reverse one ∙ reverse-reverse ds) (subst (λ l. AllZip T (reverse (map f ps)) l) (sym two) (zip_turned T (map f ps) (map f qs) (zip_mapped f R T gives ps qs zip)))

sum_turned : {Y : Type 0} (h : Y → ℕ) (ys : List Y) → sum_by h (reverse ys) ≡ sum_by h ys
sum_turned h [] = refl
sum_turned h (y ∷ ys) =
    ap (sum_by h) (turned y ys) ∙ omega (arith, sum_by_push h (reverse ys) y, sum_turned h ys, sum_by-cons h y ys)

-- a sum over images
pub sum_mapped : {X Y : Type 0} (f : X → Y) (h : Y → ℕ) (ps : List X) → sum_by h (map f ps) ≡ sum_by (λ p. h (f p)) ps
sum_mapped f h [] = refl
sum_mapped f h (p ∷ ps) = omega (arith, sum_by-cons h (f p) (map f ps), sum_mapped f h ps, sum_by-cons (λ q. h (f q)) p ps)

-- a sum over the parts, moved back
pub sum_of_parts : {X Y : Type 0} (f : X → Y) (h : Y → ℕ) (ps : List X) (ys : List Y) → ys ≡ reverse (map f ps) → sum_by (λ p. h (f p)) ps ≡ sum_by h ys
sum_of_parts f h ps ys is = sym (ap (sum_by h) is ∙ (sum_turned h (map f ps) ∙ sum_mapped f h ps))

-- as many parts come back as went
pub length_of_parts : {X Y : Type 0} (f : X → Y) (ps qs : List X) (ds es : List Y) → map f ps ≡ reverse ds → es ≡ reverse (map f qs) → length ps ≡ length qs → length es ≡ length ds
length_of_parts f ps qs ds es one two same =
    ap length two ∙ (length-reverse (map f qs) ∙ (length-map qs f ∙ (sym same ∙ (sym (length-map ps f) ∙ (ap length one ∙ length-reverse ds)))))
