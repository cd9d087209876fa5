-- How the reads of files add up.
use Rattle.std.specs.Prelude.{◌≡◌, ℕ, List, [], ◌∷◌, ◌++◌, refl}
use Rattle.std.proofs.Common.{sym, ap, subst, ◌∙◌, append_assoc, append-nil}
use Rattle.road_io.specs.Faults.{Rose}
use Rattle.road_io.specs.FailedNames.{AppendsNames}
use Rattle.road_io.specs.NameLaws.{names_then}
use Rattle.road_io.specs.FileContent.{FileTold, IsFileContent}
use Rattle.road_io.specs.Views.{FilesView}
use Rattle.road_io.specs.declared.failures.FileFault.{FileFault}
use Rattle.program_ends.specs.FileReads.{AreBegun, AreContents, AreRead, FileBytes, IsFailed, IsLeft, names_of}

-- the names of files behind files
pub names_append : (xs ys : List FileBytes) → names_of (xs ++ ys) ≡ names_of xs ++ names_of ys
names_append [] ys = refl
names_append (x ∷ xs) ys = ap (λ (l : List (List ℕ)). x.0 ∷ l) (names_append xs ys)

contents_then : (before : FilesView) (xs ys : List FileBytes) → AreContents before xs → AreContents before ys → AreContents before (xs ++ ys)
contents_then before [] ys one two = two
contents_then before (x ∷ xs) ys one two = (one.0, contents_then before xs ys one.1 two)

-- what files hold, where they hold the same
contents_same : (before after : FilesView) (xs : List FileBytes) → after.content ≡ before.content → AreContents after xs → AreContents before xs
contents_same before after [] kept are = tt
contents_same before after (x ∷ xs) kept are = (
  subst (λ (content : List ℕ → FileTold). IsFileContent (content x.0) x.1) kept are.0,
  contents_same before after xs kept are.1,
)

-- files behind files
pub read_then : (first middle last : FilesView) (xs ys : List FileBytes) → AreRead first middle xs → AreRead middle last ys → AreRead first last (xs ++ ys)
read_then first middle last xs ys one two = record {
  contents = contents_then first xs ys one.contents (contents_same first middle ys one.kept two.contents);
  reads = subst (λ (names : List (List ℕ)). AppendsNames first.reads last.reads names) (sym (names_append xs ys)) (names_then first.reads middle.reads last.reads (names_of xs) (names_of ys) one.reads two.reads);
  told = names_then first.failed_names middle.failed_names last.failed_names [] [] one.told two.told;
  steady = two.steady ∙ one.steady;
  kept = two.kept ∙ one.kept;
}

-- all were read
pub begun_all : (first last : FilesView) (xs : List FileBytes) → AreRead first last xs → AreBegun first last (names_of xs)
begun_all first last xs read = record { all = names_of xs; rest = []; front = sym (append-nil (names_of xs)); reads = read.reads; told = read.told; steady = read.steady }

failed_then : (first middle last : FilesView) (xs : List FileBytes) (names : List (List ℕ)) (name : List ℕ) → AreRead first middle xs → IsFailed middle last names name → IsFailed first last (names_of xs ++ names) name
failed_then first middle last xs names name one failed = record {
  earlier = names_of xs ++ failed.earlier;
  later = failed.later;
  place = ap (λ (l : List (List ℕ)). names_of xs ++ l) failed.place ∙ sym (append_assoc (names_of xs) failed.earlier (name ∷ failed.later));
  reads = subst (λ (l : List (List ℕ)). AppendsNames first.reads last.reads l) (sym (append_assoc (names_of xs) failed.earlier (name ∷ []))) (names_then first.reads middle.reads last.reads (names_of xs) (failed.earlier ++ name ∷ []) one.reads failed.reads);
  told = names_then first.failed_names middle.failed_names last.failed_names [] (name ∷ []) one.told failed.told;
  rose = subst (λ (n : ℕ). Rose n last.faults) one.steady failed.rose;
}

begun_then : (first middle last : FilesView) (xs : List FileBytes) (names : List (List ℕ)) → AreRead first middle xs → AreBegun middle last names → AreBegun first last (names_of xs ++ names)
begun_then first middle last xs names one begun = record {
  all = names_of xs ++ begun.all;
  rest = begun.rest;
  front = ap (λ (l : List (List ℕ)). names_of xs ++ l) begun.front ∙ sym (append_assoc (names_of xs) begun.all begun.rest);
  reads = names_then first.reads middle.reads last.reads (names_of xs) begun.all one.reads begun.reads;
  told = names_then first.failed_names middle.failed_names last.failed_names [] [] one.told begun.told;
  steady = begun.steady ∙ one.steady;
}

-- a file behind files that were read
pub left_then : (first middle last : FilesView) (xs : List FileBytes) (names : List (List ℕ)) (name : List ℕ) (fault : FileFault) → AreRead first middle xs → IsLeft middle last names name fault → IsLeft first last (names_of xs ++ names) name fault
left_then first middle last xs names name fault one left = record {
  failed = λ e. failed_then first middle last xs names name one (left.failed e);
  memory = λ e. begun_then first middle last xs names one (left.memory e);
}

failed_before : (first last : FilesView) (names more : List (List ℕ)) (name : List ℕ) → IsFailed first last names name → IsFailed first last (names ++ more) name
failed_before first last names more name failed = record {
  earlier = failed.earlier;
  later = failed.later ++ more;
  place = ap (λ (l : List (List ℕ)). l ++ more) failed.place ∙ append_assoc failed.earlier (name ∷ failed.later) more;
  reads = failed.reads;
  told = failed.told;
  rose = failed.rose;
}

begun_before : (first last : FilesView) (names more : List (List ℕ)) → AreBegun first last names → AreBegun first last (names ++ more)
begun_before first last names more begun = record {
  all = begun.all;
  rest = begun.rest ++ more;
  front = ap (λ (l : List (List ℕ)). l ++ more) begun.front ∙ append_assoc begun.all begun.rest more;
  reads = begun.reads;
  told = begun.told;
  steady = begun.steady;
}

-- and files behind it, none of which was read
pub left_before : (first last : FilesView) (names more : List (List ℕ)) (name : List ℕ) (fault : FileFault) → IsLeft first last names name fault → IsLeft first last (names ++ more) name fault
left_before first last names more name fault left = record {
  failed = λ e. failed_before first last names more name (left.failed e);
  memory = λ e. begun_before first last names more (left.memory e);
}
