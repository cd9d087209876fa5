-- What reading the files of a traffic line does.
use Rattle.std.proofs.Common.{◌≡◌, ℕ, ◌⊎◌, inl, inr, Bool, true, false, List, [], ◌∷◌, ◌++◌, Some, Result, Ok, Err, OnErr, IsErrOf, refl, sym, ap, ◌∙◌, subst, append_assoc, append-nil}
use Rattle.std.specs.Prelude.{if◌then◌else◌}
use Rattle.road_io.specs.FailedNames.{AppendsNames, TellsFailed, TellsRead}
use Rattle.road_io.specs.Faults.{HasFileCause}
use Rattle.road_io.specs.FileContent.{IsFileContent}
use Rattle.road_io.specs.Views.{FilesView}
use Rattle.road_io.specs.declared.failures.FileFault.{FileFault}
use Rattle.road_io.specs.declared.failures.FileFault.TheVariants as file
use Rattle.line_session.specs.Growing.{ReadsAll, ReadsUpTo}
use Rattle.line_session.specs.Leading.{AreLeft, AreRead, IsLeft, ReadsSome}
use Rattle.line_session.specs.Told.{Contents}
use Rattle.line_session.specs.Traffic.{StandsFor, files_named, files_of, is_none_named}
use Rattle.line_session.specs.declared.replying.Unanswered.{Unanswered}
use Rattle.line_session.specs.declared.replying.Unanswered.TheVariants as unanswered
use Rattle.line_session.proofs.GrowLaws.{reads_none, reads_then, reads_then_up_to}

pub files_dash : (name : List ℕ) → is_none_named name ≡ true → files_named name ≡ []
files_dash name dash = ap (λ (b : Bool). if b then [] else name ∷ []) dash

pub files_one : (name : List ℕ) → is_none_named name ≡ false → files_named name ≡ name ∷ []
files_one name other = ap (λ (b : Bool). if b then [] else name ∷ []) other

-- no file is read for `-`, which stands for no bytes
pub stands_dash : (content : Contents) (name bytes : List ℕ) → is_none_named name ≡ true → bytes ≡ [] → StandsFor content name bytes
stands_dash content name bytes dash none = subst (λ (b : Bool). IsFileContent (if b then Some (Some []) else content name) bytes) (sym dash) none

pub reads_dash : (files : FilesView) (name : List ℕ) → is_none_named name ≡ true → ReadsAll files files (files_named name)
reads_dash files name dash = subst (λ (names : List (List ℕ)). ReadsAll files files names) (sym (files_dash name dash)) (reads_none files)

pub stands_file : (content : Contents) (name bytes : List ℕ) → is_none_named name ≡ false → IsFileContent (content name) bytes → StandsFor content name bytes
stands_file content name bytes other is = subst (λ (b : Bool). IsFileContent (if b then Some (Some []) else content name) bytes) (sym other) is

pub reads_file : {T : Type 0} (before after : FilesView) (name : List ℕ) (x : T) → is_none_named name ≡ false → after.content ≡ before.content
    → TellsRead {T = T} before.reads after.reads (Ok x) name → TellsFailed {T = T} before.failed_names after.failed_names (Ok x) name → HasFileCause {T = T} before.faults after.faults (Ok x)
    → ReadsAll before after (files_named name)
reads_file before after name x other kept asked told cause =
    subst (λ (names : List (List ℕ)). ReadsAll before after names) (sym (files_one name other))
    (record { reads = asked.read; failed = told.read; content = kept; steady = cause.kept })

-- none of the files was read
pub reads_nothing : (files : FilesView) (names : List (List ℕ)) → ReadsSome files files names
reads_nothing files names = ([], names, refl, reads_none files)

pub reads_everything : (before after : FilesView) (names : List (List ℕ)) → ReadsAll before after names → ReadsSome before after names
reads_everything before after names read = (names, [], sym (append-nil names), read)

-- a fault of this kind is the failure's
is_err : (T : Type 0) (fault kind : FileFault) → fault ≡ kind → IsErrOf {T = T} (Err fault) kind
is_err T fault kind e = subst (λ (k : FileFault). IsErrOf {T = T} (Err fault) k) e refl

pub left_failed : {T : Type 0} (before after : FilesView) (name copy : List ℕ) (fault : FileFault) → fault ≡ file.Failed → copy ≡ name → is_none_named name ≡ false
    → TellsRead {T = T} before.reads after.reads (Err fault) name → TellsFailed {T = T} before.failed_names after.failed_names (Err fault) name → HasFileCause {T = T} before.faults after.faults (Err fault)
    → IsLeft (unanswered.File copy) name before after
left_failed {T = T} before after name copy fault is same other asked told cause =
    let failed = is_err T fault file.Failed is in
    (same, files_one name other, record { reads = asked.failed failed; failed = told.failed failed; rose = cause.failed failed })

some_of : (before after : FilesView) (name : List ℕ) → AppendsNames before.failed_names after.failed_names [] → after.content ≡ before.content → after.faults ≡ before.faults
    → AppendsNames before.reads after.reads (name ∷ []) ⊎ AppendsNames before.reads after.reads [] → ReadsSome before after (name ∷ [])
some_of before after name failed kept steady (inl one) = (name ∷ [], [], refl, record { reads = one; failed = failed; content = kept; steady = steady })
some_of before after name failed kept steady (inr zero) = ([], name ∷ [], refl, record { reads = zero; failed = failed; content = kept; steady = steady })

pub left_memory : {T : Type 0} (before after : FilesView) (name : List ℕ) (fault : FileFault) → fault ≡ file.Memory → is_none_named name ≡ false → after.content ≡ before.content
    → TellsRead {T = T} before.reads after.reads (Err fault) name → TellsFailed {T = T} before.failed_names after.failed_names (Err fault) name → HasFileCause {T = T} before.faults after.faults (Err fault)
    → IsLeft unanswered.Memory name before after
left_memory {T = T} before after name fault is other kept asked told cause =
    let memory = is_err T fault file.Memory is in
    subst (λ (names : List (List ℕ)). ReadsSome before after names) (sym (files_one name other))
    (some_of before after name (told.memory memory) kept (cause.memory memory) (asked.memory memory))

-- of both files the first was not read
pub left_first : (why : Unanswered) (names : List ℕ × List ℕ) (before after : FilesView) → IsLeft why names.0 before after → AreLeft why names before after
left_first (unanswered.File left) names before after is =
    let one : files_named names.0 ≡ left ∷ [] = is.1 ∙ ap (λ (n : List ℕ). n ∷ []) (sym is.0) in
    (left ∷ [], inl (one, refl), subst (λ (n : List ℕ). ReadsUpTo before after (n ∷ []) n) (sym is.0) is.2)
left_first unanswered.Memory names before after is =
    (is.0, is.1 ++ files_named names.1, ap (λ (all : List (List ℕ)). all ++ files_named names.1) is.2 ∙ append_assoc is.0 is.1 (files_named names.1), is.3)

-- or the second
pub left_second : (why : Unanswered) (names : List ℕ × List ℕ) (before middle after : FilesView) → ReadsAll before middle (files_named names.0) → IsLeft why names.1 middle after → AreLeft why names before after
left_second (unanswered.File left) names before middle after read is =
    let one : files_named names.1 ≡ left ∷ [] = is.1 ∙ ap (λ (n : List ℕ). n ∷ []) (sym is.0) in
    let second : ReadsUpTo middle after (left ∷ []) left = subst (λ (n : List ℕ). ReadsUpTo middle after (n ∷ []) n) (sym is.0) is.2 in
    (files_named names.0 ++ left ∷ [], inr (one, refl), reads_then_up_to (files_named names.0) (left ∷ []) left before middle after read second)
left_second unanswered.Memory names before middle after read is = (
  files_named names.0 ++ is.0,
  is.1,
  ap (λ (all : List (List ℕ)). files_named names.0 ++ all) is.2 ∙ sym (append_assoc (files_named names.0) is.0 is.1),
  reads_then (files_named names.0) is.0 before middle after read is.3,
)

-- both were read
pub both_read : (names : List ℕ × List ℕ) (speeds turns : List ℕ) (before middle after : FilesView) → StandsFor before.content names.0 speeds → ReadsAll before middle (files_named names.0)
    → StandsFor middle.content names.1 turns → ReadsAll middle after (files_named names.1) → AreRead names speeds turns before after
both_read names speeds turns before middle after are_speeds first are_turns second = record {
  are_speeds = are_speeds;
  are_turns = subst (λ (content : Contents). StandsFor content names.1 turns) first.content are_turns;
  read = reads_then (files_named names.0) (files_named names.1) before middle after first second;
}
