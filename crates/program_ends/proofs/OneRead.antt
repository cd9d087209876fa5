-- What one read of a file leaves that gave no bytes.
use Rattle.std.proofs.Common.{◌≡◌, ◌⊎◌, inl, inr, ℕ, List, [], ◌∷◌, Result, Err, OnErr, IsErrOf, Ok, refl, subst}
use Rattle.road_io.specs.FailedNames.{AppendsNames, TellsFailed, TellsRead}
use Rattle.road_io.specs.Faults.{HasFileCause}
use Rattle.road_io.specs.Views.{FilesView}
use Rattle.road_io.specs.declared.failures.FileFault.{FileFault}
use Rattle.road_io.specs.declared.failures.FileFault.TheVariants as file
use Rattle.program_ends.specs.FileReads.{AreBegun, IsLeft}

-- what holds anyhow holds of a failure
pub on_err_always : {T E P : Type 0} (r : Result T E) → P → OnErr r P
on_err_always (Ok x) p = tt
on_err_always (Err e) p = p

-- for want of memory it was read, or it was not
begun_one : (first last : FilesView) (name : List ℕ) → AppendsNames first.failed_names last.failed_names [] → last.faults ≡ first.faults → AppendsNames first.reads last.reads (name ∷ []) ⊎ AppendsNames first.reads last.reads [] → AreBegun first last (name ∷ [])
begun_one first last name none steady (inl one) =
    record { all = name ∷ []; rest = []; front = refl; reads = one; told = none; steady = steady }
begun_one first last name none steady (inr zero) =
    record { all = []; rest = name ∷ []; front = refl; reads = zero; told = none; steady = steady }

-- a fault of this kind is the failure's
is_err : (T : Type 0) (fault kind : FileFault) → fault ≡ kind → IsErrOf {T = T} (Err fault) kind
is_err T fault kind e = subst (λ (k : FileFault). IsErrOf {T = T} (Err fault) k) e refl

pub left_one : {T : Type 0} (first last : FilesView) (name : List ℕ) (fault : FileFault)
    → TellsRead {T = T} first.reads last.reads (Err fault) name → TellsFailed {T = T} first.failed_names last.failed_names (Err fault) name → HasFileCause {T = T} first.faults last.faults (Err fault)
    → IsLeft first last (name ∷ []) name fault
left_one {T = T} first last name fault asked told cause = record {
  failed = λ e. record {
    earlier = [];
    later = [];
    place = refl;
    reads = asked.failed (is_err T fault file.Failed e);
    told = told.failed (is_err T fault file.Failed e);
    rose = cause.failed (is_err T fault file.Failed e);
  };
  memory = λ e. begun_one first last name (told.memory (is_err T fault file.Memory e)) (cause.memory (is_err T fault file.Memory e)) (asked.memory (is_err T fault file.Memory e));
}
