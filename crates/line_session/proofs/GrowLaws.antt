-- How what lines add to files and to an output goes on.
use Rattle.std.proofs.Common.{◌≡◌, ℕ, List, [], ◌∷◌, ◌++◌, refl, ◌∙◌, subst, append-nil}
use Rattle.std.specs.Io.KnownBytes.{Appends}
use Rattle.road_io.specs.NameLaws.{names_none, names_then}
use Rattle.road_io.specs.Faults.{OutputRose, Rose}
use Rattle.road_io.specs.Told.{appends_front_then, appends_none, appends_then}
use Rattle.road_io.specs.Views.{FilesView, OutputView}
use Rattle.line_session.specs.Growing.{Grows, GrowsFront, GrowsUnread, ReadsAll, ReadsUpTo, Sides}
use Rattle.line_session.specs.Told.{Telling, also, nothing}

-- reads, one behind another
pub reads_none : (files : FilesView) → ReadsAll files files []
reads_none files = record { reads = names_none files.reads; failed = names_none files.failed_names; content = refl; steady = refl }

pub reads_then : (first second : List (List ℕ)) (before middle after : FilesView) → ReadsAll before middle first → ReadsAll middle after second → ReadsAll before after (first ++ second)
reads_then first second before middle after one two = record {
  reads = names_then before.reads middle.reads after.reads first second one.reads two.reads;
  failed = names_then before.failed_names middle.failed_names after.failed_names [] [] one.failed two.failed;
  content = two.content ∙ one.content;
  steady = two.steady ∙ one.steady;
}

pub reads_then_up_to : (first second : List (List ℕ)) (name : List ℕ) (before middle after : FilesView) → ReadsAll before middle first → ReadsUpTo middle after second name → ReadsUpTo before after (first ++ second) name
reads_then_up_to first second name before middle after one two = record {
  reads = names_then before.reads middle.reads after.reads first second one.reads two.reads;
  failed = names_then before.failed_names middle.failed_names after.failed_names [] (name ∷ []) one.failed two.failed;
  rose = subst (λ (n : ℕ). Rose n after.faults) one.steady two.rose;
}

-- nothing, and more
pub grows_none : (s : Sides) → Grows nothing s s
grows_none s = record { put = appends_none s.output.written; read = reads_none s.files; steady = refl }

pub grows_then : (one two : Telling) (before middle after : Sides) → Grows one before middle → Grows two middle after → Grows (also one two) before after
grows_then one two before middle after first second = record {
  put = appends_then before.output.written middle.output.written after.output.written one.text two.text first.put second.put;
  read = reads_then one.reads two.reads before.files middle.files after.files first.read second.read;
  steady = second.steady ∙ first.steady;
}

pub grows_then_front : (one two : Telling) (before middle after : Sides) → Grows one before middle → GrowsFront two middle after → GrowsFront (also one two) before after
grows_then_front one two before middle after first second = record {
  put = appends_front_then before.output.written middle.output.written after.output.written one.text two.text first.put second.put;
  read = reads_then one.reads two.reads before.files middle.files after.files first.read second.read;
  rose = subst (λ (n : ℕ). Rose n after.output.faults) first.steady second.rose;
}

pub grows_then_unread : (one : Telling) (reads : List (List ℕ)) (name : List ℕ) (before middle after : Sides) → Grows one before middle → GrowsUnread nothing reads name middle after → GrowsUnread one reads name before after
grows_then_unread one reads name before middle after first second = record {
  put = subst (λ (text : List ℕ). Appends before.output.written after.output.written text) (append-nil one.text)
      (appends_then before.output.written middle.output.written after.output.written one.text [] first.put second.put);
  read = reads_then_up_to one.reads reads name before.files middle.files after.files first.read second.read;
  steady = second.steady ∙ first.steady;
}
