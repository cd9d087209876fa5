-- What comes of one line.
use Rattle.std.proofs.Common.{◌≡◌, ℕ, ◌<◌, inl, inr, List, [], ◌∷◌, ◌++◌, length, Option, Some, None, Result, Ok, Err, OnErr, OnOk, refl, sym, ap, ◌∙◌, subst, append-nil, arith}
use Rattle.std.specs.Prelude.{IfErr}
use Rattle.std.specs.Io.KnownBytes.{Appends}
use Rattle.refusal_texts.specs.Refusals.{busy_text}
use Rattle.road_io.specs.Faults.{OutputRose}
use Rattle.road_io.specs.Told.{AppendsFront, appends_none}
use Rattle.road_io.specs.Views.{FilesView, OutputView}
use Rattle.line_session.specs.Growing.{ReadsAll, Sides, sides}
use Rattle.line_session.specs.Leading.{AreLeft, AreRead, IsReplyTo, IsTrafficReply, IsUnanswered, Puts, PutsFront, PutsNone, ReadsSome, StopsAt}
use Rattle.line_session.specs.Publication.{IsReplyLine, Publication, newline}
use Rattle.line_session.specs.Told.{Adds, AnswersTo, Contents, Telling, nothing}
use Rattle.line_session.specs.Traffic.{files_of, traffic_names}
use Rattle.line_session.specs.declared.asking.Stop.{Stop}
use Rattle.line_session.specs.declared.asking.Stop.TheVariants as stop
use Rattle.line_session.specs.declared.replying.Unanswered.TheVariants as unanswered
use Rattle.line_session.proofs.GrowLaws.{grows_none, reads_none}

-- the reply to a line that is no traffic line
pub replied : (last : Publication) (line text : List ℕ) (files : FilesView) → IsReplyLine last line text → IsReplyTo last line None text files files last
replied last line text files is = record {
  told = record { text = text; reads = [] };
  answers = inl (record { reply = is; reads = refl; stays = refl });
  is_text = refl;
  read = reads_none files;
}

-- the reply to a traffic line
pub traffic_replied : (last next : Publication) (line speeds turns text : List ℕ) (names : List ℕ × List ℕ) (before after : FilesView) → AreRead names speeds turns before after → IsTrafficReply last speeds turns text next
    → IsReplyTo last line (Some names) text before after next
traffic_replied last next line speeds turns text names before after read is = record {
  told = record { text = text; reads = files_of names };
  answers = inl (record {
    speeds = speeds;
    turns = turns;
    are_speeds = read.are_speeds;
    are_turns = read.are_turns;
    answer = is.0;
    comes = is.1;
    text = is.2;
    reads = refl;
  });
  is_text = refl;
  read = read.read;
}

-- where there was no memory, that is the reply
busy_by : (last : Publication) (line : List ℕ) (names : Option (List ℕ × List ℕ)) (before after : FilesView) → IsUnanswered unanswered.Memory names before after → IsReplyTo last line names (busy_text ++ newline) before after last
busy_by last line None before after left = record {
  told = record { text = busy_text ++ newline; reads = left.0 };
  answers = inr (record { text = refl; unread = left.1; reads = left.2; stays = refl });
  is_text = refl;
  read = left.3;
}
busy_by last line (Some names) before after left = record {
  told = record { text = busy_text ++ newline; reads = left.0 };
  answers = inr (record { text = refl; unread = left.1; reads = left.2; stays = refl });
  is_text = refl;
  read = left.3;
}

pub busy_replied : (last next : Publication) (line : List ℕ) (names : Option (List ℕ × List ℕ)) (before after : FilesView) → IsUnanswered unanswered.Memory names before after → next ≡ last → IsReplyTo last line names (busy_text ++ newline) before after next
busy_replied last next line names before after left stays =
    subst (λ (p : Publication). IsReplyTo last line names (busy_text ++ newline) before after p) (sym stays) (busy_by last line names before after left)

adds_some : (content : Contents) (last next : Publication) (line : List ℕ) (added : Telling) → 0 < length line → AnswersTo content last line (traffic_names line) added next → Adds content last line added next
adds_some content last next [] added some answers = absurd (omega arith)
adds_some content last next (b ∷ line) added some answers = answers

-- a reply that was put, and one that was cut off
pub puts_reply : (last next : Publication) (line text : List ℕ) (before after : FilesView) (output now : OutputView) → 0 < length line → IsReplyTo last line (traffic_names line) text before after next
    → Appends output.written now.written text → now.faults ≡ output.faults → Puts last line (sides before output) (sides after now) next
puts_reply last next line text before after output now some is put kept = record {
  told = is.told;
  adds = adds_some before.content last next line is.told some is.answers;
  grows = record { put = subst (λ (xs : List ℕ). Appends output.written now.written xs) is.is_text put; read = is.read; steady = kept };
}

front_reply : (last next : Publication) (line text : List ℕ) (before after : FilesView) (output now : OutputView) → 0 < length line → IsReplyTo last line (traffic_names line) text before after next
    → AppendsFront output.written now.written text → OutputRose output now → PutsFront last line (sides before output) (sides after now) next
front_reply last next line text before after output now some is put rose = record {
  told = is.told;
  adds = adds_some before.content last next line is.told some is.answers;
  grows = record { put = subst (λ (xs : List ℕ). AppendsFront output.written now.written xs) is.is_text put; read = is.read; rose = rose };
}

pub stops_reply : (last next : Publication) (line text : List ℕ) (before after : FilesView) (output now : OutputView) (r : Result (Unit {0}) Stop) → 0 < length line → IsReplyTo last line (traffic_names line) text before after next
    → OnErr r (AppendsFront output.written now.written text) → OnErr r (OutputRose output now) → IfErr r (λ why. why ≡ stop.Output)
    → IfErr r (λ why. StopsAt why last line (sides before output) (sides after now) next)
stops_reply last next line text before after output now (Ok x) some is put rose why = tt
stops_reply last next line text before after output now (Err e) some is put rose why =
    subst (λ (w : Stop). StopsAt w last line (sides before output) (sides after now) next) (sym why) (front_reply last next line text before after output now some is put rose)

-- a file of the line could not be read
pub stops_unread : (name : List ℕ) (last next : Publication) (line : List ℕ) (names : Option (List ℕ × List ℕ)) (before after : FilesView) (output : OutputView) → traffic_names line ≡ names → IsUnanswered (unanswered.File name) names before after → next ≡ last
    → PutsNone name last line (sides before output) (sides after output) next
stops_unread name last next line None before after output are left stays = absurd left
stops_unread name last next line (Some names) before after output are left stays = record {
  names = names;
  are_names = are;
  reads = left.0;
  up_to = left.1;
  grows = record { put = appends_none output.written; read = left.2; steady = refl };
  stays = stays;
}

-- an empty line
pub puts_nothing : (last : Publication) (line : List ℕ) (s : Sides) → line ≡ [] → Puts last line s s last
puts_nothing last line s empty = record {
  told = nothing;
  adds = subst (λ (xs : List ℕ). Adds s.files.content last xs nothing last) (sym empty) (refl, refl);
  grows = grows_none s;
}

pub puts_reply_on : (last next : Publication) (line text : List ℕ) (before after : FilesView) (output now : OutputView) (r : Result (Unit {0}) Stop) → 0 < length line → IsReplyTo last line (traffic_names line) text before after next
    → OnOk r (Appends output.written now.written text) → OnOk r (now.faults ≡ output.faults) → OnOk r (Puts last line (sides before output) (sides after now) next)
puts_reply_on last next line text before after output now (Ok x) some is put kept = puts_reply last next line text before after output now some is put kept
puts_reply_on last next line text before after output now (Err e) some is put kept = tt

pub empty_of : (line : List ℕ) → length line ≡ 0 → line ≡ []
empty_of [] none = refl
empty_of (b ∷ line) none = absurd (omega arith)

-- a failure says less
pub if_err_weaker : {T E : Type 0} (P Q : E → Type 0) (r : Result T E) → ((e : E) → P e → Q e) → IfErr r P → IfErr r Q
if_err_weaker P Q (Ok x) weaker given = tt
if_err_weaker P Q (Err e) weaker given = weaker e given
