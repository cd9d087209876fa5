-- What lines add, one behind another.
use Rattle.std.proofs.Common.{◌≡◌, ℕ, ◌+◌, ◌<◌, ◌≤◌, ◌⊎◌, inl, inr, Bool, true, false, ◌&&◌, ◌==◌, List, [], ◌∷◌, ◌++◌, length, take, drop, refl, sym, ap, ◌∙◌, subst, append_assoc, append-nil, arith, length-take}
use Rattle.std.specs.Prelude.{Option, Some, None, bytes_eq, codes, nat_le, if◌then◌else◌}
use Rattle.std.specs.List.{slice_split}
use Rattle.std.specs.Str.{is_utf8}
use Rattle.std.specs.Str.Lines.{strip_carriage_return}
use Rattle.std.proofs.lemmas.Bool.{cases_lt, lt-leb}
use Rattle.std.proofs.lemmas.List.{take_all, take-append-le}
use Rattle.reply_core.specs.Answers.{IsAnswerToAny, IsLineAnswer}
use Rattle.reply_core.specs.Request.{target_of}
use Rattle.metric_make.specs.RoadMetric.{RoadMetric}
use Rattle.reply_core.specs.declared.answers.Answer.{Answer}
use Rattle.line_session.specs.Publication.{IsReplyLine, Publication}
use Rattle.line_session.specs.Told.{Adds, Answers, AnswersTo, Contents, IsBusy, SaysAnswer, Telling, Told, also, nothing}
use Rattle.line_session.specs.Traffic.{names_in, traffic_names}
use Rattle.line_session.proofs.LineLaws.{strip_long}

-- adding is in order
pub also_nothing : (told : Telling) → also told nothing ≡ told
also_nothing told = λ i. record { text = append-nil told.text i; reads = append-nil told.reads i }

pub also_also : (one two three : Telling) → also (also one two) three ≡ also one (also two three)
also_also one two three = λ i. record { text = append_assoc one.text two.text three.text i; reads = append_assoc one.reads two.reads three.reads i }

-- lines that add something, and then others
pub told_then : (content : Contents) (first mid last : Publication) (lines more : List (List ℕ)) (one two : Telling) → Told content first lines one mid → Told content mid more two last → Told content first (lines ++ more) (also one two) last
told_then content first mid last [] more one two told rest =
    subst (λ (t : Telling). Told content first more t last) (sym (ap (λ (t : Telling). also t two) told.0))
    (subst (λ (p : Publication). Told content p more two last) told.1 rest)
told_then content first mid last (line ∷ lines) more one two told rest =
    (told.0, told.1, also told.2 two, told.3, ap (λ (t : Telling). also t two) told.4 ∙ also_also told.0 told.2 two, told_then content told.1 mid last lines more told.2 two told.5 rest)

-- one line
pub told_one : (content : Contents) (last next : Publication) (line : List ℕ) (added : Telling) → Adds content last line added next → Told content last (line ∷ []) added next
told_one content last next line added adds = (added, next, nothing, adds, sym (also_nothing added), (refl, refl))

-- a line that is too long asks for nothing, and names no files
none_long : {T : Type 0} (line : List ℕ) (rest : Bool) (some : Option T) → 8192 < length line → (if (nat_le (length line) 8192 && rest) then some else None) ≡ None
none_long line rest some long = ap (λ (b : Bool). if (b && rest) then some else None) (lt-leb (length line) 8192 long)

pub names_long : (line : List ℕ) → 8192 < length line → traffic_names line ≡ None
names_long line long = none_long line (is_utf8 line) (names_in (slice_split (λ b. b == 32) line)) long

target_long : (line : List ℕ) → 8192 < length line → target_of line ≡ None
target_long line long = none_long line (is_utf8 line && bytes_eq (take 4 line) (codes "GET ")) (Some (drop 4 line)) long

-- an answer to a line that is too long is one to any other such line
answer_long : (metric : RoadMetric) (number : ℕ) (line other : List ℕ) (answer : Answer) → 8192 < length line → 8192 < length other → IsLineAnswer metric number line answer → IsLineAnswer metric number other answer
answer_long metric number line other answer long long_other is =
    subst (λ (target : Option (List ℕ)). IsAnswerToAny metric number target answer) (target_long line long ∙ sym (target_long other long_other)) is

says_long : (last next : Publication) (line other : List ℕ) (added : Telling) → 8192 < length line → 8192 < length other → SaysAnswer last line added next → SaysAnswer last other added next
says_long last next line other added long long_other says = record {
  reply = (says.reply.0, (says.reply.1.0, answer_long last.value last.number line other says.reply.1.0 long long_other says.reply.1.1, says.reply.1.2), says.reply.2);
  reads = says.reads;
  stays = says.stays;
}

answers_long : (content : Contents) (last next : Publication) (line other : List ℕ) (added : Telling) → 8192 < length line → 8192 < length other → Answers content last line added next → Answers content last other added next
answers_long content last next line other added long long_other answers =
    let none : AnswersTo content last line None added next = subst (λ (names : Option (List ℕ × List ℕ)). AnswersTo content last line names added next) (names_long line long) answers in
    let same : AnswersTo content last other None added next = elim none [ inl says ↦ inl (says_long last next line other added long long_other says) | inr busy ↦ inr busy ] in
    subst (λ (names : Option (List ℕ × List ℕ)). AnswersTo content last other names added next) (sym (names_long other long_other)) same

-- two lines that are too long add the same
adds_long : (content : Contents) (last next : Publication) (line other : List ℕ) (added : Telling) → 8192 < length line → 8192 < length other → Adds content last line added next → Adds content last other added next
adds_long content last next [] other added long long_other adds = absurd (omega arith)
adds_long content last next (b ∷ line) [] added long long_other adds = absurd (omega arith)
adds_long content last next (b ∷ line) (c ∷ other) added long long_other adds = answers_long content last next (b ∷ line) (c ∷ other) added long long_other adds

-- two lines are one, or are both too long
pub data Alike (line other : List ℕ) : Type 0 where
  one_line : line ≡ other → Alike line other
  both_long : 8192 < length line → 8192 < length other → Alike line other

pub adds_alike : (content : Contents) (last next : Publication) (line other : List ℕ) (added : Telling) → Alike line other → Adds content last line added next → Adds content last other added next
adds_alike content last next line other added (one_line same) adds = subst (λ (xs : List ℕ). Adds content last xs added next) same adds
adds_alike content last next line other added (both_long long long_other) adds = adds_long content last next line other added long long_other adds

pub names_alike : (line other : List ℕ) (names : List ℕ × List ℕ) → Alike line other → traffic_names line ≡ Some names → traffic_names other ≡ Some names
names_alike line other names (one_line same) are = subst (λ (xs : List ℕ). traffic_names xs ≡ Some names) same are
names_alike line other names (both_long long long_other) are = let none : None ≡ Some names = sym (names_long line long) ∙ are in cc

-- what is held of a line, and the line
pub alike_held : (part held : List ℕ) → held ≡ take 8194 part → Alike held part
alike_held part held is = elim (cases_lt 8194 (length part)) [
  | inr short ↦ one_line (is ∙ take_all 8194 part (omega arith))
  | inl long ↦
      let many : length held ≡ 8194 = omega (arith, ap length is, length-take 8194 part) in
      both_long (omega arith) (omega arith)
]

pub alike_strip : (part held : List ℕ) → held ≡ take 8194 part → Alike (strip_carriage_return held) (strip_carriage_return part)
alike_strip part held is = elim (cases_lt 8194 (length part)) [
  | inr short ↦ one_line (ap strip_carriage_return (is ∙ take_all 8194 part (omega arith)))
  | inl long ↦
      let many : length held ≡ 8194 = omega (arith, ap length is, length-take 8194 part) in
      both_long (omega (arith, strip_long held)) (omega (arith, strip_long part))
]

-- one byte more
pub held_more : (part held : List ℕ) (b : ℕ) → held ≡ take 8194 part → take 8194 (held ++ b ∷ []) ≡ take 8194 (part ++ b ∷ [])
held_more part held b is = elim (cases_lt 8194 (length part)) [
  | inr short ↦ ap (λ (xs : List ℕ). take 8194 (xs ++ b ∷ [])) (is ∙ take_all 8194 part (omega arith))
  | inl long ↦
      let many : length held ≡ 8194 = omega (arith, ap length is, length-take 8194 part) in
      take-append-le 8194 held (b ∷ []) (omega arith) ∙ take_all 8194 held (omega arith) ∙ is ∙ sym (take-append-le 8194 part (b ∷ []) (omega arith))
]
