use Rattle.std.proofs.Common.{◌≡◌, ◌∙◌, ℕ, ◌+◌, ◌-◌, ◌^◌, min, List, ap, sym, rules}
use Rattle.std.proofs.lemmas.List.Elements.{length_all_zip}
use Rattle.std.specs.Vec.{vec_len}
use Rattle.left_right.specs.Sides.{view as reads_of}
use mathlib.Core.List.{IsPrefix}
use Rattle.metric_publish.specs.declared.entry.Entry.{Entry}
use Rattle.metric_publish.specs.declared.seat.Seat.{Seat}
use Rattle.metric_publish.specs.History.{IsKin}
use Rattle.road_io.specs.DoorOpening.{IsNewDoor}
use Rattle.door_workers.specs.Passing.{GoneToEnd}
use Rattle.door_workers.specs.Serving.{Answered, AnsweredAt, AnsweredUnder}
use Rattle.door_workers.specs.Settling.{HasReadAll}
use Rattle.door_workers.proofs.Pairings.{all_mapped, all_of_parts, all_to_parts, length_of_parts, zip_mapped, zip_of_parts, sum_mapped, sum_of_parts}
use Rattle.door_workers.proofs.Servings.{answered_of, answered_under}
use Rattle.door_workers.proofs.Zips.{zip_given}
use Rattle.door_workers.proofs.serving.serve.Goals as goal

pub serve_posts-told-requires-clause-new : goal.serve_posts-told-requires-clause-new
serve_posts-told-requires-clause-new g c = λ κs lives.
    all_of_parts (λ p. p.door) (λ d. IsNewDoor (g.D.Door.view d)) c.pair.new.posts.items c.args.opened.queries.items c.pair.ensures.doors (all_mapped g.D.Door.view IsNewDoor c.args.opened.queries.items c.requires.new)

pub serve_posts-told-requires-clause-fits : goal.serve_posts-told-requires-clause-fits
serve_posts-told-requires-clause-fits g c = λ κs lives.
    all_of_parts (λ p. p.seat) (λ s. (x : g.row.V.Denot) → IsKin g.V.Kindred.akin s.seen.token.log x → g.Q.Querying.fits c.args.queries.now x) c.pair.new.posts.items c.args.seats.now.items c.pair.ensures.seats c.requires.fits

pub part-requires-clause-room : goal.part-requires-clause-room
part-requires-clause-room g c =
    let same = length_all_zip _ _ _ c.serve_posts-told.ensures.posts in
    let posts : vec_len c.serve_posts-told.new.posts ≡ vec_len c.args.opened.queries = search rules in
    (search rules, search rules)

pub returns-clause-all : goal.returns-clause-all
returns-clause-all g c = λ whole.
    let list = c.serve_posts-told.new.desk.writer.desk.shown.value.front.token.log in
    let view = g.D.Door.view in
    let Rule = g.Q.Querying.rule c.args.queries.now list in
    zip_mapped view (λ d e. Answered (view d) (view e) Rule) (λ d e. Answered d e Rule) (λ d e one. one) c.args.opened.queries.items c.part.new.doors.items
    (zip_of_parts (λ p. p.door) (λ p q. GoneToEnd (view p.door) (view q.door) Rule q.connections) (λ d e. Answered (view d) (view e) Rule) (λ p q gone. answered_of (view p.door) (view q.door) Rule q.connections gone) c.pair.new.posts.items c.serve_posts-told.new.posts.items c.args.opened.queries.items c.part.new.doors.items c.pair.ensures.doors c.part.ensures.doors (c.serve_posts-told.ensures.all whole))

pub returns-clause-each : goal.returns-clause-each
returns-clause-each g c = λ first begun.
    let view = g.D.Door.view in
    let Rule = g.Q.Querying.rule c.args.queries.now in
    let seen : Seat g.row.V.Denot g.row.J.Denot g.J.Naming → List (Entry g.row.V.Denot) = λ s. s.seen.token.log in
    let firsts = all_of_parts (λ p. p.seat) (λ s. IsPrefix first (seen s)) c.pair.new.posts.items c.args.seats.now.items c.pair.ensures.seats begun in
    let both = zip_given (λ p. IsPrefix first (seen p.seat)) (λ p q. AnsweredAt Rule (view p.door) (view q.door) (seen p.seat) (seen q.seat) q.connections) c.pair.new.posts.items c.serve_posts-told.new.posts.items firsts c.serve_posts-told.ensures.posts in
    zip_mapped view (λ d e. AnsweredUnder first (view d) (view e) Rule) (λ d e. AnsweredUnder first d e Rule) (λ d e one. one) c.args.opened.queries.items c.part.new.doors.items
    (zip_of_parts (λ p. p.door) (λ p q. IsPrefix first (seen p.seat) × AnsweredAt Rule (view p.door) (view q.door) (seen p.seat) (seen q.seat) q.connections) (λ d e. AnsweredUnder first (view d) (view e) Rule) (answered_under Rule (g.Q.Querying.longer c.args.queries.now) view seen first) c.pair.new.posts.items c.serve_posts-told.new.posts.items c.args.opened.queries.items c.part.new.doors.items c.pair.ensures.doors c.part.ensures.doors both)

pub returns-clause-doors : goal.returns-clause-doors
returns-clause-doors g c =
    length_of_parts (λ p. p.door) c.pair.new.posts.items c.serve_posts-told.new.posts.items c.args.opened.queries.items c.part.new.doors.items c.pair.ensures.doors c.part.ensures.doors (length_all_zip _ _ _ c.serve_posts-told.ensures.posts)

pub returns-clause-learned : goal.returns-clause-learned
returns-clause-learned g c =
    let list = c.serve_posts-told.new.desk.writer.desk.shown.value.front.token.log in
    all_to_parts (λ p. p.seat) (λ s. IsPrefix list s.learned.token.log) c.serve_posts-told.new.posts.items c.part.new.seats.items c.part.ensures.seats c.serve_posts-told.ensures.learned

pub returns-clause-read : goal.returns-clause-read
returns-clause-read g c = λ whole.
    let list = c.serve_posts-told.new.desk.writer.desk.shown.value.front.token.log in
    let Read : Seat g.row.V.Denot g.row.J.Denot g.J.Naming → Type 0 = λ s. HasReadAll list s.seen.token.log (reads_of s.reader.place).reads in
    all_to_parts (λ p. p.seat) Read c.serve_posts-told.new.posts.items c.part.new.seats.items c.part.ensures.seats (c.serve_posts-told.ensures.read whole)

pub returns-clause-connections : goal.returns-clause-connections
returns-clause-connections g c =
    let view = g.D.Door.view in
    c.serve_posts-told.ensures.connections ∙ ap (λ (n : ℕ). min (n + (view c.serve_posts-told.new.control.door).finished) (2 ^ 64 - 1)) (sum_of_parts (λ p. p.door) (λ d. (view d).finished) c.serve_posts-told.new.posts.items c.part.new.doors.items c.part.ensures.doors ∙ sym (sum_mapped view (λ d. d.finished) c.part.new.doors.items))
