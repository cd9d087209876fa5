use Rattle.std.proofs.Common.{◌≡◌, ◌∙◌, ◌+◌, ◌-◌, ◌^◌, min, List, sum_by, ap, rules}
use Rattle.std.proofs.lemmas.List.Elements.{All-weaker}
use Rattle.left_right.specs.Sides.{view as reads_of}
use Rattle.metric_publish.specs.declared.entry.Entry.{Entry}
use Rattle.metric_publish.specs.declared.seat.Seat.{Seat}
use Rattle.door_workers.specs.declared.posts.Post.{Post}
use Rattle.door_workers.specs.Settling.{HasReadAll}
use Rattle.door_workers.proofs.Zips.{sum_counts}
use Rattle.door_workers.proofs.Servings.{all_settled, all_whole, finished_counts, tend_count}
use Rattle.door_workers.proofs.post_service.serve_posts.Goals as goal

pub returns-clause-posts : goal.returns-clause-posts
returns-clause-posts g c =
    let seen : Seat g.row.V.Denot g.row.J.Denot g.J.Naming → List (Entry g.row.V.Denot) = λ s. s.seen.token.log in
    all_settled (g.Q.Querying.rule c.args.queries.now) (g.Q.Querying.longer c.args.queries.now) g.D.Door.view seen c.args.posts.now.items c.serve_doors.new.posts.items c.settle_all-settled.new.posts.items c.serve_doors.ensures.posts c.settle_all-settled.ensures.settled

pub returns-clause-all : goal.returns-clause-all
returns-clause-all g c = λ whole.
    let Rule = g.Q.Querying.rule c.args.queries.now in
    let longer = g.Q.Querying.longer c.args.queries.now in
    let seen : Seat g.row.V.Denot g.row.J.Denot g.J.Naming → List (Entry g.row.V.Denot) = λ s. s.seen.token.log in
    let list = c.serve_doors.new.desk.writer.desk.shown.value.front.token.log in
    let posts = all_settled Rule longer g.D.Door.view seen c.args.posts.now.items c.serve_doors.new.posts.items c.settle_all-settled.new.posts.items c.serve_doors.ensures.posts c.settle_all-settled.ensures.settled in
    let Read : Post g.row.D.Denot (Seat g.row.V.Denot g.row.J.Denot g.J.Naming) → Type 0 = λ q. HasReadAll list (seen q.seat) (reads_of q.seat.reader.place).reads in
    let read = c.settle_all-settled.ensures.all (search rules) in
    let same = All-weaker Read (λ q. seen q.seat ≡ list) (λ q all. all.all) c.settle_all-settled.new.posts.items read in
    all_whole Rule longer g.D.Door.view seen list c.args.posts.now.items c.settle_all-settled.new.posts.items same posts

pub returns-clause-connections : goal.returns-clause-connections
returns-clause-connections g c =
    let Rule = g.Q.Querying.rule c.args.queries.now in
    let longer = g.Q.Querying.longer c.args.queries.now in
    let view = g.D.Door.view in
    let seen : Seat g.row.V.Denot g.row.J.Denot g.J.Naming → List (Entry g.row.V.Denot) = λ s. s.seen.token.log in
    let posts = all_settled Rule longer view seen c.args.posts.now.items c.serve_doors.new.posts.items c.settle_all-settled.new.posts.items c.serve_doors.ensures.posts c.settle_all-settled.ensures.settled in
    let counts = finished_counts Rule longer view seen c.args.posts.now.items c.settle_all-settled.new.posts.items c.requires.new posts in
    let start = c.args.control.now in
    let end = c.serve_doors.new.control in
    let control = tend_count (g.C.Controlling.rule c.args.controls.now) c.args.desk.now.writer.desk.shown.value.front.token.log c.serve_doors.new.desk.writer.desk.shown.value.front.token.log (view start.door) (view end.door) start.closer end.closer end.connections end.end c.requires.control_new c.serve_doors.ensures.control in
    let same : c.deref.result.now ≡ c.settle_all-settled.new.posts.items = search rules in
    c.connections.ensures ∙ (ap (λ (l : List (Post g.row.D.Denot (Seat g.row.V.Denot g.row.J.Denot g.J.Naming))). min (sum_by (λ p. p.connections) l + c.serve_doors.new.control.connections) (2 ^ 64 - 1)) same ∙ sum_counts (λ p. p.connections) (λ p. (view p.door).finished) c.settle_all-settled.new.posts.items c.serve_doors.new.control.connections (view c.serve_doors.new.control.door).finished counts control)

pub returns-clause-read : goal.returns-clause-read
returns-clause-read g c = λ whole. c.settle_all-settled.ensures.all (search rules)
