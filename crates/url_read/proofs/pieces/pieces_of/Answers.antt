-- A path with a fifth slash.
use Rattle.std.proofs.Common.{◌∷◌, sym, ◌∙◌, ap}
use Rattle.url_read.specs.Target.{four_pieces}
use Rattle.url_read.proofs.FifthPiece.{four_pieces-slashed}
use Rattle.url_read.proofs.pieces.pieces_of.Goals as goal

pub returns-then-is_some : goal.returns-then-is_some
returns-then-is_some c =
    let front = c.in_ok-front.front.now in
    let service = c.in_ok-service.service.now in
    let version = c.in_ok-version.version.now in
    let profile = c.in_ok-profile.profile.now in
    let rest = c.in_ok-profile.coordinates.now in
    ap four_pieces
    (c.in_ok-front.ensures.parts
    ∙ ap (λ more. front ∷ more)
    (c.in_ok-service.ensures.parts
    ∙ ap (λ more. service ∷ more)
    (c.in_ok-version.ensures.parts ∙ ap (λ more. version ∷ more) c.in_ok-profile.ensures.parts)))
    ∙ four_pieces-slashed front service version profile rest c.cut-5.result c.cut-5.ensures (sym c.if-is_some.ensures)
