use Rattle.std.proofs.Common.{◌≡◌, length, string_bytes, take, flat_map, rules, ◌∙◌}
use Rattle.std.proofs.lemmas.Str.{IsUtf8-string_bytes}
use Rattle.json_text.proofs.Pieces.{cut_at_seam}
use Rattle.json_text.proofs.append.append_all.Goals as goal

pub truncate-requires : goal.truncate-requires
truncate-requires c _ =
    let before : c.len-before.result ≡ length (string_bytes c.args.out.now) = search rules in
    let kept : string_bytes c.push_str-in-loop-piece.new.self ≡ string_bytes c.loop-piece.out = search rules in
    cut_at_seam _ (string_bytes c.args.out.now) c.args.first.now (flat_map (λ piece. piece.now) (take c.loop-piece.piece-index c.args.pieces.now)) _ (IsUtf8-string_bytes c.push_str-in-loop-piece.new.self) (IsUtf8-string_bytes c.args.out.now)
    (kept ∙ c.loop-piece.invariant) before
