use Rattle.std.proofs.Common.{sym, subst, string_bytes}
use Rattle.json_text.specs.Drafts.{TakesKey}
use Rattle.json_text.proofs.Pieces.{key_pieces}
use Rattle.json_text.proofs.Steps.{key_kept}
use Rattle.json_text.proofs.writer.Json.key.Goals as goal

pub invariant_of-self-2 : goal.invariant_of-self-2
invariant_of-self-2 c =
    key_kept _ _ c.args.name.now c.self.invariant (subst TakesKey (sym c.self.view_is) c.requires)
    (rw (← c.comma.ensures, ← c.in_ok-quoted.ensures, ← c.as_str.ensures.value) (key_pieces _ (string_bytes c.self.inside.out) c.comma.result.now c.as_str.result.now c.in_ok-append_all.ensures.ok))
