-- The tree of bytes that are UTF-8, and of others.
use Rattle.std.proofs.Common.{◌≡◌, ℕ, List, Bool, true, false, cond, Option, None, refl, ap}
use Rattle.std.specs.Str.{IsUtf8, is_utf8}
use Rattle.std.proofs.lemmas.Str.{IsUtf8-from_is_utf8, is_utf8-from_IsUtf8}
use Rattle.toml.specs.Data.{Members}
use Rattle.toml.specs.Parse.{parse_document}
use Rattle.vehicle_settings.specs.Settings.{tree_of}

pub tree_of-utf8 : (bytes : List ℕ) → IsUtf8 bytes → tree_of bytes ≡ parse_document bytes
unfolding tree_of
tree_of-utf8 bytes h = ap (λ (b : Bool). cond b (parse_document bytes) None) (is_utf8-from_IsUtf8 bytes h)

no_tree : (b : Bool) (o : Option Members) → ¬ (b ≡ true) → cond b o None ≡ None
no_tree true o h = absurd (h refl)
no_tree false o h = refl

pub tree_of-not_utf8 : (bytes : List ℕ) → ¬ (IsUtf8 bytes) → tree_of bytes ≡ None
unfolding tree_of
tree_of-not_utf8 bytes h = no_tree (is_utf8 bytes) (parse_document bytes) (λ e. h (IsUtf8-from_is_utf8 bytes e))
