use Rattle.std.proofs.Common.{◌≡◌, ℕ, ◌<◌, List, length, Some, arith, refl}
use Rattle.std.specs.List.{slice_get}
use Rattle.std.proofs.lemmas.Option.{slice_get_read}
use Rattle.via_paths.specs.declared.copied.Copied.{Copied}
use Rattle.via_paths.proofs.Keeping.{sole-ends}
use Rattle.via_paths.proofs.kept.sole_group.Goals as goal

pub returns-then-groups-eq1 : goal.returns-then-groups-eq1
returns-then-groups-eq1 c = λ sequences copies e h.
    let n : ℕ = c.args.trie.now.vertices in
    let copied : List Copied = c.args.trie.now.copied.items in
    let entry = c.index-copy.result.now in
    let got : slice_get copied c.args.k ≡ Some entry = slice_get_read copied (length copied) c.args.k entry refl c.requires c.index-copy.ensures in
    let low : entry.back < n = omega arith in
    let one : length c.list_of-groups.result.now ≡ 1 = omega arith in
    sole-ends n sequences copies c.args.trie.now.next copied c.args.ends.now h c.args.k e entry c.list_of-groups.result.now got low c.list_of-groups.ensures one
