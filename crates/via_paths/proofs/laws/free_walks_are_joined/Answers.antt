use Rattle.via_paths.specs.WordLaws.{free-front, free-behind, free-whole}
use Rattle.via_paths.proofs.laws.free_walks_are_joined.Goals as goal

pub returns : goal.returns
returns c = λ sequences before walk. (
  λ whole. (free-front sequences before walk whole, free-behind sequences before walk whole),
  λ parts. free-whole sequences before walk parts.0 parts.1,
)
