-- A run ends for the outside only where a count rose, and a count that is 0 did not.
use Rattle.std.proofs.Common.{◌≡◌, ℕ, ◌+◌, ◌-◌, ◌^◌, ◌<◌, ◌≤◌, min, inl, inr, refl, subst, arith, lit<}
use Rattle.command_words.specs.Commands.{Serving}
use Rattle.road_base.specs.declared.program_status.Status.TheVariants as status
use Rattle.road_io.specs.DoorOpening.{DoorsView}
use Rattle.road_io.specs.Faults.{Rose}
use Rattle.road_io.specs.Outside.{Outside}
use Rattle.serve_command.specs.SteadyLaws.{NeverOutside}
use Rattle.serve_command.proofs.WholeLaws.{serve_outside}

none_above : (before last : ℕ) → 0 < last → min (before + 1) last ≤ 0 → ⊥
none_above before last some most = omega arith

not_risen : (before now : ℕ) → now ≡ 0 → Rose before now → ⊥
not_risen before now is rose = none_above before (2 ^ 64 - 1) (lit< tt) (subst (λ (n : ℕ). min (before + 1) (2 ^ 64 - 1) ≤ n) is rose)

pub never_outside : (words : Serving) (before after : Outside) (doors now : DoorsView) → NeverOutside words before after doors now
never_outside words before after doors now none ends =
    elim (serve_outside status.Outside words before after doors now ends refl) [
      | inl files ↦ not_risen before.files.faults after.files.faults none.files_steady files
      | inr rest ↦ elim rest [
        | inl output ↦ not_risen before.output.faults after.output.faults none.output_steady output
        | inr rose ↦ not_risen doors.faults now.faults none.doors_steady rose
      ]
    ]
