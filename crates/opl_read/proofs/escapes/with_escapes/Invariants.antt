use Rattle.std.proofs.Common.{◌≡◌, ◌++◌, length}
use Rattle.std.specs.Prelude.{string_bytes}
use denote.Text.{Utf8}
use denote.Shadow.{shadow}
use Rattle.opl_read.specs.Escapes.{unescaped}
use Rattle.opl_read.specs.Faults.{mapped}
use Rattle.opl_read.proofs.escapes.with_escapes.Given as goal

-- the text so far, and what the rest stands for, are what the whole stands for
abbrev pub invariant-loop-before : goal.invariant-loop-before
invariant-loop-before l =
    shadow (Utf8 l.rest) × (mapped (λ more. string_bytes l.text ++ more) (unescaped l.rest) ≡ unescaped l.written)

abbrev pub decreases-loop-before : goal.decreases-loop-before
decreases-loop-before l = length l.rest
