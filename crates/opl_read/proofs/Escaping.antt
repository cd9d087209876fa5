-- What a text with escapes stands for, one escape after the other.
use Rattle.std.proofs.Common.{◌≡◌, ℕ, eqb, List, ◌∷◌, ◌++◌, append_assoc, Some, None, Result, Ok, Err, position, refl, sym, ◌∙◌, ap}
use Rattle.std.specs.Char.{encode_utf8}
use Rattle.std.specs.List.{slice_split}
use Rattle.opl_read.specs.Escapes.{character_of, text_of_pieces, unescaped, with_character}
use Rattle.opl_read.specs.Faults.{mapped}
use Rattle.opl_read.specs.declared.line_faults.FaultKind.{FaultKind}
use Rattle.list_lemmas.proofs.Splitting.{split_not_found}

abbrev pub pieces : List ℕ → List (List ℕ)
pieces text = slice_split (λ b. eqb b 37) text

-- a text without `%` stands for itself
pub unescaped-plain : (written : List ℕ) → position (λ b. eqb b 37) written ≡ None → unescaped written ≡ Ok written
unescaped-plain written h = ap text_of_pieces (split_not_found (λ b. eqb b 37) written h)

-- text, an escape, and what is behind it
unescaped-escape : (rest before escape digits behind : List ℕ) → pieces rest ≡ before ∷ pieces escape → pieces escape ≡ digits ∷ pieces behind
    → unescaped rest ≡ with_character before (character_of digits) (unescaped behind)
unescaped-escape rest before escape digits behind split closed = ap text_of_pieces (split ∙ ap (λ parts. before ∷ parts) closed)

append_three : (text before encoded : List ℕ) (behind : Result (List ℕ) FaultKind)
    → mapped (λ more. ((text ++ before) ++ encoded) ++ more) behind ≡ mapped (λ more. text ++ more) (mapped (λ more. before ++ encoded ++ more) behind)
append_three text before encoded (Err kind) = refl
append_three text before encoded (Ok more) =
    ap Ok (append_assoc (text ++ before) encoded more ∙ append_assoc text before (encoded ++ more) ∙ ap (λ t. text ++ t) (sym (append_assoc before encoded more)))

-- the text so far with an escape more
pub unescaped-more : (text next rest before escape digits behind : List ℕ) (character : ℕ) → next ≡ (text ++ before) ++ encode_utf8 character
    → pieces rest ≡ before ∷ pieces escape → pieces escape ≡ digits ∷ pieces behind → character_of digits ≡ Some character
    → mapped (λ more. next ++ more) (unescaped behind) ≡ mapped (λ more. text ++ more) (unescaped rest)
unescaped-more text next rest before escape digits behind character pushed split closed some =
    ap (λ bytes. mapped (λ more. bytes ++ more) (unescaped behind)) pushed
    ∙ append_three text before (encode_utf8 character) (unescaped behind)
    ∙ ap (mapped (λ more. text ++ more)) (sym (unescaped-escape rest before escape digits behind split closed ∙ ap (λ found. with_character before found (unescaped behind)) some))
