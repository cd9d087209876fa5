-- The entries of a table's map beside the members that it stands for.
use Rattle.std.proofs.Common.{◌≡◌, ℕ, Bool, true, false, not, cond, List, [], ◌∷◌, length, suc, Option, Some, option_map, String, Global, string_bytes, refl, ap, ◌∙◌}
use Rattle.std.specs.Prelude.{find}
use Rattle.std.specs.Map.{keys_of}
use Rattle.toml.specs.declared.value.Value.{Value}
use Rattle.toml.specs.Data.{Data}
use Rattle.toml.specs.View.{view, members_view}
use Rattle.vehicle_settings.specs.Settings.{key_beside}
use Rattle.vehicle_settings.specs.SettingsData.{bad_member, entries_of}

abbrev pub Entry : Type 0
Entry = String Global × Value

found : {A B : Type 0} (f : A → B) (b : Bool) (x : A) (rest : Option A) (more : Option B) → option_map f rest ≡ more → option_map f (cond b (Some x) rest) ≡ cond b (Some (f x)) more
found f true x rest more h = refl
found f false x rest more h = h

-- the first key that fails a test, read from the map or from the members
pub key_beside-entries : (test : List ℕ → Bool) (es : List Entry) → option_map (λ k. string_bytes k) (find (λ k. not (test (string_bytes k))) (keys_of es)) ≡ key_beside test (members_view es)
key_beside-entries test [] = refl
key_beside-entries test (e ∷ es) = found (λ k. string_bytes k) (not (test (string_bytes e.0))) e.0 _ _ (key_beside-entries test es)

-- the first key that fails a test with its value, read from the map or from the members
pub bad_member-entries : (test : List ℕ → Data → Bool) (es : List Entry) → option_map (λ e. string_bytes e.0) (find (λ e. not (test (string_bytes e.0) (view e.1))) es) ≡ bad_member test (members_view es)
bad_member-entries test [] = refl
bad_member-entries test (e ∷ es) = bad_at_first (not (test (string_bytes e.0) (view e.1))) e es (bad_member-entries test es)
  where
    bad_at_first : (b : Bool) (e : Entry) (es : List Entry) → option_map (λ e. string_bytes e.0) (find (λ e. not (test (string_bytes e.0) (view e.1))) es) ≡ bad_member test (members_view es)
        → option_map (λ (e : Entry). string_bytes e.0) (cond b (Some e) (find (λ e. not (test (string_bytes e.0) (view e.1))) es))
        ≡ option_map (λ (e : List ℕ × Data). e.0) (cond b (Some (string_bytes e.0, view e.1)) (find (λ e. not (test e.0 e.1)) (entries_of (members_view es))))
    bad_at_first true e es h = refl
    bad_at_first false e es h = h

-- an entry that fails a test is found first
pub first_fails : (test : Entry → Bool) (all : List Entry) (e : Entry) (es : List Entry) → all ≡ e ∷ es → test e ≡ false → find (λ e. not (test e)) all ≡ Some e
first_fails test all e es first h = ap (find (λ e. not (test e))) first ∙ ap (λ (b : Bool). cond (not b) (Some e) (find (λ e. not (test e)) es)) h

pub length-entries : (es : List Entry) → length (entries_of (members_view es)) ≡ length es
length-entries [] = refl
length-entries (e ∷ es) = ap suc (length-entries es)
