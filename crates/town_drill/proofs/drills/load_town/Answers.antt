-- What is loaded is the town's text with the drill's settings.
use Rattle.std.proofs.Common.{◌≡◌, ◌∙◌, ℕ, List, Ok, Vec, ap, subst}
use Rattle.std.specs.Global.{Global}
use Rattle.map_loading.specs.LoadCause.{IsLoadFault}
use Rattle.map_loading.specs.Loading.{load_of}
use Rattle.town_drill.specs.Asked.{settings_text}
use Rattle.town_drill.proofs.drills.load_town.Goals as goal

pub returns-in-Ok-clause-loaded : goal.returns-in-Ok-clause-loaded
returns-in-Ok-clause-loaded c =
    subst (λ (t : List ℕ). load_of t settings_text ≡ Ok c.in-Ok.loaded.network) (ap (λ (v : Vec ℕ Global). v.items) c.into_bytes.ensures.value ∙ c.in_ok-text.ensures) c.in-Ok.ensures.loaded

pub returns-in-Err-clause-fault : goal.returns-in-Err-clause-fault
returns-in-Err-clause-fault c =
    subst (λ (t : List ℕ). IsLoadFault (load_of t settings_text) c.in-Err.fault) (ap (λ (v : Vec ℕ Global). v.items) c.into_bytes.ensures.value ∙ c.in_ok-text.ensures) c.in-Err.ensures.fault
