-- How control connections add up.
use Rattle.std.proofs.Common.{◌≡◌, ℕ, false, List, [], ◌∷◌, ◌++◌, ◌+◌, ◌-◌, ◌^◌, min, refl, sym, subst, arith, length-append}
use Rattle.road_io.specs.Views.{Transcript}
use Rattle.road_io.specs.Doorway.{DoorView}
use Rattle.std.proofs.lemmas.List.{append-nil}
use Rattle.door_workers.specs.declared.sessions.Then.TheVariants.{GoOn, Stop}
use Rattle.door_workers.specs.Passing.{Goes, Ends}
use Rattle.door_workers.specs.Leading.{Step, Leads, LedSoFar, LedToEnd, LedToStop}
use Rattle.door_workers.proofs.Passings.{goes_none, goes_then, ends_then}

module _ {E : Type 0} (Rule : Step E) where
  -- one connection more
  pub leads_then : (before mid after : List E) (ts : List Transcript) (t : Transcript) → Leads Rule before ts mid → Rule mid t after GoOn → Leads Rule before (ts ++ t ∷ []) after
  leads_then before mid after [] t led step = (after, subst (λ (list : List E). Rule list t after GoOn) led step, refl)
  leads_then before mid after (u ∷ ts) t led step = (led.0, led.1, leads_then led.0 mid after ts t led.2 step)

  pub led_none : (list : List E) (door : DoorView) → door.ended ≡ false → LedSoFar Rule list list door door 0
  led_none list door unended = record { ts = []; leads = refl; goes = goes_none door unended; count_is = refl }

  pub led_then : (before mid after : List E) (old here now : DoorView) (count : ℕ) (t : Transcript) → LedSoFar Rule before mid old here count → Rule mid t after GoOn → Goes here now (t ∷ []) → LedSoFar Rule before after old now (min (count + 1) (2 ^ 64 - 1))
  led_then before mid after old here now count t led step goes = record {
    ts = led.ts ++ t ∷ [];
    leads = leads_then before mid after led.ts t led.leads step;
    goes = goes_then old here now led.ts (t ∷ []) led.goes goes;
    count_is = omega (arith, led.count_is, length-append led.ts (t ∷ []));
  }

  pub led_to_stop : (before mid after : List E) (old here now : DoorView) (count : ℕ) (t : Transcript) → LedSoFar Rule before mid old here count → Rule mid t after Stop → Goes here now (t ∷ []) → LedToStop Rule before after old now (min (count + 1) (2 ^ 64 - 1))
  led_to_stop before mid after old here now count t led step goes = record {
    ts = led.ts;
    mid = mid;
    last = t;
    leads = led.leads;
    stops = step;
    goes = goes_then old here now led.ts (t ∷ []) led.goes goes;
    count_is = omega (arith, led.count_is, length-append led.ts (t ∷ []));
  }

  pub led_to_end : (before mid after : List E) (old here now : DoorView) (count : ℕ) → LedSoFar Rule before mid old here count → after ≡ mid → Ends here now [] → LedToEnd Rule before after old now count
  led_to_end before mid after old here now count led same ends = record {
    ts = led.ts;
    leads = subst (λ (list : List E). Leads Rule before led.ts list) (sym same) led.leads;
    ends = subst (λ (ts : List Transcript). Ends old now ts) (append-nil led.ts) (ends_then old here now led.ts [] led.goes ends);
    count_is = led.count_is;
  }
