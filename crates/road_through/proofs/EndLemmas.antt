-- How routes that go on are joined, and what they are behind a walk before them.
use Rattle.std.proofs.Common.{◌≡◌, ℕ, List, [], ◌∷◌, ◌++◌, drop, ap, sym, subst, ◌∙◌, append_assoc}
use Rattle.std.proofs.lemmas.List.{same_from_push}
use Rattle.road_places.specs.declared.walks.Route.{Route}
use Rattle.road_through.specs.Through.{AreJoined, BeginsWith, EndsWith, joined_walks, walks_behind}

-- the first of the routes, where there is one, begins with vertex v
abbrev pub BeginWith : ℕ → List Route → Type 0
BeginWith v [] = Unit {0}
BeginWith v (route ∷ routes) = BeginsWith route.walk v

-- a walk has one last vertex
same-end : (walk : List ℕ) (v w : ℕ) → EndsWith walk v → EndsWith walk w → v ≡ w
same-end walk v w h k = (same_from_push h.0 k.0 v w (sym h.1 ∙ k.1)).1

module _ (v : ℕ) (route : Route) (ends : EndsWith route.walk v) where
  -- those behind a route begin with the vertex on which it ends
  pub begin-behind : (routes : List Route) → AreJoined (route ∷ routes) → BeginWith v routes
  begin-behind [] joined = tt
  begin-behind (next ∷ more) joined = subst (λ (w : ℕ). BeginsWith next.walk w) (same-end route.walk joined.0.0 v joined.0.1 ends) joined.0.2

  -- and are joined with it where they do
  pub joined-more : (routes : List Route) → BeginWith v routes → AreJoined routes → AreJoined (route ∷ routes)
  joined-more [] begins joined = tt
  joined-more (next ∷ more) begins joined = ((v, ends, begins), joined)

pub joined-behind : (route : Route) (routes : List Route) → AreJoined (route ∷ routes) → AreJoined routes
joined-behind route [] joined = tt
joined-behind route (next ∷ more) joined = joined.1

-- the walks as one are the first vertex, and what all of them add to it
pub joined-from : (route : Route) (routes : List Route) (v : ℕ) → BeginsWith route.walk v → joined_walks (route ∷ routes) ≡ v ∷ walks_behind (route ∷ routes)
joined-from route routes v begins =
    ap (λ (l : List ℕ). l ++ walks_behind routes) (begins.1 ∙ ap (λ (l : List ℕ). v ∷ drop 1 l) (sym begins.1))
