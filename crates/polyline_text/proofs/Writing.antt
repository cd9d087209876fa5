-- Points written behind a text.
use Rattle.std.proofs.Common.{◌≡◌, ℕ, ℤ, ◌-ℤ◌, List, [], ◌∷◌, ◌++◌, refl, sym, ap, ◌∙◌, append_assoc, append-nil}
use Rattle.road_base.specs.declared.coordinates.Point.{Point}
use Rattle.polyline_text.specs.Encoding.{rounded, difference_text, text_from}

-- one more point written
pub point_written : (digits : ℕ) (lat lon next_lat next_lon : ℤ) (p : Point) (left points : List Point) (text mid next all : List ℕ)
    → left ≡ p ∷ points → next_lat ≡ rounded digits p.lat → next_lon ≡ rounded digits p.lon
    → mid ≡ text ++ difference_text (next_lat -ℤ lat) → next ≡ mid ++ difference_text (next_lon -ℤ lon)
    → text ++ text_from digits lat lon left ≡ all → next ++ text_from digits next_lat next_lon points ≡ all
unfolding text_from
point_written digits lat lon next_lat next_lon p left points text mid next all first lat_is lon_is north east is =
    let begun = rw first at is in
    let third = append_assoc (difference_text (next_lat -ℤ lat)) (difference_text (next_lon -ℤ lon)) (text_from digits next_lat next_lon points) in
    let there : text ++ (difference_text (next_lat -ℤ lat) ++ difference_text (next_lon -ℤ lon) ++ text_from digits next_lat next_lon points) ≡ all = rw (lat_is, lon_is) begun in
    rw (east, north, append_assoc, append_assoc) (ap (λ (t : List ℕ). text ++ t) (sym third) ∙ there)

-- nothing left
pub all_written : (digits : ℕ) (lat lon : ℤ) (left : List Point) (text all : List ℕ) → left ≡ []
    → text ++ text_from digits lat lon left ≡ all → text ≡ all
unfolding text_from
all_written digits lat lon left text all none is = sym (append-nil text) ∙ rw none at is
